-- Two acts at sites far apart: neither changes what the other sees, its site and the inputs at the ends of its channels; and what they
-- write is the same in either order, also where both pass something to one third site. Assumes of what is passed that it crosses a
-- channel of a valid network.
use Prim.Native.Nat.{ℕ, zero, suc, ◌<◌}
use mathlib.Core.Path.{◌≡◌, refl, sym, ap, ◌∙◌, fun_ext}
use mathlib.Core.List.{List}
use mathlib.Core.Logic.{⊎_elim}
use mathlib.Core.Bool.{Bool, true, false, cond, not, ◌&&◌}
use native.Mathlib.Omega.{arith}
use borrow.Author.Tests.{leb-true, lt-ltb, eqb-false, not-true}
use lib.Dec.{eqb, ltb, leb}
use lib.Seq.{get_or-set_other}
use Rattle.base.specs.Sizes.{port_count}
use Rattle.base.specs.Bools.{clash, both, both3, not_both}
use Rattle.base.specs.All.{any, any_at}
use Rattle.base.specs.Lists.{modify_swap}
use Rattle.theorems.specs.Names.{Input, Site, Network}
use Rattle.model.specs.Types.{no_input, input_d, site_d, site_at, in_at, set_site, with_inputs, set_in}
use Rattle.model.specs.Network.{channel, joined, end_site, end_port}
use Rattle.model.specs.Steps.{far_end, set_far, Act, Idle, Own, Serve, Pass, ends, patch}
use Rattle.model.specs.Apart.{leads, far_apart}
use Rattle.theorems.proofs.Networks.{Valid}
use Rattle.theorems.proofs.ChannelEnds.{in_other}

-- ---- writes that do not meet

own_own : (xs : List Site) (s u : ℕ) (x y : Site) → (s ≡ u → ⊥) → set_site (set_site xs s x) u y ≡ set_site (set_site xs u y) s x
own_own xs s u x y ne = modify_swap xs s u (λ z. x) (λ z. y) site_d (λ e. absurd (ne e))

own_far : (xs : List Site) (u b : ℕ) (x : Site) (y : Input) → (end_site b ≡ u → ⊥)
    → set_far (set_site xs u x) b y ≡ set_site (set_far xs b y) u x
own_far xs u b x y ne = modify_swap xs u (end_site b) (λ z. x) (λ z. set_in z (end_port b) y) site_d (λ e. absurd (ne (sym e)))

far_far : (xs : List Site) (b c : ℕ) (y z : Input) → (b ≡ c → ⊥) → set_far (set_far xs b y) c z ≡ set_far (set_far xs c z) b y
far_far xs b c y z ne =
    modify_swap xs (end_site b) (end_site c) (λ x. set_in x (end_port b) y) (λ x. set_in x (end_port c) z) site_d
    (λ e x.
    ap (with_inputs x)
    (modify_swap x.inputs (end_port c) (end_port b) (λ v. z) (λ v. y) input_d (λ k. absurd (ne (omega arith)))))

module _ (n : Network) where
  -- port j + 1 of a site of a valid network has a channel
  pub record Crosses (s j : ℕ) : Type 0 where
    pub valid : Valid n
    pub site : s < n.sites
    pub port : j < port_count
    pub there : joined n s (suc j) ≡ true

  -- what an act passes crosses a channel
  abbrev pub Along : ℕ → Act → Type 0
  Along s Idle = Unit {0}
  Along s (Own x) = Unit {0}
  Along s (Serve x q) = Unit {0}
  Along s (Pass x zero y) = ⊥
  Along s (Pass x (suc j) y) = Crosses s j

  abbrev end : ℕ → ℕ → ℕ
  end s j = channel n s (suc j)

  -- what two sites far apart are known by
  pub record Apart (s u : ℕ) : Type 0 where
    pub other : s ≡ u → ⊥
    pub forth : (j : ℕ) → Crosses s j → end_site (end s j) ≡ u → ⊥
    pub back : (j : ℕ) → Crosses u j → end_site (end u j) ≡ s → ⊥

  leads_not : (s u : ℕ) → not (leads n s u) ≡ true → (j : ℕ) → Crosses s j → end_site (end s j) ≡ u → ⊥
  leads_not s u h j c =
      let p : ℕ → Bool = λ j. joined n s (suc j) && eqb (end_site (end s j)) u in
      let none : any p port_count ≡ false =
      ⊎_elim (λ a. absurd (clash (sym (lt-ltb s n.sites c.site) ∙ a))) (λ a. a)
      (not_both (ltb s n.sites) (any p port_count) (not-true (leads n s u) h)) in
      ⊎_elim (λ a. absurd (clash (sym c.there ∙ a))) (λ a. eqb-false (end_site (end s j)) u a)
      (not_both (joined n s (suc j)) (eqb (end_site (end s j)) u) (any_at p j port_count c.port none))

  pub apart_at : (s u : ℕ) → far_apart n s u ≡ true → Apart s u
  unfolding far_apart
  apart_at s u h =
      let w = both3 (not (eqb s u)) (not (leads n s u)) (not (leads n u s)) h in
      record {
        other = eqb-false s u (not-true (eqb s u) w.0);
        forth = leads_not s u w.1;
        back = leads_not u s w.2;
      }

  pub apart_back : {s u : ℕ} → Apart s u → Apart u s
  apart_back a = record { other = λ e. a.other (sym e); forth = a.back; back = a.forth }

  -- the sites after an act
  abbrev pub written : List Site → ℕ → Act → List Site
  written xs s a = (patch n xs s a).sites

  module _ (s u : ℕ) (far : Apart s u) where
    -- two channels of theirs end at different inputs
    ends_apart : (j k : ℕ) → Crosses s j → Crosses u k → end s j ≡ end u k → ⊥
    ends_apart j k c d e = far.other (c.valid.apart s j u k c.site c.port d.site d.port c.there e).0

    -- ---- what the other site sees

    own_site : (xs : List Site) (x : Site) → site_at (set_site xs s x) u ≡ site_at xs u
    own_site xs x = get_or-set_other xs s u x site_d (λ e. far.other (sym e))

    pub site_kept : (xs : List Site) (a : Act) → Along s a → site_at (written xs s a) u ≡ site_at xs u
    site_kept xs Idle h = refl
    site_kept xs (Own x) h = own_site xs x
    site_kept xs (Serve x q) h = own_site xs x
    site_kept xs (Pass x zero y) h = absurd h
    site_kept xs (Pass x (suc j) y) h =
        get_or-set_other (set_site xs s x) (end_site (end s j)) u _ site_d (λ e. far.forth j h (sym e)) ∙ own_site xs x

    module _ (xs : List Site) (k : ℕ) (d : Crosses u k) where
      own_end : (x : Site) → far_end (set_site xs s x) (end u k) ≡ far_end xs (end u k)
      own_end x = ap (λ (z : Site). in_at z (end_port (end u k))) (get_or-set_other xs s (end_site (end u k)) x site_d (far.back k d))

      end_kept : (a : Act) → Along s a → far_end (written xs s a) (end u k) ≡ far_end xs (end u k)
      end_kept Idle h = refl
      end_kept (Own x) h = own_end x
      end_kept (Serve x q) h = own_end x
      end_kept (Pass x zero y) h = absurd h
      end_kept (Pass x (suc j) y) h =
          in_other (set_site xs s x) (end_site (end s j)) (end_port (end s j)) (end_site (end u k)) (end_port (end u k)) y
          (λ e f. ends_apart j k h d (omega arith))
          ∙ own_end x

    pub ends_kept : Valid n → u < n.sites → (xs : List Site) (a : Act) → Along s a → ends n (written xs s a) u ≡ ends n xs u
    ends_kept val hu xs a h = fun_ext at
      where
        at : (k : ℕ) → ends n (written xs s a) u k ≡ ends n xs u k
        at zero = refl
        at (suc k) = go (leb (suc k) port_count && joined n u (suc k)) refl
          where
            go : (b : Bool) → leb (suc k) port_count && joined n u (suc k) ≡ b
                → cond b (far_end (written xs s a) (end u k)) no_input ≡ cond b (far_end xs (end u k)) no_input
            go true e =
                let w = both (leb (suc k) port_count) (joined n u (suc k)) e in
                let below = leb-true (suc k) port_count w.0 in
                end_kept xs k (record { valid = val; site = hu; port = omega arith; there = w.1 }) a h
            go false e = refl

    -- ---- what both write

    past_own : (xs : List Site) (a : Act) (y : Site) → Along s a → written (set_site xs u y) s a ≡ set_site (written xs s a) u y
    past_own xs Idle y h = refl
    past_own xs (Own x) y h = sym (own_own xs s u x y far.other)
    past_own xs (Serve x q) y h = sym (own_own xs s u x y far.other)
    past_own xs (Pass x zero v) y h = absurd h
    past_own xs (Pass x (suc j) v) y h =
        ap (λ l. set_far l (end s j) v) (sym (own_own xs s u x y far.other)) ∙ own_far (set_site xs s x) u (end s j) y v (far.forth j h)

    past_far : (xs : List Site) (a : Act) (k : ℕ) (v : Input) → Along s a → Crosses u k
        → written (set_far xs (end u k) v) s a ≡ set_far (written xs s a) (end u k) v
    past_far xs Idle k v h d = refl
    past_far xs (Own x) k v h d = sym (own_far xs s (end u k) x v (far.back k d))
    past_far xs (Serve x q) k v h d = sym (own_far xs s (end u k) x v (far.back k d))
    past_far xs (Pass x zero y) k v h d = absurd h
    past_far xs (Pass x (suc j) y) k v h d =
        ap (λ l. set_far l (end s j) y) (sym (own_far xs s (end u k) x v (far.back k d)))
        ∙ sym (far_far (set_site xs s x) (end s j) (end u k) y v (ends_apart j k h d))

    pub written_both : (xs : List Site) (a b : Act) → Along s a → Along u b → written (written xs s a) u b ≡ written (written xs u b) s a
    written_both xs a Idle h k = refl
    written_both xs a (Own y) h k = sym (past_own xs a y h)
    written_both xs a (Serve y q) h k = sym (past_own xs a y h)
    written_both xs a (Pass y zero v) h k = absurd k
    written_both xs a (Pass y (suc m) v) h k =
        ap (λ l. set_far l (end u m) v) (sym (past_own xs a y h)) ∙ sym (past_far (set_site xs u y) a m v h k)
