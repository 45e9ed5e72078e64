-- The tests of version and edition and of a route over a table of digits are the model's; the table of the inputs that are
-- fed already. Assumes nothing.
use mathlib.Core.Path.{◌≡◌, refl, sym, ap, ◌∙◌}
use mathlib.Core.Bool.{Bool, true, false, cond, not, ◌&&◌, ◌||◌, and-true}
use mathlib.Core.List.{List}
use Prim.Native.Nat.{ℕ, zero, suc, ◌+◌, ◌*◌, ◌/◌, ◌≤◌, ◌<◌}
use native.Mathlib.Omega.{arith}
use borrow.Author.Tests.{eq-eqb, ne_eqb, lt-leb, lt-ltb, le-ltb, ltb-true, ltb-false, eqb-true, eqb-false, leb-true}
use lib.Dec.{eqb, ltb, leb}
use lib.ListN.{length, get_or, set, replicate}
use lib.Seq.{get_or-set_same, get_or-set_other}
use Rattle.base.specs.Sizes.{sites_most, first_sites, port_count, queue_room, no_channel}
use Rattle.base.specs.Answers.{or_next}
use Rattle.base.specs.Bools.{both, cond_ok}
use Rattle.base.specs.All.{all, all_none, all_more, all_next, all_fails, all_same}
use Rattle.base.specs.Lists.{same_at}
use Rattle.types.specs.declared.Network.{Network}
use Rattle.model.specs.Network.{version_ok, edition_ok, kind_then, sites_in, sizes_ok, port_ok, list_ok, route_of, route_ok, choice, choices}
use Rattle.checks.specs.Network.{kind_in, ports_of, list_by, route_by}

-- ---- version and edition

both_ways : (a b : Bool) (next : ℕ) → cond a (cond b next 17) 2 ≡ or_next (cond a (cond b 0 17) 2) next
both_ways true true next = refl
both_ways true false next = refl
both_ways false b next = refl

-- what the test of version and edition answered, k, comes before the next
pub kind_then_lem : (n : Network) (k next : ℕ) → k ≡ kind_in n.version n.edition → kind_then n next ≡ or_next k next
kind_then_lem n k next e = both_ways (version_ok n) (edition_ok n) next ∙ ap (λ (x : ℕ). or_next x next) (sym e)

-- ---- S and D of a network within its limits

-- no version has more than the most sites
pub sites_few : (version : ℕ) → sites_in version ≤ sites_most
sites_few version =
    cond_ok (λ (m : ℕ). m ≤ sites_most) (eqb version 1) first_sites sites_most (λ e. omega arith) (λ e. omega arith)

pub sizes_few : (n : Network) → sizes_ok n ≡ true → (n.sites ≤ sites_most) × (n.depth ≤ queue_room)
sizes_few n h =
    let a = both _ (leb n.depth queue_room) h in
    let b = both _ (leb 1 n.depth) a.0 in
    let c = both _ (leb 1 n.tries) b.0 in
    let d = both (leb 1 n.sites) (leb n.sites (sites_in n.version)) c.0 in
    let most = leb-true n.sites (sites_in n.version) d.1 in
    (omega (arith, most, sites_few n.version), leb-true _ _ a.1)

-- ---- routes

-- a digit that may stand in a list is one that the model's test takes
digit_ok : (n : Network) (s p : ℕ) → get_or (ports_of n s) p false ≡ port_ok n s p
digit_ok n s zero = refl
digit_ok n s (suc zero) = refl
digit_ok n s (suc (suc zero)) = refl
digit_ok n s (suc (suc (suc zero))) = refl
digit_ok n s (suc (suc (suc (suc zero)))) = refl
digit_ok n s (suc (suc (suc (suc (suc p))))) =
    let q = suc (suc (suc (suc (suc p)))) in
    same_at 11 p false ∙ sym (rw (ne_eqb q 0 (λ e. omega arith), lt-leb q port_count (omega arith)) refl)

list_by_lem : (n : Network) (s : ℕ) (l : List ℕ) → list_by (ports_of n s) l ≡ list_ok n s l
list_by_lem n s l =
    let a = all_same (λ k. get_or (ports_of n s) (choice l k) false) (λ k. port_ok n s (choice l k)) port_count
    (λ k h. digit_ok n s (choice l k)) in
    rw a refl

pub route_by_lem : (n : Network) (s t : ℕ) → route_by (ports_of n s) s t (route_of n s t) ≡ route_ok n s t
unfolding route_by
route_by_lem n s t =
    ap (λ (y : Bool). eqb s t && eqb (route_of n s t) 0 || not (eqb s t) && y) (list_by_lem n s (choices (route_of n s t)))

-- a row of them
pub row_by : (n : Network) (s m : ℕ) (ports : List Bool) → ports ≡ ports_of n s
    → all (λ t. route_by ports s t (route_of n s t)) m ≡ all (route_ok n s) m
row_by n s m ports e =
    rw e (all_same (λ t. route_by (ports_of n s) s t (route_of n s t)) (route_ok n s) m (λ t h. route_by_lem n s t))

-- ---- channels

-- a channel below 4S is that of an input whose site is below S; v is the channel as an index
pub input_below : (v b S : ℕ) → v ≡ b → ltb (v / port_count) S ≡ ltb b (port_count * S)
input_below v b S e = go (ltb b (port_count * S)) refl
  where
    go : (t : Bool) → ltb b (port_count * S) ≡ t → ltb (v / port_count) S ≡ t
    go true q = lt-ltb (v / port_count) S (omega (arith, e, ltb-true b (port_count * S) q))
    go false q = le-ltb (v / port_count) S (omega (arith, e, ltb-false b (port_count * S) q))

-- what `is_input` answered, r
pub input_known : (v b S : ℕ) (r : Bool) → v ≡ b → r ≡ ltb b (port_count * S) → r ≡ true → v < port_count * S
input_known v b S r e er h = omega (arith, e, ltb-true b (port_count * S) (sym er ∙ h))

-- the channel at place c of the channels cs, and the model's test of it among e places
abbrev pub place_at : List ℕ → ℕ → ℕ
place_at cs c = get_or cs c 0

abbrev pub channel_in : List ℕ → ℕ → ℕ → Bool
channel_in cs e c =
    eqb (place_at cs c) no_channel || ltb (place_at cs c) e && all (λ d. not (eqb (place_at cs d) (place_at cs c))) c

-- fed has a mark at each input that a channel before c feeds
abbrev pub Fed : List ℕ → List Bool → ℕ → Type 0
Fed cs fed c = (x : ℕ) → x < port_count * sites_most → all (λ d. not (eqb (place_at cs d) x)) c ≡ not (get_or fed x false)

pub fed_none : (cs : List ℕ) → Fed cs (replicate (port_count * sites_most) false) 0
fed_none cs x h = all_none (λ d. not (eqb (place_at cs d) x)) ∙ ap not (sym (same_at (port_count * sites_most) x false))

-- none
pub fed_skip : (cs : List ℕ) (fed : List Bool) (c : ℕ) → Fed cs fed c → place_at cs c ≡ no_channel → Fed cs fed (c + 1)
fed_skip cs fed c f e x h =
    let q : not (eqb (place_at cs c) x) ≡ true = ap not (ne_eqb (place_at cs c) x (λ z. omega arith)) in
    sym (all_next (λ d. not (eqb (place_at cs d) x)) c _ true refl (sym q)) ∙ and-true _ ∙ f x h

-- a channel to an input, which is marked
pub fed_set : (cs : List ℕ) (fed : List Bool) (c : ℕ) → Fed cs fed c → length fed ≡ port_count * sites_most
    → place_at cs c < port_count * sites_most → Fed cs (set fed (place_at cs c) true) (c + 1)
fed_set cs fed c f l b x h = go (eqb (place_at cs c) x) refl
  where
    go : (t : Bool) → eqb (place_at cs c) x ≡ t
        → all (λ d. not (eqb (place_at cs d) x)) (c + 1) ≡ not (get_or (set fed (place_at cs c) true) x false)
    go true q =
        all_fails (λ d. not (eqb (place_at cs d) x)) c (c + 1) (omega arith) (ap not q)
        ∙ ap not
        (sym
        (ap (λ (y : ℕ). get_or (set fed (place_at cs c) true) y false) (sym (eqb-true (place_at cs c) x q))
        ∙ get_or-set_same fed (place_at cs c) true false (omega arith)))
    go false q =
        sym (all_next (λ d. not (eqb (place_at cs d) x)) c _ true refl (sym (ap not q)))
        ∙ and-true _
        ∙ f x h
        ∙ ap not (sym (get_or-set_other fed (place_at cs c) x true false (λ e. eqb-false (place_at cs c) x q (sym e))))

-- ---- a turn of the loop over the channels; v is the channel at c

module _ (cs : List ℕ) (fed : List Bool) (e c v : ℕ) (ev : v ≡ place_at cs c) where
  pub no_channel_lem : all (channel_in cs e) c ≡ true → place_at cs c ≡ no_channel → all (channel_in cs e) (c + 1) ≡ true
  no_channel_lem h q = all_more (channel_in cs e) c h (rw (eq-eqb (place_at cs c) no_channel q) refl)

  pub too_high : c < e → (place_at cs c ≡ no_channel → ⊥) → e ≤ v → false ≡ all (channel_in cs e) e
  too_high h q l =
      sym (all_fails (channel_in cs e) c e h (rw (
        ne_eqb (place_at cs c) no_channel q,
        le-ltb (place_at cs c) e
            (omega arith),
      ) refl))

  module _ (f : Fed cs fed c) (n : length fed ≡ port_count * sites_most) (h : c < e) (q : place_at cs c ≡ no_channel
      → ⊥) (l : v < e) (m : e ≤ port_count * sites_most) where
    said : all (λ d. not (eqb (place_at cs d) (place_at cs c))) c ≡ not (get_or fed v false)
    said = f (place_at cs c) (omega arith) ∙ ap (λ (x : ℕ). not (get_or fed x false)) (sym ev)

    pub fed_twice : get_or fed v false ≡ true → false ≡ all (channel_in cs e) e
    fed_twice t =
        sym
        (all_fails (channel_in cs e) c e h
        (rw (ne_eqb (place_at cs c) no_channel q, lt-ltb (place_at cs c) e (omega arith)) (said ∙ ap not t)))

    pub fed_once : get_or fed v false ≡ false → all (channel_in cs e) c ≡ true → all (channel_in cs e) (c + 1) ≡ true
    fed_once t k =
        all_more (channel_in cs e) c k
        (rw (ne_eqb (place_at cs c) no_channel q, lt-ltb (place_at cs c) e (omega arith)) (said ∙ ap not t))

    pub fed_now : Fed cs (set fed v true) (c + 1)
    fed_now = rw ev (fed_set cs fed c f n (omega arith))
