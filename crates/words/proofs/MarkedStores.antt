-- The marked outputs of a site stored one by one. Assumes what each law names.
use mathlib.Core.Path.{◌≡◌, refl, sym, ap, ◌∙◌}
use mathlib.Core.List.{List}
use mathlib.Core.Bool.{Bool, cond}
use Prim.Native.Nat.{ℕ, ◌+◌, ◌<◌}
use native.Mathlib.Omega.{arith}
use lib.ListN.{length, set}
use lib.Seq.{set-get_or}
use Rattle.base.specs.Over.{over, over_none, over_more, over_above}
use Rattle.base.specs.Sizes.{sites_most, input_count, output_count}
use Rattle.types.specs.declared.Output.{Output}
use Rattle.types.specs.declared.Site.{Site}
use Rattle.model.specs.Types.{no_output, site_d, site_at, in_at, out_of, out_at, mark, set_site, set_out, with_outputs}
use Rattle.layout.specs.Layout.{word_count}
use Rattle.layout.specs.Words.{sites_of}
use Rattle.layout.specs.Stored.{Stored}
use Rattle.layout.proofs.Chained.{then_own}
use Rattle.layout.proofs.Decoded.{site_at_lem, six_outputs}
use Rattle.layout.proofs.Fitting.{shaped}
use Rattle.words.specs.Marked.{merged}

pub outputs_of_lem : (c : List ℕ) (s : ℕ) → s < sites_most → length (site_at (sites_of c) s).outputs ≡ output_count
outputs_of_lem c s hs = ap (λ (x : Site). length x.outputs) (site_at_lem c s hs) ∙ six_outputs c s

pub marks_of_lem : (c : List ℕ) (s : ℕ) → s < sites_most → (i : ℕ) → i < input_count → length (in_at (site_at (sites_of c) s) i).outputs ≡ output_count
marks_of_lem c s hs i hi = ((shaped c).site s hs).marks i hi

-- the site of the words c with its first k outputs stored, those that are marked in bs from l
module _ (c : List ℕ) (s : ℕ) (bs : List Bool) (l : List Output) where
  abbrev x : Site
  x = site_at (sites_of c) s

  abbrev put : ℕ → Output
  put j = cond (mark bs j) (out_of l j) (out_of x.outputs j)

  abbrev pub Marked : List ℕ → ℕ → Type 0
  Marked d k = Stored c d (set_site (sites_of c) s (with_outputs x (over put k x.outputs)))

  pub none_marked : length c ≡ word_count → Marked c 0
  none_marked h =
      let e = ap (λ (os : List Output). set_site (sites_of c) s (with_outputs x os)) (over_none put x.outputs) ∙ set-get_or (sites_of c) s site_d in
      record { size = h; sites = sym e; counter = refl; kept = λ ok. ok }

  pub one_marked : (d e : List ℕ) (k : ℕ) → s < sites_most → k < output_count → Marked d k
      → Stored d e (set_site (sites_of d) s
      (set_out (site_at (sites_of d) s) k (cond (mark bs k) (out_of l k) (out_at (site_at (sites_of d) s) k))))
      → Marked e (k + 1)
  one_marked d e k hs hk p q =
      let r = outputs_of_lem c s hs in
      let old = over_above put k x.outputs k no_output (omega arith) in
      let more = over_more put k x.outputs (omega arith) in
      let t = then_own c d e s (with_outputs x (over put k x.outputs)) (λ z. set_out z k (cond (mark bs k) (out_of l k) (out_at z k))) hs p q in
      record {
        size = t.size;
        sites =
            t.sites
            ∙ ap (λ (o : Output). set_site (sites_of c) s (with_outputs x (set (over put k x.outputs) k (cond (mark bs k) (out_of l k) o)))) old
            ∙ ap (λ (os : List Output). set_site (sites_of c) s (with_outputs x os)) more;
        counter = t.counter;
        kept = t.kept;
      }

  pub all_marked : (d : List ℕ) (k : ℕ) → k ≡ output_count → Marked d k → Stored c d (set_site (sites_of c) s (with_outputs x (merged bs l x.outputs)))
  unfolding merged
  all_marked d k e p = rw e at p
