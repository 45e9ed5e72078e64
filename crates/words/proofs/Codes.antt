-- RUN's arms by the code number. Assumes what each law names.
use mathlib.Core.Path.{◌≡◌, refl}
use mathlib.Core.Logic.{◌⊎◌, inl, inr}
use mathlib.Core.List.{List}
use mathlib.Core.Bool.{false}
use Prim.Native.Nat.{ℕ, suc, ◌-◌, ◌/◌, ◌<◌}
use native.Mathlib.Omega.{arith}
use borrow.Author.Tests.{lt-ltb, le-ltb, le-leb, ne_eqb}
use lib.Dec.{eqb}
use lib.ListN.{length}
use Rattle.base.specs.Sizes.{code_count}
use Rattle.types.specs.declared.Input.{Input}
use Rattle.types.specs.declared.Network.{Network}
use Rattle.types.specs.declared.Site.{Site}
use Rattle.types.specs.declared.Ran.TheVariants.{the_data as Ran, Nothing}
use Rattle.model.specs.Types.{out_at}
use Rattle.model.specs.Network.{channel, is_channel}
use Rattle.model.specs.Places.{channel_output}
use Rattle.model.specs.Steps.{net_output, act, ends}
use Rattle.layout.specs.Layout.{word_count}
use Rattle.layout.specs.Words.{sites_of}
use Rattle.words.specs.Events.{Did, DidPass, site_in, end_of}
use Rattle.rules.specs.Acts.{input_act, local_act, queue_act, operator_act, timeout_act}
use Rattle.words.proofs.Acts.{did_nothing}

-- ---- an arm by its code

module _ (n : Network) (c d : List ℕ) (s : ℕ) (r : Ran) (code : ℕ) where
  abbrev x : Site
  x = site_in c s

  abbrev far : ℕ → Input
  far = ends n (sites_of c) s

  pub by_input : code < 5 → Did n c d s r (input_act n s x far code) → Did n c d s r (act n s x far code)
  unfolding act
  by_input h p = rw (lt-ltb code 5 h) p

  pub by_local : (code ≡ 5) ⊎ (code ≡ 13) → Did n c d s r (local_act n.depth x (code / code_count)) → Did n c d s r (act n s x far code)
  unfolding act net_output
  by_local (inl e) p = rw e (rw e at p)
  by_local (inr e) p = rw e (rw e at p)

  pub by_channel_lem : 5 < code → code < 10
      → DidPass c d s r (code - 6) (channel n s (suc (code - 6)))
      (channel_output n.edition (is_channel (channel n s (suc (code - 6)))) (out_at x (suc (code - 6)))
      (end_of (sites_of c) (channel n s (suc (code - 6)))))
      → Did n c d s r (act n s x far code)
  unfolding act net_output
  by_channel_lem h k p =
      let e : code - 5 ≡ suc (code - 6) = omega arith in
      rw (le-ltb code 5 (omega arith), lt-ltb code 10 k, e, le-leb (suc (code - 6)) 4 (omega arith)) (p n refl)

  pub by_queue : code ≡ 10 → Did n c d s r (queue_act x) → Did n c d s r (act n s x far code)
  unfolding act
  by_queue e p = rw e p

  pub by_operator : (code ≡ 11) ⊎ (code ≡ 14) → Did n c d s r (operator_act n.depth s x (code / code_count))
      → Did n c d s r (act n s x far code)
  unfolding act
  by_operator (inl e) p = rw e (rw e at p)
  by_operator (inr e) p = rw e (rw e at p)

  pub by_timeout : code ≡ 12 → Did n c d s r (timeout_act n.edition x) → Did n c d s r (act n s x far code)
  unfolding act
  by_timeout e p = rw e p

-- no code
pub by_none : (n : Network) (c : List ℕ) (s code : ℕ) → length c ≡ word_count → 14 < code
    → Did n c c s Nothing (act n s (site_in c s) (ends n (sites_of c) s) code)
unfolding act
by_none n c s code h k =
    did_nothing n c s (act n s (site_in c s) (ends n (sites_of c) s) code) h
    (let low = le-ltb code 5 (omega arith) in
    let high = le-ltb code 10 (omega arith) in
    let no : (m : ℕ) → m < 15 → eqb code m ≡ false = λ m l. ne_eqb code m (λ e. omega (arith, k, l, e)) in
    rw (low, high, no 10 (omega arith), no 11 (omega arith), no 12 (omega arith), no 13 (omega arith), no 14 (omega arith)) refl)
