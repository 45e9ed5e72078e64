-- What the turn that the code took, or did not take, is of RUN's act, as the enum that the code returns. Assumes nothing.
use Prim.Native.Nat.{ℕ}
use mathlib.Core.Path.{◌≡◌, refl, sym, ap, ◌∙◌}
use Rattle.std.specs.Prelude.{None, Some}
use Rattle.std.proofs.lemmas.Option.{same_Some}
use Rattle.types.specs.declared.Site.{Site}
use Rattle.types.specs.declared.Network.{Network}
use Rattle.model.specs.NetInput.{Turn, Stay, To}
use Rattle.model.specs.Steps.{own_turn}
use Rattle.machine.specs.declared.step.Act.TheVariants.{Idle as did_nothing, Own as did_own}
use Rattle.machine.specs.Step.{of_act}
use Rattle.rules.specs.Turns.{of_turn}

-- a turn of two places of the site, made into the site by f, as the code does from its struct
module _ (n : Network) (s : ℕ) {A B R : Type 0} (made : A → B → R) (f : A → B → Site) where
  pub own_stays : (t : Turn A B) → of_turn made t ≡ None → did_nothing ≡ of_act n s (own_turn f t)
  own_stays Stay e = refl
  own_stays (To a b) e = absurd (cc)

  pub own_took : (back : R → Site) → ((a : A) (b : B) → back (made a b) ≡ f a b) → (t : Turn A B) (r : R)
      → of_turn made t ≡ Some r → did_own (back r) ≡ of_act n s (own_turn f t)
  own_took back h Stay r e = absurd (cc)
  own_took back h (To a b) r e = ap did_own (ap back (sym (same_Some _ _ e)) ∙ h a b)
