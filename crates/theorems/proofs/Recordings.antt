-- Document 02, L12, of recordings: two lists of events that are pairwise far apart, one behind the other in either order; and a recording
-- that two share, each of whom runs their own events alone. From any state in range, refused events among them. Assumes the arrays'
-- lengths, which the types give.
use Prim.Native.Nat.{ℕ}
use mathlib.Core.Path.{◌≡◌, refl, sym, ap, ap₂, ◌∙◌}
use mathlib.Core.List.{List, [], ◌∷◌}
use mathlib.Core.Logic.{◌⊎◌, inl, inr}
use mathlib.Core.Bool.{true, not}
use lib.Dec.{eqb}
use Rattle.base.specs.Bools.{and, and3, both, both3, eqb_sym}
use Rattle.theorems.specs.Names.{State, Network}
use Rattle.model.specs.Range.{in_range}
use Rattle.model.specs.Events.{Event, Send, Run, after, final}
use Rattle.model.specs.Apart.{leads, far_apart, events_apart, apart_from, lists_apart, Answer, answer_to, answers_to}
use Rattle.model.specs.Apart.{of_first, of_second, of_both, shared_answers}
use Rattle.model.specs.Shapes.{Shaped}
use Rattle.theorems.proofs.RangeKept.{range_kept, shaped_kept}
use Rattle.theorems.proofs.Commute.{events_commute}

module _ (n : Network) where
  -- one event past a list
  past : (e : Event) (fs : List Event) (st : State) → Shaped st → in_range n st ≡ true → apart_from n e fs ≡ true
      → (final n (after n st e) fs ≡ after n (final n st fs) e) × (answers_to n (after n st e) fs ≡ answers_to n st fs)
      × (answer_to n (final n st fs) e ≡ answer_to n st e)
  unfolding final apart_from answers_to
  past e [] st sh h k = (refl, refl, refl)
  past e (f ∷ fs) st sh h k =
      let w = both (events_apart n e f) (apart_from n e fs) k in
      let c = events_commute n st sh h e f w.0 in
      let i = past e fs (after n st f) (shaped_kept n st sh f) (range_kept n st sh h f) w.1 in (
        ap (λ (z : State). final n z fs) c.state ∙ i.0,
        ap₂ ◌∷◌ c.second (ap (λ (z : State). answers_to n z fs) c.state ∙ i.1),
        i.2 ∙ c.first,
      )

  -- two lists, one behind the other in either order
  pub split : (es fs : List Event) (st : State) → Shaped st → in_range n st ≡ true → lists_apart n es fs ≡ true
      → (final n (final n st es) fs ≡ final n (final n st fs) es) × (answers_to n (final n st es) fs ≡ answers_to n st fs)
      × (answers_to n (final n st fs) es ≡ answers_to n st es)
  unfolding final lists_apart answers_to
  split [] fs st sh h k = (refl, refl, refl)
  split (e ∷ es) fs st sh h k =
      let w = both (apart_from n e fs) (lists_apart n es fs) k in
      let p = past e fs st sh h w.0 in
      let i = split es fs (after n st e) (shaped_kept n st sh e) (range_kept n st sh h e) w.1 in (
        i.0 ∙ ap (λ (z : State). final n z es) p.0,
        i.1 ∙ p.1,
        ap₂ ◌∷◌ p.2 (ap (λ (z : State). answers_to n z es) (sym p.0) ∙ i.2),
      )

  -- ---- a recording that two share

  far_back : (s u : ℕ) → far_apart n s u ≡ true → far_apart n u s ≡ true
  unfolding far_apart
  far_back s u k =
      let w = both3 (not (eqb s u)) (not (leads n s u)) (not (leads n u s)) k in
      and3 (not (eqb u s)) (not (leads n u s)) (not (leads n s u)) (ap not (eqb_sym u s) ∙ w.0) w.2 w.1

  events_back : (e f : Event) → events_apart n e f ≡ true → events_apart n f e ≡ true
  events_back (Run s c) (Run u d) k = far_back s u k
  events_back (Run s c) (Send u Y) k = far_back s u k
  events_back (Send s X) (Run u d) k = far_back s u k
  events_back (Send s X) (Send u Y) k = k

  -- the first event of the second list
  second_at : (es : List Event) (f : Event) (fs : List Event) → lists_apart n es (f ∷ fs) ≡ true
      → (apart_from n f es ≡ true) × (lists_apart n es fs ≡ true)
  unfolding apart_from lists_apart
  second_at [] f fs k = (refl, refl)
  second_at (e ∷ es) f fs k =
      let w = both (apart_from n e (f ∷ fs)) (lists_apart n es (f ∷ fs)) k in
      let v = both (events_apart n e f) (apart_from n e fs) w.0 in
      let i = second_at es f fs w.1 in (
        and (events_apart n f e) (apart_from n f es) (events_back e f v.0) i.0,
        and (apart_from n e fs) (lists_apart n es fs) v.1 i.1,
      )

  pub shared : (gs : List (Event ⊎ Event)) (st : State) → Shaped st → in_range n st ≡ true
      → lists_apart n (of_first gs) (of_second gs) ≡ true
      → (final n st (of_both gs) ≡ final n (final n st (of_first gs)) (of_second gs))
      × (of_first (shared_answers n st gs) ≡ answers_to n st (of_first gs))
      × (of_second (shared_answers n st gs) ≡ answers_to n st (of_second gs))
  unfolding final answers_to lists_apart of_first of_second of_both shared_answers
  shared [] st sh h k = (refl, refl, refl)
  shared (inl e ∷ gs) st sh h k =
      let w = both (apart_from n e (of_second gs)) (lists_apart n (of_first gs) (of_second gs)) k in
      let p = past e (of_second gs) st sh h w.0 in
      let i = shared gs (after n st e) (shaped_kept n st sh e) (range_kept n st sh h e) w.1 in
      (i.0, ap (λ (l : List Answer). answer_to n st e ∷ l) i.1, i.2 ∙ p.1)
  shared (inr f ∷ gs) st sh h k =
      let w = second_at (of_first gs) f (of_second gs) k in
      let p = past f (of_first gs) st sh h w.0 in
      let i = shared gs (after n st f) (shaped_kept n st sh f) (range_kept n st sh h f) w.1 in (
        i.0 ∙ ap (λ (z : State). final n z (of_second gs)) p.0,
        i.1 ∙ p.1,
        ap (λ (l : List Answer). answer_to n st f ∷ l) i.2,
      )

  -- its answers are those of all its events
  pub shared_answers_lem : (gs : List (Event ⊎ Event)) (st : State) → of_both (shared_answers n st gs) ≡ answers_to n st (of_both gs)
  unfolding answers_to of_both shared_answers
  shared_answers_lem [] st = refl
  shared_answers_lem (inl e ∷ gs) st = ap (λ (l : List Answer). answer_to n st e ∷ l) (shared_answers_lem gs (after n st e))
  shared_answers_lem (inr f ∷ gs) st = ap (λ (l : List Answer). answer_to n st f ∷ l) (shared_answers_lem gs (after n st f))
