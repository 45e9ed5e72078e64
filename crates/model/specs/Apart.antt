-- Document 02, L12: which sites and which events are far apart, and what the events of a list are answered.
use Rattle.std.specs.Prelude.{ℕ, suc, List, [], ◌∷◌, ◌⊎◌, Bool, true, false, not, ◌&&◌, eqb, ltb}
use Rattle.std.proofs.Common.{inl, inr}
use Rattle.base.specs.Sizes.{port_count}
use Rattle.base.specs.All.{any}
use Rattle.types.specs.Numbers.{sent_numbers, ran_numbers}
use Rattle.model.specs.Types.{State, Network, Sent, Ran}
use Rattle.model.specs.Network.{channel, joined, end_site}
use Rattle.model.specs.Events.{Event, Send, Run, ran, sent, after}

-- a channel from site s to site u; a site that the network has not has none
abbrev pub leads : Network → ℕ → ℕ → Bool
leads n s u = ltb s n.sites && any (λ j. joined n s (suc j) && eqb (end_site (channel n s (suc j))) u) port_count

-- "at different sites with no channel between them in either direction"
unfoldable pub far_apart : Network → ℕ → ℕ → Bool
far_apart n s u = not (eqb s u) && not (leads n s u) && not (leads n u s)

-- two events at such sites, one of them RUN: of two SENDs each takes the counter as its packet number, so they are not
abbrev pub events_apart : Network → Event → Event → Bool
events_apart n (Run s c) (Run u d) = far_apart n s u
events_apart n (Run s c) (Send u Y) = far_apart n s u
events_apart n (Send s X) (Run u d) = far_apart n s u
events_apart n (Send s X) (Send u Y) = false

-- an event from each of a list, and each event of one list from each of another
unfoldable pub apart_from : Network → Event → List Event → Bool
apart_from n e [] = true
apart_from n e (f ∷ fs) = events_apart n e f && apart_from n e fs

unfoldable pub lists_apart : Network → List Event → List Event → Bool
lists_apart n [] fs = true
lists_apart n (e ∷ es) fs = apart_from n e fs && lists_apart n es fs

-- what an event is answered, RUN with L7's outputs in the way, and its numbers; and the events of a list, in their order
pub data Answer : Type 0 where
  ToSend : Sent → Answer
  ToRun : Ran → ℕ → Answer

abbrev pub answer_numbers : Answer → List ℕ
answer_numbers (ToSend w) = sent_numbers w
answer_numbers (ToRun w B) = ran_numbers w B

abbrev pub answer_to : Network → State → Event → Answer
answer_to n st (Send s X) = ToSend (sent n st s X).answer
answer_to n st (Run s code) = let w = ran n st s code in ToRun w.answer w.blocking

unfoldable pub answers_to : Network → State → List Event → List Answer
answers_to n st [] = []
answers_to n st (e ∷ es) = answer_to n st e ∷ answers_to n (after n st e) es

-- "Users split long recordings between them": a recording that two share, inl for what is the first one's, inr for what is the second
-- one's; what is of each, and all of it, in its order; and what its events are answered, marked alike
unfoldable pub of_first : {A : Type 0} → List (A ⊎ A) → List A
of_first [] = []
of_first (inl a ∷ l) = a ∷ of_first l
of_first (inr a ∷ l) = of_first l

unfoldable pub of_second : {A : Type 0} → List (A ⊎ A) → List A
of_second [] = []
of_second (inl a ∷ l) = of_second l
of_second (inr a ∷ l) = a ∷ of_second l

unfoldable pub of_both : {A : Type 0} → List (A ⊎ A) → List A
of_both [] = []
of_both (inl a ∷ l) = a ∷ of_both l
of_both (inr a ∷ l) = a ∷ of_both l

unfoldable pub shared_answers : Network → State → List (Event ⊎ Event) → List (Answer ⊎ Answer)
shared_answers n st [] = []
shared_answers n st (inl e ∷ l) = inl (answer_to n st e) ∷ shared_answers n (after n st e) l
shared_answers n st (inr e ∷ l) = inr (answer_to n st e) ∷ shared_answers n (after n st e) l
