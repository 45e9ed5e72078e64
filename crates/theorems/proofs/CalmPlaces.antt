-- Document 02, L10: places without an abort, what keeps them so, and the router of edition 3, which chooses no connection 3 or 4.
-- Assumes nothing.
use Prim.Native.Nat.{ℕ, zero, suc}
use mathlib.Core.Path.{◌≡◌, refl, sym, ap, ◌∙◌}
use mathlib.Core.List.{List, [], ◌∷◌}
use mathlib.Core.Bool.{Bool, true, false, not, ◌&&◌}
use lib.ListN.{get_or, set}
use Rattle.base.specs.Sizes.{output_count}
use Rattle.base.specs.Bools.{clash, both, pick_at}
use Rattle.base.specs.Lists.{all_set, pop_at}
use Rattle.base.specs.Over.{over}
use Rattle.draws.specs.Draws.{restricted}
use Rattle.theorems.specs.Names.{Connection, Unicast, Passthru, AllRemote, SomeLocal, Handed, Branch, Received, got_end, got_abort}
use Rattle.theorems.specs.Names.{Terminator, t_none, t_end, t_abort, t_keep, Phase, Free, Seek, Open, Wait, Done, Last, Aborted}
use Rattle.theorems.specs.Names.{FinAbort, Input, Output, InEntry, InQueue, Site, State, Network}
use Rattle.model.specs.Types.{no_output, no_in_entry, input_d, in_queue_d, site_at, out_of}
use Rattle.model.specs.Types.{in_entry, pop_in}
use Rattle.types.specs.Phases.{branches, splits, receive, held}
use Rattle.model.specs.Router.{Choice, Chosen, Unserved, route}
use Rattle.model.specs.NetInput.{table}
use Rattle.theorems.proofs.RouterChoices.{ChoiceIn}
use Rattle.theorems.proofs.RouterLaws.{route_in}

-- ---- what holds no abort

abbrev pub is_end : Received → Bool
is_end got_end = true
is_end got_abort = false

-- a net-input: not in abort or fin-abort, nothing but end received, and no connection 3 or 4, from which an abort would come
abbrev pub calm : Phase → Bool
calm Free = true
calm Seek = true
calm (Open c) = not (splits c)
calm (Wait c) = not (splits c)
calm (Done c r) = not (splits c) && is_end r
calm (Last c r) = not (splits c) && is_end r
calm (Aborted c) = false
calm (FinAbort c r) = false

-- a terminator
abbrev pub mild : Terminator → Bool
mild t_none = true
mild t_end = true
mild t_abort = false
mild t_keep = true

abbrev pub CalmQueue : InQueue → Type 0
CalmQueue iq = (m : ℕ) → mild (in_entry iq m).terminator ≡ true

-- the places of a site: its net-inputs, net-outputs and in-queues
pub record CalmPlaces (ys : List Input) (os : List Output) (iqs : List InQueue) : Type 0 where
  pub inputs : (i : ℕ) → calm (get_or ys i input_d).phase ≡ true
  pub outputs : (j : ℕ) → mild (out_of os j).terminator ≡ true
  pub queues : (m : ℕ) → CalmQueue (get_or iqs m in_queue_d)

abbrev pub CalmSite : Site → Type 0
CalmSite x = CalmPlaces x.inputs x.outputs x.incoming

abbrev pub CalmSites : List Site → Type 0
CalmSites xs = (s : ℕ) → CalmSite (site_at xs s)

abbrev pub Calm : State → Type 0
Calm st = CalmSites st.sites

-- ---- places changed

-- what holds of each entry and of what is filled in
over_all : {A : Type 0} (P : A → Type 0) (f : ℕ → A) (k : ℕ) (l : List A) (d : A) → ((j : ℕ) → P (f j))
    → ((j : ℕ) → P (get_or l j d)) → (j : ℕ) → P (get_or (over f k l) j d)
unfolding over
over_all P f zero l d new old j = old j
over_all P f (suc k) [] d new old j = old j
over_all P f (suc k) (x ∷ xs) d new old zero = new 0
over_all P f (suc k) (x ∷ xs) d new old (suc j) = over_all P (λ i. f (suc i)) k xs d (λ i. new (suc i)) (λ i. old (suc i)) j

module _ {ys : List Input} {os : List Output} {iqs : List InQueue} (ok : CalmPlaces ys os iqs) where
  pub set_in_lem : (i : ℕ) (v : Input) → calm v.phase ≡ true → CalmPlaces (set ys i v) os iqs
  set_in_lem i v h =
      record {
        inputs = all_set (λ m (y : Input). calm y.phase ≡ true) ys i v input_d h ok.inputs;
        outputs = ok.outputs;
        queues = ok.queues;
      }

  pub set_out_lem : (j : ℕ) (v : Output) → mild v.terminator ≡ true → CalmPlaces ys (set os j v) iqs
  set_out_lem j v h =
      record {
        inputs = ok.inputs;
        outputs = all_set (λ m (o : Output). mild o.terminator ≡ true) os j v no_output h ok.outputs;
        queues = ok.queues;
      }

  pub set_queue_lem : (m : ℕ) (v : InQueue) → CalmQueue v → CalmPlaces ys os (set iqs m v)
  set_queue_lem m v h =
      record {
        inputs = ok.inputs;
        outputs = ok.outputs;
        queues = all_set (λ k iq. CalmQueue iq) iqs m v in_queue_d h ok.queues;
      }

  -- outputs, each as it was or changed to a mild one
  pub over_outs : (f : ℕ → Output) → ((j : ℕ) → mild (f j).terminator ≡ true) → CalmPlaces ys (over f output_count os) iqs
  over_outs f h =
      record {
        inputs = ok.inputs;
        outputs = over_all (λ (o : Output). mild o.terminator ≡ true) f output_count os no_output h ok.outputs;
        queues = ok.queues;
      }

pub pop_calm : (iq : InQueue) → CalmQueue iq → CalmQueue (pop_in iq)
pop_calm iq h m = ap (λ (a : InEntry). mild a.terminator) (pop_at iq.entries no_in_entry m) ∙ h (suc m)

pub entry_calm : (iq : InQueue) (i k : ℕ) (a : InEntry) → CalmQueue iq → mild a.terminator ≡ true
    → CalmQueue (record { entries = set iq.entries i a; count = k })
entry_calm iq i k a h e = all_set (λ m (v : InEntry). mild v.terminator ≡ true) iq.entries i a no_in_entry e h

-- ---- terminators and phases

-- without connection 3 or 4 an end gives end
pub end_mild : (c : Connection) (j : ℕ) → not (splits c) ≡ true → mild (table got_end c j) ≡ true
end_mild Unicast j h = refl
end_mild Passthru j h = refl
end_mild AllRemote j h = absurd (clash (sym h))
end_mild SomeLocal j h = absurd (clash (sym h))
end_mild Handed j h = refl
end_mild Branch j h = refl

pub receive_calm : (ph : Phase) → calm ph ≡ true → calm (receive got_end ph) ≡ true
receive_calm Free h = refl
receive_calm Seek h = refl
receive_calm (Open c) h = rw h refl
receive_calm (Wait c) h = h
receive_calm (Done c r) h = h
receive_calm (Last c r) h = h
receive_calm (Aborted c) h = absurd (clash (sym h))
receive_calm (FinAbort c r) h = absurd (clash (sym h))

-- a calm net-input has received no abort
pub calm_held : (ph : Phase) → calm ph ≡ true → mild (held ph) ≡ true
calm_held Free h = refl
calm_held Seek h = refl
calm_held (Open c) h = refl
calm_held (Wait c) h = refl
calm_held (Done c got_end) h = refl
calm_held (Done c got_abort) h = absurd (clash (sym (both (not (splits c)) false h).1))
calm_held (Last c got_end) h = refl
calm_held (Last c got_abort) h = absurd (clash (sym (both (not (splits c)) false h).1))
calm_held (Aborted c) h = refl
calm_held (FinAbort c r) h = absurd (clash (sym h))

-- ---- the router

abbrev pub CalmChoice : Choice → Type 0
CalmChoice Unserved = Unit {0}
CalmChoice (Chosen c sets) = not (splits c) ≡ true

-- edition 3 has no connection 3 or 4
pub route_calm : (n : Network) (s : ℕ) (os : List Output) (X : ℕ) → restricted n.edition ≡ true → CalmChoice (route n s os X)
route_calm n s os X e = go (route n s os X) (route_in n s X os)
  where
    go : (r : Choice) → ChoiceIn n.edition r → CalmChoice r
    go Unserved h = tt
    go (Chosen c sets) h = (pick_at (restricted n.edition) (not (splits c)) (not (branches c)) h).0 e
