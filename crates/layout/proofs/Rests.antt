-- Where a place has nothing to do, its rule does nothing. Assumes nothing.
use Prim.Native.Nat.{ℕ}
use mathlib.Core.Path.{◌≡◌, refl, sym}
use mathlib.Core.List.{List}
use mathlib.Core.Logic.{⊎_elim}
use mathlib.Core.Bool.{Bool, true, false, cond, not, ◌&&◌, ◌||◌}
use native.Mathlib.Omega.{arith}
use borrow.Author.Tests.{eqb-true, le-ltb, not-true}
use lib.Dec.{eqb, ltb}
use Rattle.base.specs.Bools.{clash, either, both, both3, cond_ok}
use Rattle.types.specs.declared.Phase.TheVariants.{the_data as Phase, Free, Seek, Open, Wait, Done, Last, Abort as Aborted, FinAbort}
use Rattle.types.specs.declared.Terminator.TheVariants.{the_data as Terminator, None as t_none, End as t_end, Abort as t_abort, KeepLocal as t_keep}
use Rattle.types.specs.declared.Input.{Input}
use Rattle.types.specs.declared.Output.{Output}
use Rattle.types.specs.declared.OutQueue.{OutQueue}
use Rattle.types.specs.declared.InQueue.{InQueue}
use Rattle.types.specs.declared.Network.{Network}
use Rattle.types.specs.Phases.{is_none}
use Rattle.draws.specs.Draws.{restricted}
use Rattle.types.specs.Numbers.{state_number}
use Rattle.model.specs.Types.{out_of, in_entry, carries}
use Rattle.model.specs.NetInput.{Stay, all_ready, in_state}
use Rattle.model.specs.Places.{Work, Rest, local_output, deliver, give_up, head_on, channel_output, out_queue}
use Rattle.model.specs.Places.{operate, operator, last_lacks, stalled, cut_at, timeout}
use Rattle.layout.specs.Idle.{at_rest, stands}

pub quiet_stays : (n : Network) (s i : ℕ) (y : Input) (os : List Output) (f : ℕ → Bool) (ph : Phase)
    → (eqb (state_number ph) 0 || eqb (state_number ph) 6) ≡ true
    → in_state n s i y os f ph ≡ Stay
unfolding in_state
quiet_stays n s i y os f Free h = refl
quiet_stays n s i y os f Seek h = absurd (clash (sym h))
quiet_stays n s i y os f (Open c) h = absurd (clash (sym h))
quiet_stays n s i y os f (Wait c) h = absurd (clash (sym h))
quiet_stays n s i y os f (Done c r) h = absurd (clash (sym h))
quiet_stays n s i y os f (Last c r) h = absurd (clash (sym h))
quiet_stays n s i y os f (Aborted c) h = refl
quiet_stays n s i y os f (FinAbort c r) h = absurd (clash (sym h))

-- an output at rest: empty, or in use, not closing, without a terminator, its head taken
rest_by : {P : Type 0} (o : Output) → at_rest o ≡ true → (o.used ≡ false → P)
    → (o.used ≡ true → o.closing ≡ false → is_none o.terminator ≡ true → o.head ≡ true → P) → P
rest_by o h empty waits =
    ⊎_elim (λ u. empty (not-true o.used u))
    (λ e.
    let a = both3 (carries o) (is_none o.terminator) o.head e in
    let b = both o.used (not o.closing) a.0 in
    waits b.0 (not-true o.closing b.1) a.1 a.2)
    (either (not o.used) (stalled o) h)

pub local_rests : (D : ℕ) (o : Output) (q : InQueue) → at_rest o ≡ true → local_output D o q ≡ Stay
unfolding local_output
local_rests D o q h = rest_by o h (λ u. rw u refl) (λ u c k e. rw (u, e, k) refl)

none_stays : (edition : ℕ) (there : Bool) (o : Output) (y : Input) (k : Terminator) → is_none k ≡ true
    → deliver edition there o y k ≡ Stay
unfolding deliver
none_stays edition there o y t_none h = refl
none_stays edition there o y t_end h = absurd (clash (sym h))
none_stays edition there o y t_abort h = absurd (clash (sym h))
none_stays edition there o y t_keep h = absurd (clash (sym h))

pub channel_rests : (edition : ℕ) (there : Bool) (o : Output) (y : Input) → at_rest o ≡ true
    → channel_output edition there o y ≡ Stay
unfolding channel_output
channel_rests edition there o y h =
    rest_by o h (λ u. rw u refl) (λ u c k e. go o.used o.head o.closing u e c k)
  where
    go : (u h c : Bool) → u ≡ true → h ≡ true → c ≡ false → is_none o.terminator ≡ true
        → cond u (cond h (cond c (give_up there y) (deliver edition there o y o.terminator)) (head_on there o y)) Stay ≡ Stay
    go u h c a b d k = rw (a, b, d) (none_stays edition there o y o.terminator k)

pub queue_rests : (q : OutQueue) (y : Input) → eqb q.count 0 ≡ true → out_queue q y ≡ Stay
unfolding out_queue
queue_rests q y h = let e = eqb-true q.count 0 h in rw (le-ltb 0 q.count (omega (arith, e))) refl

none_rests : (D s : ℕ) (a : InQueue) (b : OutQueue) (q X : ℕ) (k : Terminator) → is_none k ≡ true
    → operate D s a b q X k ≡ Rest
unfolding operate
none_rests D s a b q X t_none h = refl
none_rests D s a b q X t_end h = absurd (clash (sym h))
none_rests D s a b q X t_abort h = absurd (clash (sym h))
none_rests D s a b q X t_keep h = absurd (clash (sym h))

pub operator_rests : (D s : ℕ) (a : InQueue) (b : OutQueue)
    → (eqb a.count 0 || is_none (in_entry a 0).terminator) ≡ true → operator D s a b ≡ Rest
operator_rests D s a b h =
    ⊎_elim (λ e. let z = eqb-true a.count 0 e in rw (le-ltb 0 a.count (omega (arith, z))) refl)
    (λ e.
    cond_ok (λ (w : Work). w ≡ Rest) (ltb 0 a.count) _ _
    (λ z. none_rests D s a b (in_entry a 0).packet (in_entry a 0).set (in_entry a 0).terminator e) (λ z. refl))
    (either (eqb a.count 0) (is_none (in_entry a 0).terminator) h)

pub timeout_rests : (edition : ℕ) (q : InQueue) (os : List Output) (y : Input)
    → (restricted edition || not (stalled (out_of os 0))) ≡ true → timeout edition q os y ≡ Stay
timeout_rests edition q os y = go (restricted edition) (last_lacks q) (stalled (out_of os 0))
  where
    go : (r a b : Bool) → (r || not b) ≡ true → cond r Stay (cond (a && b) (cut_at y os y.phase) Stay) ≡ Stay
    go true a b h = refl
    go false a true h = absurd (clash (sym h))
    go false true false h = refl
    go false false false h = refl

pub stands_stays : (n : Network) (s i : ℕ) (y : Input) (os : List Output) (f : ℕ → Bool) (ph : Phase)
    → stands ph (all_ready f y.outputs) (f 0) ≡ true → in_state n s i y os f ph ≡ Stay
unfolding in_state
stands_stays n s i y os f Free h = refl
stands_stays n s i y os f Seek h = absurd (clash (sym h))
stands_stays n s i y os f (Open c) h = rw h refl
stands_stays n s i y os f (Wait c) h = rw (not-true (all_ready f y.outputs) h) refl
stands_stays n s i y os f (Done c r) h = absurd (clash (sym h))
stands_stays n s i y os f (Last c r) h = rw (not-true (all_ready f y.outputs) h) refl
stands_stays n s i y os f (Aborted c) h = refl
stands_stays n s i y os f (FinAbort c r) h = rw (not-true (f 0) h) refl
