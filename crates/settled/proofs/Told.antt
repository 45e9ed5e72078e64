-- An answer of the code is settled by what it is in the words of the definitions: from these it can be made again. Assumes
-- nothing.
use Rattle.std.specs.Prelude.{◌≡◌, refl, cond, ℕ, eqb, Option, Some, None, Result, Ok, Err}
use Rattle.std.proofs.Common.{sym, ap, ◌∙◌}
use Rattle.base.specs.declared.refusal.Refusal.{Refusal}
use Rattle.base.specs.Refusals.{number, number_of, number_some, of_number, numbered, refusal_of}
use Rattle.types.specs.declared.Run.{Run}
use Rattle.types.specs.declared.Counts.{Counts}
use Rattle.draws.specs.declared.Event.{Event}
use Rattle.draws.specs.Draws.{told as told_event}
use Rattle.latency.specs.declared.Latencies.{Latencies as Four}
use Rattle.latency.specs.Latency.{told as told_latencies}
use Rattle.format.specs.declared.Fault.{Fault as Found}
use Rattle.format.specs.Faults.{Fault, told_fault}
use Rattle.format.specs.Refusals.{Decoded, told_run, told_length}
use Rattle.machine.specs.declared.player.Started.{Started}
use Rattle.machine.specs.Play.{told_play, told_start}
use Rattle.words.specs.Owing.{told_owed}

-- a Result, of which f tells the refusal's number, 0 for none, and g the value
module _ {T S : Type 0} (told : Result T Refusal → S) (f : S → ℕ) (g : S → T)
    (some : (x : T) → f (told (Ok x)) ≡ 0) (same : (x : T) → g (told (Ok x)) ≡ x)
    (none : (e : Refusal) → f (told (Err e)) ≡ number e) where
  made : S → Result T Refusal
  made s = cond (eqb (f s) 0) (Ok (g s)) (Err (of_number (f s)))

  made_again : (r : Result T Refusal) → made (told r) ≡ r
  unfolding made
  made_again (Ok x) = rw (some x, same x) refl
  made_again (Err e) = rw (none e, number_some e, numbered e) refl

  pub result_by : (r q : Result T Refusal) → told r ≡ told q → r ≡ q
  result_by r q e = sym (made_again r) ∙ ap made e ∙ made_again q

-- why there is no value, if there is none
reason : ℕ → Option Refusal
reason n = cond (eqb n 0) None (Some (of_number n))

reason_again : (r : Option Refusal) → reason (number_of r) ≡ r
unfolding reason
reason_again None = refl
reason_again (Some e) = rw (number_some e, numbered e) refl

-- ---- of each answer

pub refusal_by : (r q : Result (Unit {0}) Refusal) → refusal_of r ≡ refusal_of q → r ≡ q
refusal_by = result_by refusal_of (λ n. n) (λ n. tt) (λ x. refl) (λ x. refl) (λ e. refl)

pub event_by : (r q : Result Event Refusal) → told_event r ≡ told_event q → r ≡ q
event_by = result_by told_event (λ w. w.refusal) (λ w. record { site = w.site; code = w.code }) (λ x. refl) (λ x. refl) (λ e. refl)

pub latencies_by : (r q : Result Four Refusal) → told_latencies r ≡ told_latencies q → r ≡ q
latencies_by =
    result_by told_latencies (λ w. w.refusal)
    (λ w. record { unicast = w.unicast; multi = w.multi; resumable = w.resumable; restricted = w.restricted })
    (λ x. refl) (λ x. refl) (λ e. refl)

pub run_by : (r q : Result Run Refusal) → told_run r ≡ told_run q → r ≡ q
run_by = result_by told_run (λ w. w.refusal) (λ w. w.run) (λ x. refl) (λ x. refl) (λ e. refl)

pub length_by : (r q : Result ℕ Refusal) → told_length r ≡ told_length q → r ≡ q
length_by = result_by told_length (λ w. w.refusal) (λ w. w.length) (λ x. refl) (λ x. refl) (λ e. refl)

pub play_by : (r q : Result Counts Refusal) → told_play r ≡ told_play q → r ≡ q
play_by = result_by told_play (λ w. w.refusal) (λ w. w.counts) (λ x. refl) (λ x. refl) (λ e. refl)

pub owed_by : (r q : Result ℕ Refusal) → told_owed r ≡ told_owed q → r ≡ q
owed_by = result_by told_owed (λ w. w.refusal) (λ w. w.pairs) (λ x. refl) (λ x. refl) (λ e. refl)

fault : Fault → Option Found
fault w = cond (eqb w.refusal 0) None (Some (record { refusal = of_number w.refusal; place = w.place }))

fault_again : (r : Option Found) → fault (told_fault r) ≡ r
unfolding fault
fault_again None = refl
fault_again (Some f) = rw (number_some f.refusal, numbered f.refusal) refl

pub fault_by : (r q : Option Found) → told_fault r ≡ told_fault q → r ≡ q
fault_by r q e = sym (fault_again r) ∙ ap fault e ∙ fault_again q

started : Decoded → Started
started w = record { refused = reason w.refusal; run = w.run }

started_again : (s : Started) → started (told_start s) ≡ s
unfolding started
started_again s = ap (λ (r : Option Refusal). record { refused = r; run = s.run }) (reason_again s.refused)

pub start_by : (s t : Started) → told_start s ≡ told_start t → s ≡ t
start_by s t e = sym (started_again s) ∙ ap started e ∙ started_again t
