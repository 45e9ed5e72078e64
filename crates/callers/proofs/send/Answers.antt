-- `send`: the answer of `machine::send`, taken apart and put together. Assumes nothing.
use mathlib.Core.Path.{◌≡◌, sym, ap, ◌∙◌}
use Rattle.types.specs.declared.AfterSend.{AfterSend}
use Rattle.types.specs.declared.Sent.TheVariants.{the_data as Sent}
use Rattle.callers.proofs.send.Goals as goal

-- an answer, and x that it was found to be
told_apart : (r : AfterSend) (x : Sent) (d : AfterSend) → r.answer ≡ x → r ≡ d
    → ◌≡◌ {A = AfterSend} (record { answer = x; state = r.state }) d
told_apart r x d e h = ap (λ (x : Sent). record { answer = x; state = r.state }) (sym e) ∙ h

pub returns : goal.returns
returns c =
    let s = c.send-after in
    told_apart s.result _ _ c.in-Accepted.is s.ensures
