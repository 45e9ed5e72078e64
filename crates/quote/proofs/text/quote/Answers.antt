-- `text::quote` meets its contract: the text of the latencies that the numbers have, at the front of the room. Assumes
-- nothing.
use Rattle.std.proofs.Common.{◌≡◌, ℕ, Result, Ok, Err, refl, ap, ◌∙◌}
use Rattle.std.specs.Result.{result_err}
use Rattle.base.specs.declared.refusal.Refusal.{Refusal}
use Rattle.base.specs.Refusals.{number_of}
use Rattle.latency.specs.declared.Latencies.{Latencies as Four}
use Rattle.latency.specs.Latency.{told}
use Rattle.quote.proofs.Texts.{quoted, quote_counts}
use Rattle.quote.proofs.text.quote.Goals as goal

-- the refusal of an answer
refused : (r : Result Four Refusal) → number_of (result_err r) ≡ (told r).refusal
refused (Ok x) = refl
refused (Err e) = refl

pub returns : goal.returns
returns c =
    let a = c.args in
    let q = quoted a.doubled a.numbers _ _ c.uncontended-found.ensures c.put_text.ensures in
    let same = ap number_of c.err.ensures.value ∙ refused _ in
    let p = ap (λ (n : ℕ). record { refusal = n; count = c.put_text.result }) same ∙ q.0 in
    record { quoted = (p, q.1); front = quote_counts a.doubled a.numbers _ _ _ p q.1 }
