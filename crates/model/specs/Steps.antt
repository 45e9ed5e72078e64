-- Document 01, RUN and SEND on the sites, nothing refused: what an event sees (its own site, the inputs at the ends of its
-- channels), what the rule decides, what is written. Two sites may be one: the own site is written first, the far input into the
-- changed sites.
use Rattle.std.specs.Prelude.{ℕ, zero, suc, ◌-◌, List, false, cond, ◌&&◌, eqb, ltb, leb, set}
use Rattle.base.specs.Sizes.{port_count}
use Rattle.model.specs.Types.{Input, Output, Site, Network, Ran, Nothing, Changed, Serviced}
use Rattle.model.specs.Types.{no_input, site_at, in_at, out_at, queue_at, queue_port, with_inputs, with_outputs, with_out_queue}
use Rattle.model.specs.Types.{set_in, set_out, set_queue, set_site, push_out}
use Rattle.model.specs.Network.{channel, joined, end_site, end_port}
use Rattle.model.specs.NetInput.{Turn, Stay, To, ready, net_input, passes_on}
use Rattle.model.specs.Places.{local_output, channel_output, out_queue, Work, Rest, Cleared, Service, operator, timeout}

-- the input at the end of a channel with the byte b, and the sites with that input changed
abbrev pub far_end : List Site → ℕ → Input
far_end xs b = in_at (site_at xs (end_site b)) (end_port b)

abbrev pub set_far : List Site → ℕ → Input → List Site
set_far xs b y = set_site xs (end_site b) (set_in (site_at xs (end_site b)) (end_port b) y)

-- What RUN decides: nothing; its site becomes x; the same and a service of packet q; x, and the input at the end of port j's
-- channel becomes y.
pub data Act : Type 0 where
  Idle : Act
  Own : Site → Act
  Serve : Site → ℕ → Act
  Pass : Site → ℕ → Input → Act

abbrev pub own_turn : {A B : Type 0} → (A → B → Site) → Turn A B → Act
own_turn site Stay = Idle
own_turn site (To one other) = Own (site one other)

abbrev pub pass_turn : Site → ℕ → Turn Output Input → Act
pass_turn x j Stay = Idle
pass_turn x j (To o y) = Pass (set_out x j o) j y

-- the operator at in-queue m
abbrev pub work_done : Site → ℕ → Work → Act
work_done x m Rest = Idle
work_done x m (Cleared iq oq) = Own (with_out_queue (set_queue x m iq) oq)
work_done x m (Service iq oq q) = Serve (with_out_queue (set_queue x m iq) oq) q

abbrev pub operator_at : ℕ → ℕ → Site → ℕ → Act
operator_at D s x m = work_done x m (operator D s (queue_at x m) x.outgoing)

-- outputs and one input of a site changed
abbrev pub set_both : Site → ℕ → Input → List Output → Site
set_both x i y os = with_inputs (with_outputs x os) (set x.inputs i y)

-- the net-output that fills in-queue m: output 0, or the split output
abbrev pub local_at : ℕ → Site → ℕ → Act
local_at D x m =
    own_turn (λ o iq. set_out (set_queue x m iq) (queue_port m) o) (local_output D (out_at x (queue_port m)) (queue_at x m))

-- net-output j of site x, 0 to 4; far j is the input at the end of its channel
unfoldable pub net_output : Network → ℕ → Site → (ℕ → Input) → ℕ → Act
net_output n s x far zero = local_at n.depth x 0
net_output n s x far (suc j) = pass_turn x (suc j) (channel_output n.edition (joined n s (suc j)) (out_at x (suc j)) (far (suc j)))

-- "Codes 0 to 4 are the net-inputs, 5 to 9 the net-outputs 0 to 4, 10 the out-queue, 11 the operator, 12 the timeout."; L10: "codes
-- 13 (output) and 14 (its operator)" of the split output
unfoldable pub act : Network → ℕ → Site → (ℕ → Input) → ℕ → Act
act n s x far code =
    cond (ltb code 5)
    (own_turn (set_both x code) (net_input n s code (in_at x code) x.outputs (ready (joined n s) far x.outputs)))
    (cond (ltb code 10) (net_output n s x far (code - 5))
    (cond (eqb code 10) (own_turn (λ oq y. set_in (with_out_queue x oq) 0 y) (out_queue x.outgoing (in_at x 0)))
    (cond (eqb code 11) (operator_at n.depth s x 0)
    (cond (eqb code 12)
    (own_turn (set_both x (out_at x 0).input) (timeout n.edition (queue_at x 0) x.outputs (in_at x (out_at x 0).input)))
    (cond (eqb code 13) (local_at n.depth x 1)
    (cond (eqb code 14) (operator_at n.depth s x 1)
    Idle))))))

-- the inputs at the ends of a site's channels; where there is none a free one, which no rule looks at
abbrev pub ends : Network → List Site → ℕ → ℕ → Input
ends n xs s j = cond (leb j port_count && joined n s j) (far_end xs (channel n s j)) no_input

-- "The answer is 2 with packet and site where the operator serviced, else 1 if anything in the state changed, else 0."
pub record Stepped : Type 0 where
  pub answer : Ran
  pub sites : List Site

abbrev pub patch : Network → List Site → ℕ → Act → Stepped
patch n xs s Idle = record { answer = Nothing; sites = xs }
patch n xs s (Own x) = record { answer = Changed; sites = set_site xs s x }
patch n xs s (Serve x q) = record { answer = Serviced q s; sites = set_site xs s x }
patch n xs s (Pass x j y) = record { answer = Changed; sites = set_far (set_site xs s x) (channel n s j) y }

-- RUN (site, code)
unfoldable pub run : Network → List Site → ℕ → ℕ → Stepped
run n xs s code = patch n xs s (act n s (site_at xs s) (ends n xs s) code)

-- L7: the outputs that RUN names at site x: those that a net-input's step passes on; no other step has any
unfoldable pub blocking_at : Network → ℕ → Site → ℕ → ℕ
blocking_at n s x code = cond (ltb code 5) (passes_on n s (in_at x code) x.outputs) 0

-- SEND (site, set): "appends to the out-queue, not started", under packet number q
unfoldable pub enqueue : List Site → ℕ → ℕ → ℕ → List Site
enqueue xs s q X =
    set_site xs s (with_out_queue (site_at xs s) (push_out (site_at xs s).outgoing (record { set = X; packet = q; started = false })))
