-- What RUN decides at a site x, by kinds of codes: crate model's `act`, taken apart.
use Rattle.std.specs.Prelude.{ℕ, suc}
use Rattle.types.specs.declared.Input.{Input}
use Rattle.types.specs.declared.Site.{Site}
use Rattle.types.specs.declared.Network.{Network}
use Rattle.model.specs.Types.{in_at, out_at, queue_at, set_in, with_out_queue}
use Rattle.model.specs.Network.{joined}
use Rattle.model.specs.NetInput.{net_input, ready}
use Rattle.model.specs.Places.{channel_output, out_queue, timeout}
use Rattle.model.specs.Steps.{Act, set_both, own_turn, pass_turn, local_at, operator_at}

-- net-input i; far has the inputs at the ends of the site's channels
abbrev pub input_act : Network → ℕ → Site → (ℕ → Input) → ℕ → Act
input_act n s x far i = own_turn (set_both x i) (net_input n s i (in_at x i) x.outputs (ready (joined n s) far x.outputs))

-- the output that fills in-queue m, with the depth D
abbrev pub local_act : ℕ → Site → ℕ → Act
local_act D x m = local_at D x m

-- output j + 1
abbrev pub channel_act : Network → ℕ → Site → (ℕ → Input) → ℕ → Act
channel_act n s x far j = pass_turn x (suc j) (channel_output n.edition (joined n s (suc j)) (out_at x (suc j)) (far (suc j)))

abbrev pub queue_act : Site → Act
queue_act x = own_turn (λ q y. set_in (with_out_queue x q) 0 y) (out_queue x.outgoing (in_at x 0))

-- the operator of in-queue m
abbrev pub operator_act : ℕ → ℕ → Site → ℕ → Act
operator_act D s x m = operator_at D s x m

abbrev pub timeout_act : ℕ → Site → Act
timeout_act edition x =
    own_turn (set_both x (out_at x 0).input) (timeout edition (queue_at x 0) x.outputs (in_at x (out_at x 0).input))
