-- RUN and SEND in place: what they ask of the words, what an arm of RUN decides, what the words are after it.
use Rattle.std.specs.Prelude.{ℕ, suc, ◌+◌, ◌*◌, ◌<◌, ◌≤◌, ◌≡◌, List, [], ◌∷◌, Bool, true, cond, ◌&&◌, length, get_or, Option, None, Some}
use Rattle.base.specs.Sizes.{sites_most, port_count, input_count, split_port}
use Rattle.sets.specs.Sets.{targets}
use Rattle.types.specs.Numbers.{state_number}
use Rattle.types.specs.Phases.{listening}
use Rattle.types.specs.declared.Input.{Input}
use Rattle.types.specs.declared.Output.{Output}
use Rattle.types.specs.declared.OutQueue.{OutQueue}
use Rattle.types.specs.declared.InQueue.{InQueue}
use Rattle.types.specs.declared.Site.{Site}
use Rattle.types.specs.declared.State.{State}
use Rattle.types.specs.declared.Network.{Network}
use Rattle.types.specs.declared.AfterSend.{AfterSend}
use Rattle.types.specs.declared.Sent.TheVariants.{the_data as Sent}
use Rattle.types.specs.declared.RunAnswer.{RunAnswer}
use Rattle.types.specs.declared.Ran.TheVariants.{the_data as Ran, Refused as RunRefused}
use Rattle.model.specs.Types.{no_input, site_at, in_at, out_at, mark, carries}
use Rattle.model.specs.Network.{channel, joined, is_channel}
use Rattle.model.specs.NetInput.{Turn, Stay, To, net_input, seek}
use Rattle.model.specs.Places.{Work, Rest, Cleared, Service}
use Rattle.model.specs.Steps.{Act, own_turn, pass_turn, set_both, far_end, ends, patch}
use Rattle.model.specs.Runs.{try_send}
use Rattle.rules.specs.declared.inputs.InputTurn.{InputTurn}
use Rattle.rules.specs.declared.places.LocalTurn.{LocalTurn}
use Rattle.rules.specs.declared.places.ChannelTurn.{ChannelTurn}
use Rattle.rules.specs.declared.places.QueueTurn.{QueueTurn}
use Rattle.rules.specs.declared.work.OperatorTurn.{OperatorTurn}
use Rattle.rules.specs.Acts.{input_act}
use Rattle.rules.specs.Router.{asked_by}
use Rattle.layout.specs.Layout.{word_count, end_count}
use Rattle.layout.specs.Words.{sites_of, state_of, canonical}
use Rattle.layout.specs.Stored.{Stored}

-- a network by its parts
abbrev pub network_by : ℕ → ℕ → ℕ → ℕ → ℕ → List ℕ → List ℕ → Network
network_by version edition S D T channels routes =
    record {
      sites = S;
      depth = D;
      tries = T;
      version = version;
      edition = edition;
      channels = channels;
      routes = routes;
    }

-- site s of the words c
abbrev pub site_in : List ℕ → ℕ → Site
site_in c s = site_at (sites_of c) s

-- what RUN in place at site s asks of the network and the words: what a valid network and a state in range give
pub record RunAsks (n : Network) (c : List ℕ) (s : ℕ) : Type 0 where
  pub site : s < n.sites
  pub few : n.sites ≤ sites_most
  pub feeder : (out_at (site_in c s) 0).input < input_count
  pub ends : (j : ℕ) → j < port_count → joined n s (suc j) ≡ true → channel n s (suc j) < end_count
  pub sought : (i : ℕ) → i < input_count → state_number (in_at (site_in c s) i).phase ≡ 1 → targets n.sites (in_at (site_in c s) i).set ≡ true

-- RUN turned down: its number, and no output in the way
abbrev pub refused_run : ℕ → RunAnswer
refused_run f = record { answer = RunRefused f; blocking = 0 }

-- the answer r and the words d after the act a at site s
pub record Did (n : Network) (c d : List ℕ) (s : ℕ) (r : Ran) (a : Act) : Type 0 where
  pub answer : r ≡ (patch n (sites_of c) s a).answer
  pub stored : Stored c d (patch n (sites_of c) s a).sites

-- the same of an act that changes no other site: whatever the network
abbrev pub DidOwn : List ℕ → List ℕ → ℕ → Ran → Act → Type 0
DidOwn c d s r a = (n : Network) → Did n c d s r a

-- the answer r and the words d after what became of a send
pub record Took (c d : List ℕ) (r : Sent) (w : AfterSend) : Type 0 where
  pub answer : r ≡ w.answer
  pub size : length d ≡ word_count
  pub state : state_of d ≡ w.state
  pub kept : canonical c ≡ true → canonical d ≡ true

-- what SEND leaves, nothing but its own refusals tested: of a network its sites S and its depth D alone are looked at
unfoldable pub tried : ℕ → ℕ → State → ℕ → ℕ → AfterSend
tried S D st s X = try_send (network_by 0 0 S D 0 [] []) st s X

-- the input at the end of a channel b; a free one where there is no channel
abbrev pub end_of : List Site → ℕ → Input
end_of xs b = cond (is_channel b) (far_end xs b) no_input

-- output j + 1 with its channel b: of any network that has it there
abbrev pub DidPass : List ℕ → List ℕ → ℕ → Ran → ℕ → ℕ → Turn Output Input → Type 0
DidPass c d s r j b t = (n : Network) → channel n s (suc j) ≡ b → Did n c d s r (pass_turn (site_in c s) (suc j) t)

-- what a rule decided, read from what its code returns
abbrev pub local_back : Option LocalTurn → Turn Output InQueue
local_back None = Stay
local_back (Some r) = To r.output r.queue

abbrev pub channel_back : Option ChannelTurn → Turn Output Input
channel_back None = Stay
channel_back (Some r) = To r.output r.input

abbrev pub queue_back : Option QueueTurn → Turn OutQueue Input
queue_back None = Stay
queue_back (Some r) = To r.queue r.input

abbrev pub input_back : Option InputTurn → Turn Input (List Output)
input_back None = Stay
input_back (Some r) = To r.input r.outputs

abbrev pub serviced_back : OperatorTurn → Option ℕ → Work
serviced_back r None = Cleared r.incoming r.outgoing
serviced_back r (Some q) = Service r.incoming r.outgoing q

abbrev pub work_back : Option OperatorTurn → Work
work_back None = Rest
work_back (Some r) = serviced_back r r.serviced

-- ---- codes 0 to 4

-- whether output j + 1 of site s is ready, by the channels l
abbrev pub ready_at : List ℕ → List Site → ℕ → ℕ → Bool
ready_at l xs s j =
    let b = get_or l (port_count * s + j) 0 in
    carries (out_at (site_at xs s) (j + 1)) && (out_at (site_at xs s) (j + 1)).head && (is_channel b && listening (end_of xs b).phase)

-- whether the split output is
abbrev pub split_ready : List Site → ℕ → Bool
split_ready xs s = carries (out_at (site_at xs s) split_port) && (out_at (site_at xs s) split_port).head

-- which outputs of site s are ready: output 0, and those with a mark in bs
abbrev pub ready_flags : List ℕ → List Site → ℕ → List Bool → List Bool
ready_flags l xs s bs =
    (carries (out_at (site_at xs s) 0) && (out_at (site_at xs s) 0).head && true)
    ∷ (mark bs 1 && ready_at l xs s 0)
    ∷ (mark bs 2 && ready_at l xs s 1)
    ∷ (mark bs 3 && ready_at l xs s 2)
    ∷ (mark bs 4 && ready_at l xs s 3)
    ∷ (mark bs 5 && split_ready xs s)
    ∷ []

-- the channels of site s end within the sites
abbrev pub ChannelsWithin : List ℕ → ℕ → Type 0
ChannelsWithin l s = (j : ℕ) → j < port_count → is_channel (get_or l (port_count * s + j) 0) ≡ true → get_or l (port_count * s + j) 0 < end_count

-- what the router's answer in an edition makes of a net-input y, which is net-input i of site s, the outputs being os
abbrev pub sought : Network → Input → List Output → ℕ → ℕ → Turn Input (List Output)
sought n y os s i = seek n.tries i y os (asked_by n.edition n.routes n.sites s os y.set)

-- net-input i: of any network, where it is known which outputs are ready; of one network
abbrev pub DidReady : List ℕ → List ℕ → ℕ → Ran → ℕ → (ℕ → Bool) → Type 0
DidReady c d s r i isReady =
    (n : Network) → Did n c d s r (own_turn (set_both (site_in c s) i) (net_input n s i (in_at (site_in c s) i) (site_in c s).outputs isReady))

abbrev pub DidInput : Network → List ℕ → List ℕ → ℕ → Ran → ℕ → Type 0
DidInput n c d s r i = Did n c d s r (input_act n s (site_in c s) (ends n (sites_of c) s) i)
