-- RUN's act as the enum that the code returns, and what a site must be for it to run.
use Rattle.std.specs.Prelude.{ℕ, suc, zero, ◌*◌, ◌^◌, ◌≤◌, ◌<◌, ◌≡◌, List, [], ◌∷◌, Bool, true, false, get_or}
use Rattle.base.specs.Sizes.{sites_most, input_count, port_count}
use Rattle.types.specs.declared.Input.{Input}
use Rattle.types.specs.declared.Site.{Site}
use Rattle.types.specs.declared.Network.{Network}
use Rattle.types.specs.declared.State.{State}
use Rattle.types.specs.declared.AfterRun.{AfterRun}
use Rattle.types.specs.declared.Ran.TheVariants.{the_data as Ran, Nothing, Changed, Serviced}
use Rattle.model.specs.Types.{input_d, site_at, in_at, out_at, set_site}
use Rattle.model.specs.Network.{channel, joined}
use Rattle.types.specs.Numbers.{state_number}
use Rattle.model.specs.Steps.{Act, Idle, Own, Serve, Pass, set_far, act, ends}
use Rattle.machine.specs.declared.step.Act.TheVariants.{the_data as Did, Idle as did_nothing, Own as did_own}
use Rattle.machine.specs.declared.step.Act.TheVariants.{Serve as did_serve, Pass as did_pass}
use Rattle.machine.specs.declared.events.Looked.{Looked}
use Rattle.machine.specs.declared.store.Seen.{Seen}

abbrev pub of_act : Network → ℕ → Act → Did
of_act n s Idle = did_nothing
of_act n s (Own z) = did_own z
of_act n s (Serve z q) = did_serve z q
of_act n s (Pass z j y) = did_pass z (channel n s j) y

-- of the ports 1 to 4, as arrays: the inputs at the ends of the channels, and which have one
abbrev pub far_at : List Input → ℕ → Input
far_at l zero = input_d
far_at l (suc j) = get_or l j input_d

abbrev pub there_at : List Bool → ℕ → Bool
there_at l zero = false
there_at l (suc j) = get_or l j false

abbrev pub flags : (ℕ → Bool) → List Bool
flags f = f 0 ∷ f 1 ∷ f 2 ∷ f 3 ∷ f 4 ∷ f 5 ∷ []

-- which outputs 1 to 4 have a channel, as an array
abbrev pub four_flags : (ℕ → Bool) → List Bool
four_flags f = f 0 ∷ f 1 ∷ f 2 ∷ f 3 ∷ []

-- ---- what is asked

-- what a site of a state in range has
pub record Runnable (n : Network) (s : ℕ) (x : Site) : Type 0 where
  pub site : s < n.sites
  pub few : n.sites ≤ sites_most
  pub feeder : (out_at x 0).input < input_count
  pub sought : (i : ℕ) → i < input_count → state_number (in_at x i).phase ≡ 1 → (0 < (in_at x i).set) × ((in_at x i).set < 2 ^ n.sites)

-- the channels of site s end within the array of sites
abbrev pub EndsWithin : Network → ℕ → Type 0
EndsWithin n s = (j : ℕ) → j < port_count → joined n s (suc j) ≡ true → channel n s (suc j) < port_count * sites_most

-- ---- what RUN sees, does and stores

-- the ends of the four channels as an array
abbrev pub four_ends : (ℕ → Input) → List Input
four_ends f = f 1 ∷ f 2 ∷ f 3 ∷ f 4 ∷ []

-- what RUN sees at site s
abbrev pub seen_at : Network → List Site → ℕ → Seen
seen_at n xs s = record { site = site_at xs s; far = four_ends (ends n xs s) }

-- what RUN does at site s
unfoldable pub act_of : Network → List Site → ℕ → ℕ → Did
act_of n xs s code = of_act n s (act n s (site_at xs s) (ends n xs s) code)

-- with the site as it was
abbrev pub looked : Network → List Site → ℕ → ℕ → Looked
looked n xs s code = record { act = act_of n xs s code; site = site_at xs s }

-- an input that is passed on has a place
abbrev pub Passable : Did → Type 0
Passable did_nothing = Unit {0}
Passable (did_own z) = Unit {0}
Passable (did_serve z q) = Unit {0}
Passable (did_pass z b y) = b < port_count * sites_most

-- the site stored, and the two stores of an input passed on
abbrev pub owned : State → ℕ → Site → State
owned st s x = record { sites = set_site st.sites s x; counter = st.counter }

abbrev pub passed : State → ℕ → Site → ℕ → Input → State
passed st s x b y = record { sites = set_far (set_site st.sites s x) b y; counter = st.counter }

-- the state that an act at site s leaves, and RUN's answer to it
abbrev pub stored_state : State → ℕ → Did → State
stored_state st s did_nothing = st
stored_state st s (did_own z) = owned st s z
stored_state st s (did_serve z q) = owned st s z
stored_state st s (did_pass z b y) = passed st s z b y

abbrev pub answer_to : Did → ℕ → Ran
answer_to did_nothing s = Nothing
answer_to (did_own z) s = Changed
answer_to (did_serve z q) s = Serviced q s
answer_to (did_pass z b y) s = Changed

-- with the outputs in the way
abbrev pub stored : State → ℕ → Did → ℕ → AfterRun
stored st s a B = record { answer = answer_to a s; blocking = B; state = stored_state st s a }
