-- What every reached state has, and what a rule that moves one site owes for it to stay so: at each site and over each
-- channel, a terminator that is to come, and the place that waits for it, speak of the same packet and set.
-- Assumes nothing.
use Prim.Native.Nat.{ℕ, suc, ◌+◌, ◌≤◌, ◌<◌, ◌%◌}
use mathlib.Core.Path.{◌≡◌, refl, ap, ◌∙◌}
use mathlib.Core.List.{List, [], ◌∷◌}
use mathlib.Core.Bool.{Bool, true, false, cond, not, ◌&&◌, and-false}
use native.Mathlib.Omega.{arith}
use lib.ListN.{get_or, length, length-set}
use Rattle.base.specs.Sizes.{sites_most, input_count, output_count, port_count, in_queue_count, queue_room}
use Rattle.base.specs.Lists.{all_set, rel_set}
use Rattle.base.specs.Sums.{upto, isum_set}
use Rattle.theorems.specs.Names.{Connection, got_end, Terminator, t_none, t_end, Phase, Free, Seek, Open, Wait, Done, Last}
use Rattle.theorems.specs.Names.{Aborted, FinAbort, Input, Output, OutQueue, InQueue, Site, Network, Serviced}
use Rattle.model.specs.Types.{input_d, site_d, no_output, site_at, in_at, out_at, mark, out_entry, queue_at, queue_port, carries, set_site}
use Rattle.model.specs.Network.{channel, joined, end_site}
use Rattle.types.specs.Phases.{splits}
use Rattle.model.specs.NetInput.{table}
use Rattle.model.specs.Places.{last_of, last_lacks}
use Rattle.model.specs.Steps.{far_end, Act, Idle, Own, Serve, Pass, Stepped, patch}
use Rattle.model.specs.Events.{hits}
use Rattle.model.specs.Owing.{owes_as, owes_site, owed}

-- ---- one place

-- a packet and its set together
abbrev pub tag : ℕ → ℕ → List ℕ
tag q X = q ∷ X ∷ []

abbrev pub tag_out : Output → List ℕ
tag_out o = tag o.packet o.set

-- the packet and set whose terminator an input is still to receive
abbrev pub claim_of : Phase → ℕ → ℕ → List ℕ
claim_of Free q X = []
claim_of Seek q X = tag q X
claim_of (Open c) q X = tag q X
claim_of (Wait c) q X = tag q X
claim_of (Done c r) q X = []
claim_of (Last c r) q X = []
claim_of (Aborted c) q X = tag q X
claim_of (FinAbort c r) q X = []

abbrev pub claim : Input → List ℕ
claim y = claim_of y.phase y.packet y.set

-- the same of an in-queue's last entry
abbrev pub waiting : InQueue → List ℕ
waiting q = cond (last_lacks q) (tag (last_of q).packet (last_of q).set) []

-- an output whose head is taken and whose terminator is still to be delivered
abbrev pub due : Output → Bool
due o = carries o && o.head

-- an output that has nothing to pass on: empty or closing
abbrev pub idle : Output → Bool
idle o = not (carries o)

pub empty_idle : (o : Output) → o.used ≡ false → idle o ≡ true
empty_idle o e = rw e refl

pub closing_idle : (o : Output) → o.closing ≡ true → idle o ≡ true
closing_idle o e = rw e (ap not (and-false o.used))

abbrev pub Quiet : Output → Type 0
Quiet o = idle o ≡ true → o.terminator ≡ t_none

-- ---- an input and its outputs

-- an output in use that input i feeds, that has no terminator and is not closing
pub record Fed (i : ℕ) (o : Output) : Type 0 where
  pub used : o.used ≡ true
  pub from : o.input ≡ i
  pub bare : o.terminator ≡ t_none
  pub stays : o.closing ≡ false

-- output 0 fed by input i with the packet q and the whole set X
pub record Whole (i q X : ℕ) (o : ℕ → Output) : Type 0 where
  pub fed : Fed i (o 0)
  pub same : tag_out (o 0) ≡ tag q X

-- what the marked outputs would owe, each with its terminator by f
abbrev pub would : (ℕ → Terminator) → ℕ → ℕ → ℕ → List Bool → (ℕ → Output) → ℕ
would f s p t bs o = upto output_count (λ j. cond (mark bs j) (owes_as (f j) s p t (o j).packet (o j).set) 0)

-- input i with packet q, set X and marks bs, connected by c: on a received end its outputs would owe what it owes
pub record Joined (s i : ℕ) (c : Connection) (bs : List Bool) (q X : ℕ) (o : ℕ → Output) : Type 0 where
  pub each : (j : ℕ) → j < output_count → mark bs j ≡ true → Fed i (o j)
  pub covers : (p t : ℕ) → would (table got_end c) s p t bs o ≡ owes_as t_end s p t q X
  pub zeroth : splits c ≡ true → Whole i q X o

abbrev pub ConnAt : Phase → ℕ → ℕ → List Bool → ℕ → ℕ → (ℕ → Output) → Type 0
ConnAt Free s i bs q X o = Unit {0}
ConnAt Seek s i bs q X o = Unit {0}
ConnAt (Open c) s i bs q X o = Joined s i c bs q X o
ConnAt (Wait c) s i bs q X o = Joined s i c bs q X o
ConnAt (Done c r) s i bs q X o = Joined s i c bs q X o
ConnAt (Last c r) s i bs q X o = Joined s i c bs q X o
ConnAt (Aborted c) s i bs q X o = Whole i q X o
ConnAt (FinAbort c r) s i bs q X o = Whole i q X o

abbrev pub Conn : ℕ → ℕ → Input → (ℕ → Output) → Type 0
Conn s i y o = ConnAt y.phase s i y.outputs y.packet y.set o

-- ---- queues

-- a queue's array and its count
pub record Fits {A : Type 0} (l : List A) (c : ℕ) : Type 0 where
  pub room : length l ≡ queue_room
  pub few : c ≤ queue_room

-- the out-queue and net-input 0: only the front may be started, and then it is what the input waits for
pub record Leaving (q : OutQueue) (y : Input) : Type 0 where
  pub fits : Fits q.entries q.count
  pub front : (out_entry q 0).started ≡ true → claim y ≡ tag (out_entry q 0).packet (out_entry q 0).set
  pub rest : (k : ℕ) → (out_entry q (suc k)).started ≡ false

-- an in-queue and the output that fills it
pub record Landing (q : InQueue) (o : Output) : Type 0 where
  pub fits : Fits q.entries q.count
  pub last : due o ≡ true → waiting q ≡ tag_out o

-- ---- sites

pub record SiteOk (s : ℕ) (x : Site) : Type 0 where
  pub ins : length x.inputs ≡ input_count
  pub outs : length x.outputs ≡ output_count
  pub leaving : Leaving x.outgoing (in_at x 0)
  pub queues : length x.incoming ≡ in_queue_count
  pub landing : (m : ℕ) → m < in_queue_count → Landing (queue_at x m) (out_at x (queue_port m))
  pub conn : (i : ℕ) → Conn s i (in_at x i) (out_at x)
  pub quiet : (j : ℕ) → Quiet (out_at x j)

-- over a channel: where the head is taken the input at the end waits for that packet and set
abbrev pub Link : Network → List Site → Type 0
Link n st =
    (s j : ℕ) → s < n.sites → j < port_count → joined n s (suc j) ≡ true → due (out_at (site_at st s) (suc j)) ≡ true
    → claim (far_end st (channel n s (suc j))) ≡ tag_out (out_at (site_at st s) (suc j))

pub record Inv (n : Network) (st : List Site) : Type 0 where
  pub all_sites : length st ≡ sites_most
  pub site : (s : ℕ) → s < sites_most → SiteOk s (site_at st s)
  pub link : Link n st

-- ---- changes

-- what an input waits for it waits for afterwards; a head that is taken was taken
abbrev pub Persist : Input → Input → Type 0
Persist y y' = (q X : ℕ) → claim y ≡ tag q X → claim y' ≡ tag q X

abbrev pub SameHead : Output → Output → Type 0
SameHead o o' = due o' ≡ true → (due o ≡ true) × (tag_out o ≡ tag_out o')

-- a site's change that leaves every link standing
pub record KeepsOf (ins : List Input) (outs : List Output) (ins' : List Input) (outs' : List Output) : Type 0 where
  pub inputs : (k : ℕ) → Persist (get_or ins (suc k) input_d) (get_or ins' (suc k) input_d)
  pub outputs : (j : ℕ) → j < port_count → SameHead (get_or outs (suc j) no_output) (get_or outs' (suc j) no_output)

abbrev pub Keeps : Site → Site → Type 0
Keeps x x' = KeepsOf x.inputs x.outputs x'.inputs x'.outputs

-- site s may become x', where more p t of what it owed is owed no longer
pub record Good (s : ℕ) (x x' : Site) (more : ℕ → ℕ → ℕ) : Type 0 where
  pub ok : SiteOk s x'
  pub keeps : Keeps x x'
  pub weight : (p t : ℕ) → owes_site p t s x' + more p t ≡ owes_site p t s x

-- the sites may become st'
pub record Kept (n : Network) (st st' : List Site) (more : ℕ → ℕ → ℕ) : Type 0 where
  pub inv : Inv n st'
  pub total : (p t : ℕ) → owed st' p t + more p t ≡ owed st p t

abbrev pub StepOk : Network → List Site → Stepped → Type 0
StepOk n st r = Kept n st r.sites (λ p t. hits p t r.answer)

-- a rule's decision that changes its own site only
abbrev pub OwnOk : ℕ → Site → Act → Type 0
OwnOk s x Idle = Unit {0}
OwnOk s x (Own x') = Good s x x' (λ p t. 0)
OwnOk s x (Serve x' q) = Good s x x' (λ p t. hits p t (Serviced q s))
OwnOk s x (Pass x' j y) = ⊥

pub keeps_refl : (x : Site) → Keeps x x
keeps_refl x = record { inputs = λ k q X h. h; outputs = λ j hj h. (h, refl) }

-- ---- one site's change, as a change of the sites

module _ (n : Network) (st : List Site) (s : ℕ) (x' : Site) (inv : Inv n st) where
  pub keep_link : Keeps (site_at st s) x' → Link n (set_site st s x')
  keep_link g u j hu hj hb hh =
      let k : (w : ℕ) → Keeps (site_at st w) (site_at (set_site st s x') w) = rel_set Keeps st s x' site_d keeps_refl g in
      let e = (k u).outputs j hj hh in
      (k (end_site (channel n u (suc j)))).inputs (channel n u (suc j) % port_count) _ _ (inv.link u j hu hj hb e.0 ∙ e.1)

  -- the site and the links are looked after, each by itself
  pub inv_set : SiteOk s x' → Link n (set_site st s x') → Inv n (set_site st s x')
  inv_set ok link =
      record {
        all_sites = length-set st s x' ∙ inv.all_sites;
        site = all_set (λ u x. u < sites_most → SiteOk u x) st s x' site_d (λ h. ok) inv.site;
        link = link;
      }

  pub owed_set : (p t : ℕ) → s < sites_most
      → owed (set_site st s x') p t + owes_site p t s (site_at st s) ≡ owed st p t + owes_site p t s x'
  unfolding owed
  owed_set p t h = isum_set (owes_site p t) st s x' site_d (omega (arith, inv.all_sites))

  pub good_kept : (more : ℕ → ℕ → ℕ) → s < sites_most → Good s (site_at st s) x' more → Kept n st (set_site st s x') more
  good_kept more h g =
      record {
        inv = inv_set g.ok (keep_link g.keeps);
        total = λ p t. omega (arith, owed_set p t h, g.weight p t);
      }

pub still : (n : Network) (st : List Site) → Inv n st → Kept n st st (λ p t. 0)
still n st inv = record { inv = inv; total = λ p t. omega arith }

pub own_kept : (n : Network) (st : List Site) (s : ℕ) → Inv n st → s < sites_most → (a : Act) → OwnOk s (site_at st s) a
    → StepOk n st (patch n st s a)
own_kept n st s inv h Idle ok = still n st inv
own_kept n st s inv h (Own x') ok = good_kept n st s x' inv _ h ok
own_kept n st s inv h (Serve x' q) ok = good_kept n st s x' inv _ h ok
own_kept n st s inv h (Pass x' j y) ok = absurd ok
