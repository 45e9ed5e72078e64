-- RUN in place is the model's RUN on the state, and what it asks a valid network and a state in range give. Assumes what each law names.
use Prim.Native.Nat.{ℕ, ◌<◌, ◌%◌}
use mathlib.Core.Path.{◌≡◌, ap, ap₂}
use mathlib.Core.List.{List}
use mathlib.Core.Bool.{true}
use Rattle.sets.proofs.Laws.{targets_by}
use Rattle.types.specs.declared.Site.{Site}
use Rattle.types.specs.declared.Network.{Network}
use Rattle.types.specs.declared.Ran.TheVariants.{the_data as Ran}
use Rattle.model.specs.Range.{in_range}
use Rattle.model.specs.Steps.{act, ends, run}
use Rattle.model.specs.Events.{runs}
use Rattle.theorems.proofs.Networks.{Valid}
use Rattle.machine.proofs.RangeAt.{range_runnable}
use Rattle.machine.proofs.Seen.{valid_ends}
use Rattle.layout.specs.Words.{sites_of, state_of}
use Rattle.words.specs.Events.{Did, RunAsks, site_in}

-- ---- what the act left is what RUN leaves

module _ (n : Network) (c d : List ℕ) (s code : ℕ) (r : Ran) (did : Did n c d s r (act n s (site_in c s) (ends n (sites_of c) s) code)) where
  pub ran_answer : r ≡ (runs n (state_of c) s code).answer
  unfolding run
  ran_answer = did.answer

  pub ran_state : state_of d ≡ (runs n (state_of c) s code).state
  unfolding run
  ran_state =
      ap₂ (λ (xs : List Site) (k : ℕ). record { sites = xs; counter = k }) did.stored.sites (ap (λ (w : ℕ). w % 256) did.stored.counter)

-- ---- a valid network, and a state in range

pub run_asks : (n : Network) (c : List ℕ) (s : ℕ) → Valid n → in_range n (state_of c) ≡ true → s < n.sites → RunAsks n c s
run_asks n c s val ok h =
    let w = range_runnable n val (state_of c) ok s h in
    record {
      site = h;
      few = val.few;
      feeder = w.feeder;
      ends = λ j k e. valid_ends n val s h j k e;
      sought = λ i k e. let t = w.sought i k e in targets_by n.sites _ t.0 t.1;
    }
