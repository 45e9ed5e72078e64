-- In range as facts of a site and of all sites: the tests of specs/Range.antt in both directions, with the lengths of the
-- arrays, which the types give; and what a change of one place asks. Assumes nothing.
use Prim.Native.Nat.{ℕ, ◌≤◌, ◌<◌}
use mathlib.Core.Path.{◌≡◌, refl, sym, ◌∙◌}
use mathlib.Core.List.{List, []}
use mathlib.Core.Bool.{Bool, true, false, ◌&&◌}
use native.Mathlib.Decide.{dec_lt}
use native.Mathlib.Omega.{arith}
use borrow.Author.Tests.{lt-ltb, le-ltb, ltb-true, ltb-false}
use lib.Dec.{ltb}
use lib.ListN.{length, length-set}
use Rattle.base.specs.Sizes.{sites_most, input_count, output_count, split_port, in_queue_count, queue_room}
use Rattle.base.specs.Bools.{clash, and, both, and3, both3, pick, pick_at, pick_by}
use Rattle.base.specs.All.{all, any, all_at, all_by, any_at}
use Rattle.base.specs.Lists.{beyond, all_set, rel_set}
use Rattle.theorems.specs.Names.{Input, Output, OutQueue, InQueue, Site, Network}
use Rattle.model.specs.Shapes.{SiteShaped}
use Rattle.model.specs.Types.{no_output, input_d, in_queue_d, site_d, site_at, in_at, out_at, mark, queue_at, with_out_queue, set_in, set_out, set_queue, set_site}
use Rattle.draws.specs.Draws.{restricted}
use Rattle.model.specs.Range.{any_mark, input_ok, output_ok, out_queue_ok, in_queue_ok, depth_of, site_ok, zero_site, place_ok}
use Rattle.theorems.proofs.Invariant.{Fed}
use Rattle.theorems.proofs.RangeTests.{Tagged, InputAt, InputIn, OutputIn, unmarked, input_at_lem, input_by, output_at_lem, output_by}
use Rattle.theorems.proofs.RangeQueues.{OutQueueIn, InQueueIn, out_queue_at, out_queue_by, in_queue_at_lem, in_queue_by}

-- ---- inputs

-- without a connection there is none that an edition lacks
pub no_kind : (edition : ℕ) → pick (restricted edition) true true ≡ true
no_kind edition = pick_by (restricted edition) true true (λ e. refl) (λ e. refl)

-- a free input, and one that seeks
pub blank_in : (n : Network) (k i : ℕ) (bs : List Bool) (o : ℕ → Output) → (i < input_count → length bs ≡ output_count)
    → any_mark bs ≡ false → InputAt n k i true false false false false 0 0 0 bs o
blank_in n k i bs o full h =
    record {
      full = full;
      tries = omega arith;
      blank = λ e. (refl, refl, refl);
      tagged = λ e. absurd (clash e);
      marks = h;
      fed = λ j l m. absurd (unmarked bs h j l m);
      zeroth = λ e. absurd (clash (sym e));
      sole = λ e. absurd (clash (sym e));
      parted = any_at (mark bs) split_port output_count (omega arith) h;
      kind = no_kind n.edition;
    }

pub seek_in : (n : Network) (k i q z t : ℕ) (bs : List Bool) (o : ℕ → Output)
    → (i < input_count → length bs ≡ output_count) → any_mark bs ≡ false → Tagged n k q z → t ≤ n.tries
    → InputAt n k i false false false false false q z t bs o
seek_in n k i q z t bs o full h tg ht =
    record {
      full = full;
      tries = ht;
      blank = λ e. absurd (clash (sym e));
      tagged = λ e. tg;
      marks = h;
      fed = λ j l m. absurd (unmarked bs h j l m);
      zeroth = λ e. absurd (clash (sym e));
      sole = λ e. absurd (clash (sym e));
      parted = any_at (mark bs) split_port output_count (omega arith) h;
      kind = no_kind n.edition;
    }

-- an input whose outputs still are fed by it
pub frame : {n : Network} {k i : ℕ} {f c s p a : Bool} {q z t : ℕ} {bs : List Bool} {o : ℕ → Output} (o' : ℕ → Output)
    → ((j : ℕ) → Fed i (o j) → Fed i (o' j)) → InputAt n k i f c s p a q z t bs o → InputAt n k i f c s p a q z t bs o'
frame o' h y =
    record {
      full = y.full;
      tries = y.tries;
      blank = y.blank;
      tagged = y.tagged;
      marks = y.marks;
      fed = λ j l m. h j (y.fed j l m);
      zeroth = y.zeroth;
      sole = y.sole;
      parted = y.parted;
      kind = y.kind;
    }

unread : any_mark [] ≡ false
unfolding any
unread = refl

-- ---- a site

pub record SiteIn (n : Network) (k : ℕ) (x : Site) : Type 0 where
  pub inputs : length x.inputs ≡ input_count
  pub outputs : length x.outputs ≡ output_count
  pub ins : (i : ℕ) → InputIn n k i (out_at x) (in_at x i)
  pub outs : (j : ℕ) → OutputIn n k j (out_at x j)
  pub outgoing : OutQueueIn n k x.outgoing
  pub incoming : length x.incoming ≡ in_queue_count
  pub queues : (m : ℕ) → m < in_queue_count → InQueueIn n k m (queue_at x m)

pub site_shaped : (n : Network) (k : ℕ) (x : Site) → SiteIn n k x → SiteShaped x
site_shaped n k x h =
    record {
      inputs = h.inputs;
      marks = λ i l. (h.ins i).full l;
      outputs = h.outputs;
      outgoing = h.outgoing.long;
      incoming = h.incoming;
      arrived = λ m l. (h.queues m l).long;
    }

module _ (n : Network) (k : ℕ) (x : Site) where
  abbrev input_test : ℕ → Bool
  input_test i = input_ok n.edition n.sites n.tries k x.outputs i (in_at x i)

  abbrev output_test : ℕ → Bool
  output_test j = output_ok n.edition n.sites k j (out_at x j)

  abbrev queue_test : ℕ → Bool
  queue_test m = in_queue_ok n.sites (depth_of n.edition n.depth m) k (queue_at x m)

  pub site_at_lem : SiteShaped x → n.depth ≤ queue_room → site_ok n.edition n.sites n.tries n.depth k x ≡ true → SiteIn n k x
  site_at_lem len deep h =
      let w =
      both3 (all input_test input_count && all output_test output_count) (out_queue_ok n.sites n.depth k x.outgoing)
      (all queue_test in_queue_count) h in
      let u = both (all input_test input_count) (all output_test output_count) w.0 in
      record {
        inputs = len.inputs;
        outputs = len.outputs;
        ins =
            beyond (λ i y. InputIn n k i (out_at x) y) x.inputs input_d input_count len.inputs
            (λ i l. input_at_lem n k x.outputs i (in_at x i) (len.marks i) (all_at input_test i input_count l u.0))
            (λ i l. blank_in n k i [] (out_at x) (λ e. absurd (omega arith)) unread);
        outs =
            beyond (λ j o. OutputIn n k j o) x.outputs no_output output_count len.outputs
            (λ j l. output_at_lem n k j (out_at x j) (all_at output_test j output_count l u.1))
            (λ j l. output_at_lem n k j no_output refl);
        outgoing = out_queue_at n k x.outgoing len.outgoing deep w.1;
        incoming = len.incoming;
        queues =
            λ m l. in_queue_at_lem n k m (queue_at x m) (len.arrived m l) deep (all_at queue_test m in_queue_count l w.2);
      }

  pub site_by : SiteIn n k x → site_ok n.edition n.sites n.tries n.depth k x ≡ true
  site_by h =
      and3 (all input_test input_count && all output_test output_count) (out_queue_ok n.sites n.depth k x.outgoing)
      (all queue_test in_queue_count)
      (and (all input_test input_count) (all output_test output_count)
      (all_by input_test input_count (λ i l. input_by n k x.outputs i (in_at x i) (h.ins i)))
      (all_by output_test output_count (λ j l. output_by n k j (out_at x j) (h.outs j))))
      (out_queue_by n k x.outgoing h.outgoing)
      (all_by queue_test in_queue_count (λ m l. in_queue_by n k m (queue_at x m) (h.queues m l)))

  -- one place of a site in range changed
  module _ (ok : SiteIn n k x) where
    pub in_set : (i : ℕ) (v : Input) → InputIn n k i (out_at x) v → SiteIn n k (set_in x i v)
    in_set i v h =
        record {
          inputs = length-set x.inputs i v ∙ ok.inputs;
          outputs = ok.outputs;
          ins = all_set (λ m y. InputIn n k m (out_at x) y) x.inputs i v input_d h ok.ins;
          outs = ok.outs;
          outgoing = ok.outgoing;
          incoming = ok.incoming;
          queues = ok.queues;
        }

    pub out_set : (j : ℕ) (v : Output) → OutputIn n k j v → ((i : ℕ) → Fed i (out_at x j) → Fed i v)
        → SiteIn n k (set_out x j v)
    out_set j v h f =
        record {
          inputs = ok.inputs;
          outputs = length-set x.outputs j v ∙ ok.outputs;
          ins =
              λ i.
              frame (out_at (set_out x j v))
              (rel_set (λ a b. Fed i a → Fed i b) x.outputs j v no_output (λ a e. e) (f i)) (ok.ins i);
          outs = all_set (λ m o. OutputIn n k m o) x.outputs j v no_output h ok.outs;
          outgoing = ok.outgoing;
          incoming = ok.incoming;
          queues = ok.queues;
        }

    pub outgoing_set : (q : OutQueue) → OutQueueIn n k q → SiteIn n k (with_out_queue x q)
    outgoing_set q h =
        record {
          inputs = ok.inputs;
          outputs = ok.outputs;
          ins = ok.ins;
          outs = ok.outs;
          outgoing = h;
          incoming = ok.incoming;
          queues = ok.queues;
        }

    pub incoming_set : (m : ℕ) (q : InQueue) → InQueueIn n k m q → SiteIn n k (set_queue x m q)
    incoming_set m q h =
        record {
          inputs = ok.inputs;
          outputs = ok.outputs;
          ins = ok.ins;
          outs = ok.outs;
          outgoing = ok.outgoing;
          incoming = length-set x.incoming m q ∙ ok.incoming;
          queues =
              all_set (λ m iq. m < in_queue_count → InQueueIn n k m iq) x.incoming m q in_queue_d (λ l. h) ok.queues;
        }

-- ---- the sites

pub record SitesIn (n : Network) (k : ℕ) (st : List Site) : Type 0 where
  pub all_sites : length st ≡ sites_most
  pub inside : (s : ℕ) → s < n.sites → SiteIn n k (site_at st s)
  pub outside : (s : ℕ) → s < sites_most → n.sites ≤ s → SiteShaped (site_at st s) × (zero_site (site_at st s) ≡ true)

module _ (n : Network) (k : ℕ) (st : List Site) where
  abbrev site_test : ℕ → Bool
  site_test s = site_ok n.edition n.sites n.tries n.depth k (site_at st s)

  abbrev place_test : ℕ → Bool
  place_test s = place_ok n.edition n.sites n.tries n.depth k s (site_at st s)

  pub sites_at : length st ≡ sites_most → ((s : ℕ) → s < sites_most → SiteShaped (site_at st s)) → n.sites ≤ sites_most
      → n.depth ≤ queue_room → all place_test sites_most ≡ true → SitesIn n k st
  sites_at all_sites len few deep h =
      let each : (s : ℕ) → s < sites_most
      → (ltb s n.sites ≡ true → site_test s ≡ true) × (ltb s n.sites ≡ false → zero_site (site_at st s) ≡ true) =
      λ s l. pick_at (ltb s n.sites) (site_test s) (zero_site (site_at st s)) (all_at place_test s sites_most l h) in
      record {
        all_sites = all_sites;
        inside =
            λ s l.
            site_at_lem n k (site_at st s) (len s (omega arith)) deep ((each s (omega arith)).0 (lt-ltb s n.sites l));
        outside = λ s l b. (len s l, (each s l).1 (le-ltb s n.sites b));
      }

  pub sites_by : SitesIn n k st → all place_test sites_most ≡ true
  sites_by h =
      all_by place_test sites_most
      (λ s l.
      pick_by (ltb s n.sites) (site_test s) (zero_site (site_at st s))
      (λ e. site_by n k (site_at st s) (h.inside s (ltb-true s n.sites e)))
      (λ e. (h.outside s l (ltb-false s n.sites e)).1))

  pub sites_shaped : SitesIn n k st → (s : ℕ) → s < sites_most → SiteShaped (site_at st s)
  sites_shaped h s l = go (dec_lt s n.sites)
    where
      go : Dec (s < n.sites) → SiteShaped (site_at st s)
      go (yes e) = site_shaped n k (site_at st s) (h.inside s e)
      go (no e) = (h.outside s l (omega arith)).0

  -- one site changed
  pub sites_set : (s : ℕ) (x : Site) → SitesIn n k st → s < n.sites → SiteIn n k x → SitesIn n k (set_site st s x)
  sites_set s x h hs ok =
      record {
        all_sites = length-set st s x ∙ h.all_sites;
        inside = all_set (λ u y. u < n.sites → SiteIn n k y) st s x site_d (λ l. ok) h.inside;
        outside =
            all_set (λ u y. u < sites_most → n.sites ≤ u → SiteShaped y × (zero_site y ≡ true)) st s x site_d
            (λ l b. absurd (omega arith)) h.outside;
      }
