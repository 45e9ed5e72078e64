-- The packets of a state in range: below the counter where a place is used, 0 where it is not, so at most the counter
-- everywhere. Assumes a valid network and the arrays' lengths, which the types give.
use Prim.Native.Nat.{ℕ, ◌+◌, ◌<◌}
use mathlib.Core.Path.{◌≡◌}
use mathlib.Core.Bool.{Bool, true, not, ◌&&◌}
use native.Mathlib.Decide.{dec_lt}
use native.Mathlib.Omega.{arith}
use borrow.Author.Tests.{eqb-true}
use lib.Dec.{eqb}
use Rattle.base.specs.Sizes.{sites_most, input_count, output_count, in_queue_count, queue_room}
use Rattle.base.specs.Bools.{either_way, both, both3, both6}
use Rattle.base.specs.All.{all, all_at}
use Rattle.base.specs.Lists.{beyond}
use Rattle.theorems.specs.Names.{Input, Output, OutEntry, InEntry, Site, State, Network}
use Rattle.model.specs.Types.{input_d, no_output, no_out_entry, no_in_entry, in_queue_d, site_at, in_at, out_at, out_entry, queue_at, in_entry}
use Rattle.types.specs.Phases.{is_free, is_none}
use Rattle.model.specs.Range.{any_mark, zero_input, zero_output, zero_out_entry, zero_in_entry, zero_in_queue, zero_site, in_range}
use Rattle.theorems.proofs.Networks.{Valid}
use Rattle.theorems.proofs.Pairs.{SmallSite}
use Rattle.theorems.proofs.RangeSites.{SiteIn}
use Rattle.theorems.proofs.RangeKept.{range_at}
use Rattle.model.specs.Shapes.{SiteShaped, Shaped}

-- ---- an empty place

input_zero_lem : (y : Input) → zero_input y ≡ true → y.packet ≡ 0
input_zero_lem y h =
    let a =
    both3 (is_free y.phase && eqb y.packet 0 && eqb y.set 0) (not (any_mark y.outputs))
    (eqb y.tries 0) h in
    eqb-true y.packet 0 (both3 (is_free y.phase) (eqb y.packet 0) (eqb y.set 0) a.0).1

output_zero_lem : (o : Output) → zero_output o ≡ true → o.packet ≡ 0
output_zero_lem o h =
    let a =
    both6 (not o.used && eqb o.packet 0) (eqb o.set 0) (eqb o.input 0) (not o.head)
    (is_none o.terminator) (not o.closing) h in
    eqb-true o.packet 0 (both (not o.used) (eqb o.packet 0) a.0).1

out_entry_zero_lem : (d : OutEntry) → zero_out_entry d ≡ true → d.packet ≡ 0
out_entry_zero_lem d h = eqb-true d.packet 0 (both3 (eqb d.packet 0) (eqb d.set 0) (not d.started) h).0

in_entry_zero_lem : (a : InEntry) → zero_in_entry a ≡ true → a.packet ≡ 0
in_entry_zero_lem a h = eqb-true a.packet 0 (both3 (eqb a.packet 0) (eqb a.set 0) (is_none a.terminator) h).0

-- ---- a site in range, and one beyond the network's

module _ (n : Network) (k : ℕ) (x : Site) (ok : SiteIn n k x) where
  site_small : SmallSite (k + 1) x
  site_small =
      record {
        ins =
            λ i.
            either_way (is_free (in_at x i).phase) (λ e. let z = ((ok.ins i).blank e).0 in omega arith)
            (λ e. omega (arith, ((ok.ins i).tagged e).under));
        outs =
            λ j.
            either_way (out_at x j).used (λ e. omega (arith, ((ok.outs j).tagged e).under))
            (λ e. omega (arith, output_zero_lem (out_at x j) ((ok.outs j).blank e)));
        out_entries = λ m. out_small m (dec_lt m x.outgoing.count);
        in_entries_lem =
            beyond (λ m iq. (e : ℕ) → (in_entry iq e).packet < k + 1) x.incoming in_queue_d in_queue_count ok.incoming
            (λ m l e. in_small m l e (dec_lt e (queue_at x m).count)) (λ m l e. omega arith);
      }
    where
      out_small : (m : ℕ) → Dec (m < x.outgoing.count) → (out_entry x.outgoing m).packet < k + 1
      out_small m (yes l) = omega (arith, ((ok.outgoing.each m).0 l).0.under)
      out_small m (no l) =
          omega (arith, out_entry_zero_lem (out_entry x.outgoing m) ((ok.outgoing.each m).1 (omega arith)))

      in_small : (m : ℕ) → m < in_queue_count → (e : ℕ) → Dec (e < (queue_at x m).count) → (in_entry (queue_at x m) e).packet < k + 1
      in_small m l e (yes h) = omega (arith, (((ok.queues m l).each e).0 h).under)
      in_small m l e (no h) =
          omega (arith, in_entry_zero_lem (in_entry (queue_at x m) e) (((ok.queues m l).each e).1 (omega arith)))

module _ (k : ℕ) (x : Site) (len : SiteShaped x) (h : zero_site x ≡ true) where
  abbrev input_zero : ℕ → Bool
  input_zero i = zero_input (in_at x i)

  abbrev output_zero : ℕ → Bool
  output_zero j = zero_output (out_at x j)

  abbrev out_entry_zero : ℕ → Bool
  out_entry_zero m = zero_out_entry (out_entry x.outgoing m)

  abbrev queue_zero : ℕ → Bool
  queue_zero m = zero_in_queue (queue_at x m)

  abbrev in_entry_zero : ℕ → ℕ → Bool
  in_entry_zero m e = zero_in_entry (in_entry (queue_at x m) e)

  zero_small : SmallSite (k + 1) x
  zero_small =
      let w =
      both3 (all input_zero input_count && all output_zero output_count)
      (eqb x.outgoing.count 0 && all out_entry_zero queue_room)
      (all queue_zero in_queue_count) h in
      let u = both (all input_zero input_count) (all output_zero output_count) w.0 in
      let out = both (eqb x.outgoing.count 0) (all out_entry_zero queue_room) w.1 in
      record {
        ins =
            beyond (λ i y. y.packet < k + 1) x.inputs input_d input_count len.inputs
            (λ i l. omega (arith, input_zero_lem (in_at x i) (all_at input_zero i input_count l u.0))) (λ i l. omega arith);
        outs =
            beyond (λ j o. o.packet < k + 1) x.outputs no_output output_count len.outputs
            (λ j l. omega (arith, output_zero_lem (out_at x j) (all_at output_zero j output_count l u.1)))
            (λ j l. omega arith);
        out_entries =
            beyond (λ m d. d.packet < k + 1) x.outgoing.entries no_out_entry queue_room len.outgoing
            (λ m l.
            omega (arith, out_entry_zero_lem (out_entry x.outgoing m) (all_at out_entry_zero m queue_room l out.1)))
            (λ m l. omega arith);
        in_entries_lem =
            beyond (λ m iq. (e : ℕ) → (in_entry iq e).packet < k + 1) x.incoming in_queue_d in_queue_count len.incoming
            (λ m l.
            let inn =
            both (eqb (queue_at x m).count 0) (all (in_entry_zero m) queue_room) (all_at queue_zero m in_queue_count l w.2) in
            beyond (λ e a. a.packet < k + 1) (queue_at x m).entries no_in_entry queue_room (len.arrived m l)
            (λ e h.
            omega (arith, in_entry_zero_lem (in_entry (queue_at x m) e) (all_at (in_entry_zero m) e queue_room h inn.1)))
            (λ e h. omega arith))
            (λ m l e. omega arith);
      }

-- ---- a state in range

pub range_small : (n : Network) → Valid n → (st : State) → Shaped st → in_range n st ≡ true → (s : ℕ) → s < sites_most
    → SmallSite (st.counter + 1) (site_at st.sites s)
range_small n val st sh h s l = go (dec_lt s n.sites)
  where
    go : Dec (s < n.sites) → SmallSite (st.counter + 1) (site_at st.sites s)
    go (yes e) = site_small n st.counter (site_at st.sites s) ((range_at n val st sh h).inside s e)
    go (no e) =
        let w = (range_at n val st sh h).outside s l (omega arith) in
        zero_small st.counter (site_at st.sites s) w.0 w.1
