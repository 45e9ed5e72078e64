-- A place packed and taken apart again is the place: for every value whose small numbers are bytes.
use mathlib.Core.Path.{◌≡◌, refl, sym, ap, ap₂, ◌∙◌}
use mathlib.Core.List.{List}
use mathlib.Core.Bool.{Bool, true, false}
use Prim.Native.Nat.{ℕ, ◌+◌, ◌*◌, ◌/◌, ◌%◌, ◌<◌}
use native.Mathlib.Omega.{arith}
use lib.Dec.{eqb, lit<}
use lib.ListN.{length}
use Rattle.base.specs.Bools.{count}
use Rattle.base.specs.Rows.{spelled}
use Rattle.base.specs.Sizes.{output_count}
use Rattle.types.specs.Numbers.{state_number, connection_number, received_number, connection_of, terminator_number}
use Rattle.types.specs.declared.Connection.TheVariants.{the_data as Connection, Unicast, Passthru, AllRemote, SomeLocal, Handed, Branch}
use Rattle.types.specs.declared.Received.TheVariants.{the_data as Received, End as got_end, Abort as got_abort}
use Rattle.types.specs.declared.Terminator.TheVariants.{the_data as Terminator, None as t_none, End as t_end, Abort as t_abort, KeepLocal as t_keep}
use Rattle.types.specs.declared.Phase.TheVariants.{the_data as Phase, Free, Seek, Open, Wait, Done, Last, Abort as Aborted, FinAbort}
use Rattle.types.specs.declared.Input.{Input}
use Rattle.types.specs.declared.Output.{Output}
use Rattle.types.specs.declared.OutEntry.{OutEntry}
use Rattle.types.specs.declared.InEntry.{InEntry}
use Rattle.model.specs.Types.{mark}
use Rattle.layout.specs.Packed.{connection_at, received_at, terminator_at, phase_at, received_of, flag}
use Rattle.layout.specs.Packed.{input_from, input_word, output_from, output_word, out_entry_from, out_entry_word, in_entry_from, in_entry_word}
use Rattle.layout.proofs.Rows.{six_rows}

-- ---- a case by its number

connection_back : (c : Connection) → connection_at (connection_number c) ≡ c
connection_back Unicast = refl
connection_back Passthru = refl
connection_back AllRemote = refl
connection_back SomeLocal = refl
connection_back Handed = refl
connection_back Branch = refl

received_back : (r : Received) → received_at (received_number r) ≡ r
received_back got_end = refl
received_back got_abort = refl

terminator_back : (h : Terminator) → terminator_at (terminator_number h) ≡ h
terminator_back t_none = refl
terminator_back t_end = refl
terminator_back t_abort = refl
terminator_back t_keep = refl

phase_back : (ph : Phase) → phase_at (state_number ph) (connection_at (connection_of ph)) (received_at (received_of ph)) ≡ ph
phase_back Free = refl
phase_back Seek = refl
phase_back (Open c) = ap Open (connection_back c)
phase_back (Wait c) = ap Wait (connection_back c)
phase_back (Done c r) = ap₂ Done (connection_back c) (received_back r)
phase_back (Last c r) = ap₂ Last (connection_back c) (received_back r)
phase_back (Aborted c) = ap Aborted (connection_back c)
phase_back (FinAbort c r) = ap₂ FinAbort (connection_back c) (received_back r)

count_back : (b : Bool) → eqb (count b) 1 ≡ b
count_back true = refl
count_back false = refl

-- ---- how large a number is

connection_below : (c : Connection) → connection_number c < 8
connection_below Unicast = lit< tt
connection_below Passthru = lit< tt
connection_below AllRemote = lit< tt
connection_below SomeLocal = lit< tt
connection_below Handed = lit< tt
connection_below Branch = lit< tt

received_below : (r : Received) → received_number r < 4
received_below got_end = lit< tt
received_below got_abort = lit< tt

terminator_below : (h : Terminator) → terminator_number h < 4
terminator_below t_none = lit< tt
terminator_below t_end = lit< tt
terminator_below t_abort = lit< tt
terminator_below t_keep = lit< tt

phase_below : (ph : Phase) → (state_number ph < 8) × (connection_of ph < 8) × (received_of ph < 4)
phase_below Free = (lit< tt, lit< tt, lit< tt)
phase_below Seek = (lit< tt, lit< tt, lit< tt)
phase_below (Open c) = (lit< tt, connection_below c, lit< tt)
phase_below (Wait c) = (lit< tt, connection_below c, lit< tt)
phase_below (Done c r) = (lit< tt, connection_below c, received_below r)
phase_below (Last c r) = (lit< tt, connection_below c, received_below r)
phase_below (Aborted c) = (lit< tt, connection_below c, lit< tt)
phase_below (FinAbort c r) = (lit< tt, connection_below c, received_below r)

count_below : (b : Bool) → count b < 2
count_below true = lit< tt
count_below false = lit< tt

-- ---- a field of a word

flag_back : (w d : ℕ) (b : Bool) → w / d % 2 ≡ count b → flag w d ≡ b
flag_back w d b e = ap (λ (k : ℕ). eqb k 1) e ∙ count_back b

terminator_from : (h : Terminator) (m : ℕ) → m ≡ terminator_number h → terminator_at m ≡ h
terminator_from h m e = ap terminator_at e ∙ terminator_back h

phase_from : (ph : Phase) (m c r : ℕ) → m ≡ state_number ph → c ≡ connection_of ph → r ≡ received_of ph → phase_at m (connection_at c) (received_at r) ≡ ph
phase_from ph m c r a b d = rw (a, b, d) (phase_back ph)

-- ---- a net-input

same_input : (X : ℕ) (ph ph' : Phase) (bs bs' : List Bool) (q q' t t' : ℕ) → ph ≡ ph' → bs ≡ bs' → q ≡ q' → t ≡ t'
    → ◌≡◌ {A = Input} (record { set = X; phase = ph; outputs = bs; packet = q; tries = t })
    (record { set = X; phase = ph'; outputs = bs'; packet = q'; tries = t' })
same_input X ph ph' bs bs' q q' t t' a b c d = rw (a, b, c, d) refl

-- the fields of a net-input's word
module _ (n c r a b d e f g q t : ℕ) (hn : n < 8) (hc : c < 8) (hr : r < 4) (ha : a < 2) (hb : b < 2) (hd : d < 2) (he : e < 2) (hf : f < 2)
    (hg : g < 2) (hq : q < 256) (ht : t < 256) where
  abbrev packed : ℕ
  packed = n + 8 * c + 64 * r + (256 * a + 512 * b + 1024 * d + 2048 * e + 4096 * f + 8192 * g) + 65536 * q + 16777216 * t

  record Parts : Type 0 where
    state : packed % 8 ≡ n
    connection : packed / 8 % 8 ≡ c
    received : packed / 64 % 4 ≡ r
    mark_0 : packed / 256 % 2 ≡ a
    mark_1 : packed / 512 % 2 ≡ b
    mark_2 : packed / 1024 % 2 ≡ d
    mark_3 : packed / 2048 % 2 ≡ e
    mark_4 : packed / 4096 % 2 ≡ f
    mark_5 : packed / 8192 % 2 ≡ g
    packet : packed / 65536 % 256 ≡ q
    tries : packed / 16777216 % 256 ≡ t

  parts : Parts
  parts =
      record {
        state = omega arith;
        connection = omega arith;
        received = omega arith;
        mark_0 = omega arith;
        mark_1 = omega arith;
        mark_2 = omega arith;
        mark_3 = omega arith;
        mark_4 = omega arith;
        mark_5 = omega arith;
        packet = omega arith;
        tries = omega arith;
      }

pub input_back_lem : (y : Input) → y.packet < 256 → y.tries < 256 → length y.outputs ≡ output_count → input_from y.set (input_word y) ≡ y
unfolding input_from input_word
input_back_lem y hq ht hl =
    let ph = y.phase in
    let m : ℕ → Bool = mark y.outputs in
    let g = phase_below ph in
    let k : (j : ℕ) → count (m j) < 2 = λ j. count_below (m j) in
    let w = input_word y in
    let p =
    parts (state_number ph) (connection_of ph) (received_of ph) (count (m 0)) (count (m 1)) (count (m 2)) (count (m 3)) (count (m 4))
    (count (m 5)) y.packet y.tries g.0 g.1 g.2 (k 0) (k 1) (k 2) (k 3) (k 4) (k 5) hq ht in
    same_input y.set _ ph _ y.outputs _ y.packet _ y.tries
    (phase_from ph _ _ _ p.state p.connection p.received)
    (six_rows m _ _ _ _ _ _ (flag_back w 256 (m 0) p.mark_0) (flag_back w 512 (m 1) p.mark_1) (flag_back w 1024 (m 2) p.mark_2)
    (flag_back w 2048 (m 3) p.mark_3) (flag_back w 4096 (m 4) p.mark_4) (flag_back w 8192 (m 5) p.mark_5)
    ∙ sym (spelled output_count false y.outputs hl))
    p.packet p.tries

-- ---- a net-output

same_output : (X : ℕ) (h h' : Terminator) (q q' i i' : ℕ) (u u' b b' c c' : Bool)
    → h ≡ h' → q ≡ q' → i ≡ i' → u ≡ u' → b ≡ b' → c ≡ c'
    → ◌≡◌ {A = Output} (record { set = X; terminator = h; packet = q; input = i; used = u; head = b; closing = c })
    (record { set = X; terminator = h'; packet = q'; input = i'; used = u'; head = b'; closing = c' })
same_output X h h' q q' i i' u u' b b' c c' d e f g k l = rw (d, e, f, g, k, l) refl

pub output_back : (o : Output) → o.packet < 256 → o.input < 256 → output_from o.set (output_word o) ≡ o
unfolding output_from output_word
output_back o hq hi =
    let u = count o.used in
    let b = count o.head in
    let h = terminator_number o.terminator in
    let hu : u < 2 = count_below o.used in
    let hb : b < 2 = count_below o.head in
    let c = count o.closing in
    let hh : h < 4 = terminator_below o.terminator in
    let hc : c < 2 = count_below o.closing in
    let w = u + 2 * b + 4 * h + 16 * c + 256 * o.input + 65536 * o.packet in
    same_output o.set _ o.terminator _ o.packet _ o.input _ o.used _ o.head _ o.closing
    (terminator_from o.terminator (w / 4 % 4) (omega arith)) (omega arith) (omega arith)
    (flag_back w 1 o.used (omega arith)) (flag_back w 2 o.head (omega arith))
    (flag_back w 16 o.closing (omega arith))

-- ---- an entry of the out-queue, of an in-queue

same_out : (X q q' : ℕ) (b b' : Bool) → q ≡ q' → b ≡ b'
    → ◌≡◌ {A = OutEntry} (record { set = X; packet = q; started = b }) (record { set = X; packet = q'; started = b' })
same_out X q q' b b' e f = rw (e, f) refl

pub out_entry_back : (u : OutEntry) → u.packet < 256 → out_entry_from u.set (out_entry_word u) ≡ u
unfolding out_entry_from out_entry_word
out_entry_back u h =
    let b = count_below u.started in
    let w = count u.started + 256 * u.packet in
    same_out u.set _ u.packet _ u.started (omega arith) (flag_back w 1 u.started (omega arith))

same_in : (X q q' : ℕ) (h h' : Terminator) → q ≡ q' → h ≡ h'
    → ◌≡◌ {A = InEntry} (record { set = X; terminator = h; packet = q }) (record { set = X; terminator = h'; packet = q' })
same_in X q q' h h' e f = rw (e, f) refl

pub in_entry_back : (a : InEntry) → a.packet < 256 → in_entry_from a.set (in_entry_word a) ≡ a
unfolding in_entry_from in_entry_word
in_entry_back a h =
    let b = terminator_below a.terminator in
    let w = terminator_number a.terminator + 256 * a.packet in
    same_in a.set _ a.packet _ a.terminator (omega arith) (terminator_from a.terminator (w % 4) (omega arith))
