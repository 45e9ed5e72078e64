-- Bytes put into a list from a place on: stores one after the other, parts one after the other, and the turns of the
-- writer's loops. Assumes nothing.
use mathlib.Core.Path.{◌≡◌, refl, sym, ap, ◌∙◌}
use mathlib.Core.Logic.{◌⊎◌, ⊎_elim}
use mathlib.Core.Bool.{cond}
use mathlib.Core.List.{List, [], ◌∷◌, ◌++◌}
use Prim.Native.Nat.{ℕ, suc, ◌+◌, ◌*◌, ◌%◌, ◌≤◌, ◌<◌}
use native.Mathlib.Numerals.{add-one}
use native.Mathlib.Omega.{arith}
use borrow.Author.Tests.{eq-eqb, ne_eqb}
use lib.Dec.{eqb}
use lib.ListN.{length, get_or, set}
use lib.Seq.{sets, sets-eq, length-sets}
use Rattle.base.specs.Sizes.{port_count, no_channel}
use Rattle.base.specs.Put.{put, put_none, put_append}
use Rattle.types.specs.declared.StoredSend.{StoredSend}
use Rattle.types.specs.declared.Network.{Network}
use Rattle.types.specs.declared.Run.{Run}
use Rattle.model.specs.Types.{send_d}
use Rattle.format.specs.Format.{at, word_bytes, channel_part, send_bytes, each, start_with, fields_with, head_bytes}
use Rattle.format.specs.Format.{channel_bytes, route_bytes, sends_bytes}
use Rattle.format.specs.Format.{channel_width, send_width, sites_place, head_length, routes_place, sends_place, channel_place}
use Rattle.format.specs.Format.{length_of, encode}
use Rattle.archive.specs.Code.{Narrow, put_front}
use Rattle.archive.proofs.Holds.{length_each}
use Rattle.archive.proofs.Parts.{length_channel, length_send, starts, heads, joins, leads, start_of, fields_of, cs}
use Rattle.archive.proofs.Parts.{rs, es}

-- ---- stores are bytes put there

pub put_sets : (out : List ℕ) (p : ℕ) (xs : List ℕ) → p + length xs ≤ length out → sets out p xs ≡ put out p xs
unfolding put
put_sets out p xs h = sets-eq xs out p h

pub put_two : (out : List ℕ) (p x y : ℕ) → p + 2 ≤ length out → set (set out p x) (p + 1) y ≡ put out p (x ∷ y ∷ [])
put_two out p x y h =
    let e1 : p + 1 ≡ suc p = omega arith in
    rw e1 (put_sets out p (x ∷ y ∷ []) h)

pub put_four : (out : List ℕ) (p x y z w : ℕ) → p + 4 ≤ length out
    → set (set (set (set out p x) (p + 1) y) (p + 2) z) (p + 3) w ≡ put out p (x ∷ y ∷ z ∷ w ∷ [])
put_four out p x y z w h =
    let e1 : p + 1 ≡ suc p = omega arith in
    let e2 : p + 2 ≡ suc (suc p) = omega arith in
    let e3 : p + 3 ≡ suc (suc (suc p)) = omega arith in
    rw (e1, e2, e3) (put_sets out p (x ∷ y ∷ z ∷ w ∷ []) h)

pub length_put : (out : List ℕ) (p : ℕ) (xs : List ℕ) → p + length xs ≤ length out → length (put out p xs) ≡ length out
length_put out p xs h = ap length (sym (put_sets out p xs h)) ∙ length-sets out p xs

-- ---- a channel, as its version has it

-- the low byte of none is 255
low_byte : (x : ℕ) → (x ≡ no_channel) ⊎ (x < 255) → x % 256 ≡ cond (eqb x no_channel) 255 x
low_byte x h =
    ⊎_elim (λ e. rw (eq-eqb x no_channel e) (omega arith))
    (λ l. rw (ne_eqb x no_channel (λ e. omega arith)) (omega arith)) h

pub channel_first : (out : List ℕ) (p v x : ℕ) → v ≡ 1 → p + channel_width v ≤ length out
    → Narrow v x → set out p (x % 256) ≡ put out p (channel_part v x)
channel_first out p v x e l h =
    let one = eq-eqb v 1 e in
    let m : p + 1 ≤ length out = rw one at l in
    rw one (ap (set out p) (low_byte x (h e)) ∙ put_sets out p (cond (eqb x no_channel) 255 x ∷ []) m)

-- ---- a turn of a loop that puts pieces of one width

module _ (w : ℕ) (f : ℕ → List ℕ) (wide : (k : ℕ) → length (f k) ≡ w) where
  put_turn : (out a b : List ℕ) (p k q : ℕ) → a ≡ put out p (each f k) → b ≡ put a q (f k) → q ≡ p + w * k
      → q + w ≤ length out → b ≡ put out p (each f (k + 1))
  unfolding each
  put_turn out a b p k q e g h l =
      let n = length_each w f wide k in
      g ∙ put_append out a p q (each f k) (f k) (omega arith) e (omega arith)
      ∙ ap (put out p) (ap (each f) (sym (add-one k)))

pub channels_turn : (v : ℕ) (cs out a b : List ℕ) (k q : ℕ) → a ≡ put out (head_length v) (channel_bytes v cs k)
    → b ≡ put a q (channel_part v (at cs k)) → q ≡ channel_place v k → q + channel_width v ≤ length out
    → b ≡ put out (head_length v) (channel_bytes v cs (k + 1))
unfolding channel_bytes
channels_turn v cs out a b k q e g h l =
    put_turn (channel_width v) (λ c. channel_part v (at cs c)) (λ c. length_channel v (at cs c)) out a b (head_length v) k
    q e g h l

pub routes_turn : (rs out a b : List ℕ) (p k : ℕ) → a ≡ put out p (route_bytes rs k)
    → b ≡ put a (p + 2 * k) (word_bytes (at rs k))
    → p + 2 * k + 2 ≤ length out → b ≡ put out p (route_bytes rs (k + 1))
unfolding route_bytes
routes_turn rs out a b p k e g l = put_turn 2 (λ k. word_bytes (at rs k)) (λ k. refl) out a b p k (p + 2 * k) e g refl l

pub sends_turn : (v : ℕ) (es : List StoredSend) (out a b : List ℕ) (p k q : ℕ) → a ≡ put out p (sends_bytes v es k)
    → b ≡ put a q (send_bytes v (get_or es k send_d)) → q ≡ p + send_width v * k → q + send_width v ≤ length out
    → b ≡ put out p (sends_bytes v es (k + 1))
unfolding sends_bytes
sends_turn v es out a b p k q e g h l =
    put_turn (send_width v) (λ k. send_bytes v (get_or es k send_d)) (λ k. length_send v (get_or es k send_d)) out a b p k
    q e g h l

-- before the first turn
pub channels_none : (v : ℕ) (cs out : List ℕ) (p : ℕ) → out ≡ put out p (channel_bytes v cs 0)
unfolding channel_bytes each
channels_none v cs out p = sym (put_none out p)

pub routes_none : (rs out : List ℕ) (p : ℕ) → out ≡ put out p (route_bytes rs 0)
unfolding route_bytes each
routes_none rs out p = sym (put_none out p)

pub sends_none : (v : ℕ) (es : List StoredSend) (out : List ℕ) (p : ℕ) → out ≡ put out p (sends_bytes v es 0)
unfolding sends_bytes each
sends_none v es out p = sym (put_none out p)

-- ---- the parts of an archive of n bytes, one after the other

-- those in front of the sends, at the places p and q where the code puts them
pub front_put : (n : Network) (seed draws N size p q : ℕ) (out a b c d : List ℕ) → p ≡ sites_place n.version
    → q ≡ routes_place n.version n.sites → a ≡ put out 0 (start_with n.version n.edition size)
    → b ≡ put a p (fields_with n.sites n.tries n.depth seed draws N)
    → c ≡ put b (head_length n.version) (channel_bytes n.version n.channels (port_count * n.sites))
    → d ≡ put c q (route_bytes n.routes (n.sites * n.sites)) → d ≡ put_front n seed draws N size out
front_put n seed draws N size p q out a b c d ep eq ea eb ec ed = rw (ed, ec, eb, ea, ep, eq) refl

module _ (r : Run) (out : List ℕ) where
  abbrev v : ℕ
  v = r.network.version

  abbrev S : ℕ
  S = r.network.sites

  pub put_head : (a b : List ℕ) (n : ℕ) → n ≡ length_of r → a ≡ put out 0 (start_with v r.network.edition n)
      → b ≡ put a (sites_place v) (fields_of r) → b ≡ put out 0 (head_bytes r)
  unfolding head_bytes
  put_head a b n en ea eb =
      let fa : a ≡ put out 0 (start_of r) = rw en at ea in
      eb ∙ put_append out a 0 (sites_place v) (start_of r) (fields_of r) (omega arith) fa (starts r)

  -- behind the head
  pub put_parts : (b c d e : List ℕ) → b ≡ put out 0 (head_bytes r) → c ≡ put b (head_length v) (cs r)
      → d ≡ put c (routes_place v S) (rs r) → e ≡ put d (sends_place v S) (es r) → e ≡ put out 0 (encode r)
  unfolding encode
  put_parts b c d e eb ec ed ee =
      let fc = ec ∙ put_append out b 0 (head_length v) (head_bytes r) (cs r) (omega arith) eb (heads r) in
      let fd = ed ∙ put_append out c 0 (routes_place v S) (head_bytes r ++ cs r) (rs r) (omega arith) fc (joins r) in
      ee ∙ put_append out d 0 (sends_place v S) (head_bytes r ++ cs r ++ rs r) (es r) (omega arith) fd (leads r)
