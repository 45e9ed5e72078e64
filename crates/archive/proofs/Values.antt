-- A number, a channel, a set and a send where they stand in bytes: `..-read` is what is read there, `..-held` that the
-- bytes of what was read are there, `..-fits` how large it is. Assumes nothing but, for the last two, that bytes are
-- below 256.
use mathlib.Core.Path.{◌≡◌, refl, sym, ap, ◌∙◌, subst}
use mathlib.Core.Logic.{◌⊎◌, ⊎_elim}
use mathlib.Core.Bool.{Bool, true, false, cond}
use mathlib.Core.List.{List, [], ◌∷◌, ◌++◌}
use Prim.Native.Nat.{ℕ, ◌+◌, ◌/◌, ◌%◌, ◌<◌}
use native.Mathlib.Omega.{arith}
use borrow.Author.Tests.{eq-eqb, ne_eqb, eqb-true}
use lib.Dec.{eqb}
use Rattle.base.specs.Sizes.{no_channel}
use Rattle.base.specs.Bools.{either_way}
use Rattle.types.specs.declared.StoredSend.{StoredSend}
use Rattle.format.specs.Format.{Bytes, at, word, quad, oct, word_bytes, quad_bytes, oct_bytes, channel_part, set_part}
use Rattle.format.specs.Format.{send_bytes}
use Rattle.format.specs.Format.{channel_in, set_in, send_of}
use Rattle.archive.specs.Code.{Narrow}
use Rattle.archive.proofs.Numbers.{quad_halves, two, four, eight, of_two, of_four, of_eight}
use Rattle.archive.proofs.Holds.{Holds, holds_byte, byte_at, holds_both, holds_left, holds_right}

-- ---- numbers of two, four and eight bytes

module _ (b : List ℕ) where
  pub word_read : (p x : ℕ) → Holds b p (word_bytes x) → word b p ≡ x % 65536
  word_read p x h =
      two x (at b p) (at b (p + 1)) (ap (at b) (omega arith) ∙ h 0 (omega arith)) (h 1 (omega arith))

  pub quad_read : (p x : ℕ) → Holds b p (quad_bytes x) → quad b p ≡ x % 4294967296
  quad_read p x h =
      let k = subst (Holds b p) (quad_halves x) h in
      let hx = word_bytes (x / 65536) in
      four x (word b p) (word b (p + 2))
      (word_read p (x / 65536) (holds_left b p (p + 2) hx (word_bytes x) refl k))
      (word_read (p + 2) x (holds_right b p (p + 2) hx (word_bytes x) refl k))

  pub oct_read : (p x : ℕ) → Holds b p (oct_bytes x) → oct b p ≡ x % 18446744073709551616
  oct_read p x h =
      let hx = quad_bytes (x / 4294967296) in
      eight x (quad b p) (quad b (p + 4))
      (quad_read p (x / 4294967296) (holds_left b p (p + 4) hx (quad_bytes x) refl h))
      (quad_read (p + 4) x (holds_right b p (p + 4) hx (quad_bytes x) refl h))

module _ (b : List ℕ) (w : Bytes b) where
  pub word_fits : (p : ℕ) → word b p < 65536
  word_fits p = omega (arith, w p, w (p + 1))

  pub quad_fits : (p : ℕ) → quad b p < 4294967296
  quad_fits p = omega (arith, word_fits p, word_fits (p + 2))

  pub oct_fits : (p : ℕ) → oct b p < 18446744073709551616
  oct_fits p = omega (arith, quad_fits p, quad_fits (p + 4))

  pub word_held : (p x : ℕ) → x % 65536 ≡ word b p → Holds b p (word_bytes x)
  word_held p x e =
      let k = of_two x (at b p) (at b (p + 1)) (w p) (w (p + 1)) e in
      holds_both b p (p + 1) (x / 256 % 256 ∷ []) (x % 256 ∷ []) refl
      (holds_byte b p (x / 256 % 256) k.0) (holds_byte b (p + 1) (x % 256) k.1)

  pub quad_held : (p x : ℕ) → x % 4294967296 ≡ quad b p → Holds b p (quad_bytes x)
  quad_held p x e =
      let k = of_four x (word b p) (word b (p + 2)) (word_fits p) (word_fits (p + 2)) e in
      subst (Holds b p) (sym (quad_halves x))
      (holds_both b p (p + 2) (word_bytes (x / 65536)) (word_bytes x) refl
      (word_held p (x / 65536) k.0) (word_held (p + 2) x k.1))

  pub oct_held : (p x : ℕ) → x % 18446744073709551616 ≡ oct b p → Holds b p (oct_bytes x)
  oct_held p x e =
      let k = of_eight x (quad b p) (quad b (p + 4)) (quad_fits p) (quad_fits (p + 4)) e in
      holds_both b p (p + 4) (quad_bytes (x / 4294967296)) (quad_bytes x) refl
      (quad_held p (x / 4294967296) k.0) (quad_held (p + 4) x k.1)

-- ---- a channel

-- the byte of a channel in version 1, and the channel of a byte
abbrev byte_of : ℕ → ℕ
byte_of x = cond (eqb x no_channel) 255 x

abbrev of_byte : ℕ → ℕ
of_byte x = cond (eqb x 255) no_channel x

byte_back : (x : ℕ) → (x ≡ no_channel) ⊎ (x < 255) → of_byte (byte_of x) ≡ x
byte_back x h =
    ⊎_elim (λ e. rw (eq-eqb x no_channel e) (sym e))
    (λ l. rw (ne_eqb x no_channel (λ e. omega arith), ne_eqb x 255 (λ e. omega arith)) refl) h

back_byte : (x : ℕ) → x < 256 → x ≡ byte_of (of_byte x)
back_byte x h =
    either_way (eqb x 255) (λ e. rw e (eqb-true x 255 e)) (λ e. rw (e, ne_eqb x no_channel (λ q. omega arith)) refl)

pub channel_read : (b : List ℕ) (v p x : ℕ) → x < 65536 → Narrow v x → Holds b p (channel_part v x) → channel_in v b p ≡ x
channel_read b v p x f n = go (eqb v 1) refl
  where
    go : (t : Bool) → eqb v 1 ≡ t → Holds b p (cond t (byte_of x ∷ []) (word_bytes x))
        → cond t (of_byte (at b p)) (word b p) ≡ x
    go true e h = ap of_byte (byte_at b p (byte_of x) h) ∙ byte_back x (n (eqb-true v 1 e))
    go false e h = word_read b p x h ∙ omega arith

pub channel_held : (b : List ℕ) → Bytes b → (v p : ℕ) → Holds b p (channel_part v (channel_in v b p))
channel_held b w v p = go (eqb v 1)
  where
    go : (t : Bool)
        → (let x = cond t (of_byte (at b p)) (word b p) in Holds b p (cond t (byte_of x ∷ []) (word_bytes x)))
    go true = holds_byte b p (byte_of (of_byte (at b p))) (back_byte (at b p) (w p))
    go false = word_held b w p (word b p) (omega (arith, word_fits b w p))

-- ---- a set

pub set_read : (b : List ℕ) (v p X : ℕ) → X < 18446744073709551616 → (v ≡ 1 → X < 65536)
    → Holds b p (set_part v X) → set_in v b p ≡ X
set_read b v p X f n = go (eqb v 1) refl
  where
    go : (t : Bool) → eqb v 1 ≡ t → Holds b p (cond t (word_bytes X) (oct_bytes X)) → cond t (word b p) (oct b p) ≡ X
    go true e h = word_read b p X h ∙ omega (arith, n (eqb-true v 1 e))
    go false e h = oct_read b p X h ∙ omega arith

pub set_held : (b : List ℕ) → Bytes b → (v p : ℕ) → Holds b p (set_part v (set_in v b p))
set_held b w v p = go (eqb v 1)
  where
    go : (t : Bool) → (let X = cond t (word b p) (oct b p) in Holds b p (cond t (word_bytes X) (oct_bytes X)))
    go true = word_held b w p (word b p) (omega (arith, word_fits b w p))
    go false = oct_held b w p (oct b p) (omega (arith, oct_fits b w p))

pub set_fits : (b : List ℕ) → Bytes b → (v p : ℕ) → set_in v b p < 18446744073709551616
set_fits b w v p = go (eqb v 1)
  where
    go : (t : Bool) → cond t (word b p) (oct b p) < 18446744073709551616
    go true = omega (arith, word_fits b w p)
    go false = oct_fits b w p

pub channel_fits : (b : List ℕ) → Bytes b → (v p : ℕ) → channel_in v b p < 65536
channel_fits b w v p = go (eqb v 1) (eqb (at b p) 255)
  where
    go : (t u : Bool) → cond t (cond u no_channel (at b p)) (word b p) < 65536
    go true true = omega arith
    go true false = omega (arith, w p)
    go false u = word_fits b w p

-- ---- a send

send_is : (e : StoredSend) (a b c : ℕ) → a ≡ e.set → b ≡ e.draw → c ≡ e.site
    → ◌≡◌ {A = StoredSend} (record { set = a; draw = b; site = c }) e
send_is e a b c p q t = simp (p, q, t)

module _ (b : List ℕ) (v p : ℕ) where
  pub send_read : (e : StoredSend) → e.draw < 65536 → e.set < 18446744073709551616 → (v ≡ 1 → e.set < 65536)
      → Holds b p (send_bytes v e) → send_of v b p ≡ e
  send_read e hd hs hn h =
      let front = word_bytes e.draw ++ (e.site ∷ []) in
      let k = holds_left b p (p + 3) front (set_part v e.set) refl h in
      send_is e _ _ _
      (set_read b v (p + 3) e.set hs hn (holds_right b p (p + 3) front (set_part v e.set) refl h))
      (word_read b p e.draw (holds_left b p (p + 2) (word_bytes e.draw) (e.site ∷ []) refl k) ∙ omega arith)
      (byte_at b (p + 2) e.site (holds_right b p (p + 2) (word_bytes e.draw) (e.site ∷ []) refl k))

  pub send_held : Bytes b → Holds b p (send_bytes v (send_of v b p))
  send_held w =
      let e = send_of v b p in
      holds_both b p (p + 3) (word_bytes e.draw ++ (e.site ∷ [])) (set_part v e.set) refl
      (holds_both b p (p + 2) (word_bytes e.draw) (e.site ∷ []) refl
      (word_held b w p e.draw (omega (arith, word_fits b w p))) (holds_byte b (p + 2) e.site refl))
      (set_held b w v (p + 3))
