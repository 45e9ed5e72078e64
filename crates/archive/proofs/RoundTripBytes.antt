-- write_read: writing a read archive gives back the same bytes. Assumes nothing but that bytes are below 256.
use mathlib.Core.Path.{◌≡◌, refl, sym, ◌∙◌, subst}
use mathlib.Core.Bool.{Bool, true, false, cond}
use mathlib.Core.List.{List, [], ◌∷◌, ◌++◌}
use Prim.Native.Nat.{ℕ, ◌+◌, ◌*◌}
use native.Mathlib.Omega.{arith}
use lib.Dec.{eqb}
use lib.ListN.{length}
use Rattle.base.specs.Sizes.{port_count}
use Rattle.base.specs.Over.{over_below}
use Rattle.types.specs.declared.StoredSend.{StoredSend}
use Rattle.model.specs.Types.{send_d}
use Rattle.model.specs.Network.{no_channels, no_routes}
use Rattle.model.specs.Runs.{body_refusal, no_sends}
use Rattle.format.specs.Format.{Bytes, at, word, quad, word_bytes, quad_bytes, channel_part, send_bytes, start_with}
use Rattle.format.specs.Format.{fields_with, encode, length_of}
use Rattle.format.specs.Format.{edition_place, sites_place, tries_place, depth_place, seed_place, draws_place, count_place}
use Rattle.format.specs.Format.{channel_place, routes_place, sends_place, send_width}
use Rattle.format.specs.Format.{edition_of, channel_in, send_of, version_of, sites_of, count_of, run_of}
use Rattle.format.specs.Refusals.{read_refusal}
use Rattle.faults.specs.Head.{Head}
use Rattle.faults.proofs.HeadLaws.{head_passes}
use Rattle.archive.proofs.Holds.{Holds, holds_byte, holds_none, holds_both, holds_all}
use Rattle.archive.proofs.Values.{word_fits, quad_fits, word_held, quad_held, channel_held, send_held}
use Rattle.archive.proofs.Parts.{Held, held_by, length_encode}

module _ (b : List ℕ) (w : Bytes b) where
  -- ---- the head

  start_held : (size : ℕ) → size ≡ word b 0
      → Holds b 0 (start_with (version_of b) (edition_of (version_of b) (at b edition_place)) size)
  start_held size e = go (eqb (version_of b) 1)
    where
      front : Holds b 0 (word_bytes size ++ (version_of b ∷ []))
      front =
          holds_both b 0 2 (word_bytes size) (version_of b ∷ []) refl
          (word_held b w 0 size (omega (arith, e, word_fits b w 0))) (holds_byte b 2 (version_of b) refl)

      go : (t : Bool)
          → Holds b 0 (word_bytes size ++ (version_of b ∷ []) ++ cond t [] (cond t 1 (at b edition_place) ∷ []))
      go true = holds_both b 0 3 (word_bytes size ++ (version_of b ∷ [])) [] refl front (holds_none b 3)
      go false =
          holds_both b 0 3 (word_bytes size ++ (version_of b ∷ [])) (at b edition_place ∷ []) refl front
          (holds_byte b 3 (at b edition_place) refl)

  fields_held : (v : ℕ)
      → Holds b (sites_place v)
      (fields_with (at b (sites_place v)) (at b (tries_place v)) (at b (depth_place v)) (quad b (seed_place v))
      (word b (draws_place v)) (at b (count_place v)))
  fields_held v =
      let p = sites_place v in
      let sizes = at b p ∷ at b (tries_place v) ∷ at b (depth_place v) ∷ [] in
      let seed = quad_bytes (quad b (seed_place v)) in
      let draws = word_bytes (word b (draws_place v)) in
      let N = at b (count_place v) in
      let three =
      holds_both b p (depth_place v) (at b p ∷ at b (tries_place v) ∷ []) (at b (depth_place v) ∷ []) (omega arith)
      (holds_both b p (tries_place v) (at b p ∷ []) (at b (tries_place v) ∷ []) (omega arith)
      (holds_byte b p (at b p) refl) (holds_byte b (tries_place v) (at b (tries_place v)) refl))
      (holds_byte b (depth_place v) (at b (depth_place v)) refl) in
      holds_both b p (count_place v) (sizes ++ seed ++ draws) (N ∷ []) (omega arith)
      (holds_both b p (draws_place v) (sizes ++ seed) draws (omega arith)
      (holds_both b p (seed_place v) sizes seed (omega arith) three
      (quad_held b w (seed_place v) (quad b (seed_place v)) (omega (arith, quad_fits b w (seed_place v)))))
      (word_held b w (draws_place v) (word b (draws_place v)) (omega (arith, word_fits b w (draws_place v)))))
      (holds_byte b (count_place v) N refl)

-- ---- all parts

module _ (b : List ℕ) (w : Bytes b) (h : Head b) where
  abbrev v : ℕ
  v = version_of b

  abbrev S : ℕ
  S = sites_of b

  held : Held b (run_of b)
  unfolding run_of
  held =
      record {
        start = start_held b w _ (sym h.size ∙ sym h.field);
        fields = fields_held b w v;
        channels = λ c l.
            subst (λ (x : ℕ). Holds b (channel_place v c) (channel_part v x))
            (sym
            (over_below (λ c. channel_in v b (channel_place v c)) (port_count * S) no_channels c 0 l
            (omega (arith, h.few))))
            (channel_held b w v (channel_place v c));
        routes = λ k l.
            let p = routes_place v S + 2 * k in
            subst (λ (x : ℕ). Holds b p (word_bytes x))
            (sym (over_below (λ k. word b (routes_place v S + 2 * k)) (S * S) no_routes k 0 l (omega (arith, h.square))))
            (word_held b w p (word b p) (omega (arith, word_fits b w p)));
        sends = λ k l.
            subst (λ (x : StoredSend). Holds b (sends_place v S + send_width v * k) (send_bytes v x))
            (sym
            (over_below (λ k. send_of v b (sends_place v S + send_width v * k)) (count_of b) no_sends k send_d l
            (omega (arith, w (count_place v)))))
            (send_held b v (sends_place v S + send_width v * k) w);
      }

  long : length_of (run_of b) ≡ length b
  unfolding run_of
  long = sym h.size

  back : encode (run_of b) ≡ b
  back = holds_all b (encode (run_of b)) (length_encode (run_of b) ∙ long) (held_by (run_of b) b held)

-- what the reader accepts, the writer gives back
pub write_read : (b : List ℕ) → Bytes b → read_refusal b ≡ 0 → encode (run_of b) ≡ b
unfolding read_refusal
write_read b w e = back b w (head_passes b (body_refusal (run_of b)) e).0
