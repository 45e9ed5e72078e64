-- "Room beyond S sites or N sends belongs to no network or run: it is not looked at, and the reader leaves it zero": the
-- writer answers and writes the same of a run and of the run with that room at zero, and a run that was read has it at
-- zero. Assumes nothing.
use mathlib.Core.Path.{◌≡◌, refl, ap, ap₂}
use mathlib.Core.Bool.{Bool, true, false, cond}
use mathlib.Core.List.{List, [], ◌∷◌, ◌++◌}
use Prim.Native.Nat.{ℕ, zero, suc, ◌+◌, ◌*◌, ◌<◌}
use native.Mathlib.Omega.{arith}
use borrow.Author.Tests.{eqb-true}
use lib.Dec.{eqb, ltb}
use lib.ListN.{length, get_or}
use Rattle.base.specs.Sizes.{port_count}
use Rattle.base.specs.Bools.{either_way}
use Rattle.base.specs.Over.{over}
use Rattle.types.specs.declared.Run.{Run}
use Rattle.model.specs.Types.{send_d, send_at}
use Rattle.model.specs.Network.{no_channels, no_routes, trimmed_network}
use Rattle.model.specs.Runs.{stored_refusal, no_sends, trimmed}
use Rattle.theorems.proofs.Trimmed.{channels_kept, routes_kept, send_kept, trimmed_stored}
use Rattle.format.specs.Format.{at, word, word_bytes, channel_part, send_bytes, each, head_bytes, channel_bytes, route_bytes}
use Rattle.format.specs.Format.{sends_bytes}
use Rattle.format.specs.Format.{channel_place, routes_place, sends_place, send_width, channel_in, send_of, version_of, sites_of}
use Rattle.format.specs.Format.{count_of}
use Rattle.format.specs.Format.{length_of, encode, run_of, no_run}
use Rattle.format.specs.Refusals.{read_refusal, decode, write_refusal, write_answer, written}
use Rattle.archive.proofs.Passed.{stored_passes}

-- ---- the writer

each_same : (f g : ℕ → List ℕ) (n : ℕ) → ((i : ℕ) → i < n → f i ≡ g i) → each f n ≡ each g n
unfolding each
each_same f g zero h = refl
each_same f g (suc n) h = ap₂ ◌++◌ (each_same f g n (λ i l. h i (omega arith))) (h n (omega arith))

module _ (r : Run) where
  trimmed_write : (room : ℕ) → write_refusal (trimmed r) room ≡ write_refusal r room
  unfolding write_refusal trimmed trimmed_network
  trimmed_write room = rw (trimmed_stored r) refl

  pub trimmed_answer : (room : ℕ) → write_answer (trimmed r) room ≡ write_answer r room
  unfolding write_answer trimmed trimmed_network
  trimmed_answer room = rw (trimmed_write room) refl

  pub trimmed_encode : stored_refusal r ≡ 0 → encode (trimmed r) ≡ encode r
  unfolding encode head_bytes channel_bytes route_bytes sends_bytes trimmed trimmed_network
  trimmed_encode h =
      let n = r.network in
      let v = n.version in
      let few = (stored_passes r h).fit.few in
      rw (
        each_same (λ c. channel_part v (at (trimmed_network n).channels c)) (λ c. channel_part v (at n.channels c))
            (port_count * n.sites) (λ c l. ap (channel_part v) (channels_kept n few c l)),
        each_same (λ k. word_bytes (at (trimmed_network n).routes k)) (λ k. word_bytes (at n.routes k))
            (n.sites * n.sites) (λ k l. ap word_bytes (routes_kept n few k l)),
        each_same (λ k. send_bytes v (send_at (trimmed r) k)) (λ k. send_bytes v (send_at r k)) r.count
            (λ k l. ap (send_bytes v) (send_kept r (stored_passes r h).fit.count k l)),
      ) refl

  write_stored : (room : ℕ) → write_refusal r room ≡ 0 → stored_refusal r ≡ 0
  unfolding write_refusal
  write_stored room h = go (eqb (stored_refusal r) 0) refl h
    where
      go : (b : Bool) → eqb (stored_refusal r) 0 ≡ b → cond b (cond (ltb room (length_of r)) 14 0) (stored_refusal r) ≡ 0
          → stored_refusal r ≡ 0
      go true e k = eqb-true (stored_refusal r) 0 e
      go false e k = k

  pub trimmed_written : (out : List ℕ) → written (trimmed r) out ≡ written r out
  unfolding written
  trimmed_written out =
      let f = write_refusal r (length out) in
      rw (trimmed_write (length out))
      (either_way (eqb f 0)
      (λ e. rw (e, trimmed_encode (write_stored (length out) (eqb-true f 0 e))) refl) (λ e. rw e refl))

-- ---- the reader

over_again : {A : Type 0} (f : ℕ → A) (k : ℕ) (xs : List A) (d : A)
    → over (λ m. get_or (over f k xs) m d) k xs ≡ over f k xs
unfolding over
over_again f zero xs d = refl
over_again f (suc k) [] d = refl
over_again f (suc k) (x ∷ xs) d = ap (◌∷◌ (f zero)) (over_again (λ i. f (suc i)) k xs d)

none_trimmed : trimmed no_run ≡ no_run
unfolding trimmed trimmed_network over
none_trimmed = refl

module _ (b : List ℕ) where
  pub run_trimmed : trimmed (run_of b) ≡ run_of b
  unfolding trimmed trimmed_network run_of
  run_trimmed =
      let v = version_of b in
      let S = sites_of b in
      rw (
        over_again (λ c. channel_in v b (channel_place v c)) (port_count * S) no_channels 0,
        over_again (λ k. word b (routes_place v S + 2 * k)) (S * S) no_routes 0,
        over_again (λ k. send_of v b (sends_place v S + send_width v * k)) (count_of b) no_sends send_d,
      ) refl

  -- a run that was read, and the all-zero run that a refusal hands back
  pub read_trimmed : trimmed (decode b).run ≡ (decode b).run
  unfolding decode
  read_trimmed = either_way (eqb (read_refusal b) 0) (λ e. rw e run_trimmed) (λ e. rw e none_trimmed)
