-- The head of an archive: what bytes that pass its tests are known by, one law for each way through them, and the
-- reader's refusal by the head's and what follows it. Assumes nothing.
use mathlib.Core.Path.{◌≡◌, refl, sym, ap, ◌∙◌}
use mathlib.Core.Bool.{Bool, true, false, cond}
use mathlib.Core.List.{List}
use Prim.Native.Nat.{ℕ, ◌+◌, ◌≤◌, ◌<◌}
use native.Mathlib.Nat.{mul-le-mul}
use native.Mathlib.Omega.{arith}
use borrow.Author.Tests.{leb-true, eqb-true, eqb-false, eq-eqb, ne_eqb, le-leb, lt-leb}
use lib.Dec.{eqb, leb}
use lib.ListN.{length}
use Rattle.base.specs.Sizes.{sites_most, queue_room}
use Rattle.base.specs.Bools.{both, first_of, second_of}
use Rattle.types.specs.declared.Network.{Network}
use Rattle.model.specs.Network.{version_ok, edition_ok, sites_in, sizes_ok}
use Rattle.model.specs.Runs.{body_refusal}
use Rattle.checks.specs.Network.{kind_in, sizes_in}
use Rattle.checks.proofs.NetworkLaws.{kind_then_lem, sizes_few}
use Rattle.format.specs.Format.{at, word, quad, edition_place, sites_place, tries_place, depth_place, seed_place, count_place}
use Rattle.format.specs.Format.{length_with, length_of, edition_of, version_of, sites_of, count_of, network_of, run_of}
use Rattle.format.specs.Refusals.{least_length, length_ok, size_ok, fields_then, head_then, read_refusal}
use Rattle.faults.specs.Head.{Head}
use Rattle.faults.proofs.Versions.{head_within}

-- ---- what a head that passed is known by

sites_some : (n : Network) → sizes_ok n ≡ true → 1 ≤ n.sites
sites_some n h =
    let a = both _ (leb n.depth queue_room) h in
    let b = both _ (leb 1 n.depth) a.0 in
    let c = both _ (leb 1 n.tries) b.0 in
    leb-true 1 n.sites (both (leb 1 n.sites) (leb n.sites (sites_in n.version)) c.0).0

sites_passed : (b : List ℕ) → sizes_ok (network_of b) ≡ true → (1 ≤ sites_of b) × (sites_of b ≤ sites_most)
unfolding network_of
sites_passed b h = (sites_some (network_of b) h, (sizes_few (network_of b) h).0)

-- the run's seed, length and network, by the bytes
pub seed_of : (b : List ℕ) → (run_of b).seed ≡ quad b (seed_place (version_of b))
unfolding run_of
seed_of b = refl

pub length_of_lem : (b : List ℕ) → length_of (run_of b) ≡ length_with (version_of b) (sites_of b) (count_of b)
unfolding run_of
length_of_lem b = refl

pub network_of_lem : (b : List ℕ) → (run_of b).network ≡ network_of b
unfolding run_of network_of
network_of_lem b = refl

-- what the tests say makes it
pub head_from : (b : List ℕ) → word b 0 ≡ length b → version_ok (network_of b) ≡ true → edition_ok (network_of b) ≡ true
    → sizes_ok (network_of b) ≡ true → (quad b (seed_place (version_of b)) ≡ 0 → ⊥)
    → length b ≡ length_with (version_of b) (sites_of b) (count_of b) → Head b
head_from b field known edition sizes seed size =
    let s = sites_passed b sizes in
    record {
      enough = omega (arith, size, head_within (version_of b) (sites_of b) (count_of b));
      field = field;
      known = known;
      edition = edition;
      sizes = sizes;
      some = s.0;
      few = s.1;
      square = mul-le-mul s.1 s.1;
      seed = seed;
      size = size;
    }

-- 1 to 5 and 17 are not given
pub head_passes : (b : List ℕ) (rest : ℕ) → head_then b rest ≡ 0 → Head b × (rest ≡ 0)
unfolding head_then
head_passes b rest h =
    let n = network_of b in
    let a = first_of (length_ok b) _ 1 0 (λ e. omega arith) h in
    let v = first_of (version_ok n) _ 2 0 (λ e. omega arith) a.1 in
    let k = first_of (edition_ok n) _ 17 0 (λ e. omega arith) v.1 in
    let s = first_of (sizes_ok n) _ 3 0 (λ e. omega arith) k.1 in
    let x = second_of (eqb (run_of b).seed 0) 4 _ 0 (λ e. omega arith) s.1 in
    let z = first_of (size_ok b) rest 5 0 (λ e. omega arith) x.1 in
    let w = both (leb least_length (length b)) (eqb (word b 0) (length b)) a.0 in (
      head_from b (eqb-true _ _ w.1) v.0 k.0 s.0
          (λ e. eqb-false _ _ x.0 (seed_of b ∙ e))
          (eqb-true _ _ z.0 ∙ length_of_lem b),
      z.1,
    )

-- ---- one law for each way through the tests

module _ (b : List ℕ) where
  length_good : least_length ≤ length b → word b 0 ≡ length b → length_ok b ≡ true
  length_good a f = rw (le-leb least_length (length b) a, eq-eqb (word b 0) (length b) f) refl

  pub head_short : length b < least_length → 1 ≡ head_then b 0
  unfolding head_then
  head_short a = rw (lt-leb least_length (length b) a) refl

  pub head_field : least_length ≤ length b → (word b 0 ≡ length b → ⊥) → 1 ≡ head_then b 0
  unfolding head_then
  head_field a f = rw (le-leb least_length (length b) a, ne_eqb (word b 0) (length b) f) refl

  -- k is what the test of version and edition answered
  module _ (a : least_length ≤ length b) (f : word b 0 ≡ length b) (k : ℕ)
      (ek : k ≡ kind_in (version_of b) (edition_of (version_of b) (at b edition_place))) where
    head_kinds : (rest : ℕ) → head_then b rest ≡ cond (eqb k 0) (fields_then b rest) k
    unfolding head_then network_of
    head_kinds rest = rw (length_good a f) (kind_then_lem (network_of b) k (fields_then b rest) ek)

    pub head_kind : (k ≡ 0 → ⊥) → k ≡ head_then b 0
    head_kind h = sym (head_kinds 0 ∙ ap (λ (t : Bool). cond t (fields_then b 0) k) (ne_eqb k 0 h))

    pub head_fields : (g : ℕ) → k ≡ 0 → g ≡ fields_then b 0 → g ≡ head_then b 0
    head_fields g h e = e ∙ sym (head_kinds 0 ∙ ap (λ (t : Bool). cond t (fields_then b 0) k) (eq-eqb k 0 h))

-- ---- behind version and edition: what the code reads from place p on, where S stands

module _ (b : List ℕ) (v p : ℕ) (ev : v ≡ version_of b) (ep : p ≡ sites_place v) where
  field_place : (k w : ℕ) → w ≡ sites_place (version_of b) + k → p + k ≡ w
  field_place k w e = let q : p ≡ sites_place (version_of b) = ep ∙ ap sites_place ev in omega arith

  field_at : (k w : ℕ) → w ≡ sites_place (version_of b) + k → at b (p + k) ≡ at b w
  field_at k w e = ap (at b) (field_place k w e)

  sites_at : at b p ≡ sites_of b
  sites_at = ap (at b) (ep ∙ ap sites_place ev)

  -- the test of S, T and D answered r
  pub sizes_read : (s d : ℕ) (r : Bool) → s ≡ at b p → d ≡ at b (p + 2) → r ≡ sizes_in v s (at b (p + 1)) d
      → r ≡ sizes_ok (network_of b)
  unfolding network_of
  sizes_read s d r es ed er =
      let version = version_of b in
      er
      ∙ ap (λ (x : ℕ). sizes_in x s (at b (p + 1)) d) ev
      ∙ ap (λ (x : ℕ). sizes_in version x (at b (p + 1)) d) (es ∙ sites_at)
      ∙ ap (λ (x : ℕ). sizes_in version (sites_of b) x d) (field_at 1 (tries_place version) (omega arith))
      ∙ ap (λ (x : ℕ). sizes_in version (sites_of b) (at b (tries_place version)) x)
      (ed ∙ field_at 2 (depth_place version) (omega arith))

  pub seed_read : (x : ℕ) → x ≡ quad b (p + 3) → x ≡ (run_of b).seed
  seed_read x e = e ∙ ap (quad b) (field_place 3 (seed_place (version_of b)) (omega arith)) ∙ sym (seed_of b)

  -- the length that S and N make; bytes that end before N are fewer than that
  pub size_read : (x : ℕ) → x ≡ length_with v (at b p) (at b (p + 9)) → eqb (length b) x ≡ size_ok b
  size_read x e =
      let version = version_of b in
      ap (eqb (length b))
      (e
      ∙ ap (λ (w : ℕ). length_with w (at b p) (at b (p + 9))) ev
      ∙ ap (λ (w : ℕ). length_with version w (at b (p + 9))) sites_at
      ∙ ap (λ (w : ℕ). length_with version (sites_of b) w) (field_at 9 (count_place version) (omega arith))
      ∙ sym (length_of_lem b))

  pub size_short : length b ≤ p + 9 → false ≡ size_ok b
  size_short l =
      let q = field_place 9 (count_place (version_of b)) (omega arith) in
      let long = head_within (version_of b) (sites_of b) (count_of b) in
      sym (ne_eqb (length b) (length_of (run_of b)) (λ e. omega (arith, e ∙ length_of_lem b)))

-- the ways through them
module _ (b : List ℕ) where
  pub fields_sizes : sizes_ok (network_of b) ≡ false → 3 ≡ fields_then b 0
  fields_sizes s = rw s refl

  pub fields_seed : sizes_ok (network_of b) ≡ true → (run_of b).seed ≡ 0 → 4 ≡ fields_then b 0
  fields_seed s x = rw (s, eq-eqb (run_of b).seed 0 x) refl

  pub fields_size : (rest : ℕ) (t : Bool) → sizes_ok (network_of b) ≡ true → ((run_of b).seed ≡ 0 → ⊥) → size_ok b ≡ t
      → cond t rest 5 ≡ fields_then b rest
  fields_size rest t s x z = rw (s, ne_eqb (run_of b).seed 0 x, z) refl

-- ---- the head, and what follows it

-- of bytes whose head passes what follows decides
pub head_by : (b : List ℕ) (rest : ℕ) → Head b → head_then b rest ≡ rest
unfolding head_then
head_by b rest h =
    rw (
      length_good b (omega (arith, h.enough)) h.field,
      h.known,
      h.edition,
      h.sizes,
      ne_eqb (run_of b).seed 0 (λ e. h.seed (sym (seed_of b) ∙ e)),
      eq-eqb (length b) (length_of (run_of b)) (h.size ∙ sym (length_of_lem b)),
    ) refl

-- the tests of the head alone decide, or what follows
pub head_then_lem : (b : List ℕ) (rest : ℕ) → head_then b rest ≡ cond (eqb (head_then b 0) 0) rest (head_then b 0)
unfolding head_then
head_then_lem b rest = go (length_ok b) (version_ok n) (edition_ok n) (sizes_ok n) (eqb (run_of b).seed 0) (size_ok b)
  where
    n : Network
    n = network_of b

    go : (a v k s x z : Bool)
        → cond a (cond v (cond k (cond s (cond x 4 (cond z rest 5)) 3) 17) 2) 1
        ≡ cond (eqb (cond a (cond v (cond k (cond s (cond x 4 (cond z 0 5)) 3) 17) 2) 1) 0) rest
        (cond a (cond v (cond k (cond s (cond x 4 (cond z 0 5)) 3) 17) 2) 1)
    go false v k s x z = refl
    go true false k s x z = refl
    go true true false s x z = refl
    go true true true false x z = refl
    go true true true true true z = refl
    go true true true true false false = refl
    go true true true true false true = refl

-- ---- the reader's refusal: the head's, or the body's behind a head that passed

pub read_head : (b : List ℕ) (f : ℕ) → f ≡ head_then b 0 → (f ≡ 0 → ⊥) → f ≡ read_refusal b
unfolding read_refusal
read_head b f e h = sym (head_then_lem b (body_refusal (run_of b)) ∙ (rw (← e, ne_eqb f 0 h) refl))

pub read_body : (b : List ℕ) (f g : ℕ) → f ≡ head_then b 0 → f ≡ 0 → g ≡ body_refusal (run_of b) → g ≡ read_refusal b
unfolding read_refusal
read_body b f g e h eg = sym (head_then_lem b (body_refusal (run_of b)) ∙ (rw (← e, eq-eqb f 0 h) (sym eg)))

-- of an archive the head passes
pub read_passes : (b : List ℕ) → read_refusal b ≡ 0 → Head b
unfolding read_refusal
read_passes b h = (head_passes b (body_refusal (run_of b)) h).0
