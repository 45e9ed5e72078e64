-- Document 01, "How tight the contracts are": of every public function of `sets` that its contract settles its outcome
-- (specs/Outcomes.antt). Each statement names the function's own contract as the checker makes it. Assumes nothing.
use mathlib.Core.Path.{refl}
use Rattle.settled.specs.Outcomes.{Settles}
use Rattle.settled.proofs.Shown.{settled, same}
use Rattle.sets.specs.contracts.member as the_member
use Rattle.sets.specs.contracts.only as the_only
use Rattle.sets.specs.contracts.with as the_with
use Rattle.sets.specs.contracts.without as the_without
use Rattle.sets.specs.contracts.size as the_size
use Rattle.sets.specs.contracts.is_single as the_is_single
use Rattle.sets.specs.contracts.lowest as the_lowest
use Rattle.sets.specs.contracts.within as the_within
use Rattle.sets.specs.contracts.is_targets as the_is_targets

pub member_settled : Settles the_member.ended (λ M 𝓤. the_member.clauses) (λ M 𝓤. the_member.spec)
member_settled = settled (λ κs a x y p q. refl) (λ κs a x y p q i. (same p q i, x.1))

pub only_settled : Settles the_only.ended (λ M 𝓤. the_only.clauses) (λ M 𝓤. the_only.spec)
only_settled = settled (λ κs a x y p q. refl) (λ κs a x y p q i. (same p q i, x.1))

pub with_settled : Settles the_with.ended (λ M 𝓤. the_with.clauses) (λ M 𝓤. the_with.spec)
with_settled = settled (λ κs a x y p q. refl) (λ κs a x y p q i. (same p q i, x.1))

pub without_settled : Settles the_without.ended (λ M 𝓤. the_without.clauses) (λ M 𝓤. the_without.spec)
without_settled = settled (λ κs a x y p q. refl) (λ κs a x y p q i. (same p q i, x.1))

pub size_settled : Settles the_size.ended (λ M 𝓤. the_size.clauses) (λ M 𝓤. the_size.spec)
size_settled = settled (λ κs a x y p q. refl) (λ κs a x y p q i. (same p q i, x.1))

pub is_single_settled : Settles the_is_single.ended (λ M 𝓤. the_is_single.clauses) (λ M 𝓤. the_is_single.spec)
is_single_settled = settled (λ κs a x y p q. refl) (λ κs a x y p q i. (same p q i, x.1))

pub lowest_settled : Settles the_lowest.ended (λ M 𝓤. the_lowest.clauses) (λ M 𝓤. the_lowest.spec)
lowest_settled = settled (λ κs a x y p q. refl) (λ κs a x y p q i. (same p q i, x.1))

pub within_settled : Settles the_within.ended (λ M 𝓤. the_within.clauses) (λ M 𝓤. the_within.spec)
within_settled = settled (λ κs a x y p q. refl) (λ κs a x y p q i. (same p q i, x.1))

pub is_targets_settled : Settles the_is_targets.ended (λ M 𝓤. the_is_targets.clauses) (λ M 𝓤. the_is_targets.spec)
is_targets_settled = settled (λ κs a x y p q. refl) (λ κs a x y p q i. (same p q i, x.1))
