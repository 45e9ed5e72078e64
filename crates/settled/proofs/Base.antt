-- Document 01, "How tight the contracts are": of every public function of `base` that its contract settles its outcome
-- (specs/Outcomes.antt). Each statement names the function's own contract as the checker makes it. Assumes nothing.
use mathlib.Core.Path.{refl}
use Rattle.settled.specs.Outcomes.{Settles}
use Rattle.settled.proofs.Shown.{settled, same}
use Rattle.base.specs.contracts.wide as the_wide
use Rattle.base.specs.contracts.one_less as the_one_less
use Rattle.base.specs.contracts.word as the_word
use Rattle.base.specs.contracts.quad as the_quad
use Rattle.base.specs.contracts.wider as the_wider
use Rattle.base.specs.contracts.oct as the_oct

-- the contracts of these two say besides that the number is below 256, and below 65536
pub wide_settled : Settles the_wide.ended (λ M 𝓤. the_wide.clauses) (λ M 𝓤. the_wide.spec)
wide_settled = settled (λ κs a x y p q. refl) (λ κs a x y p q i. (same p.0 q.0 i, x.1))

pub wider_settled : Settles the_wider.ended (λ M 𝓤. the_wider.clauses) (λ M 𝓤. the_wider.spec)
wider_settled = settled (λ κs a x y p q. refl) (λ κs a x y p q i. (same p.0 q.0 i, x.1))

pub one_less_settled : Settles the_one_less.ended (λ M 𝓤. the_one_less.clauses) (λ M 𝓤. the_one_less.spec)
one_less_settled = settled (λ κs a x y p q. refl) (λ κs a x y p q i. (same p q i, x.1))

pub word_settled : Settles the_word.ended (λ M 𝓤. the_word.clauses) (λ M 𝓤. the_word.spec)
word_settled = settled (λ κs a x y p q. refl) (λ κs a x y p q i. (same p q i, x.1))

pub quad_settled : Settles the_quad.ended (λ M 𝓤. the_quad.clauses) (λ M 𝓤. the_quad.spec)
quad_settled = settled (λ κs a x y p q. refl) (λ κs a x y p q i. (same p q i, x.1))

pub oct_settled : Settles the_oct.ended (λ M 𝓤. the_oct.clauses) (λ M 𝓤. the_oct.spec)
oct_settled = settled (λ κs a x y p q. refl) (λ κs a x y p q i. (same p q i, x.1))
