-- Agreement is reflexive, symmetric and transitive second by second.
use Rattle.gtd_difference.proofs.laws.equivalence.Goals as goal

pub returns : goal.returns
returns c = record {
  reflexive = λ a t. ((λ h. h), (λ h. h));
  symmetric = λ a b h t. ((h t).1, (h t).0);
  transitive = λ a b d h k t. ((λ x. (k t).0 ((h t).0 x)), (λ x. (h t).1 ((k t).1 x)));
}
