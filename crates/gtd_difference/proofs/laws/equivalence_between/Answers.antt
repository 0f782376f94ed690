-- Agreement at each second between the two is reflexive, symmetric and transitive.
use Rattle.gtd_difference.proofs.laws.equivalence_between.Goals as goal

pub returns : goal.returns
returns c = record {
  reflexive = λ a from until t late early. ((λ h. h), (λ h. h));
  symmetric = λ a b from until h t late early. ((h t late early).1, (h t late early).0);
  transitive = λ a b d from until h k t late early. (
    (λ x. (k t late early).0 ((h t late early).0 x)),
    (λ x. (h t late early).1 ((k t late early).1 x)),
  );
}
