-- An expression that is a clock alone has its range of times, and one that ends on a later day is found as late.
use Rattle.gtd_hours_search.proofs.FormLemmas.{some, weaker}
use Rattle.gtd_hours_search.proofs.times.single_time.Goals as goal

pub returns-in-Leaf-clause-found : goal.returns-in-Leaf-clause-found
returns-in-Leaf-clause-found c = rw c.in-Leaf.is (λ clock. some c.time_of.result _ (c.time_of.ensures clock.0 clock.1))

pub returns-in-Leaf-clause-late : goal.returns-in-Leaf-clause-late
returns-in-Leaf-clause-late c =
    rw c.in-Leaf.is (λ clock. weaker c.time_of.result _ _ (λ x h. h.2.1 clock.2) (c.time_of.ensures clock.0 clock.1))
