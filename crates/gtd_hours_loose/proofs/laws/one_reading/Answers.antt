-- A text is read as it is written or by its one strict form, and each of these has one meaning or one first fault.
use Rattle.std.specs.Prelude.{◌≡◌, ◌↔◌, ℤ}
use Rattle.gtd_hours.specs.Cost.{hours_cost}
use Rattle.gtd_hours.specs.Opening.{IsOpen}
use Rattle.gtd_hours.specs.declared.hours.Hours.{Hours}
use Rattle.gtd_hours_loose.proofs.OneReading as proof
use Rattle.gtd_hours_loose.proofs.laws.one_reading.Goals as goal

pub returns-clause-open : goal.returns-clause-open
returns-clause-open c =
    proof.one_reading (λ (a b : Hours). (s : ℤ) → IsOpen a s ↔ IsOpen b s) c.one_meaning.ensures.open

pub returns-clause-cost : goal.returns-clause-cost
returns-clause-cost c = proof.one_reading (λ (a b : Hours). hours_cost a ≡ hours_cost b) c.one_meaning.ensures.cost

pub returns-clause-fault : goal.returns-clause-fault
returns-clause-fault c = proof.one_fault_in c.one_first_fault.ensures.fault c.one_first_fault.ensures.apart

pub returns-clause-apart : goal.returns-clause-apart
returns-clause-apart c = proof.apart c.one_first_fault.ensures.fault c.one_first_fault.ensures.apart
