-- Case by case the texts handed over are the line of that fault.
use Rattle.gtd_tool.proofs.refusal.put_records_fault.Goals as goal

pub returns-in-FieldCount-clause-line : goal.returns-in-FieldCount-clause-line
returns-in-FieldCount-clause-line g c = rw (c.in-FieldCount.is) c.put_row_fault.ensures.line

pub returns-in-FieldCount-clause-part : goal.returns-in-FieldCount-clause-part
returns-in-FieldCount-clause-part g c = rw (c.in-FieldCount.is) c.put_row_fault.ensures.part

pub returns-in-Element-clause-line : goal.returns-in-Element-clause-line
returns-in-Element-clause-line g c = rw (c.in-Element.is) c.put_row_fault-in-Element.ensures.line

pub returns-in-Element-clause-part : goal.returns-in-Element-clause-part
returns-in-Element-clause-part g c = rw (c.in-Element.is) c.put_row_fault-in-Element.ensures.part

pub returns-in-Direction-clause-line : goal.returns-in-Direction-clause-line
returns-in-Direction-clause-line g c = rw (c.in-Direction.is) c.put_row_fault-in-Direction.ensures.line

pub returns-in-Direction-clause-part : goal.returns-in-Direction-clause-part
returns-in-Direction-clause-part g c = rw (c.in-Direction.is) c.put_row_fault-in-Direction.ensures.part

pub returns-in-Vehicle-clause-line : goal.returns-in-Vehicle-clause-line
returns-in-Vehicle-clause-line g c = rw (c.in-Vehicle.is) c.put_row_fault-in-Vehicle.ensures.line

pub returns-in-Vehicle-clause-part : goal.returns-in-Vehicle-clause-part
returns-in-Vehicle-clause-part g c = rw (c.in-Vehicle.is) c.put_row_fault-in-Vehicle.ensures.part
