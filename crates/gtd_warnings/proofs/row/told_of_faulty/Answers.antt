-- A row whose domain has a fault stands for no domain, so nothing is told of one.
use Rattle.std.proofs.Common.{None}
use Rattle.csv.specs.Records.{fields_of}
use Rattle.gtd_warnings.proofs.ReadFacts.{none_read}
use Rattle.gtd_warnings.proofs.row.told_of_faulty.Goals as goal

pub returns-in-Domain-clause-told : goal.returns-in-Domain-clause-told
returns-in-Domain-clause-told c = λ version is. (
  None,
  none_read version c.args.number c.in-Domain.row (fields_of c.args.row.now) c.in-Domain.fault (rw (c.in-Domain.is) at is),
  c.new.ensures.items,
)
