-- A row of two fields or more is not blank; one with a single field is, if that field is empty.
use Rattle.std.proofs.Common.{◌∙◌, arith}
use Rattle.csv.specs.Records.{fields_of}
use Rattle.gtd_mend.specs.Mended.{writer_of}
use Rattle.gtd_mend.proofs.PrintFacts.{blank_many, blank_none, blank_one}
use Rattle.gtd_mend.proofs.print.is_blank.Goals as goal

pub returns-then-len-gt1 : goal.returns-then-len-gt1
returns-then-len-gt1 c = record { value = blank_many (writer_of c.args.separator) (fields_of c.args.row.now) (omega arith) }

pub returns-in-Some : goal.returns-in-Some
returns-in-Some c = record {
  value = c.is_empty.ensures ∙ blank_one c.args.separator (fields_of c.args.row.now) c.in-Some.field.now (omega arith)
      c.in-Some.ensures.value;
}

pub returns-in-None : goal.returns-in-None
returns-in-None c = record {
  value = blank_none (writer_of c.args.separator) (fields_of c.args.row.now) c.in-None.ensures.value;
}
