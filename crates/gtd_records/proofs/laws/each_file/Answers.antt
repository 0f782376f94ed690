-- Each text of a domain is read to a tree or a fault, so each row is, and so each file.
use Rattle.gtd_records.proofs.EachFile.{each_file}
use Rattle.gtd_records.specs.facts.FileForms.{file_of}
use Rattle.gtd_records.proofs.laws.each_file.Goals as goal

pub returns : goal.returns
returns c = record {
  some = λ bytes. let a = each_file c.each_text.ensures.some bytes in (a.0, file_of bytes a.0 a.1);
}
