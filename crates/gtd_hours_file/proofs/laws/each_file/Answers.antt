-- A file has rows or faults, because each of its texts has hours or a fault.
use Rattle.gtd_hours_file.proofs.EachFile.{each_file}
use Rattle.gtd_hours_file.proofs.laws.each_file.Goals as goal

pub returns : goal.returns
returns c = record { some = each_file }
