-- A text that is the header alone means that both files close at the same seconds, and the other way round.
use Rattle.gtd_changes.proofs.SameFacts.{agree_header, header_agrees, same_rows}
use Rattle.gtd_changes.proofs.laws.nothing_changed.Goals as goal

pub returns : goal.returns
returns c = record {
  same = λ form old new vehicle horizon lines is.
      (header_agrees old new vehicle horizon form lines is, agree_header old new vehicle horizon form lines is);
  same_rows = λ form old new vehicle horizon. same_rows old new vehicle horizon form;
}
