-- Rows are those of the elements' tags, and close as these do.
use Rattle.gtd_conditional_elements.proofs.FileFacts.{file_closes}
use Rattle.gtd_conditional_elements.proofs.laws.closes_as_the_tags_say.Goals as goal

pub returns : goal.returns
returns c = record {
  closes = λ how means bytes rows file element direction t s vehicle.
      file_closes means direction t s vehicle element how bytes rows file;
}
