-- Restrictions close as their rows do, and these as the tags.
use Rattle.gtd_conditional_file.proofs.CloseFacts.{some_closes}
use Rattle.gtd_conditional_file.proofs.laws.restrictions_close_as_the_tags_say.Goals as goal

pub returns : goal.returns
returns c = record {
  closes = λ how table bytes rows found file are element direction t s vehicle.
      let one = some_closes element direction t s vehicle rows found are in
      let other = c.closes_as_the_tags_say.ensures.closes how table bytes rows file element direction t s vehicle in
      ((λ h. other.0 (one.0 h)), (λ h. one.1 (other.1 h)));
}
