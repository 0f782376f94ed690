-- The spans counted are those of the element's open seconds in the year, which are its stretches there.
use Rattle.gtd_eval.specs.Cursors.{cursor_list}
use Rattle.gtd_records.specs.Closing.{IsOpen}
use Rattle.gtd_picture.proofs.CrowdFacts.{crowded_answer}
use Rattle.gtd_picture.proofs.crowd.is_open_crowded.Goals as goal

pub returns : goal.returns
returns c =
    let it = c.args.picture.now in
    record {
      crowded = crowded_answer (IsOpen c.args.found.now it.element it.direction it.vehicle) c.days_of_year.result
          (cursor_list c.in_ok-seconds.seconds) it.year c.in_ok-seconds.ensures.seconds c.days_of_year.ensures.first
          c.days_of_year.ensures.next c.has_too_many.result c.has_too_many.ensures.many;
    }
