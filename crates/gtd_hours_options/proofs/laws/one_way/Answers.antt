-- A table has one list of days for holidays, and all else is computed from the text.
use Rattle.gtd_hours_options.proofs.BadPlaces.{one_bad_place}
use Rattle.gtd_hours_options.proofs.OneKnown as known
use Rattle.gtd_hours_options.proofs.OneOptions as timed
use Rattle.gtd_hours_options.proofs.OneWay as proof
use Rattle.gtd_hours_options.proofs.laws.one_way.Goals as goal

pub returns : goal.returns
returns c =
    let fault = c.one_first_fault.ensures in
    let text = c.one_holiday_text.ensures in
    let tokens = c.one_reading.ensures in
    let times = c.one_reading-2.ensures in
    let moments = c.one_moment_text.ensures in
    let only = c.readings_without_times.ensures in
    record {
      all = λ how.
          let options = how.options in
          let place = one_bad_place tokens.fault in
          let same = known.known_same options.known fault.fault fault.apart place text.checked text.rules text.told
          text.apart in
          let one = known.one_known_fault options.known fault.fault fault.apart place text.checked text.rules text.told
          text.apart in
          let apart = known.known_apart options.known fault.fault fault.apart place text.checked text.rules text.told
          text.apart in
          proof.one_way options
          (timed.options_same options same one apart times.tokens times.fault times.apart moments.checked moments.places
          moments.told moments.forms moments.plain (only.only options) (only.fault options))
          (timed.one_options_fault options same one apart times.tokens times.fault times.apart moments.checked moments.places
          moments.told moments.forms moments.plain (only.only options) (only.fault options))
          (timed.options_apart options same one apart times.tokens times.fault times.apart moments.checked moments.places
          moments.told moments.forms moments.plain (only.only options) (only.fault options))
          how.manner;
    }
