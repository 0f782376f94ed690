-- Words that give something stand for it.
use Rattle.std.proofs.Common.{◌≡◌, ap, Option, Some, None, is_some, ℕ}
use Rattle.std.specs.Prelude.{IsSome, IsSomeAnd}
use Rattle.gtd_hours_moments.specs.declared.clocks.Clocks.{Clocks}
use Rattle.gtdesk_words.specs.ClockTexts.{IsGivenBy, event_in, open_end_in, points_in}
use Rattle.gtdesk_words.specs.ClockWords.{AreClocks, ClockTexts, clock_words, event_words, open_end_words, points_words}
use Rattle.gtdesk_words.specs.Readings.{AllStand}
use Rattle.gtdesk_words.specs.Text.{Text}
use Rattle.gtdesk_words.specs.declared.refusal.WordName.{WordName}
use Rattle.gtdesk_words.specs.facts.Readings.{both_stand}

read_some : (read given : Option ℕ) → IsSomeAnd given (λ minutes. read ≡ Some minutes) → IsSome read
read_some read None is = absurd is
read_some read (Some minutes) is = ap is_some is

pub open_end_stands : (text : Option Text) (given : Option ℕ) → IsGivenBy open_end_in text given
    → AllStand (open_end_words text)
open_end_stands None given is = tt
open_end_stands (Some text) given is = (read_some (open_end_in text) given is, tt)

pub points_stand : (text : Option Text) (given : Option ℕ) → IsGivenBy points_in text given → AllStand (points_words text)
points_stand None given is = tt
points_stand (Some text) given is = (read_some (points_in text) given is, tt)

pub event_stands : (event : WordName) (text : Option Text) (given : Option ℕ) → IsGivenBy event_in text given
    → AllStand (event_words event text)
event_stands event None given is = tt
event_stands event (Some text) given is = (read_some (event_in text) given is, tt)

pub clocks_stand : (texts : ClockTexts) (clocks : Clocks) → AreClocks texts clocks → AllStand (clock_words texts)
clocks_stand texts clocks are =
    both_stand _ _ (open_end_stands texts.open_end clocks.open_end are.open_end)
    (both_stand _ _ (points_stand texts.points clocks.points are.points)
    (both_stand _ _ (event_stands _ texts.sunrise clocks.sunrise are.sunrise)
    (both_stand _ _ (event_stands _ texts.sunset clocks.sunset are.sunset)
    (both_stand _ _ (event_stands _ texts.dawn clocks.dawn are.dawn) (event_stands _ texts.dusk clocks.dusk are.dusk)))))
