-- The words of the options for times that texts of opening hours leave open.
use Rattle.std.specs.Prelude.{◌++◌, List, Option, option_map}
use Rattle.gtd_hours_moments.specs.declared.clocks.Clocks.{Clocks}
use Rattle.gtdesk_words.specs.ClockTexts.{IsGivenBy, event_in, open_end_in, points_in}
use Rattle.gtdesk_words.specs.Readings.{Reading, Word, if_given, word_as}
use Rattle.gtdesk_words.specs.Text.{Text}
use Rattle.gtdesk_words.specs.declared.clocks.ClockWords.{ClockWords}
use Rattle.gtdesk_words.specs.declared.refusal.WordName.{WordName}
use Rattle.gtdesk_words.specs.declared.refusal.WordName.TheVariants as name

-- The words of the six options, of which each may be left out.
pub record ClockTexts : Type 0 where
  pub open_end : Option Text
  pub points : Option Text
  pub sunrise : Option Text
  pub sunset : Option Text
  pub dawn : Option Text
  pub dusk : Option Text

abbrev pub texts_of : ClockWords → ClockTexts
texts_of words = record {
  open_end = option_map (λ s. s.now) words.open_end;
  points = option_map (λ s. s.now) words.points;
  sunrise = option_map (λ s. s.now) words.sunrise;
  sunset = option_map (λ s. s.now) words.sunset;
  dawn = option_map (λ s. s.now) words.dawn;
  dusk = option_map (λ s. s.now) words.dusk;
}

-- What each has to be, in the order in which they are read.
abbrev pub open_end_words : Option Text → List Word
open_end_words text = if_given text (λ t. word_as name.OpenEnd (Reading.open_end t))

abbrev pub points_words : Option Text → List Word
points_words text = if_given text (λ t. word_as name.Points (Reading.points t))

abbrev pub event_words : WordName → Option Text → List Word
event_words event text = if_given text (λ t. word_as event (Reading.event t))

abbrev pub clock_words : ClockTexts → List Word
clock_words texts =
    open_end_words texts.open_end
    ++ (points_words texts.points
    ++ (event_words name.Sunrise texts.sunrise
    ++ (event_words name.Sunset texts.sunset
    ++ (event_words name.Dawn texts.dawn
    ++ event_words name.Dusk texts.dusk))))

-- What the words give.
pub record AreClocks (texts : ClockTexts) (clocks : Clocks) : Type 0 where
  pub open_end : IsGivenBy open_end_in texts.open_end clocks.open_end
  pub points : IsGivenBy points_in texts.points clocks.points
  pub sunrise : IsGivenBy event_in texts.sunrise clocks.sunrise
  pub sunset : IsGivenBy event_in texts.sunset clocks.sunset
  pub dawn : IsGivenBy event_in texts.dawn clocks.dawn
  pub dusk : IsGivenBy event_in texts.dusk clocks.dusk
