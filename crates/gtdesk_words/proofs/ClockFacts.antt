-- A refusal of a word for times, behind words that all give something.
use Rattle.std.proofs.Common.{ℕ, Option}
use Rattle.gtdesk_words.specs.ClockTexts.{IsGivenBy, event_in, open_end_in, points_in}
use Rattle.gtdesk_words.specs.ClockWords.{ClockTexts, clock_words, event_words}
use Rattle.gtdesk_words.specs.Readings.{AreStopped}
use Rattle.gtdesk_words.specs.declared.refusal.WordName.TheVariants as name
use Rattle.gtdesk_words.specs.declared.refusal.WordsRefusal.{WordsRefusal}
use Rattle.gtdesk_words.specs.facts.ClockWords.{event_stands, open_end_stands, points_stand}
use Rattle.gtdesk_words.specs.facts.Readings.{stopped_behind, stopped_in_front}

module _ (t : ClockTexts) (r : WordsRefusal) (open_end points : Option ℕ)
    (open_end_is : IsGivenBy open_end_in t.open_end open_end) (points_is : IsGivenBy points_in t.points points) where
  pub at_sunrise : AreStopped (event_words name.Sunrise t.sunrise) r → AreStopped (clock_words t) r
  at_sunrise h =
      stopped_behind _ _ r (open_end_stands t.open_end open_end open_end_is)
      (stopped_behind _ _ r (points_stand t.points points points_is) (stopped_in_front _ _ r h))

  module _ (sunrise : Option ℕ) (sunrise_is : IsGivenBy event_in t.sunrise sunrise) where
    pub at_sunset : AreStopped (event_words name.Sunset t.sunset) r → AreStopped (clock_words t) r
    at_sunset h =
        stopped_behind _ _ r (open_end_stands t.open_end open_end open_end_is)
        (stopped_behind _ _ r (points_stand t.points points points_is)
        (stopped_behind _ _ r (event_stands name.Sunrise t.sunrise sunrise sunrise_is) (stopped_in_front _ _ r h)))

    module _ (sunset : Option ℕ) (sunset_is : IsGivenBy event_in t.sunset sunset) where
      pub at_dawn : AreStopped (event_words name.Dawn t.dawn) r → AreStopped (clock_words t) r
      at_dawn h =
          stopped_behind _ _ r (open_end_stands t.open_end open_end open_end_is)
          (stopped_behind _ _ r (points_stand t.points points points_is)
          (stopped_behind _ _ r (event_stands name.Sunrise t.sunrise sunrise sunrise_is)
          (stopped_behind _ _ r (event_stands name.Sunset t.sunset sunset sunset_is) (stopped_in_front _ _ r h))))

      pub at_dusk : (dawn : Option ℕ) → IsGivenBy event_in t.dawn dawn → AreStopped (event_words name.Dusk t.dusk) r
          → AreStopped (clock_words t) r
      at_dusk dawn dawn_is h =
          stopped_behind _ _ r (open_end_stands t.open_end open_end open_end_is)
          (stopped_behind _ _ r (points_stand t.points points points_is)
          (stopped_behind _ _ r (event_stands name.Sunrise t.sunrise sunrise sunrise_is)
          (stopped_behind _ _ r (event_stands name.Sunset t.sunset sunset sunset_is)
          (stopped_behind _ _ r (event_stands name.Dawn t.dawn dawn dawn_is) h))))
