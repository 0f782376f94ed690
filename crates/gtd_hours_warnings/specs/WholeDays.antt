-- The rules that say days alone, and behind which a comma begins another rule: where they begin.
use Rattle.std.specs.Prelude.{◌≡◌, ℕ, List, [], length, map}
use Rattle.gtd_hours_holiday_rules.specs.Reading.{IsHolidayText}
use Rattle.gtd_hours_holiday_rules.specs.declared.text.HolidayText.{HolidayText}
use Rattle.gtd_hours_items.specs.Comments.{IsBadPlace}
use Rattle.gtd_hours_times.specs.Tokens.{IsTimeFault}
use Rattle.gtd_hours_moments.specs.Places.{written_place}
use Rattle.gtd_hours_moments.specs.Reading.{IsMomentText}
use Rattle.gtd_hours_moments.specs.declared.placed.Placed.{Placed}
use Rattle.gtd_hours_moments.specs.declared.text.MomentText.{MomentText}

-- Where such rules begin in a text whose times are all ranges of clock times. A text that is not whole tokens has none.
pub data ArePlainDays (text : List ℕ) (places : List ℕ) : Type 0 where
  read : (found : HolidayText) → IsHolidayText text found → places ≡ found.whole_days.items → ArePlainDays text places
  unread : (bad : ℕ) → IsBadPlace text bad → places ≡ [] → ArePlainDays text places

-- Where that is written, in a text with so many bytes, for which the forms at these places stand.
abbrev pub written_places : ℕ → List Placed → List ℕ → List ℕ
written_places end forms places = map (λ place. written_place place end forms) places

-- Where such rules begin in any text. In its checked text a range of clock times stands for each form of times: they are rules of
-- that, each where it is written. A text that is not tokens has none.
pub data AreWholeDays (text : List ℕ) (places : List ℕ) : Type 0 where
  tokens : (moments : MomentText) → (plain : List ℕ) → IsMomentText text moments
      → ArePlainDays moments.checked.text.items plain
      → places ≡ written_places (length text) moments.checked.places.items plain → AreWholeDays text places
  fault : (bad : ℕ) → IsTimeFault text bad → places ≡ [] → AreWholeDays text places
