-- Lemmas on rules with days of holidays, on the days that their selectors have, and on the rules of a text.
pub mod DayFacts
pub mod JoiningLemmas
pub mod RuleFacts
pub mod ReadingFacts
pub mod MatchFacts
pub mod NeedFacts
pub mod PlainReadings
pub mod GivenFacts
pub mod SaidDays
pub mod SaidRules
pub mod OneDays
pub mod EasterFacts
pub mod UntilLemmas
