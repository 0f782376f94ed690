-- Answers that are remembered: whether a row closes at no second at which another does not.
use Rattle.std.specs.Prelude.{◌↔◌, ℕ, List, IsTrue, get_or, true}
use Rattle.gtd_records.specs.Closing.{Restriction}
use Rattle.gtd_repeats.specs.Sameness.{HoldsWithin, row_at}
use Rattle.gtd_repeats.specs.declared.answers.Answer.{Answer}

-- the row closes at no second from 1901-01-01 to 2699-12-31 at which the other does not
abbrev pub IsWithinSeconds : List Restriction → ℕ → ℕ → Type 0
IsWithinSeconds rows row other = HoldsWithin (row_at rows row).domain (row_at rows other).domain

abbrev pub IsRight : List Restriction → Answer → Type 0
IsRight rows answer = IsTrue answer.is_within ↔ IsWithinSeconds rows answer.row answer.other

-- each answer is right
pub record AreRight (rows : List Restriction) (answers : List Answer) : Type 0 where
  pub each : (place : ℕ) → IsRight rows (get_or answers place (record { row = 0; other = 0; is_within = true }))
