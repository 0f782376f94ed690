-- The plain text that means what a text means: the ranges of each form, in place of the form.
use Rattle.std.specs.Prelude.{ℕ, ◌/◌, ◌%◌, Bool, true, false, List, [], ◌∷◌, ◌++◌, Option, Some, None}
use Rattle.gtd_hours.specs.Written.{two_digits}
use Rattle.gtd_hours_times.specs.declared.behind.Written.{Written}
use Rattle.gtd_hours_times.specs.declared.behind.Written.TheVariants as written
use Rattle.gtd_hours_times.specs.declared.moment.TimeForm.{TimeForm}
use Rattle.gtd_hours_times.specs.Tokens.{stretch}
use Rattle.gtd_hours_moments.specs.declared.clocks.Clocks.{Clocks}
use Rattle.gtd_hours_moments.specs.declared.parts.Part.{Part}
use Rattle.gtd_hours_moments.specs.declared.ranges.MinuteRange.{MinuteRange}
use Rattle.gtd_hours_moments.specs.Places.{Put}
use Rattle.gtd_hours_moments.specs.Ranges.{ranges}

-- A minute as `HH:MM`: the sign : is 58.
abbrev pub clock : ℕ → List ℕ
clock minute = two_digits (minute / 60 % 100) ++ 58 ∷ two_digits (minute % 60)

-- A range as `HH:MM-HH:MM`: the sign - is 45.
abbrev pub range_text : MinuteRange → List ℕ
range_text range = clock range.begin ++ 45 ∷ clock range.end

-- a comma (44) before each but the first
abbrev pub unless_first : Bool → List ℕ
unless_first true = []
unless_first false = 44 ∷ []

abbrev pub joined : Bool → List MinuteRange → List ℕ
joined first [] = []
joined first (range ∷ ranges) = (unless_first first ++ range_text range) ++ joined false ranges

-- ---- token by token

-- A token that is no part of a form stands as it is.
abbrev pub kept_at : Written → ℕ → List ℕ → List Put
kept_at written.Kept from bytes = record { from = from; form = bytes } ∷ []
kept_at w from bytes = []

abbrev pub plain_by : Option TimeForm → Clocks → List ℕ → Part → List Put
plain_by None clocks text p = kept_at p.written p.from (stretch text p.from p.to)
plain_by (Some form) clocks text p = record { from = form.from; form = joined true (ranges form clocks) } ∷ []

abbrev pub plain_at : Clocks → List ℕ → Part → List Put
plain_at clocks text p = plain_by p.whole clocks text p

abbrev pub plain_puts : Clocks → List ℕ → List Part → List Put
plain_puts clocks text [] = []
plain_puts clocks text (p ∷ ps) = plain_at clocks text p ++ plain_puts clocks text ps
