-- The day before which an expression ends by its years, as it is found.
use Rattle.std.specs.Prelude.{◌<ℤ◌, ◌≤ℤ◌, ◌-ℤ◌, ◌+◌, ◌*◌, ◌/◌, ℕ, ℤ, pos, neg_ℤ, int_lt, nat_le, if◌then◌else◌}
use Rattle.std.specs.Prelude.{Option, Some, None}
use Rattle.gtd_core.specs.Limits.{horizons_end}
use Rattle.gtd_core.specs.Ranges.{lookback_of}
use Rattle.gtd_core.specs.Trees.{Tree, Single, Joined}
use Rattle.gtd_core.specs.declared.domain.Op.{Op}
use Rattle.gtd_core.specs.declared.domain.Op.TheVariants.{Union, Meet, Minus}
use Rattle.gtd_eval.specs.Membership.{InTree}
use Rattle.gtd_warnings.specs.Over.{EndsByItsYears, first_of_day, last_sure_year}

-- The day after a year, of the calendar or of weeks, and so many days more. Each fourth year is taken to be a leap year.
abbrev pub day_after_year : ℕ → ℕ → ℤ
day_after_year year days = pos (365 * year + year / 4 + days) -ℤ pos 719_159

abbrev pub basic_end : Option ℕ → ℕ → Option ℤ
basic_end None days = None
basic_end (Some year) days = if nat_le year last_sure_year then Some (day_after_year year days) else None

abbrev pub earlier : ℤ → ℤ → ℤ
earlier a b = if int_lt b a then b else a

abbrev pub later : ℤ → ℤ → ℤ
later a b = if int_lt a b then b else a

abbrev pub end_of_both : Option ℤ → Option ℤ → Option ℤ
end_of_both (Some a) (Some b) = Some (later a b)
end_of_both a b = None

abbrev pub end_of_either : Option ℤ → Option ℤ → Option ℤ
end_of_either None b = b
end_of_either (Some a) None = Some a
end_of_either (Some a) (Some b) = Some (earlier a b)

abbrev pub joined_end : Op → Option ℤ → Option ℤ → Option ℤ
joined_end Union a b = end_of_both a b
joined_end Meet a b = end_of_either a b
joined_end Minus a b = a

abbrev pub end_day : Tree → Option ℤ
end_day (Single start duration) = basic_end start.year (lookback_of duration)
end_day (Joined op left right) = joined_end op (end_day left) (end_day right)

-- the expression ends by its years, before the day
pub record IsEndedBy (tree : Tree) (day : ℤ) : Type 0 where
  pub years : EndsByItsYears tree
  pub each : (t : ℤ) → InTree tree t → t <ℤ first_of_day day
  pub early : neg_ℤ (pos 1_000_000) ≤ℤ day
  pub late : day ≤ℤ horizons_end
