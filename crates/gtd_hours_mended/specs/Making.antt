-- The rules of a text, each with the hours of its own text, its times and its comment.
use Rattle.std.specs.Prelude.{◌≡◌, ℕ, List, [], ◌∷◌, drop, is_some, length, take}
use Rattle.gtd_hours.specs.declared.hours.Hours.{Hours}
use Rattle.gtd_hours_grammar.specs.Faults.{IsFirstFault}
use Rattle.gtd_hours_text.specs.Standing.{StandsFor}
use Rattle.gtd_hours_moving.specs.Words.{stretch}
use Rattle.gtd_hours_holiday_rules.specs.declared.rules.HolidayRule.{HolidayRule}
use Rattle.gtd_hours_known.specs.Rules.{IsRuleFault}
use Rattle.gtd_hours_times.specs.declared.moment.TimeForm.{TimeForm}
use Rattle.gtd_hours_writing.specs.Rules.{first_times}
use Rattle.gtd_hours_writing.specs.declared.rule.MendedRule.{MendedRule}
use Rattle.gtd_hours_mended.specs.Comments.{no_comment}
use Rattle.gtd_hours_mended.specs.declared.comments.Stretch.{Stretch}
use Rattle.gtd_hours_mended.specs.declared.making.MakeStop.{MakeStop}
use Rattle.gtd_hours_mended.specs.declared.making.MakeStop.TheVariants as stop

abbrev pub first_comment : List Stretch → Stretch
first_comment [] = no_comment
first_comment (comment ∷ comments) = comment

-- how many times the rule of hours has
abbrev pub times_in : Hours → ℕ
times_in own = length (first_times own.rules.items)

-- the comment that stands there in a text
abbrev pub comment_in : List ℕ → Stretch → List ℕ
comment_in text comment = stretch text comment.from comment.to

-- The rule is that of a text, where it has this comment and the forms of times from its own on are these. In its own text a range
-- of times stands for each of its forms.
pub record IsMade (comment : List ℕ) (from : HolidayRule) (left : List TimeForm) (rule : MendedRule) : Type 0 where
  pub link : rule.link ≡ from.link
  pub led : rule.is_led ≡ from.is_led
  pub unknown : rule.is_unknown ≡ is_some from.unknown
  pub holidays : rule.holidays.items ≡ from.holidays.items
  pub order : rule.order.items ≡ from.order.items
  pub every : rule.every.items ≡ from.every.items
  pub month_items : rule.month_items.items ≡ from.month_items.items
  pub dates : rule.dates.items ≡ from.dates.items
  pub easter : rule.easter.items ≡ from.easter.items
  pub own : StandsFor from.text.items rule.own
  pub times : rule.forms.items ≡ take (times_in rule.own) left
  pub has : rule.comment.items ≡ comment

-- So are these rules, where these comments and forms are left.
abbrev pub AreMade : List ℕ → List HolidayRule → List Stretch → List TimeForm → List MendedRule → Type 0
AreMade text [] comments forms made = made ≡ []
AreMade text (from ∷ more) comments forms made =
    (rule : MendedRule) × (others : List MendedRule) × (made ≡ rule ∷ others)
    × IsMade (comment_in text (first_comment comments)) from forms rule
    × AreMade text more (drop 1 comments) (drop (times_in rule.own) forms) others

-- why it is not made
abbrev pub IsOwnStop : HolidayRule → MakeStop → Type 0
IsOwnStop from (stop.Own bad) = IsFirstFault from.text.items bad
IsOwnStop from stop.NoMemory = Unit {0}

-- Why rules are not made: the first fault of the first own text that is no hours.
abbrev pub IsMakeStop : List HolidayRule → MakeStop → Type 0
IsMakeStop found (stop.Own bad) = IsRuleFault found bad
IsMakeStop found stop.NoMemory = Unit {0}
