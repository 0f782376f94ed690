-- A rule that is being read.
use Rattle.std.specs.Prelude.{◌≡◌, true, List, [], ◌∷◌, ◌++◌}
use Rattle.std.specs.List.{filter}
use Rattle.gtd_hours.specs.declared.hours.Link.{Link}
use Rattle.gtd_hours.specs.declared.hours.Link.TheVariants as link
use Rattle.gtd_hours.specs.declared.hours.Rule.{Rule}
use Rattle.gtd_hours.specs.declared.hours.Selector.{Selector}
use Rattle.gtd_hours_parts.specs.declared.piece.Piece.{Piece}
use Rattle.gtd_hours_parts.specs.declared.piece.Piece.TheVariants as piece
use Rattle.gtd_hours_text.specs.declared.draft.Draft.{Draft}
use Rattle.gtd_hours_text.specs.declared.builder.Building.{Building}
use Rattle.gtd_hours_text.specs.Standing.{AllSelectors, AllTimes, AllWeekdays, AreMoved, offset_in}
use Rattle.gtd_hours_text.specs.Standing.{IsRule, is_closed, is_one_rule, names_month_days, names_times}
use Rattle.gtd_hours_text.specs.Standing.{names_weekdays, names_weeks, names_years}

-- The pieces are these weekdays, and behind them others, which an offset behind the pieces moves.
abbrev pub AreWeekdays : List Piece → List Selector → List Selector → Type 0
AreWeekdays p weekdays unmoved =
    (rest : List Piece) (xs ys : List Selector) → AreMoved (offset_in rest) unmoved xs → AllWeekdays rest ys
    → AllWeekdays (p ++ rest) (weekdays ++ (xs ++ ys))

-- The draft holds what the pieces are.
pub record IsDraft (p : List Piece) (draft : Draft) : Type 0 where
  pub years : AllSelectors (filter names_years p) draft.years.items
  pub month_days : AllSelectors (filter names_month_days p) draft.month_days.items
  pub weeks : AllSelectors (filter names_weeks p) draft.weeks.items
  pub weekdays : AreWeekdays (filter names_weekdays p) draft.weekdays.items draft.unmoved.items
  pub times : AllTimes (filter names_times p) draft.times.items
  pub closed : draft.closed ≡ is_closed p
  pub one : is_one_rule p ≡ true

-- One piece more: what the first draft holds of pieces, the second holds of them and this one.
pub record IsAdded (draft : Draft) (x : Piece) (then : Draft) : Type 0 where
  pub holds : (p : List Piece) → IsDraft p draft → IsDraft (p ++ x ∷ []) then
  pub link : then.link ≡ draft.link

-- The pieces are rules, the first of which has one link, and then, behind another link, pieces of a rule that is being read.
pub data Drafted : Link → List Piece → List Rule → Link → List Piece → Type 0 where
  here : (l k : Link) → (p r : List Piece) → (rules : List Rule) → rules ≡ [] → l ≡ k → p ≡ r → is_one_rule r ≡ true
      → Drafted l p rules k r
  more : (l next k : Link) → (p q rest r : List Piece) → (rule : Rule) → (rules all : List Rule)
      → p ≡ q ++ piece.Rule next ∷ rest → is_one_rule q ≡ true → IsRule l q rule → all ≡ rule ∷ rules
      → Drafted next rest rules k r → Drafted l p all k r

-- The rules and the draft are what has been read.
pub record IsBuilding (p : List Piece) (so_far : Building) : Type 0 where
  pub here : List Piece
  pub rules : Drafted link.Instead p so_far.rules.items so_far.draft.link here
  pub draft : IsDraft here so_far.draft

-- One piece more.
abbrev pub Builds : Building → Piece → Building → Type 0
Builds so_far x then = (p : List Piece) → IsBuilding p so_far → IsBuilding (p ++ x ∷ []) then
