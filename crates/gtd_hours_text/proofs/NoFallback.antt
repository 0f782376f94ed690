-- No piece of a text begins a fallback rule.
use Rattle.std.proofs.Common.{◌≡◌, ℕ, Bool, false, List, [], ◌∷◌, ◌++◌, Option, refl, sym, subst}
use Rattle.gtd_hours.specs.Writable.{is_fallback}
use Rattle.gtd_hours_parts.specs.declared.piece.Offset.{Offset}
use Rattle.gtd_hours_parts.specs.declared.piece.Piece.TheVariants as piece
use Rattle.gtd_hours_parts.specs.declared.piece.WrittenDate.{WrittenDate}
use Rattle.gtd_hours_moves.specs.Grammar.{Follow, IsDates, IsMonthDays, IsPlaces, IsTimes, IsWeekdays, IsWeeks, IsYears, Listed}
use Rattle.gtd_hours_moves.specs.Grammar.{More, Text, in_full}
use Rattle.gtd_hours_moves.specs.declared.stage.Stage.TheVariants as stage
use Rattle.gtd_hours_text.proofs.WrittenTerms.{TokenKind, Piece, Stage}

abbrev pub begins_fallback : Piece → Bool
begins_fallback (piece.Rule l) = is_fallback l
begins_fallback x = false

abbrev pub NoneFallsBack : List Piece → Type 0
NoneFallsBack [] = Unit {0}
NoneFallsBack (x ∷ p) = (begins_fallback x ≡ false) × NoneFallsBack p

-- and so of the pieces behind others
pub none_behind : (q p : List Piece) → NoneFallsBack (q ++ p) → NoneFallsBack p
none_behind [] p none = none
none_behind (x ∷ q) p none = none_behind q p none.1

-- ---- what stands in lists

-- A part begins no fallback rule, if none begins behind it.
abbrev Keeps : Text → Type 0
Keeps IsOne = (p later : List Piece) (ts rest : List TokenKind) → IsOne p ts later rest → NoneFallsBack later → NoneFallsBack p

more : (IsOne : Text) → Keeps IsOne → (later : List Piece) (rest : List TokenKind) (p : List Piece) (ts : List TokenKind)
    → More IsOne later rest p ts → NoneFallsBack later → NoneFallsBack p
more IsOne keeps later rest p ts (More.none q us e f) none = subst NoneFallsBack (sym e) none
more IsOne keeps later rest p ts (More.comma o q vs us ws e one go) none =
    keeps o q us ws one (more IsOne keeps later rest q ws go none)

listed : (IsOne : Text) → Keeps IsOne → (p later : List Piece) (ts rest : List TokenKind) → Listed IsOne p ts later rest
    → NoneFallsBack later → NoneFallsBack p
listed IsOne keeps p later ts rest l none = keeps p l.q ts l.us l.one (more IsOne keeps later rest l.q l.us l.more none)

years : Keeps (IsYears in_full)
years p later ts rest (IsYears.one a e f is) none = subst NoneFallsBack (sym f) (refl, none)
years p later ts rest (IsYears.range a b e f is) none = subst NoneFallsBack (sym f) (refl, none)
years p later ts rest (IsYears.every a b c e f is step) none = subst NoneFallsBack (sym f) (refl, none)
years p later ts rest (IsYears.on a e f is) none = subst NoneFallsBack (sym f) (refl, none)
years p later ts rest (IsYears.every_on a c e f is few) none = subst NoneFallsBack (sym f) (refl, none)
years p later ts rest (IsYears.many a c d e r f is step) none = subst NoneFallsBack (sym f) none

weeks : Keeps (IsWeeks in_full)
weeks p later ts rest (IsWeeks.one a e f is) none = subst NoneFallsBack (sym f) (refl, none)
weeks p later ts rest (IsWeeks.range a b e f is) none = subst NoneFallsBack (sym f) (refl, none)
weeks p later ts rest (IsWeeks.every a b c e f is step) none = subst NoneFallsBack (sym f) (refl, none)
weeks p later ts rest (IsWeeks.back a b e f is) none = subst NoneFallsBack (sym f) (refl, (refl, none))
weeks p later ts rest (IsWeeks.back_step a b d e r f is) none = subst NoneFallsBack (sym f) none

dates : (later : List Piece) (rest : List TokenKind) (x : WrittenDate) (p : List Piece) (ts : List TokenKind)
    → IsDates in_full later rest x p ts → NoneFallsBack later → NoneFallsBack p
dates later rest x p ts (IsDates.one y last q us e f are) none = subst NoneFallsBack (sym f) (refl, none)
dates later rest x p ts (IsDates.also y last day q r us vs e f are is go) none =
    subst NoneFallsBack (sym f) (refl, dates later rest _ r vs go none)
dates later rest x p ts (IsDates.cut y year m q us b some are is e r f) none = subst NoneFallsBack (sym f) none
dates later rest x p ts (IsDates.any_day y last q us d some are is e r f) none = subst NoneFallsBack (sym f) none

month_days : Keeps (IsMonthDays in_full)
month_days p later ts rest (IsMonthDays.month m e f is) none = subst NoneFallsBack (sym f) (refl, none)
month_days p later ts rest (IsMonthDays.months m l e f is too) none = subst NoneFallsBack (sym f) (refl, none)
month_days p later ts rest (IsMonthDays.dates x us e is are) none = dates later rest x p us are none
month_days p later ts rest (IsMonthDays.of_years a b m l e f is month are) none = subst NoneFallsBack (sym f) (refl, none)
month_days p later ts rest (IsMonthDays.cut a b m d is month e r f) none = subst NoneFallsBack (sym f) none
month_days p later ts rest (IsMonthDays.any_month a b m l d is month e r f) none = subst NoneFallsBack (sym f) none

places : (k : ℕ) (o : Option Offset) → Keeps (IsPlaces k o)
places k o p later ts rest (IsPlaces.one n e f is suits) none = subst NoneFallsBack (sym f) (refl, none)
places k o p later ts rest (IsPlaces.range a b e f is suits) none = subst NoneFallsBack (sym f) (refl, none)
places k o p later ts rest (IsPlaces.back n e f is suits) none = subst NoneFallsBack (sym f) (refl, none)

weekdays : Keeps IsWeekdays
weekdays p later ts rest (IsWeekdays.one k e f is) none = subst NoneFallsBack (sym f) (refl, none)
weekdays p later ts rest (IsWeekdays.range a b e f is too) none = subst NoneFallsBack (sym f) (refl, none)
weekdays p later ts rest (IsWeekdays.places k o us e is offset l) none =
    listed (IsPlaces k o) (places k o) p (piece.PlacesEnd o ∷ later) us _ l (refl, none)

times : Keeps IsTimes
times p later ts rest t none = subst NoneFallsBack (sym t.pieces) (refl, none)

-- ---- the pieces of a text

pub none_falls_back : (s : Stage) (p : List Piece) (ts : List TokenKind) → Follow in_full s p ts → NoneFallsBack p
none_falls_back s p ts (Follow.always s' q us vs e f go) = none_falls_back stage.Always q vs go
none_falls_back s p ts (Follow.years s' o q later us rest e d f l go) =
    subst NoneFallsBack (sym f)
    (refl, listed (IsYears in_full) years q later us rest l (none_falls_back stage.Years later rest go))
none_falls_back s p ts (Follow.month_days s' o q later us rest e f l go) =
    subst NoneFallsBack (sym f)
    (refl, listed (IsMonthDays in_full) month_days q later us rest l (none_falls_back stage.MonthDays later rest go))
none_falls_back s p ts (Follow.weeks s' o q later vs us rest e d f l go) =
    subst NoneFallsBack (sym f)
    (refl, listed (IsWeeks in_full) weeks q later us rest l (none_falls_back stage.Weeks later rest go))
none_falls_back s p ts (Follow.colon s' q us vs e d f go) = none_falls_back stage.Colon q vs go
none_falls_back s p ts (Follow.weekdays s' o q later us rest e f l go) =
    subst NoneFallsBack (sym f)
    (refl, listed IsWeekdays weekdays q later us rest l (none_falls_back stage.Weekdays later rest go))
none_falls_back s p ts (Follow.times s' q later us rest e l go) =
    listed IsTimes times q later us rest l (none_falls_back stage.Times later rest go)
none_falls_back s p ts (Follow.opens s' q us vs e f go) = none_falls_back stage.Modifier q vs go
none_falls_back s p ts (Follow.closes s' o q us vs e d f go) =
    subst NoneFallsBack (sym f) (refl, none_falls_back stage.Modifier q vs go)
none_falls_back s p ts (Follow.ends s' q us e f d) = subst NoneFallsBack (sym f) (record {})
none_falls_back s p ts (Follow.instead s' o q us vs e d f go) =
    subst NoneFallsBack (sym f) (refl, none_falls_back stage.Front q vs go)
none_falls_back s p ts (Follow.also s' o q us vs e d no_more f go) =
    subst NoneFallsBack (sym f) (refl, none_falls_back stage.Front q vs go)
