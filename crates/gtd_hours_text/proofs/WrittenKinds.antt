-- Written kinds of selectors are pieces, one kind after another.
use Rattle.std.proofs.Common.{◌≡◌, ℕ, ◌≤◌, Bool, true, false, cond, List, [], ◌∷◌, ◌++◌, refl, sym, ap, subst, ◌∙◌, append_assoc}
use Rattle.std.proofs.Common.{arith}
use Rattle.std.specs.Prelude.{◌==◌, ◌&&◌, not, nat_lt, codes, decimal}
use Rattle.std.specs.List.{list_all}
use Rattle.std.proofs.lemmas.Bool.{eqb-true, ltb-true}
use Rattle.std.proofs.lemmas.List.{append-nil}
use Rattle.gtd_hours.specs.declared.hours.Selector.{Selector}
use Rattle.gtd_hours.specs.declared.hours.Selector.TheVariants as selector
use Rattle.gtd_hours.specs.Writable.{is_month_days, is_weekdays, is_weeks, is_years}
use Rattle.gtd_hours.specs.declared.hours.Years.{Years}
use Rattle.gtd_hours.specs.declared.hours.Weeks.{Weeks}
use Rattle.gtd_hours.specs.declared.places.MovedPlace.{MovedPlace}
use Rattle.gtd_hours.specs.Written.{are_back_weeks, are_moved_alike, begun_place, begun_text, joined_text, joins, kind_text}
use Rattle.gtd_hours.specs.Written.{listed_text, more_selectors_text, moved_text, place_end, places_join, selector_text}
use Rattle.gtd_hours.specs.Written.{selectors_text}
use Rattle.gtd_hours_tokens.specs.declared.token.TokenKind.TheVariants as token
use Rattle.gtd_hours_text.proofs.WrittenTerms.{TokenKind, Piece, Stage}
use Rattle.gtd_hours_parts.specs.declared.piece.Piece.TheVariants as piece
use Rattle.gtd_hours_moves.specs.declared.stage.Stage.TheVariants as stage
use Rattle.gtd_hours_moves.specs.Grammar.{Follow, IsMonthDays, IsWeekdays, IsWeeks, IsYears, begins_with_date, in_full}
use Rattle.gtd_hours_moves.specs.Grammar.{Text, list_goes_on, precedes}
use Rattle.gtd_hours_parts.specs.declared.piece.Offset.{Offset}
use Rattle.gtd_hours_text.proofs.WrittenTokens.{Anything, Apart, IsName, Spelt, joined, loose, space_spelt, word_spelt}
use Rattle.gtd_hours_text.proofs.WrittenItems.{Contents, Item, Items, MoreItems}
use Rattle.gtd_hours_text.proofs.WrittenItems.{Says, alone, behind_comma, items, more_items, no_items, only_month_days}
use Rattle.gtd_hours_text.proofs.WrittenItems.{only_weekdays, only_weeks, only_years, plus, says_kind}
use Rattle.gtd_hours_text.proofs.WrittenSelectors.{DatelessIf, and_both, back_weeks_item, digits, last_back, not_true, weeks_item}
use Rattle.gtd_hours_text.proofs.WrittenSelectors.{years_item}
use Rattle.gtd_hours_text.proofs.WrittenDays.{back_item, dated_item, dates_item, months_item, nth_item, weekdays_item}
use Rattle.gtd_hours_text.proofs.WrittenPlaces.{MorePlaces, another, comma_text, ended, first_place, offset_of}

-- ---- one kind

-- The text is the selectors of the kind of a stage. `follows` is whether another kind follows.
pub record Group (s : Stage) (follows : Bool) (text : List ℕ) (c : Contents) : Type 0 where
  pub q : List Piece
  pub us : List TokenKind
  pub spelt : Spelt Apart text us
  pub follow : (r : Stage) (later : List Piece) (rest : List TokenKind) → precedes r s ≡ true → DatelessIf follows rest
      → Follow in_full s later rest → Follow in_full r (q ++ later) (us ++ rest)
  pub says : Says q c
  pub front : (rest : List TokenKind) → list_goes_on stage.Times (us ++ rest) ≡ false

-- a list behind one that it is not written in one with
abbrev pub behind_text : List Selector → List ℕ
behind_text [] = []
behind_text (x ∷ xs) = codes "," ++ (listed_text x xs ++ more_selectors_text x xs)

behind_one : (x : Selector) (xs : List Selector) → joins x xs ≡ false
    → more_selectors_text x xs ≡ behind_text xs
behind_one x [] e = refl
behind_one x (y ∷ ys) e =
    ap (λ (b : Bool). cond b (joined_text y ys) (codes "," ++ listed_text y ys) ++ more_selectors_text y ys) e

listed_one : (x : Selector) (xs : List Selector) → joins x xs ≡ false
    → listed_text x xs ≡ selector_text false x
listed_one x xs e = ap (λ (b : Bool). cond b (begun_text x) (selector_text false x)) e

-- one that is not written in one with those behind it, and these
apart_items : (IsOne : Text) (x : Selector) (xs : List Selector) (c d : Contents) → joins x xs ≡ false
    → Item IsOne (selector_text false x) c false → MoreItems IsOne (behind_text xs) d
    → Items IsOne (listed_text x xs ++ more_selectors_text x xs) (plus c d) false
apart_items IsOne x xs c d e i m =
    subst (λ (l : List ℕ). Items IsOne (l ++ more_selectors_text x xs) (plus c d) false) (sym (listed_one x xs e))
    (subst (λ (l : List ℕ). Items IsOne (selector_text false x ++ l) (plus c d) false) (sym (behind_one x xs e))
    (items IsOne (selector_text false x) (behind_text xs) c d false i m))

-- ---- years

more_years : (w : Years) (xs : List Selector) → list_all is_years xs ≡ true
    → MoreItems (IsYears in_full) (more_selectors_text (selector.Years w) xs) (only_years xs)
more_years w [] e = no_items (IsYears in_full)
more_years w (selector.Years x ∷ xs) e =
    more_items (IsYears in_full) (selector_text false (selector.Years x)) (more_selectors_text (selector.Years x) xs)
    (only_years (selector.Years x ∷ [])) (only_years xs) false (years_item false x).item (more_years x xs e)
more_years w (x ∷ xs) e = absurd cc

-- one by itself, or more with a comma behind the first one
pub record YearsGroup (follows : Bool) (text : List ℕ) (c : Contents) : Type 0 where
  pub items : Items (IsYears in_full) text c false
  pub dateless : (rest : List TokenKind) → DatelessIf follows rest → begins_with_date (items.us ++ rest) ≡ false

listed_years : (follows : Bool) (x : Selector) (xs : List Selector) → list_all is_years (x ∷ xs) ≡ true
    → YearsGroup follows (selectors_text follows x xs) (only_years (x ∷ xs))
unfolding alone items no_items more_items more_years
listed_years follows (selector.Years x) [] e =
    let i = years_item follows x in
    record {
      items = alone (IsYears in_full) (selector_text follows (selector.Years x)) (only_years (selector.Years x ∷ [])) false
          i.item;
      dateless = i.dateless;
    }
listed_years follows (selector.Years x) (selector.Years y ∷ xs) e =
    let i = years_item false x in
    let m = more_years x (selector.Years y ∷ xs) e in
    record {
      items = items (IsYears in_full) (selector_text false (selector.Years x))
          (more_selectors_text (selector.Years x) (selector.Years y ∷ xs))
          (only_years (selector.Years x ∷ [])) (only_years (selector.Years y ∷ xs)) false i.item m;
      dateless = λ rest d. subst (λ (l : List TokenKind). begins_with_date l ≡ false) (sym (append_assoc i.item.us m.us rest))
          (i.dateless (m.us ++ rest) (λ value count. refl));
    }
listed_years follows (selector.Years x) (y ∷ xs) e = absurd cc
listed_years follows x xs e = absurd cc

pub years_group : (follows : Bool) (x : Selector) (xs : List Selector) → list_all is_years (x ∷ xs) ≡ true
    → Group stage.Years follows (kind_text follows (x ∷ xs)) (only_years (x ∷ xs))
years_group follows (selector.Years x) xs e =
    let g = listed_years follows (selector.Years x) xs e in
    let i = g.items in
    record {
      q = piece.Kind ∷ i.q;
      us = i.us;
      spelt = i.spelt;
      follow = λ r later rest p d f. Follow.years r (piece.Kind ∷ (i.q ++ later)) (i.q ++ later) later (i.us ++ rest) rest p
          (g.dateless rest d) refl (i.listed later rest) f;
      says = says_kind i.q (only_years (selector.Years x ∷ xs)) i.says;
      front = i.front;
    }
years_group follows x xs e = absurd cc

-- ---- month days

one_month_days : (follows : Bool) (x : Selector) → is_month_days x ≡ true
    → Item (IsMonthDays in_full) (selector_text follows x) (only_month_days (x ∷ [])) false
one_month_days follows (selector.Months x) e = months_item follows x
one_month_days follows (selector.Dates x) e = dates_item follows x
one_month_days follows (selector.Dated x) e = dated_item follows x
one_month_days follows x e = absurd cc

month_days_apart : (x : Selector) (xs : List Selector) → is_month_days x ≡ true → joins x xs ≡ false
month_days_apart (selector.Months x) xs e = refl
month_days_apart (selector.Dates x) xs e = refl
month_days_apart (selector.Dated x) xs e = refl
month_days_apart x xs e = absurd cc

listed_month_days : (x : Selector) (xs : List Selector) → is_month_days x ≡ true
    → MoreItems (IsMonthDays in_full) (behind_text xs) (only_month_days xs)
    → Items (IsMonthDays in_full) (listed_text x xs ++ more_selectors_text x xs) (only_month_days (x ∷ xs)) false
listed_month_days x xs e m =
    apart_items (IsMonthDays in_full) x xs (only_month_days (x ∷ [])) (only_month_days xs) (month_days_apart x xs e)
    (one_month_days false x e) m

more_month_days : (xs : List Selector) → list_all is_month_days xs ≡ true
    → MoreItems (IsMonthDays in_full) (behind_text xs) (only_month_days xs)
more_month_days [] e = no_items (IsMonthDays in_full)
more_month_days (x ∷ xs) e =
    let both = and_both (is_month_days x) (list_all is_month_days xs) e in
    behind_comma (IsMonthDays in_full) (listed_text x xs ++ more_selectors_text x xs) (only_month_days (x ∷ xs))
    false (listed_month_days x xs both.0 (more_month_days xs both.1))

month_days_items : (follows : Bool) (x : Selector) (xs : List Selector) → list_all is_month_days (x ∷ xs) ≡ true
    → Items (IsMonthDays in_full) (selectors_text follows x xs) (only_month_days (x ∷ xs)) false
month_days_items follows x [] e =
    alone (IsMonthDays in_full) (selector_text follows x) (only_month_days (x ∷ [])) false
    (one_month_days follows x (and_both (is_month_days x) true e).0)
month_days_items follows x (y ∷ ys) e =
    let both = and_both (is_month_days x) (list_all is_month_days (y ∷ ys)) e in
    listed_month_days x (y ∷ ys) both.0 (more_month_days (y ∷ ys) both.1)

month_days_from : (follows : Bool) (text : List ℕ) (c : Contents) → Items (IsMonthDays in_full) text c false
    → Group stage.MonthDays follows text c
month_days_from follows text c i = record {
  q = piece.Kind ∷ i.q;
  us = i.us;
  spelt = i.spelt;
  follow = λ r later rest p d f. Follow.month_days r (piece.Kind ∷ (i.q ++ later)) (i.q ++ later) later (i.us ++ rest) rest p refl
      (i.listed later rest) f;
  says = says_kind i.q c i.says;
  front = i.front;
}

pub month_days_group : (follows : Bool) (x : Selector) (xs : List Selector) → list_all is_month_days (x ∷ xs) ≡ true
    → Group stage.MonthDays follows (kind_text follows (x ∷ xs)) (only_month_days (x ∷ xs))
month_days_group follows (selector.Months x) xs e =
    month_days_from follows _ _ (month_days_items follows (selector.Months x) xs e)
month_days_group follows (selector.Dates x) xs e =
    month_days_from follows _ _ (month_days_items follows (selector.Dates x) xs e)
month_days_group follows (selector.Dated x) xs e =
    month_days_from follows _ _ (month_days_items follows (selector.Dated x) xs e)
month_days_group follows x xs e = absurd cc

-- ---- weeks

-- The texts of weeks that are written in one with the next or not.
abbrev weeks_text_by : Bool → Weeks → Weeks → List Selector → List ℕ
weeks_text_by b x y ys =
    cond b (decimal x.first) (selector_text false (selector.Weeks x))
    ++ (cond b (codes "-" ++ decimal y.last) (codes "," ++ listed_text (selector.Weeks y) ys)
    ++ more_selectors_text (selector.Weeks y) ys)

weeks_by : (b : Bool) (x y : Weeks) (ys : List Selector) → are_back_weeks x y ≡ b
    → MoreItems (IsWeeks in_full) (behind_text (selector.Weeks y ∷ ys)) (only_weeks (selector.Weeks y ∷ ys))
    → MoreItems (IsWeeks in_full) (behind_text ys) (only_weeks ys)
    → Items (IsWeeks in_full) (weeks_text_by b x y ys) (only_weeks (selector.Weeks x ∷ selector.Weeks y ∷ ys)) false
weeks_by false x y ys e m n =
    items (IsWeeks in_full) (selector_text false (selector.Weeks x)) (behind_text (selector.Weeks y ∷ ys))
    (only_weeks (selector.Weeks x ∷ [])) (only_weeks (selector.Weeks y ∷ ys)) false (weeks_item false x) m
weeks_by true x y ys e m n =
    let behind = behind_one (selector.Weeks y) ys (last_back x y ys e) in
    let a : List ℕ = decimal x.first in
    let b : List ℕ = decimal y.last in
    let c : Contents = only_weeks (selector.Weeks x ∷ selector.Weeks y ∷ ys) in
    subst (λ (l : List ℕ). Items (IsWeeks in_full) (a ++ ((codes "-" ++ b) ++ l)) c false) (sym behind)
    (subst (λ (l : List ℕ). Items (IsWeeks in_full) l c false) (nested a b (behind_text ys))
    (items (IsWeeks in_full) (a ++ codes "-" ++ b) (behind_text ys)
    (only_weeks (selector.Weeks x ∷ selector.Weeks y ∷ [])) (only_weeks ys) false (back_weeks_item x y e) n))
  where
    nested : (a b m : List ℕ) → (a ++ codes "-" ++ b) ++ m ≡ a ++ ((codes "-" ++ b) ++ m)
    nested a b m = append_assoc (a ++ codes "-") b m ∙ append_assoc a (codes "-") (b ++ m)

more_weeks : (xs : List Selector) → list_all is_weeks xs ≡ true
    → MoreItems (IsWeeks in_full) (behind_text xs) (only_weeks xs)
more_weeks [] e = no_items (IsWeeks in_full)
more_weeks (selector.Weeks x ∷ []) e =
    behind_comma (IsWeeks in_full) (selector_text false (selector.Weeks x) ++ []) (only_weeks (selector.Weeks x ∷ [])) false
    (items (IsWeeks in_full) (selector_text false (selector.Weeks x)) [] (only_weeks (selector.Weeks x ∷ [])) (only_weeks [])
    false (weeks_item false x) (no_items (IsWeeks in_full)))
more_weeks (selector.Weeks x ∷ selector.Weeks y ∷ ys) e =
    behind_comma (IsWeeks in_full) (weeks_text_by (are_back_weeks x y) x y ys)
    (only_weeks (selector.Weeks x ∷ selector.Weeks y ∷ ys)) false
    (weeks_by (are_back_weeks x y) x y ys refl (more_weeks (selector.Weeks y ∷ ys) e) (more_weeks ys e))
more_weeks (selector.Weeks x ∷ y ∷ ys) e = absurd cc
more_weeks (x ∷ xs) e = absurd cc

weeks_items : (follows : Bool) (x : Weeks) (xs : List Selector) → list_all is_weeks xs ≡ true
    → Items (IsWeeks in_full) (selectors_text follows (selector.Weeks x) xs) (only_weeks (selector.Weeks x ∷ xs)) false
weeks_items follows x [] e =
    alone (IsWeeks in_full) (selector_text follows (selector.Weeks x)) (only_weeks (selector.Weeks x ∷ [])) false
    (weeks_item follows x)
weeks_items follows x (selector.Weeks y ∷ ys) e =
    weeks_by (are_back_weeks x y) x y ys refl (more_weeks (selector.Weeks y ∷ ys) e) (more_weeks ys e)
weeks_items follows x (y ∷ ys) e = absurd cc

week_word : IsName (codes "week") token.Week
week_word = record { letters = refl; word = refl }

group_spelt : (a : List ℕ) (ks : List TokenKind) → Spelt Apart a ks → Spelt Apart (codes "week " ++ a) (token.Week ∷ ks)
group_spelt a ks spelt =
    loose (codes "week ") a (token.Week ∷ []) ks
    (joined Apart Anything (codes "week") (32 ∷ []) (token.Week ∷ []) [] (word_spelt (codes "week") token.Week week_word)
    space_spelt (λ rest c. (refl, refl, refl))) spelt

pub weeks_group : (follows : Bool) (x : Selector) (xs : List Selector) → list_all is_weeks (x ∷ xs) ≡ true
    → Group stage.Weeks follows (kind_text follows (x ∷ xs)) (only_weeks (x ∷ xs))
weeks_group follows (selector.Weeks x) xs e =
    let i = weeks_items follows x xs e in
    record {
      q = piece.Kind ∷ i.q;
      us = token.Week ∷ i.us;
      spelt = group_spelt (selectors_text follows (selector.Weeks x) xs) i.us i.spelt;
      follow = λ r later rest p d f. Follow.weeks r (piece.Kind ∷ (i.q ++ later)) (i.q ++ later) later
          (token.Week ∷ (i.us ++ rest)) (i.us ++ rest) rest p refl refl (i.listed later rest) f;
      says = says_kind i.q (only_weeks (selector.Weeks x ∷ xs)) i.says;
      front = λ rest. refl;
    }
weeks_group follows x xs e = absurd cc

-- ---- weekdays

abbrev tail_text : MovedPlace → List Selector → List ℕ
tail_text x xs =
    cond (places_join x xs) [] (place_end x) ++ more_selectors_text (selector.Moved x) xs

abbrev Tails : List Selector → Type 0
Tails xs =
    (x : MovedPlace) → 1 ≤ x.days → MorePlaces x.place.weekday (offset_of x) (tail_text x xs) xs

place_ends : (x : MovedPlace) (xs : List Selector) → 1 ≤ x.days → places_join x xs ≡ false
    → MoreItems IsWeekdays (behind_text xs) (only_weekdays xs)
    → MorePlaces x.place.weekday (offset_of x) (tail_text x xs) xs
place_ends x xs some e m =
    subst (λ (b : Bool). MorePlaces x.place.weekday (offset_of x) (cond b [] (place_end x)
    ++ more_selectors_text (selector.Moved x) xs) xs) (sym e)
    (subst (λ (l : List ℕ). MorePlaces x.place.weekday (offset_of x) (place_end x ++ l) xs)
    (sym (behind_one (selector.Moved x) xs e)) (ended x some (behind_text xs) xs m))

moved_same : (x y : MovedPlace) (t : List ℕ) (xs : List Selector) → are_moved_alike x y ≡ true
    → MorePlaces y.place.weekday (offset_of y) t xs → MorePlaces x.place.weekday (offset_of x) t xs
moved_same x y t xs e m =
    let both = and_both ((x.place.weekday == y.place.weekday) && (x.days == y.days))
    (cond x.is_before y.is_before (not y.is_before)) e in
    let same = and_both (x.place.weekday == y.place.weekday) (x.days == y.days) both.0 in
    let weekday = sym (eqb-true x.place.weekday y.place.weekday same.0) in
    let days = sym (eqb-true x.days y.days same.1) in
    let before = sym (equal x.is_before y.is_before both.1) in
    subst (λ (k : ℕ). MorePlaces k (offset_of x) t xs) weekday
    (subst (λ (o : Offset). MorePlaces y.place.weekday o t xs)
    (λ i. record { is_before = before i; days = digits (days i) }) m)
  where
    equal : (a b : Bool) → cond a b (not b) ≡ true → a ≡ b
    equal true b e = sym e
    equal false b e = sym (not_true b e)

-- the text behind a place, where another weekday or place
place_goes_on : (b : Bool) (x y : MovedPlace) (ys : List Selector) → are_moved_alike x y ≡ b → 1 ≤ x.days → 1 ≤ y.days
    → MoreItems IsWeekdays (behind_text (selector.Moved y ∷ ys)) (only_weekdays (selector.Moved y ∷ ys))
    → Tails ys
    → MorePlaces x.place.weekday (offset_of x) (tail_text x (selector.Moved y ∷ ys)) (selector.Moved y ∷ ys)
place_goes_on false x y ys e some other m tails = place_ends x (selector.Moved y ∷ ys) some e m
place_goes_on true x y ys e some other m tails =
    let a : List ℕ = comma_text y.is_back ++ decimal y.place.number in
    subst (λ (b : Bool). MorePlaces x.place.weekday (offset_of x) (cond b [] (place_end x)
    ++ (cond b (a ++ cond (places_join y ys) [] (place_end y))
    (codes "," ++ listed_text (selector.Moved y) ys) ++ more_selectors_text (selector.Moved y) ys))
    (selector.Moved y ∷ ys)) (sym e)
    (subst (λ (l : List ℕ). MorePlaces x.place.weekday (offset_of x) l (selector.Moved y ∷ ys))
    (sym (append_assoc a (cond (places_join y ys) [] (place_end y)) (more_selectors_text (selector.Moved y) ys)))
    (moved_same x y (a ++ tail_text y ys) (selector.Moved y ∷ ys) e
    (another y y.is_back refl other (tail_text y ys) ys (tails y other))))

some_days : (x : MovedPlace) → nat_lt 0 x.days ≡ true → 1 ≤ x.days
some_days x e = omega (arith, ltb-true 0 x.days e)

place_tail : (x : MovedPlace) (y : Selector) (ys : List Selector) → 1 ≤ x.days → is_weekdays y ≡ true
    → MoreItems IsWeekdays (behind_text (y ∷ ys)) (only_weekdays (y ∷ ys)) → Tails ys
    → MorePlaces x.place.weekday (offset_of x) (tail_text x (y ∷ ys)) (y ∷ ys)
place_tail x (selector.Moved y) ys some e m tails =
    place_goes_on (are_moved_alike x y) x y ys refl some (some_days y e) m tails
place_tail x y ys some e m tails = place_ends x (y ∷ ys) some refl m

-- a place and those behind it, whether they are in the same brackets or not
moved_by : (b : Bool) (x : MovedPlace) (xs : List Selector) → places_join x xs ≡ b → 1 ≤ x.days → Tails xs
    → Items IsWeekdays (cond b (begun_place x.is_back x.place) (moved_text x)
    ++ more_selectors_text (selector.Moved x) xs) (only_weekdays (selector.Moved x ∷ xs)) false
moved_by true x xs e some tails =
    subst (λ (b : Bool). Items IsWeekdays (begun_place x.is_back x.place ++ (cond b [] (place_end x)
    ++ more_selectors_text (selector.Moved x) xs)) (only_weekdays (selector.Moved x ∷ xs)) false) e
    (first_place x x.is_back refl some (tail_text x xs) xs (tails x some))
moved_by false x xs e some tails =
    subst (λ (l : List ℕ). Items IsWeekdays l (only_weekdays (selector.Moved x ∷ xs)) false)
    (sym (append_assoc (begun_place x.is_back x.place) (place_end x) (more_selectors_text (selector.Moved x) xs)))
    (subst (λ (b : Bool). Items IsWeekdays (begun_place x.is_back x.place ++ (cond b [] (place_end x)
    ++ more_selectors_text (selector.Moved x) xs)) (only_weekdays (selector.Moved x ∷ xs)) false) e
    (first_place x x.is_back refl some (tail_text x xs) xs (tails x some)))

-- The list behind a comma, and behind a place in its brackets.
record BehindWeekdays (xs : List Selector) : Type 0 where
  pub more : MoreItems IsWeekdays (behind_text xs) (only_weekdays xs)
  pub tails : Tails xs

listed_weekdays : (x : Selector) (xs : List Selector) → is_weekdays x ≡ true → BehindWeekdays xs
    → Items IsWeekdays (listed_text x xs ++ more_selectors_text x xs) (only_weekdays (x ∷ xs)) false
listed_weekdays (selector.Moved x) xs e b =
    moved_by (places_join x xs) x xs refl (some_days x e) b.tails
listed_weekdays (selector.Weekdays x) xs e b =
    apart_items IsWeekdays (selector.Weekdays x) xs (only_weekdays (selector.Weekdays x ∷ [])) (only_weekdays xs) refl
    (weekdays_item false x) b.more
listed_weekdays (selector.Nth x) xs e b =
    apart_items IsWeekdays (selector.Nth x) xs (only_weekdays (selector.Nth x ∷ [])) (only_weekdays xs) refl
    (nth_item false x) b.more
listed_weekdays (selector.NthBack x) xs e b =
    apart_items IsWeekdays (selector.NthBack x) xs (only_weekdays (selector.NthBack x ∷ [])) (only_weekdays xs) refl
    (back_item false x) b.more
listed_weekdays x xs e b = absurd cc

behind_weekdays : (xs : List Selector) → list_all is_weekdays xs ≡ true → BehindWeekdays xs
behind_weekdays [] e = record {
  more = no_items IsWeekdays;
  tails = λ x some. place_ends x [] some refl (no_items IsWeekdays);
}
behind_weekdays (x ∷ xs) e =
    let both = and_both (is_weekdays x) (list_all is_weekdays xs) e in
    let b = behind_weekdays xs both.1 in
    let more = behind_comma IsWeekdays (listed_text x xs ++ more_selectors_text x xs) (only_weekdays (x ∷ xs))
    false (listed_weekdays x xs both.0 b) in
    record {
      more = more;
      tails = λ y some. place_tail y x xs some both.0 more b.tails;
    }

weekdays_items : (follows : Bool) (x : Selector) (xs : List Selector) → list_all is_weekdays (x ∷ xs) ≡ true
    → Items IsWeekdays (selectors_text follows x xs) (only_weekdays (x ∷ xs)) false
weekdays_items follows (selector.Weekdays x) [] e =
    alone IsWeekdays (selector_text follows (selector.Weekdays x)) (only_weekdays (selector.Weekdays x ∷ [])) false
    (weekdays_item follows x)
weekdays_items follows (selector.Nth x) [] e =
    alone IsWeekdays (selector_text follows (selector.Nth x)) (only_weekdays (selector.Nth x ∷ [])) false (nth_item follows x)
weekdays_items follows (selector.NthBack x) [] e =
    alone IsWeekdays (selector_text follows (selector.NthBack x)) (only_weekdays (selector.NthBack x ∷ [])) false
    (back_item follows x)
weekdays_items follows (selector.Moved x) [] e =
    let both = and_both (is_weekdays (selector.Moved x)) true e in
    subst (λ (l : List ℕ). Items IsWeekdays l (only_weekdays (selector.Moved x ∷ [])) false) (append-nil (moved_text x))
    (listed_weekdays (selector.Moved x) [] both.0 (behind_weekdays [] refl))
weekdays_items follows x [] e = absurd cc
weekdays_items follows x (y ∷ ys) e =
    let both = and_both (is_weekdays x) (list_all is_weekdays (y ∷ ys)) e in
    listed_weekdays x (y ∷ ys) both.0 (behind_weekdays (y ∷ ys) both.1)

weekdays_from : (follows : Bool) (text : List ℕ) (c : Contents) → Items IsWeekdays text c false
    → Group stage.Weekdays follows text c
weekdays_from follows text c i = record {
  q = piece.Kind ∷ i.q;
  us = i.us;
  spelt = i.spelt;
  follow = λ r later rest p d f. Follow.weekdays r (piece.Kind ∷ (i.q ++ later)) (i.q ++ later) later (i.us ++ rest) rest p refl
      (i.listed later rest) f;
  says = says_kind i.q c i.says;
  front = i.front;
}

pub weekdays_group : (follows : Bool) (x : Selector) (xs : List Selector) → list_all is_weekdays (x ∷ xs) ≡ true
    → Group stage.Weekdays follows (kind_text follows (x ∷ xs)) (only_weekdays (x ∷ xs))
weekdays_group follows (selector.Weekdays x) xs e =
    weekdays_from follows _ _ (weekdays_items follows (selector.Weekdays x) xs e)
weekdays_group follows (selector.Nth x) xs e =
    weekdays_from follows _ _ (weekdays_items follows (selector.Nth x) xs e)
weekdays_group follows (selector.NthBack x) xs e =
    weekdays_from follows _ _ (weekdays_items follows (selector.NthBack x) xs e)
weekdays_group follows (selector.Moved x) xs e =
    weekdays_from follows _ _ (weekdays_items follows (selector.Moved x) xs e)
weekdays_group follows x xs e = absurd cc
