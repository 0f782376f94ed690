-- Written selectors are pieces.
use Rattle.std.proofs.Common.{◌≡◌, ℕ, ◌≤◌, Bool, true, false, cond, List, [], ◌∷◌, ◌++◌, length}
use Rattle.std.proofs.Common.{Option, Some, None, refl, sym, subst, arith}
use Rattle.std.proofs.Common.{◌+◌, ◌*◌, ap}
use Rattle.std.specs.Prelude.{◌==◌, ◌&&◌, nat_lt, not, codes, decimal}
use Rattle.std.proofs.lemmas.Bool.{eqb-true, ltb-true, ne_eqb}
use Rattle.gtd_hours.specs.declared.hours.Selector.{Selector}
use Rattle.gtd_hours.specs.declared.hours.Selector.TheVariants as selector
use Rattle.gtd_hours.specs.declared.hours.Years.{Years}
use Rattle.gtd_hours.specs.declared.hours.Weeks.{Weeks}
use Rattle.gtd_hours.specs.Written.{are_back_weeks, four_digits, go_on, selector_text, step_text, weeks_join}
use Rattle.gtd_hours_tokens.specs.declared.token.TokenKind.TheVariants as token
use Rattle.gtd_hours_parts.specs.declared.digits.Digits.{Digits}
use Rattle.gtd_hours_parts.specs.Numbers.{IsDayNumber, IsPlaceNumber, IsStepNumber, IsWeekNumber, IsYearNumber, step_of}
use Rattle.gtd_hours_text.proofs.WrittenTerms.{TokenKind, Piece}
use Rattle.gtd_hours_parts.specs.declared.piece.Piece.TheVariants as piece
use Rattle.gtd_hours_parts.specs.Pieces.{IsRange, final_week, final_year, week_one}
use Rattle.gtd_hours_moves.specs.Grammar.{IsWeeks, IsYears, begins_with_date, in_full}
use Rattle.gtd_hours_text.specs.Standing.{AreSelectors}
use Rattle.gtd_hours_text.proofs.WrittenTokens.{Anything, Apart, decimal_spelt, joined, sign_spelt, tight}
use Rattle.gtd_hours_text.proofs.WrittenParts.{dashed, length_of_decimal, ranged, slashed, step_kinds}
use Rattle.gtd_hours_text.proofs.WrittenParts.{year_spelt}
use Rattle.gtd_hours_text.proofs.WrittenItems.{Item, Says, no_selectors, no_weekdays, one_piece, says_joined, says_of}
use Rattle.gtd_hours_text.proofs.WrittenItems.{only_weeks, only_years}

-- ---- numbers

abbrev pub year_digits : ℕ → Digits
year_digits n = record { value = n; count = 4 }

abbrev pub digits : ℕ → Digits
digits n = record { value = n; count = length (decimal n) }

abbrev step_digits : Bool → ℕ → Option Digits
step_digits b step = cond b None (Some (digits step))

step_is : (step : ℕ) (b : Bool) → (step == 1) ≡ b → step ≡ step_of (step_digits b step)
step_is step true e = eqb-true step 1 e
step_is step false e = refl

is_step : (step : ℕ) → 1 ≤ step → step ≤ 9999 → IsStepNumber (digits step)
is_step step low high =
    let l = length_of_decimal 4 step (omega arith) (omega (arith, high)) high in
    (l.0, l.1, low, high)

is_week : (n : ℕ) → 1 ≤ n → n ≤ 53 → IsWeekNumber (digits n)
is_week n low high =
    let l = length_of_decimal 2 n (omega arith) (omega (arith, high)) (omega (arith, high)) in
    (l.0, l.1, low, high)

pub is_day : (n : ℕ) → 1 ≤ n → n ≤ 31 → IsDayNumber (digits n)
is_day n low high =
    let l = length_of_decimal 2 n (omega arith) (omega (arith, high)) (omega (arith, high)) in
    (l.0, l.1, low, high)

pub is_place : (n : ℕ) → 1 ≤ n → n ≤ 5 → IsPlaceNumber (digits n)
is_place n low high =
    let l = length_of_decimal 1 n (omega arith) (omega (arith, high)) (omega (arith, high)) in
    (omega (arith, l.0, l.1), low, high)

-- ---- what each piece says

says_years : (a : Digits) (b d : Option Digits) (xs : List Selector) → AreSelectors (piece.Years a b d) xs
    → Says (piece.Years a b d ∷ []) (only_years xs)
says_years a b d xs are =
    says_of (piece.Years a b d ∷ []) (only_years xs) (one_piece (piece.Years a b d) xs are) no_selectors no_selectors
    no_weekdays (record {}) refl refl

says_weeks : (a : Digits) (b d : Option Digits) (xs : List Selector) → AreSelectors (piece.Weeks a b d) xs
    → Says (piece.Weeks a b d ∷ []) (only_weeks xs)
says_weeks a b d xs are =
    says_of (piece.Weeks a b d ∷ []) (only_weeks xs) no_selectors no_selectors (one_piece (piece.Weeks a b d) xs are)
    no_weekdays (record {}) refl refl

-- ---- years

-- What follows a year is not a month with a day.
abbrev pub Dateless : List TokenKind → Type 0
Dateless rest = (value count : ℕ) → begins_with_date (token.Number value count ∷ rest) ≡ false

abbrev pub DatelessIf : Bool → List TokenKind → Type 0
DatelessIf true rest = Unit {0}
DatelessIf false rest = Dateless rest

pub record YearsItem (follows : Bool) (text : List ℕ) (x : Years) : Type 0 where
  pub item : Item (IsYears in_full) text (only_years (selector.Years x ∷ [])) false
  pub dateless : (rest : List TokenKind) → DatelessIf follows rest → begins_with_date (item.us ++ rest) ≡ false

is_year : (n : ℕ) → 1800 ≤ n → n ≤ 2799 → IsYearNumber (year_digits n)
is_year n low high = (refl, low, high)

years_one : (follows : Bool) (x : Years) → x.first ≡ x.last → x.step ≡ 1 → follows ≡ false
    → YearsItem follows (four_digits x.first) x
years_one follows x e f g =
    let r = x.in_range in
    let high : x.first ≤ 2799 = omega (arith, r.1, r.2) in
    record {
      item = record {
        p = piece.Years (year_digits x.first) None None ∷ [];
        us = token.Number x.first 4 ∷ [];
        spelt = year_spelt x.first (omega (arith, high));
        one = λ later rest. IsYears.one (year_digits x.first) refl refl (is_year x.first r.0 high);
        says = says_years (year_digits x.first) None None (selector.Years x ∷ []) (refl, sym e, f);
        front = λ rest. refl;
      };
      dateless = λ rest d. (subst (λ (b : Bool). DatelessIf b rest) g d) x.first 4;
    }

range_of_years : (first last step : ℕ) (b : Bool) (later : List Piece) (rest : List TokenKind)
    → IsRange IsYearNumber (year_digits first) (year_digits last) → IsStepNumber (digits step)
    → IsYears in_full (piece.Years (year_digits first) (Some (year_digits last)) (step_digits b step) ∷ later)
    (token.Number first 4 ∷ token.Dash ∷ token.Number last 4
    ∷ (cond b [] (token.Slash ∷ token.Number step (length (decimal step)) ∷ []) ++ rest)) later rest
range_of_years first last step true later rest r s = IsYears.range (year_digits first) (year_digits last) refl refl r
range_of_years first last step false later rest r s =
    IsYears.every (year_digits first) (year_digits last) (digits step) refl refl r s

years_range : (follows : Bool) (x : Years)
    → YearsItem follows (four_digits x.first ++ codes "-" ++ four_digits x.last ++ step_text x.step) x
years_range follows x =
    let r = x.in_range in
    let first = is_year x.first r.0 (omega (arith, r.1, r.2)) in
    let last = is_year x.last (omega (arith, r.0, r.1)) r.2 in
    record {
      item = record {
        p = piece.Years (year_digits x.first) (Some (year_digits x.last)) (step_digits (x.step == 1) x.step) ∷ [];
        us = token.Number x.first 4 ∷ token.Dash ∷ token.Number x.last 4 ∷ step_kinds x.step;
        spelt = ranged (four_digits x.first) (four_digits x.last) x.step (token.Number x.first 4 ∷ [])
            (token.Number x.last 4 ∷ [])
            r.4 (year_spelt x.first (omega (arith, r.1, r.2))) (year_spelt x.last (omega (arith, r.2)));
        one = λ later rest. range_of_years x.first x.last x.step (x.step == 1) later rest (first, last, r.1)
            (is_step x.step r.3 r.4);
        says = says_years (year_digits x.first) (Some (year_digits x.last)) (step_digits (x.step == 1) x.step)
            (selector.Years x ∷ []) (refl, refl, step_is x.step (x.step == 1) refl);
        front = λ rest. refl;
      };
      dateless = λ rest d. refl;
    }

pub and_both : (a b : Bool) → (a && b) ≡ true → (a ≡ true) × (b ≡ true)
and_both true true e = (refl, refl)
and_both true false e = absurd cc
and_both false b e = absurd cc

pub not_true : (b : Bool) → not b ≡ true → b ≡ false
not_true true e = absurd cc
not_true false e = refl

-- years that go on to the last one of the calendar
years_on : (follows : Bool) (x : Years) (b : Bool) → (x.step == 1) ≡ b → x.last ≡ 2799
    → cond b (nat_lt x.first 2799) (nat_lt 2799 (x.first + 128 * x.step)) ≡ true
    → YearsItem follows (four_digits x.first ++ cond b (codes "+") (cond b [] (codes "/" ++ decimal x.step))) x
years_on follows x true e last few =
    let r = x.in_range in
    let high : x.first ≤ 2799 = omega (arith, r.1, r.2) in
    record {
      item = record {
        p = piece.Years (year_digits x.first) (Some final_year) None ∷ [];
        us = token.Number x.first 4 ∷ token.Plus ∷ [];
        spelt = tight (four_digits x.first ++ 43 ∷ []) (token.Number x.first 4 ∷ token.Plus ∷ [])
            (joined Apart Anything (four_digits x.first) (43 ∷ []) (token.Number x.first 4 ∷ []) (token.Plus ∷ [])
            (year_spelt x.first (omega (arith, high))) (sign_spelt 43 token.Plus refl) (λ rest c. (refl, refl, refl)));
        one = λ later rest. IsYears.on (year_digits x.first) refl refl (is_year x.first r.0 high);
        says = says_years (year_digits x.first) (Some final_year) None (selector.Years x ∷ []) (refl, last, eqb-true x.step 1 e);
        front = λ rest. refl;
      };
      dateless = λ rest d. refl;
    }
years_on follows x false e last few =
    let r = x.in_range in
    let high : x.first ≤ 2799 = omega (arith, r.1, r.2) in
    record {
      item = record {
        p = piece.Years (year_digits x.first) (Some final_year) (Some (digits x.step)) ∷ [];
        us = token.Number x.first 4 ∷ token.Slash ∷ token.Number x.step (length (decimal x.step)) ∷ [];
        spelt = slashed (four_digits x.first) (decimal x.step) (token.Number x.first 4 ∷ [])
            (token.Number x.step (length (decimal x.step)) ∷ []) (year_spelt x.first (omega (arith, high)))
            (decimal_spelt x.step r.4);
        one = λ later rest. IsYears.every_on (year_digits x.first) (digits x.step) refl refl (is_year x.first r.0 high)
            (is_step x.step r.3 r.4, ltb-true 2799 (x.first + 128 * x.step) few);
        says = says_years (year_digits x.first) (Some final_year) (Some (digits x.step)) (selector.Years x ∷ [])
            (refl, last, refl);
        front = λ rest. refl;
      };
      dateless = λ rest d. refl;
    }

years_from : (follows : Bool) (x : Years) (b : Bool) → go_on x.first x.last x.step ≡ b
    → YearsItem follows (cond b (four_digits x.first ++ cond (x.step == 1) (codes "+") (step_text x.step))
    (four_digits x.first ++ codes "-" ++ four_digits x.last ++ step_text x.step)) x
years_from follows x true e =
    let both = and_both (x.last == 2799) (cond (x.step == 1) (nat_lt x.first 2799) (nat_lt 2799 (x.first + 128 * x.step))) e in
    years_on follows x (x.step == 1) refl (eqb-true x.last 2799 both.0) both.1
years_from follows x false e = years_range follows x

years_by : (follows : Bool) (x : Years) (b : Bool) → ((x.first == x.last) && (x.step == 1) && not follows) ≡ b
    → YearsItem follows (cond b (four_digits x.first)
    (cond (go_on x.first x.last x.step) (four_digits x.first ++ cond (x.step == 1) (codes "+") (step_text x.step))
    (four_digits x.first ++ codes "-" ++ four_digits x.last ++ step_text x.step))) x
years_by follows x true e =
    let both = and_both ((x.first == x.last) && (x.step == 1)) (not follows) e in
    let same = and_both (x.first == x.last) (x.step == 1) both.0 in
    years_one follows x (eqb-true x.first x.last same.0) (eqb-true x.step 1 same.1) (not_true follows both.1)
years_by follows x false e = years_from follows x (go_on x.first x.last x.step) refl

pub years_item : (follows : Bool) (x : Years) → YearsItem follows (selector_text follows (selector.Years x)) x
years_item follows x = years_by follows x ((x.first == x.last) && (x.step == 1) && not follows) refl

-- ---- weeks

weeks_one : (x : Weeks) → x.first ≡ x.last → x.step ≡ 1
    → Item (IsWeeks in_full) (decimal x.first) (only_weeks (selector.Weeks x ∷ [])) false
weeks_one x e f =
    let r = x.in_range in
    let high : x.first ≤ 53 = omega (arith, r.1, r.2) in
    record {
      p = piece.Weeks (digits x.first) None None ∷ [];
      us = token.Number x.first (length (decimal x.first)) ∷ [];
      spelt = decimal_spelt x.first (omega (arith, high));
      one = λ later rest. IsWeeks.one (digits x.first) refl refl (is_week x.first r.0 high);
      says = says_weeks (digits x.first) None None (selector.Weeks x ∷ []) (refl, sym e, f);
      front = λ rest. refl;
    }

range_of_weeks : (first last step : ℕ) (b : Bool) (later : List Piece) (rest : List TokenKind)
    → IsRange IsWeekNumber (digits first) (digits last) → IsStepNumber (digits step)
    → IsWeeks in_full (piece.Weeks (digits first) (Some (digits last)) (step_digits b step) ∷ later)
    (token.Number first (length (decimal first)) ∷ token.Dash ∷ token.Number last (length (decimal last))
    ∷ (cond b [] (token.Slash ∷ token.Number step (length (decimal step)) ∷ []) ++ rest)) later rest
range_of_weeks first last step true later rest r s = IsWeeks.range (digits first) (digits last) refl refl r
range_of_weeks first last step false later rest r s =
    IsWeeks.every (digits first) (digits last) (digits step) refl refl r s

weeks_range : (x : Weeks) → Item (IsWeeks in_full) (decimal x.first ++ codes "-" ++ decimal x.last ++ step_text x.step)
    (only_weeks (selector.Weeks x ∷ [])) false
weeks_range x =
    let r = x.in_range in
    let first = is_week x.first r.0 (omega (arith, r.1, r.2)) in
    let last = is_week x.last (omega (arith, r.0, r.1)) r.2 in
    record {
      p = piece.Weeks (digits x.first) (Some (digits x.last)) (step_digits (x.step == 1) x.step) ∷ [];
      us = token.Number x.first (length (decimal x.first)) ∷ token.Dash ∷ token.Number x.last (length (decimal x.last))
          ∷ step_kinds x.step;
      spelt = ranged (decimal x.first) (decimal x.last) x.step (token.Number x.first (length (decimal x.first)) ∷ [])
          (token.Number x.last (length (decimal x.last)) ∷ []) r.4 (decimal_spelt x.first (omega (arith, r.1, r.2)))
          (decimal_spelt x.last (omega (arith, r.2)));
      one = λ later rest. range_of_weeks x.first x.last x.step (x.step == 1) later rest (first, last, r.1)
          (is_step x.step r.3 r.4);
      says = says_weeks (digits x.first) (Some (digits x.last)) (step_digits (x.step == 1) x.step)
          (selector.Weeks x ∷ []) (refl, refl, step_is x.step (x.step == 1) refl);
      front = λ rest. refl;
    }

weeks_by : (x : Weeks) (b : Bool) → ((x.first == x.last) && (x.step == 1)) ≡ b
    → Item (IsWeeks in_full) (cond b (decimal x.first) (decimal x.first ++ codes "-" ++ decimal x.last ++ step_text x.step))
    (only_weeks (selector.Weeks x ∷ [])) false
weeks_by x true e =
    let same = and_both (x.first == x.last) (x.step == 1) e in
    weeks_one x (eqb-true x.first x.last same.0) (eqb-true x.step 1 same.1)
weeks_by x false e = weeks_range x

pub weeks_item : (follows : Bool) (x : Weeks)
    → Item (IsWeeks in_full) (selector_text follows (selector.Weeks x)) (only_weeks (selector.Weeks x ∷ [])) false
weeks_item follows x = weeks_by x ((x.first == x.last) && (x.step == 1)) refl

-- weeks to the last one, and behind them those from the first one on
pub back_weeks_item : (x y : Weeks) → are_back_weeks x y ≡ true
    → Item (IsWeeks in_full) (decimal x.first ++ codes "-" ++ decimal y.last)
    (only_weeks (selector.Weeks x ∷ selector.Weeks y ∷ [])) false
back_weeks_item x y e =
    let less = and_both _ (nat_lt y.last x.first) e in
    let step = and_both _ (y.step == 1) less.0 in
    let first = and_both _ (y.first == 1) step.0 in
    let own = and_both (x.last == 53) (x.step == 1) first.0 in
    let r = x.in_range in
    let high : x.first ≤ 53 = omega (arith, r.1, r.2) in
    let s = y.in_range in
    let low : 1 ≤ y.last = omega (arith, s.0, s.1) in
    record {
      p = piece.Weeks (digits x.first) (Some final_week) None ∷ piece.Weeks week_one (Some (digits y.last)) None ∷ [];
      us = token.Number x.first (length (decimal x.first)) ∷ token.Dash ∷ token.Number y.last (length (decimal y.last)) ∷ [];
      spelt = dashed (decimal x.first) (decimal y.last) (token.Number x.first (length (decimal x.first)) ∷ [])
          (token.Number y.last (length (decimal y.last)) ∷ []) (decimal_spelt x.first (omega (arith, high)))
          (decimal_spelt y.last (omega (arith, s.2)));
      one = λ later rest. IsWeeks.back (digits x.first) (digits y.last) refl refl
          (is_week x.first r.0 high, is_week y.last low s.2, ltb-true y.last x.first less.1);
      says = says_joined (piece.Weeks (digits x.first) (Some final_week) None ∷ [])
          (piece.Weeks week_one (Some (digits y.last)) None ∷ []) (only_weeks (selector.Weeks x ∷ []))
          (only_weeks (selector.Weeks y ∷ []))
          (says_weeks (digits x.first) (Some final_week) None (selector.Weeks x ∷ [])
          (refl, eqb-true x.last 53 own.0, eqb-true x.step 1 own.1))
          (says_weeks week_one (Some (digits y.last)) None (selector.Weeks y ∷ [])
          (eqb-true y.first 1 first.1, refl, eqb-true y.step 1 step.1));
      front = λ rest. refl;
    }

-- behind these no others are such
pub last_back : (x y : Weeks) (ys : List Selector) → are_back_weeks x y ≡ true → weeks_join y ys ≡ false
last_back x y [] e = refl
last_back x y (selector.Weeks z ∷ zs) e =
    let less = ltb-true y.last x.first (and_both _ (nat_lt y.last x.first) e).1 in
    let r = x.in_range in
    ap (λ (b : Bool). b && (y.step == 1) && (z.first == 1) && (z.step == 1) && nat_lt z.last y.first)
    (ne_eqb y.last 53 (λ same. omega (arith, same, less, r.1, r.2)))
last_back x y (z ∷ zs) e = refl
