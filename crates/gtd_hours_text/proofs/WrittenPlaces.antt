-- Written places of weekdays with days from them are pieces. Those with the same days stand in the same brackets.
use Rattle.std.proofs.Common.{◌≡◌, ℕ, ◌≤◌, Bool, true, false, List, [], ◌∷◌, ◌++◌, length}
use Rattle.std.proofs.Common.{Option, Some, None, refl, sym, ap, subst, arith}
use Rattle.std.specs.Prelude.{◌==◌, codes, decimal, if◌then◌else◌}
use Rattle.std.specs.List.{filter}
use Rattle.std.proofs.lemmas.Bool.{ne_eqb}
use Rattle.gtd_hours.specs.declared.hours.Selector.{Selector}
use Rattle.gtd_hours.specs.declared.hours.Selector.TheVariants as selector
use Rattle.gtd_hours.specs.declared.hours.WeekdayPlace.{WeekdayPlace}
use Rattle.gtd_hours.specs.declared.places.MovedPlace.{MovedPlace}
use Rattle.gtd_hours.specs.Written.{begun_place, offset_text, place_end}
use Rattle.gtd_hours_tokens.specs.declared.token.TokenKind.TheVariants as token
use Rattle.gtd_hours_text.proofs.WrittenTerms.{TokenKind, Piece}
use Rattle.gtd_hours_parts.specs.declared.piece.Offset.{Offset}
use Rattle.gtd_hours_parts.specs.declared.piece.Piece.TheVariants as piece
use Rattle.gtd_hours_moves.specs.Grammar.{IsOffset, IsPlaces, IsWeekdays, More, comma as one_more, none as no_more}
use Rattle.gtd_hours_moves.specs.Grammar.{offset_before, sign}
use Rattle.gtd_hours_text.specs.Standing.{AllWeekdays, AreMoved, names_weekdays, offset_in}
use Rattle.gtd_hours_text.proofs.WrittenTokens.{Anything, Apart, Spelt, decimal_spelt, joined, loose, sign_spelt, space_spelt}
use Rattle.gtd_hours_text.proofs.WrittenTokens.{word_spelt}
use Rattle.gtd_hours_text.proofs.WrittenParts.{length_of_decimal}
use Rattle.gtd_hours_text.proofs.WrittenItems.{Items, MoreItems, Says, no_selectors, one_of, only_weekdays, says_joined, says_of}
use Rattle.gtd_hours_text.proofs.WrittenSelectors.{digits, is_place}
use Rattle.gtd_hours_text.proofs.WrittenDays.{begun_spelt, nth_are, number_kinds}

-- ---- the end of the brackets, and the days behind it

offset_sign : (before : Bool) → Spelt Anything (if before then codes " -" else codes " +") (sign before ∷ [])
offset_sign true =
    joined Anything Anything (32 ∷ []) (45 ∷ []) [] (token.Dash ∷ []) space_spelt (sign_spelt 45 token.Dash refl) (λ rest c. tt)
offset_sign false =
    joined Anything Anything (32 ∷ []) (43 ∷ []) [] (token.Plus ∷ []) space_spelt (sign_spelt 43 token.Plus refl) (λ rest c. tt)

day_word : (b : Bool) → Spelt Apart (if b then codes " day" else codes " days") (token.Day ∷ [])
day_word true =
    loose (32 ∷ []) (codes "day") [] (token.Day ∷ []) space_spelt
    (word_spelt (codes "day") token.Day (record { letters = refl; word = refl }))
day_word false =
    loose (32 ∷ []) (codes "days") [] (token.Day ∷ []) space_spelt
    (word_spelt (codes "days") token.Day (record { letters = refl; word = refl }))

word_apart : (b : Bool) (rest : List ℕ) → Apart ((if b then codes " day" else codes " days") ++ rest)
word_apart true rest = (refl, refl, refl)
word_apart false rest = (refl, refl, refl)

offset_spelt : (before : Bool) (days : ℕ) → days ≤ 27
    → Spelt Apart ((if before then codes " -" else codes " +") ++ decimal days
    ++ (if days == 1 then codes " day" else codes " days"))
    (sign before ∷ token.Number days (length (decimal days)) ∷ token.Day ∷ [])
offset_spelt before days few =
    joined Apart Apart ((if before then codes " -" else codes " +") ++ decimal days)
    (if days == 1 then codes " day" else codes " days") (sign before ∷ token.Number days (length (decimal days)) ∷ [])
    (token.Day ∷ [])
    (loose (if before then codes " -" else codes " +") (decimal days) (sign before ∷ [])
    (token.Number days (length (decimal days)) ∷ []) (offset_sign before) (decimal_spelt days (omega (arith, few))))
    (day_word (days == 1)) (λ rest c. word_apart (days == 1) rest)

abbrev pub offset_of : MovedPlace → Offset
offset_of x = record { is_before = x.is_before; days = digits x.days }

is_offset : (x : MovedPlace) → 1 ≤ x.days → IsOffset (Some (offset_of x))
is_offset x some =
    let l = length_of_decimal 2 x.days (omega arith) (omega (arith, x.in_range.1)) (omega (arith, x.in_range.1)) in
    (l.0, l.1, some, x.in_range.1)

offset_some : (before : Bool) (days : ℕ) → (days == 0) ≡ false → offset_text before days
    ≡ (if before then codes " -" else codes " +") ++ decimal days ++ (if days == 1 then codes " day" else codes " days")
offset_some before days e =
    ap (λ (b : Bool). if b then [] else ((if before then codes " -" else codes " +") ++ decimal days
    ++ (if days == 1 then codes " day" else codes " days"))) e

not_zero : (n : ℕ) → 1 ≤ n → (n == 0) ≡ false
not_zero n some = ne_eqb n 0 (λ e. omega (arith, some, e))

abbrev end_kinds : MovedPlace → List TokenKind
end_kinds x = token.CloseBracket ∷ sign x.is_before ∷ token.Number x.days (length (decimal x.days)) ∷ token.Day ∷ []

end_spelt : (x : MovedPlace) → 1 ≤ x.days → Spelt Apart (place_end x) (end_kinds x)
end_spelt x some =
    let days = token.Number x.days (length (decimal x.days)) in
    loose (93 ∷ []) (offset_text x.is_before x.days) (token.CloseBracket ∷ []) (sign x.is_before ∷ days ∷ token.Day ∷ [])
    (sign_spelt 93 token.CloseBracket refl)
    (subst (λ (l : List ℕ). Spelt Apart l (sign x.is_before ∷ days ∷ token.Day ∷ []))
    (sym (offset_some x.is_before x.days (not_zero x.days some))) (offset_spelt x.is_before x.days x.in_range.1))

-- ---- a place in the brackets

abbrev place_piece : Bool → WeekdayPlace → Piece
place_piece true x = piece.PlaceBack x.weekday (digits x.number)
place_piece false x = piece.Places x.weekday (digits x.number) None

place_one : (x : MovedPlace) (back : Bool) → x.is_back ≡ back → (later : List Piece) (rest : List TokenKind)
    → IsPlaces x.place.weekday (Some (offset_of x)) (place_piece back x.place ∷ later) (number_kinds back x.place ++ rest)
    later rest
place_one x true back later rest =
    let r = x.in_range in
    let s = x.place.in_range in
    IsPlaces.back (digits x.place.number) refl refl (is_place x.place.number s.1 s.2)
    (r.0, r.1, r.2, λ before twice. r.3 before back)
place_one x false front later rest =
    let r = x.in_range in
    let s = x.place.in_range in
    IsPlaces.one (digits x.place.number) refl refl (is_place x.place.number s.1 s.2) (r.0, r.1, r.2, λ before never. absurd cc)

-- the offset of these days ends the brackets in which the pieces begin
abbrev EndsWith : Option Offset → List Piece → Type 0
EndsWith o q = (rest : List Piece) → offset_in (filter names_weekdays q ++ rest) ≡ o

ends_behind : (back : Bool) (x : WeekdayPlace) (o : Option Offset) (q : List Piece) → EndsWith o q
    → EndsWith o (place_piece back x ∷ q)
ends_behind true x o q ends = ends
ends_behind false x o q ends = ends

-- what a place and the pieces behind it say
says_place : (x : MovedPlace) (back : Bool) → x.is_back ≡ back → 1 ≤ x.days → (q : List Piece) (xs : List Selector)
    → EndsWith (Some (offset_of x)) q → Says q (only_weekdays xs)
    → Says (place_piece back x.place ∷ q) (only_weekdays (selector.Moved x ∷ xs))
says_place x true back some q xs ends s = record {
  years = s.years;
  month_days = s.month_days;
  weeks = s.weeks;
  weekdays = λ rest ys all.
      let y = piece.PlaceBack x.place.weekday (digits x.place.number) in
      let behind = filter names_weekdays q ++ rest in
      AllWeekdays.more y (y ∷ behind) behind (selector.NthBack x.place ∷ []) (selector.Moved x ∷ []) (xs ++ ys)
      (selector.Moved x ∷ (xs ++ ys)) refl refl (refl, refl)
      (subst (λ (o : Option Offset). AreMoved o (selector.NthBack x.place ∷ []) (selector.Moved x ∷ [])) (sym (ends rest))
      ((some, refl, back, refl, refl), record {})) (s.weekdays rest ys all);
  times = s.times;
  closed = s.closed;
  one = s.one;
}
says_place x false front some q xs ends s = record {
  years = s.years;
  month_days = s.month_days;
  weeks = s.weeks;
  weekdays = λ rest ys all.
      let y = piece.Places x.place.weekday (digits x.place.number) None in
      let behind = filter names_weekdays q ++ rest in
      AllWeekdays.more y (y ∷ behind) behind (selector.Nth x.place ∷ []) (selector.Moved x ∷ []) (xs ++ ys)
      (selector.Moved x ∷ (xs ++ ys)) refl refl (nth_are x.place)
      (subst (λ (o : Option Offset). AreMoved o (selector.Nth x.place ∷ []) (selector.Moved x ∷ [])) (sym (ends rest))
      ((some, refl, front, refl, refl), record {})) (s.weekdays rest ys all);
  times = s.times;
  closed = s.closed;
  one = s.one;
}

-- ---- what stands behind a place in its brackets

-- The brackets go on and end with this offset, and then the list goes on.
pub record Inside (k : ℕ) (o : Offset) (later : List Piece) (rest : List TokenKind) (p : List Piece) (ts : List TokenKind)
    : Type 0
  where
    pub q : List Piece
    pub us : List TokenKind
    pub places : More (IsPlaces k (Some o)) (piece.PlacesEnd (Some o) ∷ q) (token.CloseBracket ∷ offset_before (Some o) us) p ts
    pub behind : More IsWeekdays later rest q us

-- The text stands behind a place, and says these weekdays.
pub record MorePlaces (k : ℕ) (o : Offset) (text : List ℕ) (xs : List Selector) : Type 0 where
  pub q : List Piece
  pub us : List TokenKind
  pub spelt : Spelt Apart text us
  pub apart : (rest : List ℕ) → Apart (text ++ rest)
  pub inside : (later : List Piece) (rest : List TokenKind) → Inside k o later rest (q ++ later) (us ++ rest)
  pub says : Says q (only_weekdays xs)
  pub ends : EndsWith (Some o) q

says_end : (o : Option Offset) → Says (piece.PlacesEnd o ∷ []) (only_weekdays [])
says_end o = says_of (piece.PlacesEnd o ∷ []) (only_weekdays []) no_selectors no_selectors no_selectors
    (λ rest ys all. AllWeekdays.more (piece.PlacesEnd o) (piece.PlacesEnd o ∷ rest) rest [] [] ys ys refl refl refl (record {})
    all) (record {}) refl refl

-- the brackets end
pub ended : (x : MovedPlace) → 1 ≤ x.days → (t : List ℕ) (xs : List Selector) → MoreItems IsWeekdays t (only_weekdays xs)
    → MorePlaces x.place.weekday (offset_of x) (place_end x ++ t) xs
ended x some t xs m =
    let o = Some (offset_of x) in
    record {
      q = piece.PlacesEnd o ∷ m.q;
      us = end_kinds x ++ m.us;
      spelt = joined Apart Apart (place_end x) t (end_kinds x) m.us (end_spelt x some) m.spelt m.apart;
      apart = λ rest. (refl, refl, refl);
      inside = λ later rest. record {
        q = m.q ++ later;
        us = m.us ++ rest;
        places = no_more (piece.PlacesEnd o ∷ (m.q ++ later)) (end_kinds x ++ (m.us ++ rest)) refl refl;
        behind = m.more later rest;
      };
      says = says_joined (piece.PlacesEnd o ∷ []) m.q (only_weekdays []) (only_weekdays xs) (says_end o) m.says;
      ends = λ rest. refl;
    }

abbrev pub comma_text : Bool → List ℕ
comma_text back = if back then codes ",-" else codes ","

later_spelt : (back : Bool) (x : WeekdayPlace)
    → Spelt Apart (comma_text back ++ decimal x.number) (token.Comma ∷ number_kinds back x)
later_spelt true x =
    loose (44 ∷ 45 ∷ []) (decimal x.number) (token.Comma ∷ token.Dash ∷ [])
    (token.Number x.number (length (decimal x.number)) ∷ [])
    (joined Anything Anything (44 ∷ []) (45 ∷ []) (token.Comma ∷ []) (token.Dash ∷ []) (sign_spelt 44 token.Comma refl)
    (sign_spelt 45 token.Dash refl) (λ rest c. tt)) (decimal_spelt x.number (omega (arith, x.in_range.2)))
later_spelt false x =
    loose (44 ∷ []) (decimal x.number) (token.Comma ∷ []) (token.Number x.number (length (decimal x.number)) ∷ [])
    (sign_spelt 44 token.Comma refl) (decimal_spelt x.number (omega (arith, x.in_range.2)))

later_apart : (back : Bool) (a t rest : List ℕ) → Apart (((comma_text back ++ a) ++ t) ++ rest)
later_apart true a t rest = (refl, refl, refl)
later_apart false a t rest = (refl, refl, refl)

-- the brackets go on with another place
pub another : (x : MovedPlace) (back : Bool) → x.is_back ≡ back → 1 ≤ x.days → (t : List ℕ) (xs : List Selector)
    → MorePlaces x.place.weekday (offset_of x) t xs
    → MorePlaces x.place.weekday (offset_of x) ((comma_text back ++ decimal x.place.number) ++ t) (selector.Moved x ∷ xs)
another x back same some t xs m =
    let y = place_piece back x.place in
    let ks = number_kinds back x.place in
    let o = offset_of x in
    record {
      q = y ∷ m.q;
      us = token.Comma ∷ (ks ++ m.us);
      spelt = joined Apart Apart (comma_text back ++ decimal x.place.number) t (token.Comma ∷ ks) m.us (later_spelt back x.place)
          m.spelt (λ rest c. m.apart rest);
      apart = λ rest. later_apart back (decimal x.place.number) t rest;
      inside = λ later rest.
          let i = m.inside later rest in
          record {
            q = i.q;
            us = i.us;
            places = one_more (y ∷ (m.q ++ later)) (m.q ++ later) (token.Comma ∷ ((ks ++ m.us) ++ rest)) ((ks ++ m.us) ++ rest)
                (m.us ++ rest) refl
                (one_of (IsPlaces x.place.weekday (Some o)) (y ∷ []) m.q later ks m.us rest
                (place_one x back same (m.q ++ later) (m.us ++ rest))) i.places;
            behind = i.behind;
          };
      says = says_place x back same some m.q xs m.ends m.says;
      ends = ends_behind back x.place (Some o) m.q m.ends;
    }

-- a place that begins the brackets
pub first_place : (x : MovedPlace) (back : Bool) → x.is_back ≡ back → 1 ≤ x.days → (t : List ℕ) (xs : List Selector)
    → MorePlaces x.place.weekday (offset_of x) t xs
    → Items IsWeekdays (begun_place back x.place ++ t) (only_weekdays (selector.Moved x ∷ xs)) false
first_place x back same some t xs m =
    let y = place_piece back x.place in
    let ks = number_kinds back x.place in
    let k : ℕ = x.place.weekday in
    let o = offset_of x in
    record {
      q = y ∷ m.q;
      us = token.Weekday k ∷ token.OpenBracket ∷ (ks ++ m.us);
      spelt = joined Apart Apart (begun_place back x.place) t (token.Weekday k ∷ token.OpenBracket ∷ ks) m.us
          (begun_spelt back x.place) m.spelt (λ rest c. m.apart rest);
      listed = λ later rest.
          let i = m.inside later rest in
          record {
            q = i.q;
            us = i.us;
            one = IsWeekdays.places k (Some o) ((ks ++ m.us) ++ rest) refl x.place.in_range.0 (is_offset x some) (record {
              q = m.q ++ later;
              us = m.us ++ rest;
              one = one_of (IsPlaces k (Some o)) (y ∷ []) m.q later ks m.us rest
                  (place_one x back same (m.q ++ later) (m.us ++ rest));
              more = i.places;
            });
            more = i.behind;
          };
      says = says_place x back same some m.q xs m.ends m.says;
      front = λ rest. refl;
    }
