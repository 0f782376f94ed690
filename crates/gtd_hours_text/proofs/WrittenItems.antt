-- Written lists, with commas between, are pieces of a kind.
use Rattle.std.proofs.Common.{◌≡◌, ℕ, Bool, true, false, Option, List, [], ◌∷◌, ◌++◌, refl, sym, ap, subst, ◌∙◌, append_assoc}
use Rattle.std.specs.Prelude.{◌||◌}
use Rattle.std.specs.List.{filter}
use Rattle.std.proofs.lemmas.List.{append-nil}
use Rattle.std.proofs.lemmas.List.Elements.{filter-append}
use Rattle.gtd_hours.specs.declared.hours.Selector.{Selector}
use Rattle.gtd_hours.specs.declared.hours.TimeRange.{TimeRange}
use Rattle.gtd_hours_tokens.specs.declared.token.TokenKind.TheVariants as token
use Rattle.gtd_hours_text.proofs.WrittenTerms.{TokenKind, Piece}
use Rattle.gtd_hours_parts.specs.declared.piece.Offset.{Offset}
use Rattle.gtd_hours_parts.specs.declared.piece.Piece.TheVariants as piece
use Rattle.gtd_hours_moves.specs.declared.stage.Stage.TheVariants as stage
use Rattle.gtd_hours_moves.specs.Grammar.{Listed, More, Text, list_goes_on, none as no_more, comma as one_more}
use Rattle.gtd_hours_text.specs.Standing.{AllSelectors, AllTimes, AllWeekdays, AreMoved, AreSelectors, is_closed, is_one_rule}
use Rattle.gtd_hours_text.specs.Standing.{names_month_days, names_times, names_weekdays, names_weeks, names_years}
use Rattle.gtd_hours_text.proofs.WrittenTokens.{Apart, Spelt, empty_spelt, joined, loose, sign_spelt}

-- ---- what pieces say of a rule

pub record Contents : Type 0 where
  pub years : List Selector
  pub month_days : List Selector
  pub weeks : List Selector
  pub weekdays : List Selector
  pub times : List TimeRange
  pub closed : Bool

abbrev pub plus : Contents → Contents → Contents
plus c d = record {
  years = c.years ++ d.years;
  month_days = c.month_days ++ d.month_days;
  weeks = c.weeks ++ d.weeks;
  weekdays = c.weekdays ++ d.weekdays;
  times = c.times ++ d.times;
  closed = c.closed || d.closed;
}

abbrev pub only_years : List Selector → Contents
only_years xs = record { years = xs; month_days = []; weeks = []; weekdays = []; times = []; closed = false }

abbrev pub only_month_days : List Selector → Contents
only_month_days xs = record { years = []; month_days = xs; weeks = []; weekdays = []; times = []; closed = false }

abbrev pub only_weeks : List Selector → Contents
only_weeks xs = record { years = []; month_days = []; weeks = xs; weekdays = []; times = []; closed = false }

abbrev pub only_weekdays : List Selector → Contents
only_weekdays xs = record { years = []; month_days = []; weeks = []; weekdays = xs; times = []; closed = false }

abbrev pub only_times : List TimeRange → Contents
only_times xs = record { years = []; month_days = []; weeks = []; weekdays = []; times = xs; closed = false }

abbrev pub only_closed : Bool → Contents
only_closed b = record { years = []; month_days = []; weeks = []; weekdays = []; times = []; closed = b }

-- The pieces are these weekdays, whatever follows them.
abbrev pub AreAll : List Piece → List Selector → Type 0
AreAll q xs = (rest : List Piece) (ys : List Selector) → AllWeekdays rest ys → AllWeekdays (q ++ rest) (xs ++ ys)

-- The pieces have these selectors of each kind, these times, and say whether the rule is closed. No rule begins in them.
pub record Says (q : List Piece) (c : Contents) : Type 0 where
  pub years : AllSelectors (filter names_years q) c.years
  pub month_days : AllSelectors (filter names_month_days q) c.month_days
  pub weeks : AllSelectors (filter names_weeks q) c.weeks
  pub weekdays : AreAll (filter names_weekdays q) c.weekdays
  pub times : AllTimes (filter names_times q) c.times
  pub closed : is_closed q ≡ c.closed
  pub one : is_one_rule q ≡ true

pub says_of : (q : List Piece) (c : Contents) → AllSelectors (filter names_years q) c.years
    → AllSelectors (filter names_month_days q) c.month_days → AllSelectors (filter names_weeks q) c.weeks
    → AreAll (filter names_weekdays q) c.weekdays → AllTimes (filter names_times q) c.times → is_closed q ≡ c.closed
    → is_one_rule q ≡ true → Says q c
says_of q c y m w d t closes rule =
    record { years = y; month_days = m; weeks = w; weekdays = d; times = t; closed = closes; one = rule }

pub no_selectors : AllSelectors [] []
no_selectors = AllSelectors.none [] [] refl refl

pub no_weekdays : AreAll [] []
no_weekdays = λ rest ys all. all

-- places in brackets, and the offset behind them
pub in_brackets : (y : Piece) (o : Option Offset) (us xs : List Selector) → AreSelectors y us → AreMoved o us xs
    → AreAll (y ∷ piece.PlacesEnd o ∷ []) xs
in_brackets y o us xs are moved = λ rest ys all.
    AllWeekdays.more y (y ∷ piece.PlacesEnd o ∷ rest) (piece.PlacesEnd o ∷ rest) us xs ys (xs ++ ys) refl refl are moved
    (AllWeekdays.more (piece.PlacesEnd o) (piece.PlacesEnd o ∷ rest) rest [] [] ys ys refl refl refl (record {}) all)

all_weekdays : (is : Piece → Bool) (p q : List Piece) (xs ys : List Selector) → AreAll (filter is p) xs
    → AreAll (filter is q) ys → AreAll (filter is (p ++ q)) (xs ++ ys)
all_weekdays is p q xs ys a b = λ rest zs all.
    subst (λ (l : List Piece). AllWeekdays (l ++ rest) ((xs ++ ys) ++ zs)) (sym (filter-append is p q))
    (subst (λ (l : List Piece). AllWeekdays l ((xs ++ ys) ++ zs)) (sym (append_assoc (filter is p) (filter is q) rest))
    (subst (λ (l : List Selector). AllWeekdays (filter is p ++ (filter is q ++ rest)) l) (sym (append_assoc xs ys zs))
    (a (filter is q ++ rest) (ys ++ zs) (b rest zs all))))

pub one_piece : (y : Piece) (xs : List Selector) → AreSelectors y xs → AllSelectors (y ∷ []) xs
one_piece y xs are = AllSelectors.more y (y ∷ []) [] xs [] xs refl (sym (append-nil xs)) are no_selectors

all_joined : (p q : List Piece) (xs ys : List Selector) → AllSelectors p xs → AllSelectors q ys → AllSelectors (p ++ q) (xs ++ ys)
all_joined p q xs ys (AllSelectors.none r zs e f) then =
    subst (λ (l : List Piece). AllSelectors (l ++ q) (xs ++ ys)) (sym e)
    (subst (λ (l : List Selector). AllSelectors q (l ++ ys)) (sym f) then)
all_joined p q xs ys (AllSelectors.more y o r a b c e f is all) then =
    AllSelectors.more y (p ++ q) (r ++ q) a (b ++ ys) (xs ++ ys) (ap (λ (l : List Piece). l ++ q) e)
    (ap (λ (l : List Selector). l ++ ys) f ∙ append_assoc a b ys) is (all_joined r q b ys all then)

some_joined : (is : Piece → Bool) (p q : List Piece) (xs ys : List Selector) → AllSelectors (filter is p) xs
    → AllSelectors (filter is q) ys → AllSelectors (filter is (p ++ q)) (xs ++ ys)
some_joined is p q xs ys a b =
    subst (λ (l : List Piece). AllSelectors l (xs ++ ys)) (sym (filter-append is p q))
    (all_joined (filter is p) (filter is q) xs ys a b)

all_times_joined : (p q : List Piece) (xs ys : List TimeRange) → AllTimes p xs → AllTimes q ys → AllTimes (p ++ q) (xs ++ ys)
all_times_joined [] q [] ys a b = b
all_times_joined (piece.Times c d ∷ p) q (x ∷ xs) ys a b = (a.0, a.1, all_times_joined p q xs ys a.2 b)
all_times_joined p q xs ys a b = absurd a

times_joined : (p q : List Piece) (xs ys : List TimeRange) → AllTimes (filter names_times p) xs
    → AllTimes (filter names_times q) ys → AllTimes (filter names_times (p ++ q)) (xs ++ ys)
times_joined p q xs ys a b =
    subst (λ (l : List Piece). AllTimes l (xs ++ ys)) (sym (filter-append names_times p q))
    (all_times_joined (filter names_times p) (filter names_times q) xs ys a b)

closed_joined : (p q : List Piece) → is_closed (p ++ q) ≡ (is_closed p || is_closed q)
closed_joined [] q = refl
closed_joined (piece.Closed ∷ p) q = refl
closed_joined (x ∷ p) q = closed_joined p q

rule_joined : (p q : List Piece) → is_one_rule p ≡ true → is_one_rule q ≡ true → is_one_rule (p ++ q) ≡ true
rule_joined [] q e f = f
rule_joined (piece.Rule l ∷ p) q e f = absurd cc
rule_joined (x ∷ p) q e f = rule_joined p q e f

pub says_joined : (p q : List Piece) (c d : Contents) → Says p c → Says q d → Says (p ++ q) (plus c d)
says_joined p q c d a b = record {
  years = some_joined names_years p q c.years d.years a.years b.years;
  month_days = some_joined names_month_days p q c.month_days d.month_days a.month_days b.month_days;
  weeks = some_joined names_weeks p q c.weeks d.weeks a.weeks b.weeks;
  weekdays = all_weekdays names_weekdays p q c.weekdays d.weekdays a.weekdays b.weekdays;
  times = times_joined p q c.times d.times a.times b.times;
  closed = closed_joined p q ∙ ap (λ (x : Bool). x || is_closed q) a.closed ∙ ap (λ (x : Bool). c.closed || x) b.closed;
  one = rule_joined p q a.one b.one;
}

pub says_nothing : Says [] (only_years [])
says_nothing = says_of [] (only_years []) no_selectors no_selectors no_selectors no_weekdays (record {}) refl refl

-- a kind of selectors begins before them
pub says_kind : (q : List Piece) (c : Contents) → Says q c → Says (piece.Kind ∷ q) c
says_kind q c s = record {
  years = s.years;
  month_days = s.month_days;
  weeks = s.weeks;
  weekdays = s.weekdays;
  times = s.times;
  closed = s.closed;
  one = s.one;
}

-- ---- one of a list, and lists

-- The text is one of a list, which says this; `timed` is whether it begins with a time.
pub record Item (IsOne : Text) (text : List ℕ) (c : Contents) (timed : Bool) : Type 0 where
  pub p : List Piece
  pub us : List TokenKind
  pub spelt : Spelt Apart text us
  pub one : (later : List Piece) (rest : List TokenKind) → IsOne (p ++ later) (us ++ rest) later rest
  pub says : Says p c
  pub front : (rest : List TokenKind) → list_goes_on stage.Times (us ++ rest) ≡ timed

pub record MoreItems (IsOne : Text) (text : List ℕ) (c : Contents) : Type 0 where
  pub q : List Piece
  pub us : List TokenKind
  pub spelt : Spelt Apart text us
  pub apart : (rest : List ℕ) → Apart rest → Apart (text ++ rest)
  pub more : (later : List Piece) (rest : List TokenKind) → More IsOne later rest (q ++ later) (us ++ rest)
  pub says : Says q c

pub record Items (IsOne : Text) (text : List ℕ) (c : Contents) (timed : Bool) : Type 0 where
  pub q : List Piece
  pub us : List TokenKind
  pub spelt : Spelt Apart text us
  pub listed : (later : List Piece) (rest : List TokenKind) → Listed IsOne (q ++ later) (us ++ rest) later rest
  pub says : Says q c
  pub front : (rest : List TokenKind) → list_goes_on stage.Times (us ++ rest) ≡ timed

unfoldable pub no_items : (IsOne : Text) → MoreItems IsOne [] (only_years [])
no_items IsOne = record {
  q = [];
  us = [];
  spelt = empty_spelt;
  apart = λ rest c. c;
  more = λ later rest. no_more later rest refl refl;
  says = says_nothing;
}

-- one of a list, before what follows it in the list
pub one_of : (IsOne : Text) (p q later : List Piece) (us vs rest : List TokenKind)
    → IsOne (p ++ (q ++ later)) (us ++ (vs ++ rest)) (q ++ later) (vs ++ rest)
    → IsOne ((p ++ q) ++ later) ((us ++ vs) ++ rest) (q ++ later) (vs ++ rest)
one_of IsOne p q later us vs rest one =
    subst (λ (l : List Piece). IsOne l ((us ++ vs) ++ rest) (q ++ later) (vs ++ rest)) (sym (append_assoc p q later))
    (subst (λ (l : List TokenKind). IsOne (p ++ (q ++ later)) l (q ++ later) (vs ++ rest)) (sym (append_assoc us vs rest)) one)

unfoldable pub items : (IsOne : Text) (t m : List ℕ) (c d : Contents) (timed : Bool) → Item IsOne t c timed → MoreItems IsOne m d
    → Items IsOne (t ++ m) (plus c d) timed
items IsOne t m c d timed i more = record {
  q = i.p ++ more.q;
  us = i.us ++ more.us;
  spelt = joined Apart Apart t m i.us more.us i.spelt more.spelt more.apart;
  listed = λ later rest. record {
    q = more.q ++ later;
    us = more.us ++ rest;
    one = one_of IsOne i.p more.q later i.us more.us rest (i.one (more.q ++ later) (more.us ++ rest));
    more = more.more later rest;
  };
  says = says_joined i.p more.q c d i.says more.says;
  front = λ rest. ap (λ (l : List TokenKind). list_goes_on stage.Times l) (append_assoc i.us more.us rest)
      ∙ i.front (more.us ++ rest);
}

unfoldable pub more_items : (IsOne : Text) (t m : List ℕ) (c d : Contents) (timed : Bool) → Item IsOne t c timed
    → MoreItems IsOne m d
    → MoreItems IsOne (44 ∷ [] ++ t ++ m) (plus c d)
more_items IsOne t m c d timed i more = record {
  q = i.p ++ more.q;
  us = token.Comma ∷ (i.us ++ more.us);
  spelt = loose (44 ∷ []) (t ++ m) (token.Comma ∷ []) (i.us ++ more.us) (sign_spelt 44 token.Comma refl)
      (joined Apart Apart t m i.us more.us i.spelt more.spelt more.apart);
  apart = λ rest k. (refl, refl, refl);
  more = λ later rest. one_more ((i.p ++ more.q) ++ later) (more.q ++ later) (token.Comma ∷ ((i.us ++ more.us) ++ rest))
      ((i.us ++ more.us) ++ rest) (more.us ++ rest) refl
      (one_of IsOne i.p more.q later i.us more.us rest (i.one (more.q ++ later) (more.us ++ rest))) (more.more later rest);
  says = says_joined i.p more.q c d i.says more.says;
}

-- one by itself
unfoldable pub alone : (IsOne : Text) (t : List ℕ) (c : Contents) (timed : Bool) → Item IsOne t c timed → Items IsOne t c timed
alone IsOne t c timed i = record {
  q = i.p;
  us = i.us;
  spelt = i.spelt;
  listed = λ later rest. record {
    q = later;
    us = rest;
    one = i.one later rest;
    more = no_more later rest refl refl;
  };
  says = i.says;
  front = i.front;
}

-- a list behind a comma
pub behind_comma : (IsOne : Text) (t : List ℕ) (c : Contents) (timed : Bool) → Items IsOne t c timed
    → MoreItems IsOne (44 ∷ [] ++ t) c
behind_comma IsOne t c timed i = record {
  q = i.q;
  us = token.Comma ∷ i.us;
  spelt = loose (44 ∷ []) t (token.Comma ∷ []) i.us (sign_spelt 44 token.Comma refl) i.spelt;
  apart = λ rest k. (refl, refl, refl);
  more = λ later rest.
      let l = i.listed later rest in
      one_more (i.q ++ later) l.q (token.Comma ∷ (i.us ++ rest)) (i.us ++ rest) l.us refl l.one l.more;
  says = i.says;
}
