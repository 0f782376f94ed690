-- The written kinds of a rule, one after another.
use Rattle.std.proofs.Common.{◌≡◌, ℕ, Bool, true, false, cond, List, [], ◌∷◌, ◌++◌, refl, sym, ap, subst, ◌∙◌, append_assoc}
use Rattle.std.proofs.Common.{arith}
use Rattle.std.specs.Prelude.{codes}
use Rattle.std.specs.List.{list_all}
use Rattle.std.proofs.lemmas.List.{append-nil}
use Rattle.std.proofs.lemmas.Bool.{lt-ltb, ltb-true}
use Rattle.gtd_hours.specs.declared.hours.Kind.{Kind}
use Rattle.gtd_hours.specs.declared.hours.Selector.{Selector}
use Rattle.gtd_hours.specs.Writable.{is_month_days, is_weekdays, is_weeks, is_years, kind_if, selectors}
use Rattle.gtd_hours.specs.Written.{is_some_kind, kind_text, kinds_text}
use Rattle.gtd_hours_text.proofs.WrittenTerms.{TokenKind, Piece, Stage}
use Rattle.gtd_hours_moves.specs.declared.stage.Stage.TheVariants as stage
use Rattle.gtd_hours_moves.specs.Grammar.{Follow, in_full, list_goes_on, order, precedes}
use Rattle.gtd_hours_text.proofs.WrittenTokens.{Anything, Apart, Spelt, empty_spelt, joined, space_spelt}
use Rattle.gtd_hours_text.proofs.WrittenItems.{Contents, Says, only_month_days, only_weekdays, only_weeks, only_years, plus}
use Rattle.gtd_hours_text.proofs.WrittenItems.{says_joined, says_nothing}
use Rattle.gtd_hours_text.proofs.WrittenSelectors.{Dateless, DatelessIf}
use Rattle.gtd_hours_text.proofs.WrittenKinds.{Group, month_days_group, weekdays_group, weeks_group, years_group}

abbrev pub is_some : List (List Selector) → Bool
is_some [] = false
is_some (xs ∷ xss) = true

-- the kinds by their selectors, with spaces between them
abbrev pub lists_text : List (List Selector) → List ℕ
lists_text [] = []
lists_text (xs ∷ xss) = kind_text (is_some xss) xs ++ cond (is_some xss) (codes " ") [] ++ lists_text xss

some_same : (kinds : List Kind) → is_some_kind kinds ≡ is_some (selectors kinds)
some_same [] = refl
some_same (kind ∷ kinds) = refl

pub texts_same : (kinds : List Kind) → kinds_text kinds ≡ lists_text (selectors kinds)
texts_same [] = refl
texts_same (kind ∷ kinds) =
    ap (λ (b : Bool). kind_text b kind.selectors.items ++ cond b (codes " ") [] ++ kinds_text kinds) (some_same kinds)
    ∙ ap (λ (l : List ℕ). kind_text (is_some (selectors kinds)) kind.selectors.items
    ++ cond (is_some (selectors kinds)) (codes " ") [] ++ l) (texts_same kinds)

-- There are such kinds, or the rule has begun.
abbrev pub Started : List (List Selector) → Stage → Type 0
Started [] r = precedes stage.Front r ≡ true
Started (xs ∷ xss) r = Unit {0}

-- without kinds there is nothing
abbrev pub Bare : List (List Selector) → List Piece → List TokenKind → Type 0
Bare [] q us = (q ≡ []) × (us ≡ [])
Bare (xs ∷ xss) q us = Unit {0}

-- kinds do not begin with a time
abbrev pub Begins : List (List Selector) → List TokenKind → Type 0
Begins [] us = Unit {0}
Begins (xs ∷ xss) us = (rest : List TokenKind) → list_goes_on stage.Times (us ++ rest) ≡ false

-- The kinds are pieces, where the rule has come to a stage before `s`.
pub record Chain (s : Stage) (xss : List (List Selector)) (c : Contents) : Type 0 where
  pub q : List Piece
  pub us : List TokenKind
  pub spelt : Spelt Apart (lists_text xss) us
  pub follow : (r : Stage) (later : List Piece) (rest : List TokenKind) → precedes r s ≡ true → Started xss r → Dateless rest
      → ((e : Stage) → precedes stage.Front e ≡ true → precedes e stage.Times ≡ true → Follow in_full e later rest)
      → Follow in_full r (q ++ later) (us ++ rest)
  pub says : Says q c
  pub bare : Bare xss q us
  pub begins : Begins xss us

no_chain : Chain stage.Times [] (only_years [])
no_chain = record {
  q = [];
  us = [];
  spelt = empty_spelt;
  follow = λ r later rest p started d tail. tail r started p;
  says = says_nothing;
  bare = (refl, refl);
  begins = tt;
}

pub before_all : (r s e : Stage) → precedes r s ≡ true → precedes s e ≡ true → precedes r e ≡ true
before_all r s e p q =
    let a = ltb-true (order r) (order s) p in
    let b = ltb-true (order s) (order e) q in
    lt-ltb (order r) (order e) (omega (arith, a, b))

glued : (kt : List ℕ) (j : List TokenKind) (xss : List (List Selector)) (k : List TokenKind) → Spelt Apart kt j
    → Spelt Apart (lists_text xss) k → Spelt Apart (kt ++ cond (is_some xss) (codes " ") [] ++ lists_text xss) (j ++ k)
glued kt j [] k x y =
    joined Apart Apart (kt ++ []) [] j k (subst (λ (l : List ℕ). Spelt Apart l j) (sym (append-nil kt)) x) y (λ rest c. c)
glued kt j (ys ∷ yss) k x y =
    joined Anything Apart (kt ++ 32 ∷ []) (lists_text (ys ∷ yss)) j k
    (subst (λ (l : List TokenKind). Spelt Anything (kt ++ 32 ∷ []) l) (append-nil j)
    (joined Apart Anything kt (32 ∷ []) j [] x space_spelt (λ rest c. (refl, refl, refl)))) y (λ rest c. tt)

started_at : (xss : List (List Selector)) (r : Stage) → precedes stage.Front r ≡ true → Started xss r
started_at [] r p = p
started_at (xs ∷ xss) r p = tt

dateless_at : (xss : List (List Selector)) (q : List Piece) (us rest : List TokenKind) → Bare xss q us → Dateless rest
    → DatelessIf (is_some xss) (us ++ rest)
dateless_at [] q us rest e d = subst (λ (l : List TokenKind). Dateless (l ++ rest)) (sym e.1) d
dateless_at (xs ∷ xss) q us rest e d = tt

with_group : (s next : Stage) (xs : List Selector) (xss : List (List Selector)) (c d : Contents)
    → precedes stage.Front s ≡ true → precedes s next ≡ true → Group s (is_some xss) (kind_text (is_some xss) xs) c
    → Chain next xss d → Chain s (xs ∷ xss) (plus c d)
with_group s next xs xss c d front order g chain = record {
  q = g.q ++ chain.q;
  us = g.us ++ chain.us;
  spelt = glued (kind_text (is_some xss) xs) g.us xss chain.us g.spelt chain.spelt;
  follow = λ r later rest p started none tail.
      subst (λ (l : List Piece). Follow in_full r l ((g.us ++ chain.us) ++ rest)) (sym (append_assoc g.q chain.q later))
      (subst (λ (l : List TokenKind). Follow in_full r (g.q ++ (chain.q ++ later)) l) (sym (append_assoc g.us chain.us rest))
      (g.follow r (chain.q ++ later) (chain.us ++ rest) p (dateless_at xss chain.q chain.us rest chain.bare none)
      (chain.follow s later rest order (started_at xss s front) none tail)));
  says = says_joined g.q chain.q c d g.says chain.says;
  bare = tt;
  begins = λ rest. ap (λ (l : List TokenKind). list_goes_on stage.Times l) (append_assoc g.us chain.us rest)
      ∙ g.front (chain.us ++ rest);
}

without : (s next : Stage) (xss : List (List Selector)) (c : Contents) → precedes s next ≡ true → Chain next xss c
    → Chain s xss c
without s next xss c order chain = record {
  q = chain.q;
  us = chain.us;
  spelt = chain.spelt;
  follow = λ r later rest p started none tail.
      chain.follow r later rest (before_all r s next p order) started none tail;
  says = chain.says;
  bare = chain.bare;
  begins = chain.begins;
}

years_chain : (xs : List Selector) (xss : List (List Selector)) (c : Contents) → list_all is_years xs ≡ true
    → Chain stage.MonthDays xss c → Chain stage.Years (kind_if xs ++ xss) (plus (only_years xs) c)
years_chain [] xss c e chain = without stage.Years stage.MonthDays xss c refl chain
years_chain (x ∷ xs) xss c e chain =
    with_group stage.Years stage.MonthDays (x ∷ xs) xss (only_years (x ∷ xs)) c refl refl (years_group (is_some xss) x xs e) chain

month_days_chain : (xs : List Selector) (xss : List (List Selector)) (c : Contents) → list_all is_month_days xs ≡ true
    → Chain stage.Weeks xss c → Chain stage.MonthDays (kind_if xs ++ xss) (plus (only_month_days xs) c)
month_days_chain [] xss c e chain = without stage.MonthDays stage.Weeks xss c refl chain
month_days_chain (x ∷ xs) xss c e chain =
    with_group stage.MonthDays stage.Weeks (x ∷ xs) xss (only_month_days (x ∷ xs)) c refl refl
    (month_days_group (is_some xss) x xs e) chain

weeks_chain : (xs : List Selector) (xss : List (List Selector)) (c : Contents) → list_all is_weeks xs ≡ true
    → Chain stage.Weekdays xss c → Chain stage.Weeks (kind_if xs ++ xss) (plus (only_weeks xs) c)
weeks_chain [] xss c e chain = without stage.Weeks stage.Weekdays xss c refl chain
weeks_chain (x ∷ xs) xss c e chain =
    with_group stage.Weeks stage.Weekdays (x ∷ xs) xss (only_weeks (x ∷ xs)) c refl refl (weeks_group (is_some xss) x xs e) chain

weekdays_chain : (xs : List Selector) (xss : List (List Selector)) (c : Contents) → list_all is_weekdays xs ≡ true
    → Chain stage.Times xss c → Chain stage.Weekdays (kind_if xs ++ xss) (plus (only_weekdays xs) c)
weekdays_chain [] xss c e chain = without stage.Weekdays stage.Times xss c refl chain
weekdays_chain (x ∷ xs) xss c e chain =
    with_group stage.Weekdays stage.Times (x ∷ xs) xss (only_weekdays (x ∷ xs)) c refl refl
    (weekdays_group (is_some xss) x xs e) chain

-- the selectors of each kind
abbrev pub of_kinds : List Selector → List Selector → List Selector → List Selector → Contents
of_kinds years month_days weeks weekdays = record {
  years = years;
  month_days = month_days;
  weeks = weeks;
  weekdays = weekdays;
  times = [];
  closed = false;
}

right_nested : (a b c d : List (List Selector)) → a ++ (b ++ (c ++ (d ++ []))) ≡ a ++ b ++ c ++ d
right_nested a b c d =
    ap (λ (l : List (List Selector)). a ++ (b ++ (c ++ l))) (append-nil d)
    ∙ ap (λ (l : List (List Selector)). a ++ l) (sym (append_assoc b c d))
    ∙ sym (append_assoc a (b ++ c) d) ∙ ap (λ (l : List (List Selector)). l ++ d) (sym (append_assoc a b c))

contents_same : (years month_days weeks weekdays : List Selector)
    → plus (only_years years) (plus (only_month_days month_days) (plus (only_weeks weeks) (plus (only_weekdays weekdays)
    (only_years [])))) ≡ of_kinds years month_days weeks weekdays
contents_same years month_days weeks weekdays =
    ap (λ (l : List Selector). of_kinds l (month_days ++ []) (weeks ++ []) (weekdays ++ [])) (append-nil years)
    ∙ ap (λ (l : List Selector). of_kinds years l (weeks ++ []) (weekdays ++ [])) (append-nil month_days)
    ∙ ap (λ (l : List Selector). of_kinds years month_days l (weekdays ++ [])) (append-nil weeks)
    ∙ ap (λ (l : List Selector). of_kinds years month_days weeks l) (append-nil weekdays)

pub all_kinds : (years month_days weeks weekdays : List Selector) → list_all is_years years ≡ true
    → list_all is_month_days month_days ≡ true → list_all is_weeks weeks ≡ true → list_all is_weekdays weekdays ≡ true
    → Chain stage.Years (kind_if years ++ kind_if month_days ++ kind_if weeks ++ kind_if weekdays)
    (of_kinds years month_days weeks weekdays)
all_kinds years month_days weeks weekdays a b c d =
    subst (λ (k : Contents). Chain stage.Years (kind_if years ++ kind_if month_days ++ kind_if weeks ++ kind_if weekdays) k)
    (contents_same years month_days weeks weekdays)
    (subst (λ (l : List (List Selector)). Chain stage.Years l (plus (only_years years) (plus (only_month_days month_days)
    (plus (only_weeks weeks) (plus (only_weekdays weekdays) (only_years []))))))
    (right_nested (kind_if years) (kind_if month_days) (kind_if weeks) (kind_if weekdays))
    (years_chain years _ _ a (month_days_chain month_days _ _ b
    (weeks_chain weeks _ _ c (weekdays_chain weekdays [] _ d no_chain)))))
