-- Written rules are pieces that stand for them.
use Rattle.std.proofs.Common.{◌≡◌, ℕ, Bool, true, false, List, [], ◌∷◌, ◌++◌, refl, sym, ap, subst, ◌∙◌, append_assoc}
use Rattle.std.proofs.Common.{arith}
use Rattle.std.specs.Prelude.{◌&&◌, not, codes}
use Rattle.std.specs.List.{filter}
use Rattle.std.proofs.lemmas.List.{append-nil}
use Rattle.gtd_hours.specs.declared.hours.Kind.{Kind}
use Rattle.gtd_hours.specs.declared.hours.Modifier.{Modifier}
use Rattle.gtd_hours.specs.declared.hours.Modifier.TheVariants as modifier
use Rattle.gtd_hours.specs.declared.hours.Rule.{Rule}
use Rattle.gtd_hours.specs.declared.hours.Selector.{Selector}
use Rattle.gtd_hours.specs.declared.hours.TimeRange.{TimeRange}
use Rattle.gtd_hours.specs.Writable.{IsWritableRule, selectors}
use Rattle.gtd_hours.specs.Written.{is_some_kind, is_some_time, kinds_text, modifier_text, more_times_text, spans_text, time_text}
use Rattle.gtd_hours.specs.Written.{times_text}
use Rattle.gtd_hours_tokens.specs.declared.token.TokenKind.TheVariants as token
use Rattle.gtd_hours_text.proofs.WrittenTerms.{TokenKind, Piece, Stage}
use Rattle.gtd_hours_parts.specs.declared.piece.Piece.TheVariants as piece
use Rattle.gtd_hours_moves.specs.declared.stage.Stage.TheVariants as stage
use Rattle.gtd_hours_moves.specs.Grammar.{Follow, IsTimes, in_full, list_goes_on, precedes}
use Rattle.gtd_hours_text.specs.Standing.{AllSelectors, AllTimes, AllWeekdays, IsRule, is_one_rule, modifier_of}
use Rattle.gtd_hours_text.specs.Standing.{names_month_days}
use Rattle.gtd_hours_text.specs.Standing.{names_times, names_weekdays, names_weeks, names_years}
use Rattle.gtd_hours_text.proofs.WrittenTokens.{Anything, Apart, Spelt, empty_spelt, joined, loose, number_spelt, space_spelt}
use Rattle.gtd_hours_text.proofs.WrittenTokens.{word_spelt}
use Rattle.gtd_hours_text.proofs.WrittenParts.{slashed}
use Rattle.gtd_hours_text.proofs.WrittenItems.{AreAll, Contents, Items, MoreItems, Says, items, more_items, no_items}
use Rattle.gtd_hours_text.proofs.WrittenItems.{no_selectors, no_weekdays, says_of}
use Rattle.gtd_hours_text.proofs.WrittenItems.{only_closed, only_times, plus, says_joined, says_nothing}
use Rattle.gtd_hours_text.proofs.WrittenSelectors.{Dateless}
use Rattle.gtd_hours_text.proofs.WrittenDays.{time_item}
use Rattle.gtd_hours_text.proofs.WrittenChain.{Chain, all_kinds, before_all, of_kinds, texts_same}

-- ---- times

more_times : (ts : List TimeRange) → MoreItems IsTimes (more_times_text ts) (only_times ts)
more_times [] = no_items IsTimes
more_times (t ∷ ts) =
    more_items IsTimes (time_text t) (more_times_text ts) (only_times (t ∷ [])) (only_times ts) true (time_item t) (more_times ts)

times_items : (t : TimeRange) (ts : List TimeRange) → Items IsTimes (times_text (t ∷ ts)) (only_times (t ∷ ts)) true
times_items t ts =
    items IsTimes (time_text t) (more_times_text ts) (only_times (t ∷ [])) (only_times ts) true (time_item t) (more_times ts)

time_dateless : (ts : List TokenKind) → list_goes_on stage.Times ts ≡ true → Dateless ts
time_dateless [] e = absurd cc
time_dateless (token.Time h m ∷ ts) e = λ value count. refl
time_dateless (x ∷ ts) e = absurd cc

-- ---- selectors and times

-- the stage at which selectors and times end
abbrev pub EndsAt : Bool → Bool → Stage → Type 0
EndsAt some_kinds true s = s ≡ stage.Times
EndsAt true false s = precedes s stage.Times ≡ true
EndsAt false false s = s ≡ stage.Always

pub record Spans (some_kinds some_times : Bool) (text : List ℕ) (c : Contents) : Type 0 where
  pub q : List Piece
  pub us : List TokenKind
  pub spelt : Spelt Apart text us
  pub follow : (later : List Piece) (rest : List TokenKind) → Dateless rest
      → ((s : Stage) → precedes stage.Front s ≡ true → EndsAt some_kinds some_times s → Follow in_full s later rest)
      → Follow in_full stage.Front (q ++ later) (us ++ rest)
  pub says : Says q c
  pub begins : (some_times && not some_kinds) ≡ false → (rest : List TokenKind) → list_goes_on stage.Times (us ++ rest) ≡ false

always_spelt : Spelt Apart (codes "24/7") (token.Number 24 2 ∷ token.Slash ∷ token.Number 7 1 ∷ [])
always_spelt = slashed (50 ∷ 52 ∷ []) (55 ∷ []) (token.Number 24 2 ∷ []) (token.Number 7 1 ∷ [])
    (number_spelt (50 ∷ 52 ∷ []) 24 2 refl (omega arith) (omega arith) refl refl)
    (number_spelt (55 ∷ []) 7 1 refl (omega arith) (omega arith) refl refl)

all_days : (c : Contents) → Chain stage.Years [] c → Spans false false (codes "24/7") (plus c (only_times []))
all_days c chain = record {
  q = [];
  us = token.Number 24 2 ∷ token.Slash ∷ token.Number 7 1 ∷ [];
  spelt = always_spelt;
  follow = λ later rest d tail. Follow.always stage.Front later (token.Number 24 2 ∷ token.Slash ∷ token.Number 7 1 ∷ rest) rest
      refl refl (tail stage.Always refl refl);
  says = says_joined [] [] c (only_times []) (subst (λ (l : List Piece). Says l c) chain.bare.0 chain.says) says_nothing;
  begins = λ e rest. refl;
}

times_alone : (c : Contents) (t : TimeRange) (ts : List TimeRange) → Chain stage.Years [] c
    → Spans false true (times_text (t ∷ ts)) (plus c (only_times (t ∷ ts)))
times_alone c t ts chain =
    let i = times_items t ts in
    record {
      q = i.q;
      us = i.us;
      spelt = i.spelt;
      follow = λ later rest d tail. Follow.times stage.Front (i.q ++ later) later (i.us ++ rest) rest refl (i.listed later rest)
          (tail stage.Times refl refl);
      says = says_joined [] i.q c (only_times (t ∷ ts)) (subst (λ (l : List Piece). Says l c) chain.bare.0 chain.says) i.says;
      begins = λ e rest. absurd cc;
    }

kinds_alone : (c : Contents) (kind : Kind) (kinds : List Kind) → Chain stage.Years (selectors (kind ∷ kinds)) c
    → Spans true false (kinds_text (kind ∷ kinds)) (plus c (only_times []))
kinds_alone c kind kinds chain = record {
  q = chain.q ++ [];
  us = chain.us;
  spelt = subst (λ (l : List ℕ). Spelt Apart l chain.us) (sym (texts_same (kind ∷ kinds))) chain.spelt;
  follow = λ later rest d tail.
      subst (λ (l : List Piece). Follow in_full stage.Front (l ++ later) (chain.us ++ rest)) (sym (append-nil chain.q))
      (chain.follow stage.Front later rest refl tt d tail);
  says = says_joined chain.q [] c (only_times []) chain.says says_nothing;
  begins = λ e rest. chain.begins rest;
}

blank : (a b : List ℕ) (j k : List TokenKind) → Spelt Apart a j → Spelt Apart b k → Spelt Apart (a ++ 32 ∷ [] ++ b) (j ++ k)
blank a b j k x y =
    loose (a ++ 32 ∷ []) b j k (subst (λ (l : List TokenKind). Spelt Anything (a ++ 32 ∷ []) l) (append-nil j)
    (joined Apart Anything a (32 ∷ []) j [] x space_spelt (λ rest c. (refl, refl, refl)))) y

kinds_and_times : (c : Contents) (kind : Kind) (kinds : List Kind) (t : TimeRange) (ts : List TimeRange)
    → Chain stage.Years (selectors (kind ∷ kinds)) c
    → Spans true true (kinds_text (kind ∷ kinds) ++ codes " " ++ times_text (t ∷ ts)) (plus c (only_times (t ∷ ts)))
kinds_and_times c kind kinds t ts chain =
    let i = times_items t ts in
    record {
      q = chain.q ++ i.q;
      us = chain.us ++ i.us;
      spelt = blank (kinds_text (kind ∷ kinds)) (times_text (t ∷ ts)) chain.us i.us
          (subst (λ (l : List ℕ). Spelt Apart l chain.us) (sym (texts_same (kind ∷ kinds))) chain.spelt) i.spelt;
      follow = λ later rest d tail.
          subst (λ (l : List Piece). Follow in_full stage.Front l ((chain.us ++ i.us) ++ rest))
          (sym (append_assoc chain.q i.q later))
          (subst (λ (l : List TokenKind). Follow in_full stage.Front (chain.q ++ (i.q ++ later)) l)
          (sym (append_assoc chain.us i.us rest))
          (chain.follow stage.Front (i.q ++ later) (i.us ++ rest) refl tt (time_dateless (i.us ++ rest) (i.front rest)) (λ s a b.
          Follow.times s (i.q ++ later) later (i.us ++ rest) rest b (i.listed later rest) (tail stage.Times refl refl))));
      says = says_joined chain.q i.q c (only_times (t ∷ ts)) chain.says i.says;
      begins = λ e rest. ap (λ (l : List TokenKind). list_goes_on stage.Times l) (append_assoc chain.us i.us rest)
          ∙ chain.begins (i.us ++ rest);
    }

spans_of : (kinds : List Kind) (times : List TimeRange) (c : Contents) → Chain stage.Years (selectors kinds) c
    → Spans (is_some_kind kinds) (is_some_time times) (spans_text kinds times) (plus c (only_times times))
spans_of [] [] c chain = all_days c chain
spans_of [] (t ∷ ts) c chain = times_alone c t ts chain
spans_of (kind ∷ kinds) [] c chain = kinds_alone c kind kinds chain
spans_of (kind ∷ kinds) (t ∷ ts) c chain = kinds_and_times c kind kinds t ts chain

-- ---- the modifier

abbrev modifier_pieces : Modifier → List Piece
modifier_pieces modifier.Open = []
modifier_pieces modifier.Closed = piece.Closed ∷ []

abbrev modifier_kinds : Modifier → Bool → List TokenKind
modifier_kinds modifier.Open true = token.Open ∷ []
modifier_kinds modifier.Open false = []
modifier_kinds modifier.Closed needed = token.Closed ∷ []

-- a word is written
abbrev pub has_word : Modifier → Bool → Bool
has_word modifier.Open needed = needed
has_word modifier.Closed needed = true

abbrev closes : Modifier → Bool
closes modifier.Open = false
closes modifier.Closed = true

modifier_spelt : (m : Modifier) (needed : Bool) → Spelt Apart (modifier_text m needed) (modifier_kinds m needed)
modifier_spelt modifier.Open true = loose (32 ∷ []) (codes "open") [] (token.Open ∷ []) space_spelt
    (word_spelt (codes "open") token.Open (record { letters = refl; word = refl }))
modifier_spelt modifier.Open false = empty_spelt
modifier_spelt modifier.Closed needed = loose (32 ∷ []) (codes "off") [] (token.Closed ∷ []) space_spelt
    (word_spelt (codes "off") token.Closed (record { letters = refl; word = refl }))

modifier_apart : (m : Modifier) (needed : Bool) (rest : List ℕ) → Apart rest → Apart (modifier_text m needed ++ rest)
modifier_apart modifier.Open true rest c = (refl, refl, refl)
modifier_apart modifier.Open false rest c = c
modifier_apart modifier.Closed needed rest c = (refl, refl, refl)

modifier_dateless : (m : Modifier) (needed : Bool) (rest : List TokenKind) → Dateless rest
    → Dateless (modifier_kinds m needed ++ rest)
modifier_dateless modifier.Open true rest d = λ value count. refl
modifier_dateless modifier.Open false rest d = d
modifier_dateless modifier.Closed needed rest d = λ value count. refl

-- the stage at which a rule ends
abbrev pub EndsRule : Bool → Bool → Bool → Stage → Type 0
EndsRule true some_kinds some_times s = s ≡ stage.Modifier
EndsRule false some_kinds some_times s = EndsAt some_kinds some_times s

before_modifier : (some_kinds some_times : Bool) (s : Stage) → EndsAt some_kinds some_times s
    → precedes s stage.Modifier ≡ true
before_modifier some_kinds true s e = subst (λ (r : Stage). precedes r stage.Modifier ≡ true) (sym e) refl
before_modifier true false s e = before_all s stage.Times stage.Modifier e refl
before_modifier false false s e = subst (λ (r : Stage). precedes r stage.Modifier ≡ true) (sym e) refl

modifier_follow : (m : Modifier) (needed some_kinds some_times : Bool) (later : List Piece) (rest : List TokenKind)
    → ((s : Stage) → precedes stage.Front s ≡ true → EndsRule (has_word m needed) some_kinds some_times s
    → Follow in_full s later rest)
    → (s : Stage) → precedes stage.Front s ≡ true → EndsAt some_kinds some_times s
    → Follow in_full s (modifier_pieces m ++ later) (modifier_kinds m needed ++ rest)
modifier_follow modifier.Open true ks ts later rest tail s p e =
    Follow.opens s later (token.Open ∷ rest) rest (before_modifier ks ts s e) refl (tail stage.Modifier refl refl)
modifier_follow modifier.Open false ks ts later rest tail s p e = tail s p e
modifier_follow modifier.Closed needed ks ts later rest tail s p e =
    Follow.closes s (piece.Closed ∷ later) later (token.Closed ∷ rest) rest (before_modifier ks ts s e) refl refl
    (tail stage.Modifier refl refl)

modifier_says : (m : Modifier) → Says (modifier_pieces m) (only_closed (closes m))
modifier_says modifier.Open = says_nothing
modifier_says modifier.Closed =
    says_of (piece.Closed ∷ []) (only_closed true) no_selectors no_selectors no_selectors no_weekdays (record {}) refl refl

modifier_is : (m : Modifier) → m ≡ modifier_of (closes m)
modifier_is modifier.Open = refl
modifier_is modifier.Closed = refl

-- ---- a rule

pub record OneRule (rule : Rule) (needed : Bool) : Type 0 where
  pub q : List Piece
  pub us : List TokenKind
  pub spelt : Spelt Apart (spans_text rule.kinds.items rule.times.items ++ modifier_text rule.modifier needed) us
  pub follow : (later : List Piece) (rest : List TokenKind) → Dateless rest
      → ((s : Stage) → precedes stage.Front s ≡ true
      → EndsRule (has_word rule.modifier needed) (is_some_kind rule.kinds.items) (is_some_time rule.times.items) s
      → Follow in_full s later rest)
      → Follow in_full stage.Front (q ++ later) (us ++ rest)
  pub one : is_one_rule q ≡ true
  pub is : IsRule rule.link q rule
  pub begins : (is_some_time rule.times.items && not (is_some_kind rule.kinds.items)) ≡ false → (rest : List TokenKind)
      → list_goes_on stage.Times (us ++ rest) ≡ false

twice_nothing : (xs : List Selector) → xs ++ [] ++ [] ≡ xs
twice_nothing xs = append-nil (xs ++ []) ∙ append-nil xs

-- weekdays that nothing follows
whole : (q : List Piece) (xs : List Selector) → AreAll q xs → AllWeekdays q xs
whole q xs all =
    subst (λ (l : List Piece). AllWeekdays l xs) (append-nil q)
    (subst (λ (l : List Selector). AllWeekdays (q ++ []) l) (append-nil xs) (all [] [] (AllWeekdays.none [] [] refl refl)))

rule_is : (rule : Rule) (w : IsWritableRule rule) (q : List Piece)
    → Says q (plus (plus (of_kinds w.years w.month_days w.weeks w.weekdays) (only_times rule.times.items))
    (only_closed (closes rule.modifier)))
    → IsRule rule.link q rule
rule_is rule w q s = record {
  years = w.years;
  month_days = w.month_days;
  weeks = w.weeks;
  weekdays = w.weekdays;
  are_years = subst (λ (l : List Selector). AllSelectors (filter names_years q) l) (twice_nothing w.years) s.years;
  are_month_days =
      subst (λ (l : List Selector). AllSelectors (filter names_month_days q) l) (twice_nothing w.month_days) s.month_days;
  are_weeks = subst (λ (l : List Selector). AllSelectors (filter names_weeks q) l) (twice_nothing w.weeks) s.weeks;
  are_weekdays = subst (λ (l : List Selector). AllWeekdays (filter names_weekdays q) l) (twice_nothing w.weekdays)
      (whole (filter names_weekdays q) (w.weekdays ++ [] ++ []) s.weekdays);
  kinds = w.kinds;
  times = subst (λ (l : List TimeRange). AllTimes (filter names_times q) l) (append-nil rule.times.items) s.times;
  modifier = modifier_is rule.modifier ∙ ap modifier_of (sym s.closed);
  link = refl;
}

pub one_rule : (rule : Rule) (needed : Bool) → IsWritableRule rule → OneRule rule needed
one_rule rule needed w =
    let c = of_kinds w.years w.month_days w.weeks w.weekdays in
    let chain : Chain stage.Years (selectors rule.kinds.items) c =
    subst (λ (l : List (List Selector)). Chain stage.Years l c) (sym w.kinds)
    (all_kinds w.years w.month_days w.weeks w.weekdays w.are_years w.are_month_days w.are_weeks w.are_weekdays) in
    let sp = spans_of rule.kinds.items rule.times.items c chain in
    let m = rule.modifier in
    let says = says_joined sp.q (modifier_pieces m) (plus c (only_times rule.times.items)) (only_closed (closes m)) sp.says
    (modifier_says m) in
    record {
      q = sp.q ++ modifier_pieces m;
      us = sp.us ++ modifier_kinds m needed;
      spelt = joined Apart Apart (spans_text rule.kinds.items rule.times.items) (modifier_text m needed) sp.us
          (modifier_kinds m needed) sp.spelt (modifier_spelt m needed) (modifier_apart m needed);
      follow = λ later rest d tail.
          subst (λ (l : List Piece). Follow in_full stage.Front l ((sp.us ++ modifier_kinds m needed) ++ rest))
          (sym (append_assoc sp.q (modifier_pieces m) later))
          (subst (λ (l : List TokenKind). Follow in_full stage.Front (sp.q ++ (modifier_pieces m ++ later)) l)
          (sym (append_assoc sp.us (modifier_kinds m needed) rest))
          (sp.follow (modifier_pieces m ++ later) (modifier_kinds m needed ++ rest) (modifier_dateless m needed rest d)
          (modifier_follow m needed (is_some_kind rule.kinds.items) (is_some_time rule.times.items) later rest tail)));
      one = says.one;
      is = rule_is rule w (sp.q ++ modifier_pieces m) says;
      begins = λ e rest. ap (λ (l : List TokenKind). list_goes_on stage.Times l)
          (append_assoc sp.us (modifier_kinds m needed) rest)
          ∙ sp.begins e (modifier_kinds m needed ++ rest);
    }
