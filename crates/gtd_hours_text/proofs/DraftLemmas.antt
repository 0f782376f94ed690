-- Drafts of rules.
use Rattle.std.proofs.Common.{◌≡◌, Bool, true, false, cond, List, [], ◌∷◌, ◌++◌, length, refl, sym, ap, subst, ◌∙◌, append_assoc}
use Rattle.std.proofs.Common.{Option, None}
use Rattle.std.specs.Prelude.{◌==◌}
use Rattle.std.specs.List.{filter}
use Rattle.std.proofs.lemmas.List.{append-nil}
use Rattle.std.proofs.lemmas.List.Elements.{filter-append}
use Rattle.gtd_hours.specs.declared.hours.Kind.{Kind}
use Rattle.gtd_hours.specs.declared.hours.Rule.{Rule}
use Rattle.gtd_hours.specs.declared.hours.Selector.{Selector}
use Rattle.gtd_hours.specs.declared.hours.TimeRange.{TimeRange}
use Rattle.gtd_hours_parts.specs.declared.clock.ClockTime.{ClockTime}
use Rattle.gtd_hours_parts.specs.declared.piece.Offset.{Offset}
use Rattle.gtd_hours_parts.specs.declared.piece.Piece.{Piece}
use Rattle.gtd_hours_parts.specs.declared.piece.Piece.TheVariants as piece
use Rattle.gtd_hours_text.specs.declared.draft.Draft.{Draft}
use Rattle.gtd_hours_text.specs.Adding.{AddsMoved}
use Rattle.gtd_hours_text.specs.Drafts.{AreWeekdays, IsDraft}
use Rattle.gtd_hours_text.specs.Standing.{AllSelectors, AllTimes, AreSelectors, IsRule}
use Rattle.gtd_hours_text.specs.Standing.{AllWeekdays, AreMoved, kind_if, modifier_of, names_times, names_weekdays, offset_in}
use Rattle.gtd_hours_text.specs.Standing.{selectors}

pub no_times : (xs : List TimeRange) → xs ≡ [] → AllTimes [] xs
no_times [] e = record {}
no_times (x ∷ xs) e = absurd cc

-- ---- weekdays

-- all weekdays of a draft, where no offset follows
all_weekdays : (p : List Piece) (xs us all : List Selector) → AreWeekdays p xs us → AddsMoved None xs us all → AllWeekdays p all
all_weekdays p xs us all are moved =
    subst (λ (l : List Selector). AllWeekdays p l)
    (ap (λ (l : List Selector). xs ++ l) (append-nil moved.xs) ∙ sym moved.all)
    (subst (λ (l : List Piece). AllWeekdays l (xs ++ (moved.xs ++ []))) (append-nil p)
    (are [] moved.xs [] (moved.are None (record {})) (AllWeekdays.none [] [] refl refl)))

pub no_weekdays : (xs us : List Selector) → xs ≡ [] → us ≡ [] → AreWeekdays [] xs us
no_weekdays [] [] e f = λ rest xs ys moved all. nothing_moved (offset_in rest) rest xs ys moved all
  where
    nothing_moved : (o : Option Offset) (rest : List Piece) (xs ys : List Selector) → AreMoved o [] xs → AllWeekdays rest ys
        → AllWeekdays rest (xs ++ ys)
    nothing_moved o rest [] ys moved all = all
    nothing_moved o rest (x ∷ xs) ys moved all = absurd moved
no_weekdays (x ∷ xs) us e f = absurd cc
no_weekdays [] (u ∷ us) e f = absurd cc

record Split (o : Option Offset) (us vs xs : List Selector) : Type 0 where
  fs : List Selector
  bs : List Selector
  whole : xs ≡ fs ++ bs
  one : AreMoved o us fs
  other : AreMoved o vs bs

split : (o : Option Offset) (us vs xs : List Selector) → AreMoved o (us ++ vs) xs → Split o us vs xs
split o [] vs xs h = record { fs = []; bs = xs; whole = refl; one = record {}; other = h }
split o (u ∷ us) vs (x ∷ xs) h =
    let more = split o us vs xs h.1 in
    record {
      fs = x ∷ more.fs;
      bs = more.bs;
      whole = ap (λ (l : List Selector). x ∷ l) more.whole;
      one = (h.0, more.one);
      other = more.other;
    }
split o (u ∷ us) vs [] h = absurd h

-- a weekday or places more, which an offset behind them may move
pub weekdays_more : (p : List Piece) (y : Piece) (ws us vs : List Selector)
    → ((rest : List Piece) → offset_in (y ∷ rest) ≡ offset_in rest) → AreWeekdays p ws us → AreSelectors y vs
    → AreWeekdays (p ++ y ∷ []) ws (us ++ vs)
weekdays_more p y ws us vs through are is = λ rest xs ys moved all.
    let s = split (offset_in rest) us vs xs moved in
    let here = subst (λ (o : Option Offset). AreMoved o us s.fs) (sym (through rest)) s.one in
    let later = AllWeekdays.more y (y ∷ rest) rest vs s.bs ys (s.bs ++ ys) refl refl is s.other all in
    let whole = are (y ∷ rest) s.fs (s.bs ++ ys) here later in
    subst (λ (l : List Selector). AllWeekdays ((p ++ y ∷ []) ++ rest) (ws ++ l))
    (sym (append_assoc s.fs s.bs ys) ∙ ap (λ (l : List Selector). l ++ ys) (sym s.whole))
    (subst (λ (l : List Piece). AllWeekdays l (ws ++ (s.fs ++ (s.bs ++ ys)))) (sym (append_assoc p (y ∷ []) rest)) whole)

-- brackets end, and their offset moves the places in them
pub weekdays_end : (p : List Piece) (o : Option Offset) (ws us xs vs : List Selector) → AreWeekdays p ws us
    → AreMoved o us xs → vs ≡ [] → AreWeekdays (p ++ piece.PlacesEnd o ∷ []) (ws ++ xs) vs
weekdays_end p o ws us xs [] are moved e = λ rest none ys no_more all.
    let y = piece.PlacesEnd o in
    let later = AllWeekdays.more y (y ∷ rest) rest [] [] ys ys refl refl refl (record {}) all in
    let whole = are (y ∷ rest) xs ys moved later in
    subst (λ (l : List Selector). AllWeekdays ((p ++ y ∷ []) ++ rest) l)
    (sym (append_assoc ws xs ys) ∙ ap (λ (l : List Selector). (ws ++ xs) ++ l) (nothing (offset_in rest) none ys no_more))
    (subst (λ (l : List Piece). AllWeekdays l (ws ++ (xs ++ ys))) (sym (append_assoc p (y ∷ []) rest)) whole)
  where
    nothing : (o : Option Offset) (none ys : List Selector) → AreMoved o [] none → ys ≡ none ++ ys
    nothing o [] ys h = refl
    nothing o (x ∷ none) ys h = absurd h
weekdays_end p o ws us xs (v ∷ vs) are moved e = absurd cc

-- ---- the rule of a draft

pub ruled : (p : List Piece) (draft : Draft) (rule : Rule) (weekdays : List Selector)
    → AddsMoved None draft.weekdays.items draft.unmoved.items weekdays → IsDraft p draft → rule.link ≡ draft.link
    → selectors rule.kinds.items
    ≡ kind_if draft.years.items ++ kind_if draft.month_days.items ++ kind_if draft.weeks.items ++ kind_if weekdays
    → rule.times ≡ draft.times → rule.modifier ≡ modifier_of draft.closed → IsRule draft.link p rule
ruled p draft rule weekdays moved is l kinds times modifier = record {
  years = draft.years.items;
  month_days = draft.month_days.items;
  weeks = draft.weeks.items;
  weekdays = weekdays;
  are_years = is.years;
  are_month_days = is.month_days;
  are_weeks = is.weeks;
  are_weekdays = all_weekdays (filter names_weekdays p) draft.weekdays.items draft.unmoved.items weekdays is.weekdays moved;
  kinds = kinds;
  times = subst (λ t. AllTimes (filter names_times p) t.items) (sym times) is.times;
  modifier = modifier ∙ ap modifier_of is.closed;
  link = l;
}

-- ---- one piece more

pub selectors_more : (p : List Piece) (y : Piece) (xs ys : List Selector) → AllSelectors p xs → AreSelectors y ys
    → AllSelectors (p ++ y ∷ []) (xs ++ ys)
selectors_more p y xs ys (AllSelectors.none q zs e f) are =
    AllSelectors.more y (p ++ y ∷ []) [] ys [] (xs ++ ys) (ap (λ (l : List Piece). l ++ y ∷ []) e)
    (ap (λ (l : List Selector). l ++ ys) f ∙ sym (append-nil ys)) are (AllSelectors.none [] [] refl refl)
selectors_more p y xs ys (AllSelectors.more x o q a b c e f is all) are =
    AllSelectors.more x (p ++ y ∷ []) (q ++ y ∷ []) a (b ++ ys) (xs ++ ys) (ap (λ (l : List Piece). l ++ y ∷ []) e)
    (ap (λ (l : List Selector). l ++ ys) f ∙ append_assoc a b ys) is (selectors_more q y b ys all are)

pub times_more : (p : List Piece) (b l : ClockTime) (xs : List TimeRange) (x : TimeRange) → AllTimes p xs
    → AllTimes (piece.Times b l ∷ []) (x ∷ []) → AllTimes (p ++ piece.Times b l ∷ []) (xs ++ x ∷ [])
times_more [] b l [] x h k = k
times_more (piece.Times d e ∷ p) b l (y ∷ xs) x h k = (h.0, h.1, times_more p b l xs x h.2 k)
times_more p b l xs x h k = absurd h

-- a piece is kept, or it is not
kept_if : (b : Bool) (x : Piece) → b ≡ true → cond b (x ∷ []) [] ≡ x ∷ []
kept_if true x e = refl
kept_if false x e = absurd cc

left_if : (b : Bool) (x : Piece) → b ≡ false → cond b (x ∷ []) [] ≡ []
left_if false x e = refl
left_if true x e = absurd cc

pub kept : (is : Piece → Bool) (p : List Piece) (x : Piece) → is x ≡ true → filter is (p ++ x ∷ []) ≡ filter is p ++ x ∷ []
kept is p x e = filter-append is p (x ∷ []) ∙ ap (λ (l : List Piece). filter is p ++ l) (kept_if (is x) x e)

pub left : (is : Piece → Bool) (p : List Piece) (x : Piece) → is x ≡ false → filter is (p ++ x ∷ []) ≡ filter is p
left is p x e =
    filter-append is p (x ∷ []) ∙ ap (λ (l : List Piece). filter is p ++ l) (left_if (is x) x e) ∙ append-nil (filter is p)

-- ---- kinds

selectors_append : (a b : List Kind) → selectors (a ++ b) ≡ selectors a ++ selectors b
selectors_append [] b = refl
selectors_append (k ∷ a) b = ap (λ (l : List (List Selector)). k.selectors.items ∷ l) (selectors_append a b)

one_kind : (xs : List Selector) → (xs ≡ [] → ⊥) → kind_if xs ≡ xs ∷ []
one_kind [] no_one = absurd (no_one refl)
one_kind (x ∷ xs) no_one = refl

pub kind_more : (list kinds : List Kind) (kind : Kind) → kinds ≡ list ++ kind ∷ [] → (kind.selectors.items ≡ [] → ⊥)
    → selectors kinds ≡ selectors list ++ kind_if kind.selectors.items
kind_more list kinds kind e some =
    ap selectors e ∙ selectors_append list (kind ∷ [])
    ∙ ap (λ (l : List (List Selector)). selectors list ++ l) (sym (one_kind kind.selectors.items some))

pub not_empty : (xs : List Selector) → (length xs == 0) ≡ false → xs ≡ [] → ⊥
not_empty [] some e = absurd cc
not_empty (x ∷ xs) some e = absurd cc

-- four kinds, one after another
pub four_kinds : (none y m w all : List Kind) (a b d e : List (List Selector)) → none ≡ []
    → selectors y ≡ selectors none ++ a → selectors m ≡ selectors y ++ b → selectors w ≡ selectors m ++ d
    → selectors all ≡ selectors w ++ e → selectors all ≡ a ++ b ++ d ++ e
four_kinds none y m w all a b d e empty is_y is_m is_w is_all =
    is_all ∙ ap (λ (l : List (List Selector)). l ++ e)
    (is_w ∙ ap (λ (l : List (List Selector)). l ++ d)
    (is_m ∙ ap (λ (l : List (List Selector)). l ++ b)
    (is_y ∙ ap (λ (l : List Kind). selectors l ++ a) empty)))
