-- The kinds of a rule with more month days, one after another.
use Rattle.std.proofs.Common.{◌≡◌, ◌∙◌, ap, refl, sym, if◌then◌else◌, Bool, true, false, List, [], ◌∷◌, ◌++◌}
use Rattle.std.proofs.Common.{append_assoc}
use Rattle.std.specs.Prelude.{not}
use Rattle.gtd_hours.specs.Writable.{selectors}
use Rattle.gtd_hours.specs.declared.hours.Kind.{Kind}
use Rattle.gtd_hours.specs.declared.hours.Rule.{Rule}
use Rattle.gtd_hours.specs.declared.hours.Selector.{Selector}
use Rattle.gtd_hours_dated.specs.Dated.{AreDatedRules, IsDatedRule, More, all_days, is_placed, kind_with, kinds_left}
use Rattle.gtd_hours_dated.specs.Dated.{names_month_days, names_years, with_dates}
use Rattle.gtd_hours_dated.specs.Dated.{dates_left, easter_left, in_order, own_left, put_item}
use Rattle.gtd_hours_dated.specs.declared.more.MonthItem.{MonthItem}
use Rattle.gtd_hours_dated.specs.declared.more.MonthItem.TheVariants as item
use Rattle.gtd_hours_dated.specs.facts.KindFacts.{kind_more}

-- whatever kinds come, they and those so far are all
abbrev pub AreSoFar : Bool → More → List Kind → List Kind → Type 0
AreSoFar placed more past made =
    (rest : List (List Selector)) → with_dates more (selectors past ++ rest) ≡ selectors made ++ kinds_left placed more rest

by_place : (years month_days : Bool) (more : More) (kind : List Selector) (rest : List (List Selector))
    → (if years then kind ∷ with_dates more rest else if month_days then all_days more kind ∷ rest
    else all_days more [] ∷ kind ∷ rest)
    ≡ (if years then kind ∷ [] else if month_days then all_days more kind ∷ [] else all_days more [] ∷ kind ∷ [])
    ++ kinds_left (not years) more rest
by_place true month_days more kind rest = refl
by_place false true more kind rest = refl
by_place false false more kind rest = refl

one_left : (placed : Bool) (more : More) (kind : List Selector) (rest : List (List Selector))
    → kinds_left placed more (kind ∷ rest) ≡ kind_with placed more kind ++ kinds_left (is_placed placed kind) more rest
one_left true more kind rest = refl
one_left false more kind rest = by_place (names_years kind) (names_month_days kind) more kind rest

-- one kind more
pub so_far_more : (placed : Bool) (more : More) (past made next : List Kind) (kind : Kind)
    → AreSoFar placed more past made → selectors next ≡ selectors made ++ kind_with placed more kind.selectors.items
    → AreSoFar (is_placed placed kind.selectors.items) more (past ++ kind ∷ []) next
so_far_more placed more past made next kind so_far e = λ rest.
    let items = kind.selectors.items in
    let left = kinds_left (is_placed placed items) more rest in
    ap (λ (l : List (List Selector)). with_dates more (l ++ rest)) (kind_more past kind)
    ∙ ap (with_dates more) (append_assoc (selectors past) (items ∷ []) rest)
    ∙ so_far (items ∷ rest)
    ∙ ap (λ (l : List (List Selector)). selectors made ++ l) (one_left placed more items rest)
    ∙ sym (append_assoc (selectors made) (kind_with placed more items) left)
    ∙ ap (λ (l : List (List Selector)). l ++ left) (sym e)

-- ---- rules

-- one rule more has the month days
pub dated_more : (more : More) (plain made : List Rule) (p m : Rule) → AreDatedRules more plain made
    → IsDatedRule more p m → AreDatedRules more (plain ++ p ∷ []) (made ++ m ∷ [])
dated_more more [] [] p m are is = (is, tt)
dated_more more (q ∷ plain) (r ∷ made) p m are is = (are.0, dated_more more plain made p m are.1 is)
dated_more more [] (r ∷ made) p m are is = absurd are
dated_more more (q ∷ plain) [] p m are is = absurd are

-- ---- month days in an order

-- what stands at the first place, and all behind it
one_item : (i : MonthItem) (order : List MonthItem) (own dates easter : List Selector)
    → put_item i own dates easter ++ in_order order (own_left i own) (dates_left i dates) (easter_left i easter)
    ≡ in_order (i ∷ order) own dates easter
one_item item.Own order own dates easter = refl
one_item item.Moving order own dates easter = refl
one_item item.Easter order own dates easter = refl

-- One place more has been put.
pub item_more : (i : MonthItem) (order rest : List MonthItem) (own dates easter past next all : List Selector)
    → rest ≡ i ∷ order → next ≡ past ++ put_item i own dates easter → past ++ in_order rest own dates easter ≡ all
    → next ++ in_order order (own_left i own) (dates_left i dates) (easter_left i easter) ≡ all
item_more i order rest own dates easter past next all e f so_far =
    let later = in_order order (own_left i own) (dates_left i dates) (easter_left i easter) in
    ap (λ (l : List Selector). l ++ later) f
    ∙ append_assoc past (put_item i own dates easter) later
    ∙ ap (λ (l : List Selector). past ++ l) (one_item i order own dates easter)
    ∙ ap (λ (l : List MonthItem). past ++ in_order l own dates easter) (sym e)
    ∙ so_far
