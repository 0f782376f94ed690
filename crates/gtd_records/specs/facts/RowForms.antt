-- What a row is and what reading it computes are the same.
use Rattle.std.proofs.Common.{◌≡◌, ◌∙◌, sym, ap, refl, subst, ◌<◌, ◌≤◌, ◌⊎◌, inl, inr, ◌==◌, ◌&&◌, cond, arith}
use Rattle.std.proofs.Common.{ℕ, zero, suc, Bool, true, false, List, [], ◌∷◌, length, Option, Some, None}
use Rattle.std.specs.Prelude.{Result, Ok, Err, MatchOption, MatchResult, codes, nat_le, option_map, slice_index_or}
use Rattle.std.specs.Char.{is_ascii_digit}
use Rattle.std.specs.Cmp.Lexicographic.{same_text}
use Rattle.std.specs.List.{All, Any, Contains, list_all, onto_first}
use Rattle.std.specs.Str.Parse.{digits_value}
use Rattle.std.proofs.lemmas.Bool.{cases_Bool, eqb-true}
use Rattle.std.proofs.lemmas.Bool.Decides.{nat_tests}
use Rattle.std.proofs.lemmas.List.Elements.{All-cons, All-head, All-tail}
use Rattle.std.proofs.lemmas.List.Splits.{slice_split_none}
use Rattle.gtd_text.specs.facts.Readings.{is_reading, stands_for, faultless}
use Rattle.gtd_rows.specs.Columns.{IsSortedSet, and_code, code_of, codes_of, direction_of, is_word}
use Rattle.gtd_rows.specs.Columns.{is_zero, items_of, named, single, type_of, types_listed}
use Rattle.gtd_records.specs.ComputedRow as computed
use Rattle.gtd_records.specs.Row.{AreCodes, AreTypes, Column, IsDomain, IsNumber, IsRow, IsWordFor, items}
use Rattle.gtd_rows.specs.declared.direction.Closed.TheVariants.{One, Both}
use Rattle.gtd_rows.specs.declared.direction.Direction.{Direction}
use Rattle.gtd_rows.specs.declared.direction.Direction.TheVariants.{Positive, Negative}
use Rattle.gtd_records.specs.facts.RowNames.{AllBut, Closed, Every, Fields, IsDomainColumn, IsOrdered, Only}
use Rattle.gtd_records.specs.facts.RowNames.{RecordFault, Restriction}
use Rattle.gtd_records.specs.facts.RowNames.{TextFault, Tree, Vehicles, Version, closed_of, number_of, vehicles_of, with_domain}
use Rattle.gtd_records.specs.declared.fault.RecordFault.TheVariants as fault
use Rattle.gtd_rows.specs.declared.vehicles.Version.TheVariants as version
use Rattle.gtd_rows.specs.facts.SortedCodes.{ascending}

-- ---- what a test that was passed says

le_true : (a b : ℕ) → a ≤ b → nat_le a b ≡ true
le_true a b h = grind (arith, nat_tests)

true_le : (a b : ℕ) → nat_le a b ≡ true → a ≤ b
true_le a b h = grind (arith, nat_tests)

both : (a b : Bool) → (a && b) ≡ true → (a ≡ true) × (b ≡ true)
both true b h = (refl, h)
both false b h = absurd cc

kept : {A : Type 0} (b : Bool) (o : Option A) (x : A) → cond b o None ≡ Some x → (b ≡ true) × (o ≡ Some x)
kept true o x h = (refl, h)
kept false o x h = cc

other : {A : Type 0} (b : Bool) (x y : A) → b ≡ false → cond b x y ≡ y
other b x y e = rw e refl

some_is : {A : Type 0} (x y : A) → ◌≡◌ {A = Option A} (Some x) (Some y) → x ≡ y
some_is x y e = cc

mapped : {A B : Type 0} (f : A → B) (o : Option A) (y : B) → option_map f o ≡ Some y → (x : A) × (o ≡ Some x) × (f x ≡ y)
mapped f (Some x) y h = (x, refl, some_is (f x) y h)
mapped f None y h = cc

-- ---- numbers

as_number : (text : List ℕ) (n : ℕ) → IsNumber 10 text n → number_of text ≡ Some n
as_number text n is = rw (le_true 1 (length text) is.0, le_true (length text) 10 is.1, is.2) (ap Some (sym is.3))

number_is : (text : List ℕ) (n : ℕ) → number_of text ≡ Some n → IsNumber 10 text n
number_is text n e =
    let k = kept (nat_le 1 (length text) && nat_le (length text) 10 && list_all is_ascii_digit text)
    (Some (digits_value 10 text)) n e in
    let p = both (nat_le 1 (length text) && nat_le (length text) 10) (list_all is_ascii_digit text) k.0 in
    let q = both (nat_le 1 (length text)) (nat_le (length text) 10) p.0 in
    (true_le 1 (length text) q.0, true_le (length text) 10 q.1, p.1, sym (some_is (digits_value 10 text) n k.1))

as_code : (text : List ℕ) (code : ℕ) → IsNumber 2 text code → code_of text ≡ Some code
as_code text code is =
    let few = is.1 in
    rw (le_true (length text) 2 few) (as_number text code (is.0, omega (arith, few), is.2, is.3))

code_is : (text : List ℕ) (code : ℕ) → code_of text ≡ Some code → IsNumber 2 text code
code_is text code e =
    let k = kept (nat_le (length text) 2) (number_of text) code e in
    let n = number_is text code k.1 in
    (n.0, true_le (length text) 2 k.0, n.2, n.3)

-- ---- directions

word_is : (text word : List ℕ) → is_word text word ≡ true → text ≡ word
word_is text word e = same_text text word (sym e)

as_closed : (text : List ℕ) (closed : Closed) → IsWordFor text closed → closed_of text ≡ Some closed
as_closed text (One Positive) is = rw is refl
as_closed text (One Negative) is = rw is refl
as_closed text Both is = rw is refl

direction_is : (text : List ℕ) (d : Direction) → direction_of text ≡ Some d → IsWordFor text (One d)
direction_is text d e =
    elim (cases_Bool (is_word text (codes "positive"))) [
      | inl p ↦
          let q : ◌≡◌ {A = Option Direction} (Some Positive) (Some d) = rw p at e in
          subst (λ (x : Direction). IsWordFor text (One x)) (some_is Positive d q) (word_is text (codes "positive") p)
      | inr p ↦
          let q : cond (is_word text (codes "negative")) (Some Negative) None ≡ Some d = rw p at e in
          let k = kept (is_word text (codes "negative")) (Some Negative) d q in
          subst (λ (x : Direction). IsWordFor text (One x)) (some_is Negative d k.1) (word_is text (codes "negative") k.0)
    ]

closed_is : (text : List ℕ) (closed : Closed) → closed_of text ≡ Some closed → IsWordFor text closed
closed_is text closed e =
    elim (cases_Bool (is_word text (codes "both"))) [
      | inl p ↦
          let q : ◌≡◌ {A = Option Closed} (Some Both) (Some closed) = rw p at e in
          subst (IsWordFor text) (some_is Both closed q) (word_is text (codes "both") p)
      | inr p ↦
          let q : option_map One (direction_of text) ≡ Some closed = rw p at e in
          let d = mapped One (direction_of text) closed q in
          subst (IsWordFor text) d.2 (direction_is text d.0 d.1)
    ]

-- ---- codes

named_some : (o : Option ℕ) (code : ℕ) → named o ≡ Some code → (o ≡ Some code) × (0 < code)
named_some None code e = absurd cc
named_some (Some x) code e = by_zero (x == 0) refl e
  where
    by_zero : (b : Bool) → (x == 0) ≡ b → ◌≡◌ {A = Option ℕ} (cond b None (Some x)) (Some code) → (Some x ≡ Some code)
        × (0 < code)
    by_zero true is h = absurd cc
    by_zero false is h = let same : x ≡ code = cc in (h, subst (λ (n : ℕ). 0 < n) same (grind (arith, nat_tests)))

some_named : (code : ℕ) → 0 < code → named (Some code) ≡ Some code
some_named code lt = other (code == 0) None (Some code) (grind (arith, nat_tests))

named_not_zero : (o : Option ℕ) (code : ℕ) → named o ≡ Some code → is_zero o ≡ false
named_not_zero None code e = refl
named_not_zero (Some x) code e = let n = named_some (Some x) code e in is_not x code (some_is x code n.0) n.1
  where
    is_not : (a b : ℕ) → a ≡ b → 0 < b → (a == 0) ≡ false
    is_not a b same lt = grind (arith, nat_tests)

zero_is : (o : Option ℕ) → is_zero o ≡ true → o ≡ Some 0
zero_is None e = cc
zero_is (Some x) e = ap Some (eqb-true x 0 e)

item_is : (item : List ℕ) (code : ℕ) → type_of item ≡ Some code → IsNumber 2 item code × (0 < code)
item_is item code e = let n = named_some (code_of item) code e in (code_is item code n.0, n.1)

as_item : (item : List ℕ) (code : ℕ) → IsNumber 2 item code → 0 < code → type_of item ≡ Some code
as_item item code is lt = ap named (as_code item code is) ∙ some_named code lt

one_code : (item : List ℕ) (a b : ℕ) → IsNumber 2 item a → IsNumber 2 item b → a ≡ b
one_code item a b p q = p.3 ∙ sym q.3

and_some : (o : Option ℕ) (p : Option (List ℕ)) (all : List ℕ) → and_code o p ≡ Some all
    → (x : ℕ) × (xs : List ℕ) × (o ≡ Some x) × (p ≡ Some xs) × (all ≡ x ∷ xs)
and_some None p all e = absurd cc
and_some (Some x) None all e = absurd cc
and_some (Some x) (Some xs) all e = (x, xs, refl, refl, cc)

-- an item that is a code from 1 to 99
abbrev IsItem : List ℕ → Type 0
IsItem item = (code : ℕ) × IsNumber 2 item code × (0 < code)

-- some item is the code
abbrev HasCode : List (List ℕ) → ℕ → Type 0
HasCode items code = Any (λ item. IsNumber 2 item code) items

code_first : (item : List ℕ) (items : List (List ℕ)) (code : ℕ) → IsNumber 2 item code → HasCode (item ∷ items) code
code_first item items code is = (0, item, omega arith, refl, is)

code_later : (item : List ℕ) (items : List (List ℕ)) (code : ℕ) → HasCode items code → HasCode (item ∷ items) code
code_later item items code a = (suc a.0, a.1, (let l = a.2 in omega arith), a.3, a.4)

code_at : (item : List ℕ) (items : List (List ℕ)) (code : ℕ) (k : ℕ) (x : List ℕ) → k < length (item ∷ items)
    → slice_index_or (item ∷ items) k x ≡ x → IsNumber 2 x code → IsNumber 2 item code ⊎ HasCode items code
code_at item items code zero x h is p = inl (subst (λ (t : List ℕ). IsNumber 2 t code) (sym is) p)
code_at item items code (suc k) x h is p = inr (k, x, omega arith, is, p)

code_split : (item : List ℕ) (items : List (List ℕ)) (code : ℕ) → HasCode (item ∷ items) code
    → IsNumber 2 item code ⊎ HasCode items code
code_split item items code a = code_at item items code a.0 a.1 a.2 a.3 a.4

code_none : (code : ℕ) → HasCode [] code → ⊥
code_none code a = let l = a.2 in omega arith

each_item : (items : List (List ℕ)) (all : List ℕ) → codes_of items ≡ Some all → All IsItem items
each_item [] all e = λ k d h. absurd (omega arith)
each_item (item ∷ items) all e =
    let s = and_some (type_of item) (codes_of items) all e in
    let one = item_is item s.0 s.2 in
    All-cons IsItem item items (s.0, one.0, one.1) (each_item items s.1 s.3)

to_items : (items : List (List ℕ)) (all : List ℕ) → codes_of items ≡ Some all → (code : ℕ) → Contains all code
    → HasCode items code
to_items [] all e code c = let same : [] ≡ all = cc in none (subst (λ (l : List ℕ). Contains l code) (sym same) c)
  where
    none : Contains [] code → HasCode [] code
    none c = let l = c.1 in absurd (omega arith)
to_items (item ∷ items) all e code c =
    let s = and_some (type_of item) (codes_of items) all e in
    let one = item_is item s.0 s.2 in
    at s.0 s.1 one.0 (to_items items s.1 s.3 code) (subst (λ (l : List ℕ). Contains l code) s.4 c)
  where
    at : (x : ℕ) (xs : List ℕ) → IsNumber 2 item x → (Contains xs code → HasCode items code) → Contains (x ∷ xs) code
        → HasCode (item ∷ items) code
    at x xs is more (zero, h, same) = code_first item items code (subst (λ (n : ℕ). IsNumber 2 item n) same is)
    at x xs is more (suc k, h, same) = code_later item items code (more (k, omega arith, same))

from_items : (items : List (List ℕ)) (all : List ℕ) → codes_of items ≡ Some all → (code : ℕ) → HasCode items code
    → Contains all code
from_items [] all e code a = absurd (code_none code a)
from_items (item ∷ items) all e code a =
    let s = and_some (type_of item) (codes_of items) all e in
    let one = item_is item s.0 s.2 in
    let has : Contains (s.0 ∷ s.1) code =
    elim (code_split item items code a) [
      | inl is ↦ (0, omega arith, one_code item s.0 code one.0 is)
      | inr more ↦ let c = from_items items s.1 s.3 code more in (suc c.0, (let l = c.1 in omega arith), c.2)
    ] in
    subst (λ (l : List ℕ). Contains l code) (sym s.4) has

as_codes : (items : List (List ℕ)) → All IsItem items → (all : List ℕ) × (codes_of items ≡ Some all)
as_codes [] each = ([], refl)
as_codes (item ∷ items) each =
    let first = All-head IsItem item items each in
    let more = as_codes items (All-tail IsItem item items each) in (
      first.0 ∷ more.0,
      ap (λ (o : Option ℕ). and_code o (codes_of items)) (as_item item first.0 first.1 first.2)
          ∙ ap (and_code (Some first.0)) more.1,
    )

codes_are : (items : List (List ℕ)) (all types : List ℕ) → codes_of items ≡ Some all → IsSortedSet all types
    → AreCodes items types
codes_are items all types e set = record {
  each = each_item items all e;
  order = set.order;
  same = λ code. (
    (λ c. to_items items all e code ((set.same code).0 c)),
    (λ a. (set.same code).1 (from_items items all e code a)),
  );
}

as_list : (items : List (List ℕ)) (types : List ℕ) → AreCodes items types
    → (all : List ℕ) × (codes_of items ≡ Some all) × IsSortedSet all types
as_list items types are =
    let a = as_codes items are.each in (
      a.0,
      a.1,
      record {
        order = are.order;
        same = λ code. (
          (λ c. from_items items a.0 a.1 code ((are.same code).0 c)),
          (λ c. (are.same code).1 (to_items items a.0 a.1 code c)),
        );
      },
    )

-- ---- vehicle types

single_item : (text : List ℕ) (all : List ℕ) → codes_of (text ∷ []) ≡ Some all
    → (code : ℕ) × (type_of text ≡ Some code) × (all ≡ code ∷ [])
single_item text all e =
    let s = and_some (type_of text) (Some []) all e in
    (s.0, s.2, s.4 ∙ ap (λ (l : List ℕ). s.0 ∷ l) (sym (some_is [] s.1 s.3)))

digit_goes_on : (c : ℕ) → is_ascii_digit c ≡ true → (c == 59) ≡ false
digit_goes_on c h = grind (arith, nat_tests)

no_semicolon : (text : List ℕ) → list_all is_ascii_digit text ≡ true → All (λ (c : ℕ). (c == 59) ≡ false) text
no_semicolon [] h = λ k d l. absurd (omega arith)
no_semicolon (c ∷ text) h =
    let p = both (is_ascii_digit c) (list_all is_ascii_digit text) h in
    All-cons (λ (c : ℕ). (c == 59) ≡ false) c text (digit_goes_on c p.0) (no_semicolon text p.1)

-- a list of codes is not the code 0
list_not_zero : (text all : List ℕ) → codes_of (items_of text) ≡ Some all → is_zero (code_of text) ≡ false
list_not_zero text all e =
    elim (cases_Bool (is_zero (code_of text))) [
      | inl z ↦
          let is = code_is text 0 (zero_is (code_of text) z) in
          let one : items_of text ≡ text ∷ [] = slice_split_none (λ (c : ℕ). c == 59) text (no_semicolon text is.2) in
          let s = single_item text all (subst (λ (l : List (List ℕ)). codes_of l ≡ Some all) one e) in
          named_not_zero (code_of text) s.0 s.1
      | inr z ↦ z
    ]

-- what begins with a `!` is no code
mark_no_type : (text : List ℕ) (code : ℕ) → type_of (33 ∷ text) ≡ Some code → ⊥
mark_no_type text code e = let is = item_is (33 ∷ text) code e in let d = is.0.2 in cc

mark_not_zero : (text : List ℕ) → is_zero (code_of (33 ∷ text)) ≡ false
mark_not_zero text =
    elim (cases_Bool (is_zero (code_of (33 ∷ text)))) [
      | inl z ↦ (let is = code_is (33 ∷ text) 0 (zero_is (code_of (33 ∷ text)) z) in let d = is.2 in absurd cc)
      | inr z ↦ z
    ]

mark_no_list : (parts : List (List ℕ)) (all : List ℕ) → codes_of (onto_first 33 parts) ≡ Some all → ⊥
mark_no_list [] all e = let s = and_some (type_of (33 ∷ [])) (Some []) all e in mark_no_type [] s.0 s.2
mark_no_list (part ∷ parts) all e =
    let s = and_some (type_of (33 ∷ part)) (codes_of parts) all e in mark_no_type part s.0 s.2

list_is_listed : (text all : List ℕ) → codes_of (items_of text) ≡ Some all → types_listed text ≡ Some (Only all)
list_is_listed [] all e = absurd cc
list_is_listed (c ∷ text) all e =
    elim (cases_Bool (c == 33)) [
      | inl p ↦
          let same = eqb-true c 33 p in
          let marked : codes_of (items_of (33 ∷ text)) ≡ Some all =
          subst (λ (x : ℕ). codes_of (items_of (x ∷ text)) ≡ Some all) same e in
          absurd (mark_no_list (items_of text) all marked)
      | inr p ↦
          other (c == 33) (option_map AllBut (codes_of (items_of text))) (option_map Only (codes_of (items_of (c ∷ text)))) p
          ∙ ap (option_map Only) e
    ]

-- the types as they are named, and in order
abbrev AreNamed : Version → List ℕ → Vehicles → Type 0
AreNamed v text types = (named : Vehicles) × (vehicles_of v text ≡ Some named) × IsOrdered named types

every_named : (v : Version) (text : List ℕ) → IsNumber 2 text 0 → AreNamed v text Every
every_named version.One text is = (Every, rw (ap is_zero (as_code text 0 is)) refl, refl)
every_named version.Two text is = (Every, rw (ap is_zero (as_code text 0 is)) refl, refl)

as_types : (v : Version) (text : List ℕ) (types : Vehicles) → AreTypes v text types → AreNamed v text types
as_types version.One text Every is = every_named version.One text is
as_types version.Two text Every is = every_named version.Two text is
as_types version.One text (Only types) is =
    let l = as_list (text ∷ []) types is in
    let s = single_item text l.0 l.1 in (
      Only (s.0 ∷ []),
      other (is_zero (code_of text)) (Some Every) (single text) (named_not_zero (code_of text) s.0 s.1)
          ∙ ap (option_map (λ (code : ℕ). Only (code ∷ []))) s.1,
      (types, subst (λ (all : List ℕ). IsSortedSet all types) s.2 l.2, refl),
    )
as_types version.One text (AllBut types) is = absurd is
as_types version.Two text (Only types) is =
    let l = as_list (items_of text) types is in (
      Only l.0,
      other (is_zero (code_of text)) (Some Every) (types_listed text) (list_not_zero text l.0 l.1)
          ∙ list_is_listed text l.0 l.1,
      (types, l.2, refl),
    )
as_types version.Two text (AllBut types) is =
    let l = as_list (items_of is.0) types is.2 in
    let e : vehicles_of version.Two (33 ∷ is.0) ≡ Some (AllBut l.0) =
    other (is_zero (code_of (33 ∷ is.0))) (Some Every) (types_listed (33 ∷ is.0)) (mark_not_zero is.0)
    ∙ ap (option_map AllBut) l.1 in (
      AllBut l.0,
      subst (λ (t : List ℕ). vehicles_of version.Two t ≡ Some (AllBut l.0)) (sym is.1) e,
      (types, l.2, refl),
    )

every_is : (v : Version) (text : List ℕ) (named types : Vehicles) → is_zero (code_of text) ≡ true
    → ◌≡◌ {A = Option Vehicles} (Some Every) (Some named) → IsOrdered named types → AreTypes v text types
every_is v text named types z e is =
    let every : types ≡ Every = subst (λ (n : Vehicles). IsOrdered n types) (sym (some_is Every named e)) is in
    subst (AreTypes v text) (sym every) (code_is text 0 (zero_is (code_of text) z))

single_is : (text : List ℕ) (named types : Vehicles) → single text ≡ Some named → IsOrdered named types
    → AreTypes version.One text types
single_is text named types e is =
    let m = mapped (λ (code : ℕ). Only (code ∷ [])) (type_of text) named e in
    let o : IsOrdered (Only (m.0 ∷ [])) types = subst (λ (n : Vehicles). IsOrdered n types) (sym m.2) is in
    let all : codes_of (text ∷ []) ≡ Some (m.0 ∷ []) = ap (λ (c : Option ℕ). and_code c (Some [])) m.1 in
    subst (AreTypes version.One text) (sym o.2) (codes_are (text ∷ []) (m.0 ∷ []) o.0 all o.1)

listed_is : (text : List ℕ) (named types : Vehicles) → types_listed text ≡ Some named → IsOrdered named types
    → AreTypes version.Two text types
listed_is [] named types e is = absurd cc
listed_is (c ∷ text) named types e is =
    elim (cases_Bool (c == 33)) [
      | inl p ↦
          let q : option_map AllBut (codes_of (items_of text)) ≡ Some named = rw p at e in
          let m = mapped AllBut (codes_of (items_of text)) named q in
          let o : IsOrdered (AllBut m.0) types = subst (λ (n : Vehicles). IsOrdered n types) (sym m.2) is in
          subst (AreTypes version.Two (c ∷ text)) (sym o.2)
          (text, ap (λ (x : ℕ). x ∷ text) (eqb-true c 33 p), codes_are (items_of text) m.0 o.0 m.1 o.1)
      | inr p ↦
          let q : option_map Only (codes_of (items_of (c ∷ text))) ≡ Some named = rw p at e in
          let m = mapped Only (codes_of (items_of (c ∷ text))) named q in
          let o : IsOrdered (Only m.0) types = subst (λ (n : Vehicles). IsOrdered n types) (sym m.2) is in
          subst (AreTypes version.Two (c ∷ text)) (sym o.2) (codes_are (items_of (c ∷ text)) m.0 o.0 m.1 o.1)
    ]

types_are : (v : Version) (text : List ℕ) (named types : Vehicles) → vehicles_of v text ≡ Some named → IsOrdered named types
    → AreTypes v text types
types_are version.One text named types e is =
    elim (cases_Bool (is_zero (code_of text))) [
      | inl z ↦ every_is version.One text named types z (sym (at_true (is_zero (code_of text)) (single text) z) ∙ e) is
      | inr z ↦ single_is text named types (sym (other (is_zero (code_of text)) (Some Every) (single text) z) ∙ e) is
    ]
  where
    at_true : (b : Bool) (o : Option Vehicles) → b ≡ true → cond b (Some Every) o ≡ Some Every
    at_true b o h = rw h refl
types_are version.Two text named types e is =
    elim (cases_Bool (is_zero (code_of text))) [
      | inl z ↦ every_is version.Two text named types z (sym (at_true (is_zero (code_of text)) (types_listed text) z) ∙ e) is
      | inr z ↦ listed_is text named types (sym (other (is_zero (code_of text)) (Some Every) (types_listed text) z) ∙ e) is
    ]
  where
    at_true : (b : Bool) (o : Option Vehicles) → b ≡ true → cond b (Some Every) o ≡ Some Every
    at_true b o h = rw h refl

some_order : (named : Vehicles) → (types : Vehicles) × IsOrdered named types
some_order Every = (Every, refl)
some_order (Only codes) = let a = ascending codes in (Only a.0, (a.0, a.1, refl))
some_order (AllBut codes) = let a = ascending codes in (AllBut a.0, (a.0, a.1, refl))

-- ---- domains

domain_is : (text : List ℕ) (read : Result (Option Tree) TextFault) → IsDomainColumn text read → IsDomain text read
domain_is [] (Ok None) is = refl
domain_is [] (Ok (Some tree)) is = absurd cc
domain_is [] (Err why) is = absurd is
domain_is (b ∷ text) (Ok None) is = absurd is
domain_is (b ∷ text) (Ok (Some tree)) is = ((λ e. cc), is_reading (b ∷ text) tree is.0 is.1)
domain_is (b ∷ text) (Err why) is = ((λ e. cc), is)

as_domain : (text : List ℕ) (read : Result (Option Tree) TextFault) → IsDomain text read → IsDomainColumn text read
as_domain [] (Ok None) is = refl
as_domain [] (Ok (Some tree)) is = absurd (is.0 refl)
as_domain [] (Err why) is = absurd (is.0 refl)
as_domain (b ∷ text) (Ok None) is = absurd cc
as_domain (b ∷ text) (Ok (Some tree)) is = (stands_for (b ∷ text) tree is.1, faultless (b ∷ text) tree is.1)
as_domain (b ∷ text) (Err why) is = is.1

-- ---- rows

-- a column whose value is computed
to_column : {T : Type 0} (o : Option T) (Is : T → Type 0) (Bad : Type 0) (Old New : T → Type 0)
    → ((x : T) → o ≡ Some x → Is x) → ((x : T) → Is x → o ≡ Some x) → ((x : T) → Old x → New x)
    → MatchOption o Bad Old → Column Is Bad New
to_column None Is Bad Old New is made step bad = inr ((λ x s. let e = made x s in cc), bad)
to_column (Some x) Is Bad Old New is made step old = inl (x, is x refl, step x old)

of_column : {T : Type 0} (o : Option T) (Is : T → Type 0) (Bad : Type 0) (Old New : T → Type 0)
    → ((x : T) → o ≡ Some x → Is x) → ((x : T) → Is x → o ≡ Some x) → ((x : T) → New x → Old x)
    → Column Is Bad New → MatchOption o Bad Old
of_column o Is Bad Old New is made step (inl good) =
    subst (λ (p : Option _). MatchOption p Bad Old) (sym (made good.0 good.1)) (step good.0 good.2)
of_column None Is Bad Old New is made step (inr bad) = bad.1
of_column (Some x) Is Bad Old New is made step (inr bad) = absurd (bad.0 x (is x refl))

module _ (v : Version) (number : ℕ) (e d t text : List ℕ) (answer : Result Restriction RecordFault) where
  abbrev Made : ℕ → Closed → Vehicles → Type 0
  Made x c types = (read : Result (Option Tree) TextFault) × IsDomain text read × MatchResult read
      (λ domain. answer ≡ Ok (record { element = x; closed = c; vehicles = types; domain = domain }))
      (λ why. answer ≡ Err (fault.Domain number why))

  abbrev Ordered : ℕ → Closed → Vehicles → Type 0
  Ordered x c named = (types : Vehicles) × (read : Result (Option Tree) TextFault)
      × IsOrdered named types × IsDomainColumn text read × (answer ≡ with_domain number x c types read)

  to_made : (x : ℕ) (c : Closed) (types : Vehicles) (read : Result (Option Tree) TextFault) → IsDomainColumn text read
      → answer ≡ with_domain number x c types read → Made x c types
  to_made x c types (Ok domain) is same = (Ok domain, domain_is text (Ok domain) is, same)
  to_made x c types (Err why) is same = (Err why, domain_is text (Err why) is, same)

  of_made : (x : ℕ) (c : Closed) (named types : Vehicles) → IsOrdered named types → Made x c types → Ordered x c named
  of_made x c named types order (Ok domain, is, same) = (types, Ok domain, order, as_domain text (Ok domain) is, same)
  of_made x c named types order (Err why, is, same) = (types, Err why, order, as_domain text (Err why) is, same)

  abbrev Typed : ℕ → Closed → Type 0
  Typed x c = MatchOption (vehicles_of v t) (answer ≡ Err (fault.Vehicle number)) (Ordered x c)

  abbrev Types : ℕ → Closed → Type 0
  Types x c = Column (AreTypes v t) (answer ≡ Err (fault.Vehicle number)) (Made x c)

  to_types : (x : ℕ) (c : Closed) (o : Option Vehicles) → vehicles_of v t ≡ o
      → MatchOption o (answer ≡ Err (fault.Vehicle number)) (Ordered x c) → Types x c
  to_types x c None is bad = inr ((λ types are. let n = as_types v t types are in let f = n.1 in cc), bad)
  to_types x c (Some named) is old =
      inl (old.0, types_are v t named old.0 is old.2, to_made x c old.0 old.1 old.3 old.4)

  of_types : (x : ℕ) (c : Closed) (o : Option Vehicles) → vehicles_of v t ≡ o → Types x c
      → MatchOption o (answer ≡ Err (fault.Vehicle number)) (Ordered x c)
  of_types x c o is (inl good) =
      let n = as_types v t good.0 good.1 in
      subst (λ (p : Option Vehicles). MatchOption p (answer ≡ Err (fault.Vehicle number)) (Ordered x c)) (sym n.1 ∙ is)
      (of_made x c n.0 good.0 n.2 good.2)
  of_types x c None is (inr bad) = bad.1
  of_types x c (Some named) is (inr bad) =
      let order = some_order named in absurd (bad.0 order.0 (types_are v t named order.0 is order.1))

  to_full : computed.IsFullRow v number e d t text answer → IsRow v number (e ∷ d ∷ t ∷ text ∷ []) answer
  to_full =
      to_column (number_of e) (IsNumber 10 e) (answer ≡ Err (fault.Element number)) _ _ (number_is e) (as_number e)
      (λ x. to_column (closed_of d) (IsWordFor d) (answer ≡ Err (fault.Direction number)) (Typed x) (Types x)
      (closed_is d) (as_closed d) (λ c. to_types x c (vehicles_of v t) refl))

  of_full : IsRow v number (e ∷ d ∷ t ∷ text ∷ []) answer → computed.IsFullRow v number e d t text answer
  of_full =
      of_column (number_of e) (IsNumber 10 e) (answer ≡ Err (fault.Element number)) _ _ (number_is e) (as_number e)
      (λ x. of_column (closed_of d) (IsWordFor d) (answer ≡ Err (fault.Direction number)) (Typed x) (Types x)
      (closed_is d) (as_closed d) (λ c. of_types x c (vehicles_of v t) refl))

pub row_of : (v : Version) (number : ℕ) (row : Fields) (answer : Result Restriction RecordFault)
    → computed.IsRow v number row answer → IsRow v number row answer
row_of v number [] answer is = is
row_of v number (e ∷ []) answer is = is
row_of v number (e ∷ d ∷ []) answer is = is
row_of v number (e ∷ d ∷ t ∷ []) answer is = is
row_of v number (e ∷ d ∷ t ∷ text ∷ []) answer is = to_full v number e d t text answer is
row_of v number (e ∷ d ∷ t ∷ text ∷ more ∷ rest) answer is = is

pub computed_row : (v : Version) (number : ℕ) (row : Fields) (answer : Result Restriction RecordFault)
    → IsRow v number row answer → computed.IsRow v number row answer
computed_row v number [] answer is = is
computed_row v number (e ∷ []) answer is = is
computed_row v number (e ∷ d ∷ []) answer is = is
computed_row v number (e ∷ d ∷ t ∷ []) answer is = is
computed_row v number (e ∷ d ∷ t ∷ text ∷ []) answer is = of_full v number e d t text answer is
computed_row v number (e ∷ d ∷ t ∷ text ∷ more ∷ rest) answer is = is
