-- The vehicle types of a row that was read: the text of their column is read again as them.
use Rattle.std.proofs.Common.{◌≡◌, ◌∙◌, ◌<◌, ◌^◌, ap, refl, sym, subst, arith, cond, ℕ, zero, suc, List, [], ◌∷◌, ◌++◌}
use Rattle.std.proofs.Common.{length, length-append, map, Bool, true, false, Option, Some, None}
use Rattle.std.specs.Prelude.{codes, decimal, flat_map, nat_le, option_map, ◌&&◌, ◌==◌}
use Rattle.std.specs.Char.{is_ascii_digit, digit_value}
use Rattle.std.specs.List.{All, Contains, list_all}
use Rattle.std.specs.List.Sorted.{IsStrictlyIncreasing}
use Rattle.std.specs.Str.Parse.{AllDigits}
use Rattle.std.proofs.lemmas.Bool.{leb-true}
use Rattle.std.proofs.lemmas.Bool.Decides.{nat_tests}
use Rattle.std.proofs.lemmas.Fmt.{decimal_is_IsNumeral, decimal_nonempty, length-decimal-le}
use Rattle.std.proofs.lemmas.List.{append-nil}
use Rattle.std.proofs.lemmas.List.Splits.{length-slice_split, slice_split_at, slice_split_none}
use Rattle.gtd_rows.specs.facts.NumberFacts.{number_below}
use Rattle.gtd_rows.specs.Columns.{code_of, number_of, IsSortedSet, IsOrdered, and_code, codes_of, is_zero, items_of}
use Rattle.gtd_rows.specs.Columns.{types_listed, named, single, type_of, vehicles_of}
use Rattle.gtd_rows.specs.declared.vehicles.Vehicles.{Vehicles}
use Rattle.gtd_rows.specs.declared.vehicles.Vehicles.TheVariants.{Every, Only, AllBut}
use Rattle.gtd_rows.specs.declared.vehicles.Version.{Version}
use Rattle.gtd_rows.specs.declared.vehicles.Version.TheVariants as version
use Rattle.gtd_migrate.specs.Migrated.{codes_text, vehicles_text}
use Rattle.gtd_migrate.proofs.TextFacts.{IsPlain, decimal_plain, plain_joined}

-- ---- which types a column can name

-- each is a type
abbrev pub AreTypes : List ℕ → Type 0
AreTypes [] = Unit {0}
AreTypes (x ∷ xs) = (0 < x) × (x < 100) × AreTypes xs

-- types, at least one, ascending and each once
pub record IsList (types : List ℕ) : Type 0 where
  pub order : IsStrictlyIncreasing types
  pub some : 0 < length types
  pub each : AreTypes types

-- what a column can name
abbrev pub IsNamed : Vehicles → Type 0
IsNamed Every = Unit {0}
IsNamed (Only types) = IsList types
IsNamed (AllBut types) = IsList types

code_below : (text : List ℕ) (code : ℕ) → code_of text ≡ Some code → code < 100
code_below text code e = by_length (nat_le (length text) 2) refl e
  where
    by_length : (b : Bool) → nat_le (length text) 2 ≡ b → ◌≡◌ {A = Option ℕ} (cond b (number_of text) None) (Some code)
        → code < 100
    by_length true few h = let below = number_below text code 2 h (leb-true (length text) 2 few) in omega arith
    by_length false few h = absurd cc

named_some : (o : Option ℕ) (code : ℕ) → named o ≡ Some code → (o ≡ Some code) × (0 < code)
named_some None code e = absurd cc
named_some (Some x) code e = by_zero (x == 0) refl e
  where
    by_zero : (b : Bool) → (x == 0) ≡ b → ◌≡◌ {A = Option ℕ} (cond b None (Some x)) (Some code) → (Some x ≡ Some code)
        × (0 < code)
    by_zero true is h = absurd cc
    by_zero false is h = let same : x ≡ code = cc in (h, subst (λ (n : ℕ). 0 < n) same (grind (arith, nat_tests)))

type_within : (text : List ℕ) (code : ℕ) → type_of text ≡ Some code → (0 < code) × (code < 100)
type_within text code e = let n = named_some (code_of text) code e in (n.1, code_below text code n.0)

and_some : (o : Option ℕ) (p : Option (List ℕ)) (all : List ℕ) → and_code o p ≡ Some all
    → (x : ℕ) × (xs : List ℕ) × (o ≡ Some x) × (p ≡ Some xs) × (all ≡ x ∷ xs)
and_some None p all e = absurd cc
and_some (Some x) None all e = absurd cc
and_some (Some x) (Some xs) all e = (x, xs, refl, refl, cc)

codes_are_types : (items : List (List ℕ)) (all : List ℕ) → codes_of items ≡ Some all → AreTypes all × (length all ≡ length items)
codes_are_types [] all e = let same : [] ≡ all = cc in subst (λ (l : List ℕ). AreTypes l × (length l ≡ 0)) same (tt, refl)
codes_are_types (item ∷ items) all e =
    let s = and_some (type_of item) (codes_of items) all e in
    let one = type_within item s.0 s.2 in
    let more = codes_are_types items s.1 s.3 in
    let n = more.1 in
    subst (λ (l : List ℕ). AreTypes l × (length l ≡ length (item ∷ items))) (sym s.4) ((one.0, one.1, more.0), omega arith)

member : (all : List ℕ) → AreTypes all → (n : ℕ) → Contains all n → (0 < n) × (n < 100)
member [] are n (k, h, e) = absurd (omega arith)
member (x ∷ xs) are n (zero, h, e) = subst (λ (m : ℕ). (0 < m) × (m < 100)) e (are.0, are.1)
member (x ∷ xs) are n (suc k, h, e) = member xs are.2 n (k, omega arith, e)

are_types : (types : List ℕ) → ((n : ℕ) → Contains types n → (0 < n) × (n < 100)) → AreTypes types
are_types [] within = tt
are_types (x ∷ xs) within =
    let first = within x (0, omega arith, refl) in
    (first.0, first.1, are_types xs (λ n c. within n (suc c.0, (let l = c.1 in omega arith), c.2)))

some_member : (all types : List ℕ) → 0 < length all → ((n : ℕ) → Contains all n → Contains types n) → 0 < length types
some_member [] types h into = absurd (omega arith)
some_member (x ∷ xs) types h into = let c = into x (0, omega arith, refl) in let l = c.1 in omega arith

is_list : (all types : List ℕ) → AreTypes all → 0 < length all → IsSortedSet all types → IsList types
is_list all types are some is = record {
  order = is.order;
  some = some_member all types some (λ n. (is.same n).1);
  each = are_types types (λ n c. member all are n ((is.same n).0 c));
}

-- the list that a word keeps is that of the vehicle types in order
module _ (kind : List ℕ → Vehicles) (named : (types : List ℕ) → IsList types → IsNamed (kind types))
    (ordered : (all : List ℕ) (types : Vehicles) → IsOrdered (kind all) types
    → (list : List ℕ) × IsSortedSet all list × (types ≡ kind list)) where
  kind_named : (o : Option (List ℕ)) (given types : Vehicles)
      → ((all : List ℕ) → o ≡ Some all → AreTypes all × (0 < length all))
      → option_map kind o ≡ Some given → IsOrdered given types → IsNamed types
  kind_named None given types are e is = absurd cc
  kind_named (Some all) given types are e is =
      let a = are all refl in
      let same : kind all ≡ given = cc in
      let o = ordered all types (subst (λ (v : Vehicles). IsOrdered v types) (sym same) is) in
      subst IsNamed (sym o.2) (named o.0 (is_list all o.0 a.0 a.1 o.1))

only_named : (o : Option (List ℕ)) (given types : Vehicles) → ((all : List ℕ) → o ≡ Some all → AreTypes all × (0 < length all))
    → option_map Only o ≡ Some given → IsOrdered given types → IsNamed types
only_named = kind_named Only (λ types l. l) (λ all types o. o)

all_but_named : (o : Option (List ℕ)) (given types : Vehicles) → ((all : List ℕ) → o ≡ Some all → AreTypes all × (0 <
    length all))
    → option_map AllBut o ≡ Some given → IsOrdered given types → IsNamed types
all_but_named = kind_named AllBut (λ types l. l) (λ all types o. o)

every_named : (given types : Vehicles) → Some Every ≡ Some given → IsOrdered given types → IsNamed types
every_named given types e is =
    let same : Every ≡ given = cc in
    let ordered : IsOrdered Every types = subst (λ (v : Vehicles). IsOrdered v types) (sym same) is in
    subst IsNamed (sym ordered) tt

items_are : (text : List ℕ) (all : List ℕ) → codes_of (items_of text) ≡ Some all → AreTypes all × (0 < length all)
items_are text all e =
    let c = codes_are_types (items_of text) all e in
    let n = c.1 in
    let m = length-slice_split (λ (b : ℕ). b == 59) text in
    (c.0, omega arith)

single_named : (o : Option ℕ) (given types : Vehicles) → ((code : ℕ) → o ≡ Some code → (0 < code) × (code < 100))
    → option_map (λ code. Only (code ∷ [])) o ≡ Some given → IsOrdered given types → IsNamed types
single_named None given types within e is = absurd cc
single_named (Some code) given types within e is =
    let w = within code refl in
    only_named (Some (code ∷ [])) given types (λ all s. let same : code ∷ [] ≡ all = cc in
    subst (λ (l : List ℕ). AreTypes l × (0 < length l)) same ((w.0, w.1, tt), omega arith)) e is

listed_named : (text : List ℕ) (given types : Vehicles) → types_listed text ≡ Some given → IsOrdered given types → IsNamed types
listed_named [] given types e is = absurd cc
listed_named (first ∷ rest) given types e is = by_mark (first == 33) e
  where
    by_mark : (b : Bool) → cond b (option_map AllBut (codes_of (items_of rest)))
        (option_map Only (codes_of (items_of (first ∷ rest)))) ≡ Some given → IsNamed types
    by_mark true h = all_but_named (codes_of (items_of rest)) given types (items_are rest) h is
    by_mark false h = only_named (codes_of (items_of (first ∷ rest))) given types (items_are (first ∷ rest)) h is

pub vehicles_named : (v : Version) (text : List ℕ) (given types : Vehicles) → vehicles_of v text ≡ Some given
    → IsOrdered given types → IsNamed types
vehicles_named version.One text given types e is = by_zero (is_zero (code_of text)) e
  where
    by_zero : (b : Bool) → cond b (Some Every) (single text) ≡ Some given → IsNamed types
    by_zero true h = every_named given types h is
    by_zero false h = single_named (type_of text) given types (type_within text) h is
vehicles_named version.Two text given types e is = by_zero (is_zero (code_of text)) e
  where
    by_zero : (b : Bool) → cond b (Some Every) (types_listed text) ≡ Some given → IsNamed types
    by_zero true h = every_named given types h is
    by_zero false h = listed_named text given types h is

-- ---- and what its text is read as

digit_is : (c : ℕ) → digit_value c < 10 → (is_ascii_digit c ≡ true) × ((c == 59) ≡ false) × ((c == 33) ≡ false)
digit_is c h = (grind (arith, nat_tests), grind (arith, nat_tests), grind (arith, nat_tests))

digits_are : (text : List ℕ) → AllDigits 10 text → list_all is_ascii_digit text ≡ true
digits_are [] h = refl
digits_are (c ∷ text) h = rw ((digit_is c h.0).0, digits_are text h.1) refl

no_semicolon : (text : List ℕ) → AllDigits 10 text → All (λ (b : ℕ). (b == 59) ≡ false) text
no_semicolon [] h k d l = absurd (omega arith)
no_semicolon (c ∷ text) h zero d l = (digit_is c h.0).1
no_semicolon (c ∷ text) h (suc k) d l = no_semicolon text h.1 k d (omega arith)

-- a number of at most ten digits is read again
pub number_read : (n : ℕ) → n < 10 ^ 10 → number_of (decimal n) ≡ Some n
number_read n h =
    let d = decimal_is_IsNumeral n (omega arith) in
    let few = length-decimal-le 10 n (omega arith) h (omega arith) in
    let one : nat_le 1 (length (decimal n)) ≡ true = (let some = d.0.0 in grind (arith, nat_tests)) in
    let ten : nat_le (length (decimal n)) 10 ≡ true = grind (arith, nat_tests) in
    rw (one, ten, digits_are (decimal n) d.0.1, d.1) refl

code_read : (n : ℕ) → n < 100 → code_of (decimal n) ≡ Some n
code_read n h =
    let few = length-decimal-le 2 n (omega arith) (omega arith) (omega arith) in
    let two : nat_le (length (decimal n)) 2 ≡ true = grind (arith, nat_tests) in
    rw two (number_read n (omega arith))

not_zero : (n : ℕ) → 0 < n → (n == 0) ≡ false
not_zero n h = grind (arith, nat_tests)

type_read : (n : ℕ) → 0 < n → n < 100 → type_of (decimal n) ≡ Some n
type_read n some h = ap named (code_read n h) ∙ rw (not_zero n some) refl

codes_read : (types : List ℕ) → AreTypes types → codes_of (map decimal types) ≡ Some types
codes_read [] are = refl
codes_read (x ∷ xs) are = rw (type_read x are.0 are.1, codes_read xs are.2) refl

digits_of : (n : ℕ) → n < 100 → AllDigits 10 (decimal n)
digits_of n h = (decimal_is_IsNumeral n (omega arith)).0.1

items_read : (x : ℕ) (rest : List ℕ) → x < 100 → AreTypes rest → items_of (codes_text (x ∷ rest)) ≡ map decimal (x ∷ rest)
items_read x [] h are =
    ap items_of (append-nil (decimal x)) ∙ slice_split_none (λ (b : ℕ). b == 59) (decimal x)
    (no_semicolon (decimal x) (digits_of x h))
items_read x (y ∷ rest) h are =
    slice_split_at (λ (b : ℕ). b == 59) (decimal x) 59 (codes_text (y ∷ rest)) (no_semicolon (decimal x) (digits_of x h)) refl
    ∙ ap (λ (l : List (List ℕ)). decimal x ∷ l) (items_read y rest are.1 are.2)

list_read : (x : ℕ) (rest : List ℕ) → AreTypes (x ∷ rest) → codes_of (items_of (codes_text (x ∷ rest))) ≡ Some (x ∷ rest)
list_read x rest are = ap codes_of (items_read x rest are.1 are.2) ∙ codes_read (x ∷ rest) are

long_code : (text : List ℕ) → 2 < length text → is_zero (code_of text) ≡ false
long_code text h =
    let long : nat_le (length text) 2 ≡ false = grind (arith, nat_tests) in
    rw long refl

list_not_zero : (x : ℕ) (rest : List ℕ) → AreTypes (x ∷ rest) → is_zero (code_of (codes_text (x ∷ rest))) ≡ false
list_not_zero x [] are =
    ap (λ (t : List ℕ). is_zero (code_of t)) (append-nil (decimal x)) ∙ ap is_zero (code_read x are.1) ∙ not_zero x are.0
list_not_zero x (y ∷ rest) are =
    let a = decimal_nonempty x (let h = are.1 in omega arith) in
    let b = decimal_nonempty y (let h = are.2.1 in omega arith) in
    let c = length-append (decimal x) (59 ∷ codes_text (y ∷ rest)) in
    let d = length-append (decimal y) (flat_map (λ (other : ℕ). codes ";" ++ decimal other) rest) in
    long_code (codes_text (x ∷ y ∷ rest)) (omega arith)

no_mark : (text rest : List ℕ) → 0 < length text → AllDigits 10 text → types_listed (text ++ rest)
    ≡ option_map Only (codes_of (items_of (text ++ rest)))
no_mark [] rest some h = absurd (omega arith)
no_mark (c ∷ text) rest some h = rw ((digit_is c h.0).2) refl

and_false : (a b : Bool) → (a && b && false) ≡ false
and_false true true = refl
and_false true false = refl
and_false false b = refl

mark_not_zero : (text : List ℕ) → is_zero (code_of (33 ∷ text)) ≡ false
mark_not_zero text = by_length (nat_le (length (33 ∷ text)) 2)
  where
    none : number_of (33 ∷ text) ≡ None
    none = rw (and_false (nat_le 1 (length (33 ∷ text))) (nat_le (length (33 ∷ text)) 10)) refl

    by_length : (b : Bool) → is_zero (cond b (number_of (33 ∷ text)) None) ≡ false
    by_length true = ap is_zero none
    by_length false = refl

pub vehicles_read : (v : Vehicles) → IsNamed v → vehicles_of version.Two (vehicles_text v) ≡ Some v
vehicles_read Every is = refl
vehicles_read (Only []) is = absurd (let s = is.some in omega arith)
vehicles_read (Only (x ∷ rest)) is =
    let are = is.each in
    rw (list_not_zero x rest are)
    (no_mark (decimal x) (flat_map (λ (other : ℕ). codes ";" ++ decimal other) rest)
    (decimal_nonempty x (let h = are.1 in omega arith)) (digits_of x are.1)
    ∙ ap (option_map Only) (list_read x rest are))
vehicles_read (AllBut []) is = absurd (let s = is.some in omega arith)
vehicles_read (AllBut (x ∷ rest)) is =
    rw (mark_not_zero (codes_text (x ∷ rest))) (ap (option_map AllBut) (list_read x rest is.each))

itself : (types : List ℕ) → IsStrictlyIncreasing types → IsSortedSet types types
itself types order = record { order = order; same = λ code. (λ c. c, λ c. c) }

pub ordered_itself : (v : Vehicles) → IsNamed v → IsOrdered v v
ordered_itself Every is = refl
ordered_itself (Only types) is = (types, itself types is.order, refl)
ordered_itself (AllBut types) is = (types, itself types is.order, refl)

-- ---- and it needs no quotes

rest_plain : (rest : List ℕ) → AreTypes rest → IsPlain (flat_map (λ (other : ℕ). codes ";" ++ decimal other) rest)
rest_plain [] are = refl
rest_plain (x ∷ rest) are =
    plain_joined (codes ";" ++ decimal x) (flat_map (λ (other : ℕ). codes ";" ++ decimal other) rest)
    (plain_joined (codes ";") (decimal x) refl (decimal_plain x (let h = are.1 in omega arith))) (rest_plain rest are.2)

codes_plain : (types : List ℕ) → AreTypes types → IsPlain (codes_text types)
codes_plain [] are = refl
codes_plain (x ∷ rest) are =
    plain_joined (decimal x) (flat_map (λ (other : ℕ). codes ";" ++ decimal other) rest)
    (decimal_plain x (let h = are.1 in omega arith)) (rest_plain rest are.2)

pub vehicles_plain : (v : Vehicles) → IsNamed v → IsPlain (vehicles_text v)
vehicles_plain Every is = refl
vehicles_plain (Only types) is = codes_plain types is.each
vehicles_plain (AllBut types) is = plain_joined (codes "!") (codes_text types) refl (codes_plain types is.each)
