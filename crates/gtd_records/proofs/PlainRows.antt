-- No field of a row that stands for a restriction holds a line end.
use Rattle.std.proofs.Common.{◌≡◌, ◌∙◌, sym, ap, refl, arith, ◌+◌, ◌||◌, ◌&&◌, ◌==◌, inl, inr, ℕ, Bool, true, false, cond}
use Rattle.std.proofs.Common.{List, [], ◌∷◌, length, Option, Some, None}
use Rattle.std.specs.Prelude.{Result, Ok, Err, MatchOption, codes, nat_le, option_map}
use Rattle.std.specs.Char.{is_ascii_digit}
use Rattle.std.specs.Cmp.Lexicographic.{same_text}
use Rattle.std.specs.List.{list_all, onto_first}
use Rattle.std.specs.Str.Parse.{digits_value}
use Rattle.std.proofs.lemmas.Bool.{cases_Bool, eqb-true}
use Rattle.std.proofs.lemmas.Bool.Decides.{nat_tests}
use Rattle.gtd_core.specs.Trees.{Tree}
use Rattle.gtd_core.specs.declared.fault.TextFault.{TextFault}
use Rattle.gtd_records.proofs.DomainLines.{domain_line}
use Rattle.gtd_records.proofs.LineEnds.{has_end, has_ends, neither, some_ends}
use Rattle.gtd_records.specs.Closing.{Restriction}
use Rattle.gtd_rows.specs.Columns.{Fields, IsOrdered, and_code, closed_of, code_of, codes_of, direction_of, is_word, is_zero}
use Rattle.gtd_rows.specs.Columns.{items_of, named, number_of, type_of, types_listed, vehicles_of}
use Rattle.gtd_records.specs.Cut.{is_line_end}
use Rattle.gtd_records.specs.ComputedFile.{AreRecords, IsTable}
use Rattle.gtd_records.specs.ComputedRow.{IsDomainColumn, IsRow, with_domain}
use Rattle.gtd_records.specs.File.{header}
use Rattle.gtd_rows.specs.declared.direction.Closed.{Closed}
use Rattle.gtd_rows.specs.declared.direction.Closed.TheVariants.{One}
use Rattle.gtd_rows.specs.declared.direction.Direction.{Direction}
use Rattle.gtd_rows.specs.declared.direction.Direction.TheVariants.{Negative}
use Rattle.gtd_records.specs.declared.fault.RecordFault.{RecordFault}
use Rattle.gtd_records.specs.declared.fault.RecordFault.TheVariants as fault
use Rattle.gtd_rows.specs.declared.vehicles.Vehicles.{Vehicles}
use Rattle.gtd_rows.specs.declared.vehicles.Vehicles.TheVariants.{Only, AllBut}
use Rattle.gtd_rows.specs.declared.vehicles.Version.{Version}
use Rattle.gtd_rows.specs.declared.vehicles.Version.TheVariants as version

-- ---- what a test that was passed says

passed : {A : Type 0} (b : Bool) (v x : A) → ◌≡◌ {A = Option A} (cond b (Some v) None) (Some x) → b ≡ true
passed true v x h = refl
passed false v x h = cc

kept : {A : Type 0} (b : Bool) (o : Option A) (x : A) → cond b o None ≡ Some x → o ≡ Some x
kept true o x h = h
kept false o x h = cc

mapped : {A B : Type 0} (f : A → B) (o : Option A) (y : B) → option_map f o ≡ Some y → (x : A) × (o ≡ Some x)
mapped f (Some x) y h = (x, refl)
mapped f None y h = cc

both : (a b : Bool) → (a && b) ≡ true → (a ≡ true) × (b ≡ true)
both true b h = (refl, h)
both false b h = absurd cc

-- ---- numbers and words

digit_clear : (c : ℕ) → is_ascii_digit c ≡ true → is_line_end c ≡ false
digit_clear c h = grind (arith, nat_tests)

digits_clear : (text : List ℕ) → list_all is_ascii_digit text ≡ true → has_end text ≡ false
digits_clear [] h = refl
digits_clear (c ∷ text) h =
    let p = both (is_ascii_digit c) (list_all is_ascii_digit text) h in
    rw (digit_clear c p.0, digits_clear text p.1) refl

number_clear : (text : List ℕ) (n : ℕ) → number_of text ≡ Some n → has_end text ≡ false
number_clear text n e =
    digits_clear text (both (nat_le 1 (length text) && nat_le (length text) 10) (list_all is_ascii_digit text)
    (passed (nat_le 1 (length text) && nat_le (length text) 10 && list_all is_ascii_digit text) (digits_value 10 text) n e)).1

word_clear : (text word : List ℕ) → is_word text word ≡ true → has_end word ≡ false → has_end text ≡ false
word_clear text word e h = ap has_end (same_text text word (sym e)) ∙ h

direction_clear : (text : List ℕ) (d : Direction) → direction_of text ≡ Some d → has_end text ≡ false
direction_clear text d e =
    elim (cases_Bool (is_word text (codes "positive"))) [
      | inl p ↦ word_clear text (codes "positive") p refl
      | inr p ↦
          let q : cond (is_word text (codes "negative")) (Some Negative) None ≡ Some d = rw p at e in
          word_clear text (codes "negative") (passed (is_word text (codes "negative")) Negative d q) refl
    ]

closed_clear : (text : List ℕ) (c : Closed) → closed_of text ≡ Some c → has_end text ≡ false
closed_clear text c e =
    elim (cases_Bool (is_word text (codes "both"))) [
      | inl p ↦ word_clear text (codes "both") p refl
      | inr p ↦
          let q : option_map One (direction_of text) ≡ Some c = rw p at e in
          let d = mapped One (direction_of text) c q in
          direction_clear text d.0 d.1
    ]

-- ---- vehicle types

code_clear : (text : List ℕ) (n : ℕ) → code_of text ≡ Some n → has_end text ≡ false
code_clear text n e = number_clear text n (kept (nat_le (length text) 2) (number_of text) n e)

zero_clear : (text : List ℕ) (o : Option ℕ) → code_of text ≡ o → is_zero o ≡ true → has_end text ≡ false
zero_clear text None e z = cc
zero_clear text (Some code) e z = code_clear text code e

named_clear : (text : List ℕ) (o : Option ℕ) (n : ℕ) → code_of text ≡ o → named o ≡ Some n → has_end text ≡ false
named_clear text None n e h = cc
named_clear text (Some code) n e h = code_clear text code e

type_clear : (text : List ℕ) (n : ℕ) → type_of text ≡ Some n → has_end text ≡ false
type_clear text n e = named_clear text (code_of text) n refl e

item_clear : (item : List ℕ) (items : List (List ℕ)) (types : List ℕ) (a : Option ℕ) (b : Option (List ℕ)) → type_of item ≡ a
    → codes_of items ≡ b → ((rest : List ℕ) → codes_of items ≡ Some rest → has_ends items ≡ false)
    → and_code a b ≡ Some types → has_ends (item ∷ items) ≡ false
item_clear item items types None b p q more h = cc
item_clear item items types (Some n) None p q more h = cc
item_clear item items types (Some n) (Some rest) p q more h = rw (type_clear item n p, more rest q) refl

codes_clear : (items : List (List ℕ)) (types : List ℕ) → codes_of items ≡ Some types → has_ends items ≡ false
codes_clear [] types e = refl
codes_clear (item ∷ items) types e =
    item_clear item items types (type_of item) (codes_of items) refl refl (λ rest q. codes_clear items rest q) e

first_clear : (c : ℕ) (items : List (List ℕ)) → has_ends (onto_first c items) ≡ false
    → (is_line_end c ≡ false) × (has_ends items ≡ false)
first_clear c [] h = ((neither (is_line_end c) false (neither (is_line_end c || false) false h).0).0, refl)
first_clear c (item ∷ items) h =
    let p = neither (is_line_end c || has_end item) (has_ends items) h in
    let q = neither (is_line_end c) (has_end item) p.0 in
    (q.0, rw (q.1, p.1) refl)

is_clear : (c n : ℕ) → (c == n) ≡ true → is_line_end n ≡ false → is_line_end c ≡ false
is_clear c n e h = ap is_line_end (eqb-true c n e) ∙ h

items_clear : (text : List ℕ) → has_ends (items_of text) ≡ false → has_end text ≡ false
items_clear [] h = refl
items_clear (c ∷ text) h =
    elim (cases_Bool (c == 59)) [
      | inl e ↦
          let q : has_ends ([] ∷ items_of text) ≡ false = rw e at h in
          rw (is_clear c 59 e refl, items_clear text q) refl
      | inr e ↦
          let q : has_ends (onto_first c (items_of text)) ≡ false = rw e at h in
          let p = first_clear c (items_of text) q in
          rw (p.0, items_clear text p.1) refl
    ]

listed_clear : (text : List ℕ) (vehicles : Vehicles) → types_listed text ≡ Some vehicles → has_end text ≡ false
listed_clear [] vehicles e = cc
listed_clear (c ∷ text) vehicles e =
    elim (cases_Bool (c == 33)) [
      | inl p ↦
          let q : option_map AllBut (codes_of (items_of text)) ≡ Some vehicles = rw p at e in
          let m = mapped AllBut (codes_of (items_of text)) vehicles q in
          rw (is_clear c 33 p refl, items_clear text (codes_clear (items_of text) m.0 m.1)) refl
      | inr p ↦
          let q : option_map Only (codes_of (items_of (c ∷ text))) ≡ Some vehicles = rw p at e in
          let m = mapped Only (codes_of (items_of (c ∷ text))) vehicles q in
          items_clear (c ∷ text) (codes_clear (items_of (c ∷ text)) m.0 m.1)
    ]

vehicles_clear : (v : Version) (text : List ℕ) (vehicles : Vehicles) → vehicles_of v text ≡ Some vehicles
    → has_end text ≡ false
vehicles_clear version.One text vehicles e =
    elim (cases_Bool (is_zero (code_of text))) [
      | inl z ↦ zero_clear text (code_of text) refl z
      | inr z ↦
          let q : option_map (λ (code : ℕ). Only (code ∷ [])) (type_of text) ≡ Some vehicles = rw z at e in
          let m = mapped (λ (code : ℕ). Only (code ∷ [])) (type_of text) vehicles q in
          type_clear text m.0 m.1
    ]
vehicles_clear version.Two text vehicles e =
    elim (cases_Bool (is_zero (code_of text))) [
      | inl z ↦ zero_clear text (code_of text) refl z
      | inr z ↦ let q : types_listed text ≡ Some vehicles = rw z at e in listed_clear text vehicles q
    ]

-- ---- rows

column_clear : (text : List ℕ) (domain : Option Tree) → IsDomainColumn text (Ok domain) → has_end text ≡ false
column_clear [] domain h = refl
column_clear (b ∷ text) None h = absurd h
column_clear (b ∷ text) (Some tree) h = domain_line (b ∷ text) tree h.0

read_clear : (n x : ℕ) (c : Closed) (types : Vehicles) (text : List ℕ) (read : Result (Option Tree) TextFault) (r : Restriction)
    → IsDomainColumn text read → ◌≡◌ {A = Result Restriction RecordFault} (Ok r) (with_domain n x c types read)
    → has_end text ≡ false
read_clear n x c types text (Ok domain) r is e = column_clear text domain is
read_clear n x c types text (Err why) r is e = cc

-- what the last two columns of a row with this number give
abbrev Typed : List ℕ → Restriction → ℕ → ℕ → Closed → Option Vehicles → Type 0
Typed d r n x closed o = MatchOption o (◌≡◌ {A = Result Restriction RecordFault} (Ok r) (Err (fault.Vehicle n))) (λ types.
    (ordered : Vehicles) × (read : Result (Option Tree) TextFault)
    × IsOrdered types ordered × IsDomainColumn d read
    × (◌≡◌ {A = Result Restriction RecordFault} (Ok r) (with_domain n x closed ordered read)))

row_clear : (v : Version) (n : ℕ) (row : Fields) (r : Restriction) → IsRow v n row (Ok r) → has_ends row ≡ false
row_clear v n [] r is = cc
row_clear v n (e ∷ []) r is = cc
row_clear v n (e ∷ c ∷ []) r is = cc
row_clear v n (e ∷ c ∷ w ∷ []) r is = cc
row_clear v n (e ∷ c ∷ w ∷ d ∷ []) r is = by_number (number_of e) refl is
  where
    by_types : (x : ℕ) (closed : Closed) (o : Option Vehicles) → has_end e ≡ false → has_end c ≡ false → vehicles_of v w ≡ o
        → Typed d r n x closed o → has_ends (e ∷ c ∷ w ∷ d ∷ []) ≡ false
    by_types x closed None p q s h = cc
    by_types x closed (Some types) p q s h =
        rw (p, q, vehicles_clear v w types s, read_clear n x closed h.0 d h.1 r h.3 h.4) refl

    by_closed : (x : ℕ) (o : Option Closed) → has_end e ≡ false → closed_of c ≡ o
        → MatchOption o (◌≡◌ {A = Result Restriction RecordFault} (Ok r) (Err (fault.Direction n)))
        (λ k. Typed d r n x k (vehicles_of v w))
        → has_ends (e ∷ c ∷ w ∷ d ∷ []) ≡ false
    by_closed x None p q h = cc
    by_closed x (Some k) p q h = by_types x k (vehicles_of v w) p (closed_clear c k q) refl h

    by_number : (o : Option ℕ) → number_of e ≡ o
        → MatchOption o (◌≡◌ {A = Result Restriction RecordFault} (Ok r) (Err (fault.Element n))) (λ x.
        MatchOption (closed_of c) (◌≡◌ {A = Result Restriction RecordFault} (Ok r) (Err (fault.Direction n)))
        (λ k. Typed d r n x k (vehicles_of v w)))
        → has_ends (e ∷ c ∷ w ∷ d ∷ []) ≡ false
    by_number None p h = cc
    by_number (Some x) p h = by_closed x (closed_of c) (number_clear e x p) refl h
row_clear v n (e ∷ c ∷ w ∷ d ∷ more ∷ rest) r is = cc

rows_clear : (v : Version) (n : ℕ) (rows : List Fields) (found : List Restriction) → AreRecords v n rows found
    → some_ends rows ≡ false
rows_clear v n [] found are = refl
rows_clear v n (row ∷ rows) found are =
    rw (row_clear v n row are.0 are.2, rows_clear v (n + 1) rows are.1 are.3) refl

header_clear : (v : Version) → has_ends (header v) ≡ false
header_clear version.One = refl
header_clear version.Two = refl

-- no field of an accepted table holds a line end
pub table_clear : (text : List Fields) (found : List Restriction) → IsTable text (Ok found) → some_ends text ≡ false
table_clear text found (inl t) =
    ap some_ends t.2 ∙ rw (header_clear t.0, rows_clear t.0 1 t.1 found t.3.1) refl
table_clear text found (inr t) = absurd (cc (t.1))
