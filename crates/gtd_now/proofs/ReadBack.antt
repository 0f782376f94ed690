-- The text of an object reads as that object.
use Rattle.std.proofs.Common.{◌≡◌, arith, ◌<◌, ◌≤◌, ◌-◌, ◌^◌, get_or, ℕ, zero, suc, Bool, true, false, List, [], ◌∷◌, Option}
use Rattle.std.proofs.Common.{Some, None}
use Rattle.std.proofs.Math.Nat.{max-le}
use Rattle.std.specs.Prelude.{ℤ, codes, decimal}
use Rattle.gtd_records.specs.Closing.{Restriction}
use Rattle.gtd_rows.specs.declared.direction.Direction.{Direction}
use Rattle.gtd_report.specs.Putting.{direction_word}
use Rattle.gtd_states.specs.Lines.{state_word}
use Rattle.gtd_states.specs.States.{State}
use Rattle.json.proofs.Printed.Decimals.{IsNumber-decimal}
use Rattle.json.proofs.Printed.Trees.{document-print}
use Rattle.json.specs.Json.{Json, Members, array, document, member, number, object, string}
use Rattle.json.specs.Print.{print}
use Rattle.json.specs.Tree.{HasNumbers, ItemsHaveNumbers, MembersHaveNumbers, depth, items_depth, json_tokens, members_depth}
use Rattle.gtd_now.specs.Objects.{AreRowNumbers, change_value, reason_items, row_items, state_value, why_members}
use Rattle.gtd_now.specs.Reasons.{row_line}

-- ---- numbers

row_numbers : (rows : List ℕ) → AreRowNumbers rows → ItemsHaveNumbers (row_items rows)
row_numbers [] a = tt
row_numbers (row ∷ rows) a = (IsNumber-decimal row a.0, row_numbers rows a.1)

small_line : (lines : List ℕ) (at : ℕ) → AreRowNumbers lines → get_or lines at 0 < 2 ^ 64
small_line [] at a = omega arith
small_line (line ∷ lines) zero a = a.0
small_line (line ∷ lines) (suc at) a = small_line lines at a.1

reason_numbers : (lines : List ℕ) (found : List Restriction) (rows : List ℕ) → AreRowNumbers lines → AreRowNumbers rows
    → ItemsHaveNumbers (reason_items lines found rows)
reason_numbers lines found [] l a = tt
reason_numbers lines found (row ∷ rows) l a = (
  (IsNumber-decimal (row_line lines row) (small_line lines (row - 1) l), (IsNumber-decimal row a.0, (tt, (tt, tt)))),
  reason_numbers lines found rows l a.1,
)

why_numbers : (why : Bool) (lines : List ℕ) (found : List Restriction) (rows : List ℕ) → AreRowNumbers lines → AreRowNumbers rows
    → MembersHaveNumbers (why_members why lines found rows)
why_numbers false lines found rows l a = tt
why_numbers true lines found rows l a = (reason_numbers lines found rows l a, tt)

change_numbers : (change : Option ℤ) → HasNumbers (change_value change)
change_numbers None = tt
change_numbers (Some second) = tt

-- ---- depth

row_depth : (rows : List ℕ) → items_depth (row_items rows) ≤ 1
row_depth [] = omega arith
row_depth (row ∷ rows) = max-le (omega arith) (row_depth rows)

reason_depth : (lines : List ℕ) (found : List Restriction) (rows : List ℕ) → items_depth (reason_items lines found rows) ≤ 1
reason_depth lines found [] = omega arith
reason_depth lines found (row ∷ rows) = max-le (omega arith) (reason_depth lines found rows)

why_depth : (why : Bool) (lines : List ℕ) (found : List Restriction) (rows : List ℕ)
    → members_depth (why_members why lines found rows) ≤ 2
why_depth false lines found rows = omega arith
why_depth true lines found rows = let d = reason_depth lines found rows in max-le (omega (arith, d)) (omega arith)

change_depth : (change : Option ℤ) → depth (change_value change) ≤ 2
change_depth None = omega arith
change_depth (Some second) = omega arith

list_depth : (rows : List ℕ) → depth (array (row_items rows)) ≤ 2
list_depth rows = let d = row_depth rows in omega (arith, d)

deeper : (name : List ℕ) (value : Json) (rest : Members) → depth value ≤ 2 → members_depth rest ≤ 2
    → members_depth (member name value rest) ≤ 2
deeper name value rest d e = max-le d e

object_depth : (ms : Members) → members_depth ms ≤ 2 → depth (object ms) ≤ 3
object_depth ms d = omega (arith, d)

-- ---- the object

module _ (why : Bool) (lines : List ℕ) (found : List Restriction) (element : ℕ) (direction : Direction) (vehicle : ℕ)
    (state : State) where
  numbers : element < 2 ^ 64 → vehicle < 2 ^ 64 → AreRowNumbers lines → AreRowNumbers state.rows
      → HasNumbers (state_value why lines found element direction vehicle state)
  numbers small type places rows = (
    IsNumber-decimal element small,
    (
      tt,
      (
        IsNumber-decimal vehicle type,
        (
          tt,
          (
            change_numbers state.change,
            (row_numbers state.rows rows, why_numbers why lines found state.rows places rows),
          ),
        ),
      ),
    ),
  )

  inside : depth (state_value why lines found element direction vehicle state) ≤ 3
  inside =
      let m1 = why_members why lines found state.rows in
      let m2 = member (codes "rows") (array (row_items state.rows)) m1 in
      let m3 = member (codes "until") (change_value state.change) m2 in
      let m4 = member (codes "state") (string (state_word state.is_open)) m3 in
      let m5 = member (codes "vehicle") (number (decimal vehicle)) m4 in
      let m6 = member (codes "direction") (string (direction_word direction)) m5 in
      let d2 = deeper (codes "rows") (array (row_items state.rows)) m1 (list_depth state.rows)
      (why_depth why lines found state.rows) in
      let d3 = deeper (codes "until") (change_value state.change) m2 (change_depth state.change) d2 in
      let d4 = deeper (codes "state") (string (state_word state.is_open)) m3 (omega arith) d3 in
      let d5 = deeper (codes "vehicle") (number (decimal vehicle)) m4 (omega arith) d4 in
      let d6 = deeper (codes "direction") (string (direction_word direction)) m5 (omega arith) d5 in
      object_depth (member (codes "element") (number (decimal element)) m6)
      (deeper (codes "element") (number (decimal element)) m6 (omega arith) d6)

  pub read_back : element < 2 ^ 64 → vehicle < 2 ^ 64 → AreRowNumbers lines → AreRowNumbers state.rows
      → document (print (json_tokens (state_value why lines found element direction vehicle state)))
      ≡ Some (state_value why lines found element direction vehicle state)
  read_back small type places rows =
      let deep = inside in
      document-print (state_value why lines found element direction vehicle state) (numbers small type places rows)
      (omega (arith, deep))
