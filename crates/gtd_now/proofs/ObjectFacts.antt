-- The tokens of lists, item by item.
use Rattle.std.proofs.Common.{◌≡◌, refl, ap, ℕ, Bool, List, [], ◌∷◌, ◌++◌, Option, Some, None}
use Rattle.std.specs.Prelude.{ℤ, decimal, flat_map}
use Rattle.json.specs.Token.{Token, begin_object, end_array, number}
use Rattle.json.specs.Tree.{items_tokens, json_tokens, members_tokens}
use Rattle.gtd_records.specs.Closing.{Restriction}
use Rattle.gtd_now.specs.Objects.{reason_items, reason_value, row_items, state_value, why_members}
use Rattle.gtd_now.specs.ObjectTokens.{state_tokens, subject_tokens}
use Rattle.gtd_rows.specs.declared.direction.Direction.{Direction}
use Rattle.gtd_states.specs.States.{State}
use Rattle.gtd_now.specs.Reasons.{row_domain, row_line}

pub rows_tokens : (rows : List ℕ) → items_tokens (row_items rows)
    ≡ flat_map (λ row. number (decimal row) ∷ []) rows ++ (end_array ∷ [])
rows_tokens [] = refl
rows_tokens (row ∷ rows) = ap (λ (ts : List Token). number (decimal row) ∷ ts) (rows_tokens rows)

pub reasons_tokens : (lines : List ℕ) (found : List Restriction) (rows : List ℕ) → items_tokens (reason_items lines found rows)
    ≡ flat_map (λ row. json_tokens (reason_value (row_line lines row) row (row_domain found row))) rows ++ (end_array ∷ [])
reasons_tokens lines found [] = refl
reasons_tokens lines found (row ∷ rows) =
    ap (λ (ts : List Token). json_tokens (reason_value (row_line lines row) row (row_domain found row)) ++ ts)
    (reasons_tokens lines found rows)

-- the tokens of an object, by its parts
module _ (why : Bool) (lines : List ℕ) (found : List Restriction) (element : ℕ) (direction : Direction) (vehicle : ℕ) where
  by_change : (is_open : Bool) (change : Option ℤ) (rows : List ℕ) (state : State)
      → state ≡ record { is_open = is_open; change = change; rows = rows }
      → json_tokens (state_value why lines found element direction vehicle state)
      ≡ (begin_object ∷ []) ++ (subject_tokens element direction vehicle ++ (state_tokens state
      ++ members_tokens (why_members why lines found state.rows)))
  by_change is_open None rows state e = rw e refl
  by_change is_open (Some second) rows state e = rw e refl

  pub object_tokens : (state : State) → json_tokens (state_value why lines found element direction vehicle state)
      ≡ (begin_object ∷ []) ++ (subject_tokens element direction vehicle ++ (state_tokens state
      ++ members_tokens (why_members why lines found state.rows)))
  object_tokens state = by_change state.is_open state.change state.rows state refl
