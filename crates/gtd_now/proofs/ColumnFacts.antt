-- The columns of a table are as wide as they should be.
use Rattle.std.proofs.Common.{◌≡◌, refl, ap, arith, ◌<◌, ◌≤◌, ◌-◌, ◌^◌, ℕ, zero, suc, Bool, true, false}
use Rattle.std.proofs.Common.{List, length, length-append, Option, Some, None}
use Rattle.std.specs.Prelude.{ℤ, decimal}
use Rattle.std.proofs.lemmas.Fmt.{length-decimal-le}
use Rattle.gtd_rows.specs.declared.direction.Direction.{Direction}
use Rattle.gtd_rows.specs.declared.direction.Direction.TheVariants.{Negative, Positive}
use Rattle.gtd_report.specs.Putting.{direction_word}
use Rattle.gtd_states.specs.Lines.{state_word}
use Rattle.gtd_now.specs.Table.{change_shown, fill, left, right, spaces}

length-spaces : (count : ℕ) → length (spaces count) ≡ count
length-spaces zero = refl
length-spaces (suc count) = ap (λ (n : ℕ). suc n) (length-spaces count)

-- a text that is not too long fills its column
right-width : (width : ℕ) (text : List ℕ) → length text ≤ width → length (right width text) ≡ width
right-width width text fits =
    let all = length-append (fill width text) text in
    let free = length-spaces (width - length text) in
    omega (arith, all, free, fits)

pub element_column : (element : ℕ) → element < 10 ^ 10 → length (right 10 (decimal element)) ≡ 10
element_column element small =
    right-width 10 (decimal element) (length-decimal-le 10 element (omega arith) small (omega (arith, small)))

pub direction_column : (direction : Direction) → length (left 9 (direction_word direction)) ≡ 9
direction_column Positive = refl
direction_column Negative = refl

pub state_column : (is_open : Bool) → length (left 6 (state_word is_open)) ≡ 6
state_column true = refl
state_column false = refl

pub until_column : (change : Option ℤ) → length (left 19 (change_shown change)) ≡ 19
until_column None = refl
until_column (Some second) = refl
