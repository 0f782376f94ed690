-- What the count of a row's fields says of them.
use Rattle.std.proofs.Common.{◌≡◌, ◌≢◌, ◌<◌, arith, ℕ, zero, suc, List, [], ◌∷◌, length, Some, None}
use Rattle.csv.specs.Records.{field_at}
use Rattle.gtd_rows.specs.Columns.{Fields}

-- there is a field at each place below the count
pub field_there : (fields : Fields) (i : ℕ) → i < length fields → field_at fields i ≢ None
unfolding field_at
field_there [] i h = absurd (omega arith)
field_there (f ∷ fields) zero h = λ e. cc
field_there (f ∷ fields) (suc i) h = field_there fields i (omega arith)

-- four fields
pub four : (fields : Fields) (a b c d : List ℕ) → length fields ≡ 4
    → field_at fields 0 ≡ Some a → field_at fields 1 ≡ Some b → field_at fields 2 ≡ Some c → field_at fields 3 ≡ Some d → fields
    ≡ a ∷ b ∷ c ∷ d ∷ []
unfolding field_at
four [] a b c d n e f g h = cc
four (p ∷ []) a b c d n e f g h = cc
four (p ∷ q ∷ []) a b c d n e f g h = cc
four (p ∷ q ∷ r ∷ []) a b c d n e f g h = cc
four (p ∷ q ∷ r ∷ s ∷ []) a b c d n e f g h = cc
four (p ∷ q ∷ r ∷ s ∷ t ∷ more) a b c d n e f g h = absurd (omega arith)
