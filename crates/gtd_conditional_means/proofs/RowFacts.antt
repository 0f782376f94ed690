-- What the fields of a row say.
use Rattle.std.proofs.Common.{◌≡◌, ◌∙◌, sym, ap, subst, refl, arith, ℕ, Bool, true, List, [], ◌∷◌, length}
use Rattle.std.specs.Prelude.{Option, Some, None, Ok}
use Rattle.csv.specs.Records.{field_at}
use Rattle.gtd_rows.specs.Columns.{Fields}
use Rattle.gtd_conditional_means.specs.Names.{is_name, is_repeated}
use Rattle.gtd_conditional_means.specs.Rows.{IsAnswer, IsMeaning, fault_of, is_meant, row_fault}
use Rattle.gtd_conditional_means.specs.declared.fault.MeansFault.{MeansFault}
use Rattle.gtd_conditional_means.specs.declared.meaning.MeansKind.{MeansKind}
use Rattle.gtd_conditional_means.specs.declared.meaning.Meaning.{Meaning}
use Rattle.gtd_conditional_means.specs.declared.meaning.MeansRow.{MeansRow}

-- three fields
pub three : (fields : Fields) (a b c : List ℕ) → length fields ≡ 3 → field_at fields 0 ≡ Some a → field_at fields 1 ≡ Some b
    → field_at fields 2 ≡ Some c → fields ≡ a ∷ b ∷ c ∷ []
unfolding field_at
three [] a b c n e f g = cc
three (p ∷ []) a b c n e f g = cc
three (p ∷ q ∷ []) a b c n e f g = cc
three (p ∷ q ∷ r ∷ []) a b c n e f g = cc
three (p ∷ q ∷ r ∷ s ∷ more) a b c n e f g = absurd (omega arith)

-- a row without a fault
pub full_row : (number : ℕ) (before : List MeansRow) (kind : MeansKind) (name means : List ℕ) (named repeated : Bool)
    (m : Meaning) (row : MeansRow)
    → named ≡ is_name kind name → repeated ≡ is_repeated before kind name → is_meant kind means ≡ true → IsMeaning kind means m
    → None ≡ fault_of number kind true named repeated → row.name.items ≡ name → row.meaning ≡ m
    → IsAnswer (row_fault number before kind name means) kind name means (Ok row)
full_row number before kind name means named repeated m row n r meant says none is what =
    let e : row_fault number before kind name means ≡ None =
    ap (λ (b : Bool). fault_of number kind b (is_name kind name) (is_repeated before kind name)) meant
    ∙ ap (λ (b : Bool). fault_of number kind true b (is_repeated before kind name)) (sym n)
    ∙ ap (λ (b : Bool). fault_of number kind true named b) (sym r) ∙ sym none in
    subst (λ (o : Option MeansFault). IsAnswer o kind name means (Ok row)) (sym e) (
      row,
      record { named = is; meant = subst (λ (x : Meaning). IsMeaning kind means x) (sym what) says },
      refl,
    )
