-- What the fields of a row say.
use Rattle.std.proofs.Common.{◌≡◌, ◌∙◌, sym, ap, arith, ℕ, Bool, List, [], ◌∷◌, length}
use Rattle.std.specs.Prelude.{Option, Some}
use Rattle.csv.specs.Records.{field_at}
use Rattle.gtd_rows.specs.Columns.{Fields}
use Rattle.gtd_rows.specs.declared.direction.Direction.{Direction}
use Rattle.gtd_conditional_means.specs.declared.meaning.MeansRow.{MeansRow}
use Rattle.gtd_conditional_tags.specs.Keys.{direction_of, is_at_fault, is_conditional, is_unknown, key_of, key_with}
use Rattle.gtd_conditional_tags.specs.Keys.{name_of, plain_of}
use Rattle.gtd_conditional_tags.specs.declared.key.Key.{Key}

-- three fields
pub three : (fields : Fields) (a b c : List ℕ) → length fields ≡ 3 → field_at fields 0 ≡ Some a → field_at fields 1 ≡ Some b
    → field_at fields 2 ≡ Some c → fields ≡ a ∷ b ∷ c ∷ []
unfolding field_at
three [] a b c n e f g = cc
three (p ∷ []) a b c n e f g = cc
three (p ∷ q ∷ []) a b c n e f g = cc
three (p ∷ q ∷ r ∷ []) a b c n e f g = cc
three (p ∷ q ∷ r ∷ s ∷ more) a b c n e f g = absurd (omega arith)

-- the key of a text, and whether it is at fault, by its parts
module _ (rows : List MeansRow) (text name : List ℕ) (direction : Option Direction) (conditional : Bool)
    (named : name ≡ name_of (plain_of text)) (directed : direction ≡ direction_of (plain_of text))
    (said : conditional ≡ is_conditional text) where
  pub key_is : (key : Option Key) → key ≡ key_with rows name direction conditional → key_of rows text ≡ key
  key_is key is =
      ap (λ (n : List ℕ). key_with rows n (direction_of (plain_of text)) (is_conditional text)) (sym named)
      ∙ ap (λ (d : Option Direction). key_with rows name d (is_conditional text)) (sym directed)
      ∙ ap (key_with rows name direction) (sym said) ∙ sym is

  pub fault_is : (bad : Bool) → bad ≡ is_unknown rows name conditional → is_at_fault rows text ≡ bad
  fault_is bad is =
      ap (λ (n : List ℕ). is_unknown rows n (is_conditional text)) (sym named)
      ∙ ap (is_unknown rows name) (sym said) ∙ sym is
