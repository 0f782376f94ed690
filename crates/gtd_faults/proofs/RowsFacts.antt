-- At which record the rows of a file stand.
use Rattle.std.proofs.Common.{◌≡◌, ◌∙◌, ap, refl, sym, ℕ, zero, suc, ◌+◌, Bool, true, false, List, [], ◌∷◌, drop, Bor, Some, None}
use Rattle.std.proofs.Common.{drop-drop}
use Rattle.csv.specs.Records.{field_at}
use Rattle.csv.specs.declared.reader.Reader.{Reader}
use Rattle.gtd_rows.specs.Columns.{Fields}
use Rattle.gtd_rows.specs.Table.{HasLeft, TakesFirst}
use Rattle.gtd_faults.specs.Places.{field_in}
use Rattle.gtd_faults.specs.Standing.{HasGiven}

module _ (old new : Reader (Bor (List ℕ))) (fields : Fields) where
  pub given_first : (found : Bool) (text : List Fields) → HasLeft (λ (source : Bor (List ℕ)). Some source.now) old text
      → TakesFirst (λ (source : Bor (List ℕ)). Some source.now) old new found fields → HasGiven found new fields 0 text
  given_first true text has takes = takes text has
  given_first false text has takes = takes text has

  after : (number : ℕ) (text : List Fields) (rest : List Fields) (given : Fields) → drop number text ≡ given ∷ rest
      → drop (number + 1) text ≡ rest
  after number text rest given e = sym (drop-drop 1 number text) ∙ ap (drop 1) e

  pub given_next : (found : Bool) (number : ℕ) (text : List Fields) (given : Fields) → HasGiven true old given number text
      → TakesFirst (λ (source : Bor (List ℕ)). Some source.now) old new found fields → HasGiven found new fields (number + 1) text
  given_next true number text given has takes =
      let next = takes has.0 has.2 in (next.0, after number text has.0 given has.1 ∙ next.1, next.2)
  given_next false number text given has takes = after number text has.0 given has.1 ∙ takes has.0 has.2

pub none_next : (number : ℕ) (text : List Fields) → drop number text ≡ [] → drop (number + 1) text ≡ []
none_next number text e = sym (drop-drop 1 number text) ∙ ap (drop 1) e

-- the field of the record at hand
pub field_here : (number : ℕ) (text rest : List Fields) (fields : Fields) (column : ℕ) → drop number text ≡ fields ∷ rest
    → field_in text number column ≡ field_at fields column
field_here zero [] rest fields column e = cc
field_here (suc number) [] rest fields column e = cc
field_here zero (row ∷ text) rest fields column e = let same : row ≡ fields = cc in ap (λ (f : Fields). field_at f column) same
field_here (suc number) (row ∷ text) rest fields column e = field_here number text rest fields column e

pub field_past : (number : ℕ) (text : List Fields) (column : ℕ) → drop number text ≡ [] → field_in text number column ≡ None
field_past zero [] column e = refl
field_past (suc number) [] column e = refl
field_past zero (row ∷ text) column e = cc
field_past (suc number) (row ∷ text) column e = field_past number text column e
