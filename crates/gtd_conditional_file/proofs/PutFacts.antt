-- What was put of the lines of rows.
use Rattle.std.proofs.Common.{◌≡◌, ◌+◌, ap, refl, sym, subst, ℕ, zero, suc, List, [], ◌∷◌, ◌++◌}
use Rattle.std.proofs.Common.{take, drop, map, Option}
use Rattle.std.specs.Prelude.{Result, Ok, Err, OnOk}
use Rattle.std.specs.Io.KnownBytes.{Keeps}
use Rattle.std.proofs.lemmas.List.{map-append, append-nil}
use Rattle.gtd_migrate.specs.Migrated.{header_line, migrated, row_line}
use Rattle.gtd_records.specs.Closing.{Restriction}
use Rattle.gtd_report.specs.Putting.{Puts}
use Rattle.gtd_report.specs.declared.output.Progress.{Progress}
use Rattle.gtd_report.specs.declared.output.Stop.{Stop}
use Rattle.gtd_report.specs.facts.PutFacts.{puts_ended, puts_nothing, puts_then}
use Rattle.gtd_conditional_file.specs.Records.{AreRestrictions, IsLineOf, IsRestrictionOf, PutsRows}
use Rattle.gtd_conditional_elements.specs.declared.found.ElementRow.{ElementRow}

pub is_line : {E : Type 0} (r : Result (Unit {0}) E) (row : ElementRow) (found : Restriction) (line : List ℕ)
    → IsRestrictionOf row found → OnOk r (line ≡ row_line found) → OnOk r (IsLineOf row line)
is_line (Ok x) row found line is at = (found, is, at)
is_line (Err why) row found line is at = tt

-- ---- one row more

-- the restriction of one row more
pub restrictions_more : (rows : List ElementRow) (found : List Restriction) (row : ElementRow) (r : Restriction)
    → AreRestrictions rows found → IsRestrictionOf row r → AreRestrictions (rows ++ row ∷ []) (found ++ r ∷ [])
restrictions_more [] found row r is one = (r, [], one, refl, ap (λ (l : List Restriction). l ++ r ∷ []) is)
restrictions_more (x ∷ rows) found row r is one = (
  is.0,
  is.1 ++ r ∷ [],
  is.2,
  restrictions_more rows is.1 row r is.3 one,
  ap (λ (l : List Restriction). l ++ r ∷ []) is.4,
)

-- so far: the lines of the rows before one were put
abbrev pub PutSoFar : Option (List ℕ) → Option (List ℕ) → Progress → Progress → List ElementRow → Type 0
PutSoFar old new before after rows =
    (found : List Restriction) × AreRestrictions rows found × Puts (Ok tt) old new before after (map row_line found)

pub put_more : (a b d : Option (List ℕ)) (p q s : Progress) (rows : List ElementRow) (row : ElementRow) (line : List ℕ)
    → PutSoFar a b p q rows → IsLineOf row line → Puts (Ok tt) b d q s (line ∷ [])
    → PutSoFar a d p s (rows ++ row ∷ [])
put_more a b d p q s rows row line far is put = (
  far.0 ++ is.0 ∷ [],
  restrictions_more rows far.0 row is.0 far.1 is.1,
  rw (map-append row_line far.0 (is.0 ∷ []), ← is.2) (puts_then (Ok tt) a b d p q s (map row_line far.0) (line ∷ []) far.2 put),
)

split_at : (rows : List ElementRow) (i : ℕ) → rows ≡ take i rows ++ drop i rows
split_at [] zero = refl
split_at [] (suc i) = refl
split_at (r ∷ rows) zero = refl
split_at (r ∷ rows) (suc i) = ap (λ (l : List ElementRow). r ∷ l) (split_at rows i)

-- it stopped before a line
pub stopped_before : (x : Stop) (a b : Option (List ℕ)) (p q : Progress) (rows : List ElementRow) (i : ℕ)
    → PutSoFar a b p q (take i rows) → PutsRows (map row_line) (Err x) a b p q rows
stopped_before x a b p q rows i far = (
  take i rows,
  drop i rows,
  far.0,
  split_at rows i,
  far.1,
  subst (λ (l : List (List ℕ)). Puts (Err x) a b p q l) (append-nil (map row_line far.0))
      (puts_then (Err x) a b b p q q (map row_line far.0) [] far.2 (puts_nothing x b q [])),
)

-- it stopped within a line
pub stopped_within : (x : Stop) (a b d : Option (List ℕ)) (p q s : Progress) (rows : List ElementRow) (i : ℕ) (row : ElementRow)
    (line : List ℕ)
    → take (i + 1) rows ≡ take i rows ++ row ∷ [] → PutSoFar a b p q (take i rows) → IsLineOf row line
    → Puts (Err x) b d q s (line ∷ []) → PutsRows (map row_line) (Err x) a d p s rows
stopped_within x a b d p q s rows i row line next far is put = (
  take (i + 1) rows,
  drop (i + 1) rows,
  far.0 ++ is.0 ∷ [],
  split_at rows (i + 1),
  rw next (restrictions_more (take i rows) far.0 row is.0 far.1 is.1),
  rw (map-append row_line far.0 (is.0 ∷ []), ← is.2) (puts_then (Err x) a b d p q s (map row_line far.0) (line ∷ []) far.2 put),
)

-- ---- under the header line

-- it stopped within the header line
pub stopped_first : (x : Stop) (a b : Option (List ℕ)) (p q : Progress) (rows : List ElementRow)
    → Puts (Err x) a b p q (header_line ∷ []) → PutsRows migrated (Err x) a b p q rows
stopped_first x a b p q rows put = ([], rows, [], refl, refl, put)

-- it stopped after it
pub stopped_after : (x : Stop) (a b d : Option (List ℕ)) (p q s : Progress) (rows : List ElementRow)
    → Puts (Ok tt) a b p q (header_line ∷ []) → PutsRows (map row_line) (Err x) b d q s rows
    → PutsRows migrated (Err x) a d p s rows
stopped_after x a b d p q s rows head put = (
  put.0,
  put.1,
  put.2,
  put.3,
  put.4,
  puts_then (Err x) a b d p q s (header_line ∷ []) (map row_line put.2) head put.5,
)

-- all was put, and then the output was ended, or failed
pub put_ended : (r : Result (Unit {0}) Stop) (a b d e : Option (List ℕ)) (p q s : Progress) (rows : List ElementRow)
    → Puts (Ok tt) a b p q (header_line ∷ []) → PutsRows (map row_line) (Ok tt) b d q s rows → Keeps d e
    → PutsRows migrated r a e p s rows
put_ended (Ok x) a b d e p q s rows head put kept = (
  put.0,
  put.1,
  puts_ended (Ok x) a d e p s (migrated put.0)
      (puts_then (Ok tt) a b d p q s (header_line ∷ []) (map row_line put.0) head put.2) kept,
)
put_ended (Err x) a b d e p q s rows head put kept = (
  rows,
  [],
  put.0,
  sym (append-nil rows),
  put.1,
  puts_ended (Err x) a d e p s (migrated put.0)
      (puts_then (Ok tt) a b d p q s (header_line ∷ []) (map row_line put.0) head put.2) kept,
)
