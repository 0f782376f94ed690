-- The rows that were taken so far.
use Rattle.std.proofs.Common.{◌≡◌, ◌∙◌, ◌≤◌, ◌+◌, sym, ap, refl, subst, arith, ℕ, Bool, true, false, List, [], ◌∷◌, ◌++◌}
use Rattle.std.proofs.Common.{length, length-append, append_assoc, add-zero, Option}
use Rattle.std.proofs.lemmas.List.{append-nil}
use Rattle.csv.specs.declared.reader.Reader.{Reader}
use Rattle.gtd_core.specs.Limits.{most_rows}
use Rattle.gtd_rows.specs.Columns.{Fields}
use Rattle.gtd_rows.specs.Table.{HasLeft, TakesFirst}
use Rattle.gtd_rows.specs.Taking.{AreAllTaken, AreTableTaken, AreTaken, LeavesMore, StopsAt}
use Rattle.gtd_rows.specs.declared.rows.RowsEnd.{RowsEnd}
use Rattle.gtd_rows.specs.declared.rows.RowsEnd.TheVariants.{NoHeader, All, Stopped, TooMany}

-- the rows are those that were taken, and those that the reader has left; the next has this number
pub record TakenSoFar {S : Type 0} (takes : S → ℕ → Fields → S → Bool → Type 0) {R : Type 0} (rem : R → Option (List ℕ))
    (reader : Reader R) (rows : List Fields) (old new : S) (number : ℕ) : Type 0 where
  pub before : List Fields
  pub left : List Fields
  pub split : rows ≡ before ++ left
  pub has : HasLeft rem reader left
  pub taken : AreAllTaken takes 1 before old new
  pub count : length before + 1 ≡ number

module _ {S : Type 0} (takes : S → ℕ → Fields → S → Bool → Type 0) where
  one_more : (k : ℕ) (before : List Fields) (a b c : S) (row : Fields) → AreAllTaken takes k before a b
      → takes b (k + length before) row c true → AreAllTaken takes k (before ++ row ∷ []) a c
  one_more k [] a b c row e is =
      (c, subst (λ (s : S). takes s k row c true) e (subst (λ (n : ℕ). takes b n row c true) (add-zero k) is), refl)
  one_more k (first ∷ before) a b c row taken is =
      let n : k + length (first ∷ before) ≡ k + 1 + length before = omega arith in
      (taken.0, taken.1, one_more (k + 1) before taken.0 b c row taken.2 (subst (λ (i : ℕ). takes b i row c true) n is))

  module _ {R : Type 0} (rem : R → Option (List ℕ)) (rows : List Fields) (a : S) where
    pub none_taken : (reader : Reader R) → HasLeft rem reader rows → TakenSoFar takes rem reader rows a a 1
    none_taken reader has = record { before = []; left = rows; split = refl; has = has; taken = refl; count = refl }

    module _ (old new : Reader R) (b : S) (number : ℕ) (fields : Fields) (far : TakenSoFar takes rem old rows a b number)
        (first : TakesFirst rem old new true fields) where
      -- one more was taken
      pub row_taken : (c : S) → takes b number fields c true → TakenSoFar takes rem new rows a c (number + 1)
      row_taken c is =
          let t = first far.left far.has in
          let e : number ≡ 1 + length far.before = (let n = far.count in omega arith) in
          record {
            before = far.before ++ fields ∷ [];
            left = t.0;
            split = far.split ∙ ap (λ (l : List Fields). far.before ++ l) t.1 ∙ sym (append_assoc far.before (fields ∷ []) t.0);
            has = t.2;
            taken = one_more 1 far.before a b c fields far.taken (subst (λ (i : ℕ). takes b i fields c true) e is);
            count = (let n = far.count in let l = length-append far.before (fields ∷ []) in omega arith);
          }

      -- the next one asked for no more
      pub row_stops : (c : S) → number ≤ most_rows → takes b number fields c false → StopsAt takes rows a c
      row_stops c few is =
          let t = first far.left far.has in
          let e : number ≡ length far.before + 1 = sym far.count in
          record {
            before = far.before;
            row = fields;
            after = t.0;
            split = far.split ∙ ap (λ (l : List Fields). far.before ++ l) t.1;
            few = (let n = far.count in omega arith);
            at = b;
            taken = far.taken;
            stops = subst (λ (i : ℕ). takes b i fields c false) e is;
          }

      -- there is one more than a file may have
      pub row_left : number ≡ most_rows + 1 → LeavesMore takes rows a b
      row_left last =
          let t = first far.left far.has in
          record {
            before = far.before;
            row = fields;
            after = t.0;
            split = far.split ∙ ap (λ (l : List Fields). far.before ++ l) t.1;
            many = (let n = far.count in omega arith);
            taken = far.taken;
          }

    -- there is none left
    pub all_taken : (old : Reader R) (b : S) (number : ℕ) → TakenSoFar takes rem old rows a b number → number ≤ most_rows + 1
        → ((left : List Fields) → HasLeft rem old left → left ≡ []) → (length rows ≤ most_rows) × AreAllTaken takes 1 rows a b
    all_taken old b number far few none =
        let nil = none far.left far.has in
        let all : rows ≡ far.before =
        far.split ∙ ap (λ (l : List Fields). far.before ++ l) nil ∙ append-nil far.before in
        rw all ((let n = far.count in omega arith), far.taken)

-- what is made of a text, by what is made of the rows after its header
pub with_header : {S : Type 0} (begins : S → Fields → S → Bool → Type 0) (takes : S → ℕ → Fields → S → Bool → Type 0)
    (text : List Fields) (old at new : S) (first : Fields) (rows : List Fields) → text ≡ first ∷ rows → begins old first at true
    → (end : RowsEnd) → AreTaken takes rows at new end → AreTableTaken begins takes text old new end
with_header begins takes text old at new first rows split begun NoHeader taken = absurd taken
with_header begins takes text old at new first rows split begun All taken =
    record { first = first; rows = rows; split = split; at = at; begun = begun; taken = taken }
with_header begins takes text old at new first rows split begun Stopped taken =
    record { first = first; rows = rows; split = split; at = at; begun = begun; taken = taken }
with_header begins takes text old at new first rows split begun TooMany taken =
    record { first = first; rows = rows; split = split; at = at; begun = begun; taken = taken }
