-- Rows that were read one by one, each with what it gave.
use Rattle.std.proofs.Common.{◌≡◌, ◌∙◌, ◌+◌, ◌↔◌, sym, ap, refl, arith, ℕ, true, List, [], ◌∷◌, ◌++◌, length, Option}
use Rattle.std.proofs.Common.{append_assoc, length-append, add-zero}
use Rattle.std.proofs.lemmas.List.{append-nil}
use Rattle.csv.specs.declared.reader.Reader.{Reader}
use Rattle.gtd_rows.specs.Table.{HasLeft, TakesFirst}
use Rattle.gtd_rows.specs.Columns.{Fields}

-- `Are` lists what rows gave, in their order, if the first has this number: `Is` says what one row gave, and `put` adds it to
-- what the rows after it gave.
pub record IsListing {A X : Type 0} (put : A → List X → List X) (Is : ℕ → Fields → A → Type 0)
    (Are : ℕ → List Fields → List X → Type 0) : Type 0 where
  pub joins : (a : A) (rest more : List X) → put a rest ++ more ≡ put a (rest ++ more)
  pub none : (k : ℕ) (xs : List X) → Are k [] xs ↔ (xs ≡ [])
  pub more : (k : ℕ) (row : Fields) (rows : List Fields) (xs : List X) → Are k (row ∷ rows) xs
      ↔ ((a : A) × (rest : List X) × Is k row a × Are (k + 1) rows rest × (xs ≡ put a rest))

-- the rows are those that were read and gave these items, and those that the reader has left; the next has this number
pub record RowsRead {X : Type 0} (Are : ℕ → List Fields → List X → Type 0) {R : Type 0} (rem : R → Option (List ℕ))
    (reader : Reader R) (rows : List Fields) (items : List X) (number : ℕ) : Type 0 where
  pub before : List Fields
  pub left : List Fields
  pub split : rows ≡ before ++ left
  pub has : HasLeft rem reader left
  pub each : Are 1 before items
  pub count : length before + 1 ≡ number

module _ {A X : Type 0} (put : A → List X → List X) (Is : ℕ → Fields → A → Type 0) (Are : ℕ → List Fields → List X → Type 0)
    (listing : IsListing put Is Are) where
  -- one row more gives its part
  pub one_more : (k : ℕ) (before : List Fields) (xs : List X) (row : Fields) (a : A) → Are k before xs
      → Is (k + length before) row a → Are k (before ++ row ∷ []) (xs ++ put a [])
  one_more k [] xs row a each is =
      (listing.more k row [] (xs ++ put a [])).1 (
        a,
        [],
        (rw (add-zero k) at is),
        (listing.none (k + 1) []).1 refl,
        ap (λ (l : List X). l ++ put a []) ((listing.none k xs).0 each),
      )
  one_more k (b ∷ before) xs row a each is =
      let first = (listing.more k b before xs).0 each in
      let at : Is (k + 1 + length before) row a =
      (let e : k + length (b ∷ before) ≡ k + 1 + length before = omega arith in rw e at is) in
      (listing.more k b (before ++ row ∷ []) (xs ++ put a [])).1 (
        first.0,
        first.1 ++ put a [],
        first.2,
        one_more (k + 1) before first.1 row a first.3 at,
        ap (λ (l : List X). l ++ put a []) first.4 ∙ listing.joins first.0 first.1 (put a []),
      )

  -- none is read yet
  pub none_read : {R : Type 0} (rem : R → Option (List ℕ)) (reader : Reader R) (rows : List Fields) → HasLeft rem reader rows
      → RowsRead Are rem reader rows [] 1
  none_read rem reader rows has =
      record { before = []; left = rows; split = refl; has = has; each = (listing.none 1 []).1 refl; count = refl }

  -- one more is read
  pub row_read : {R : Type 0} (rem : R → Option (List ℕ)) (old new : Reader R) (rows : List Fields) (xs : List X) (number : ℕ)
      (fields : Fields) (a : A)
      → RowsRead Are rem old rows xs number → TakesFirst rem old new true fields → Is number fields a
      → RowsRead Are rem new rows (xs ++ put a []) (number + 1)
  row_read rem old new rows xs number fields a far takes is =
      let t = takes far.left far.has in
      let e : 1 + length far.before ≡ number = (let c = far.count in omega arith) in
      record {
        before = far.before ++ fields ∷ [];
        left = t.0;
        split = far.split ∙ ap (λ (l : List Fields). far.before ++ l) t.1 ∙ sym (append_assoc far.before (fields ∷ []) t.0);
        has = t.2;
        each = one_more 1 far.before xs fields a far.each (rw e is);
        count = (let c = far.count in let l = length-append far.before (fields ∷ []) in omega arith);
      }

module _ {X : Type 0} (Are : ℕ → List Fields → List X → Type 0) {R : Type 0} (rem : R → Option (List ℕ)) (old : Reader R)
    (rows : List Fields) (xs : List X) (number : ℕ) (far : RowsRead Are rem old rows xs number) where
  -- the reader has another row
  pub row_left : (new : Reader R) (fields : Fields) → TakesFirst rem old new true fields
      → (after : List Fields) × (rows ≡ far.before ++ fields ∷ after)
  row_left new fields takes =
      let t = takes far.left far.has in
      (t.0, far.split ∙ ap (λ (l : List Fields). far.before ++ l) t.1)

  -- it has none, and all are read
  pub all_read : ((left : List Fields) → HasLeft rem old left → left ≡ []) → (length rows + 1 ≡ number) × Are 1 rows xs
  all_read none =
      let nil = none far.left far.has in
      let all : rows ≡ far.before = far.split ∙ ap (λ (l : List Fields). far.before ++ l) nil ∙ append-nil far.before in
      rw all (far.count, far.each)
