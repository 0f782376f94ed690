-- What is listed of rows that were taken one after another.
use Rattle.std.proofs.Common.{◌≡◌, ◌∙◌, ◌+◌, ◌++◌, ap, refl, subst, sym, ℕ, Bool, true, List, [], ◌∷◌, append_assoc}
use Rattle.std.proofs.lemmas.List.{append-nil}
use Rattle.gtd_rows.specs.Columns.{Fields}
use Rattle.gtd_rows.specs.Taking.{AreAllTaken}
use Rattle.gtd_rows.specs.facts.RowsRead.{IsListing}

-- If each row adds its part to a list, and keeps what rows are read by, all rows add theirs.
module _ {S A X : Type 0} (put : A → List X → List X) (Is : ℕ → Fields → A → Type 0) (Are : ℕ → List Fields → List X → Type 0)
    (listing : IsListing put Is Are) (takes : S → ℕ → Fields → S → Bool → Type 0) (Keeps : S → Type 0) (items : S → List X)
    (adds : (old new : S) (number : ℕ) (row : Fields) → Keeps old → takes old number row new true
    → Keeps new × ((a : A) × Is number row a × (items new ≡ items old ++ put a []))) where
  pub taken_list : (number : ℕ) (rows : List Fields) (old new : S) → Keeps old → AreAllTaken takes number rows old new
      → Keeps new × ((xs : List X) × Are number rows xs × (items new ≡ items old ++ xs))
  taken_list number [] old new keeps e = (
    subst Keeps (sym e) keeps,
    ([], (listing.none number []).1 refl, ap items e ∙ sym (append-nil (items old))),
  )
  taken_list number (row ∷ rows) old new keeps taken =
      let step = adds old taken.0 number row keeps taken.1 in
      let a = step.1.0 in
      let more = taken_list (number + 1) rows taken.0 new step.0 taken.2 in
      let rest = more.1.0 in (
        more.0,
        (
          put a rest,
          (listing.more number row rows (put a rest)).1 (a, rest, step.1.1, more.1.1, refl),
          more.1.2 ∙ ap (λ (l : List X). l ++ rest) step.1.2 ∙ append_assoc (items old) (put a []) rest
              ∙ ap (λ (l : List X). items old ++ l) (listing.joins a [] rest),
        ),
      )

  -- the same, where the list was empty
  pub taken_from_none : (rows : List Fields) (old new : S) → Keeps old → items old ≡ [] → AreAllTaken takes 1 rows old new
      → Keeps new × Are 1 rows (items new)
  taken_from_none rows old new keeps none taken =
      let all = taken_list 1 rows old new keeps taken in
      let is : items new ≡ all.1.0 = all.1.2 ∙ ap (λ (l : List X). l ++ all.1.0) none in
      (all.0, subst (Are 1 rows) (sym is) all.1.1)
