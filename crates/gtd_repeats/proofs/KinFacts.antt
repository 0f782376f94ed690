-- What is true of the first rows that are like others is true of these.
use Rattle.std.proofs.Common.{◌≡◌, ◌↔◌, ◌∙◌, sym, subst, ◌<◌, ℕ, List, length, get_or}
use Rattle.std.specs.Prelude.{None, slice_index_or}
use Rattle.gtd_records.specs.Closing.{Restriction}
use Rattle.gtd_rows.specs.declared.direction.Closed.TheVariants.{Both}
use Rattle.gtd_rows.specs.declared.vehicles.Vehicles.TheVariants.{Every}
use Rattle.gtd_repeats.specs.Answers.{IsWithinSeconds}
use Rattle.gtd_repeats.specs.Findings.{IsWithinOf}
use Rattle.gtd_repeats.specs.Firsts.{AreFirsts}
use Rattle.gtd_repeats.specs.Sameness.{AreAlikeIn, IsSameRow, MayBeWithin, row_at}
use Rattle.gtd_repeats.specs.declared.alike.Kind.TheVariants as kind
use Rattle.gtd_repeats.proofs.AlikeFacts.{likeness}
use Rattle.gtd_repeats.proofs.FirstFacts.{same_first}
use Rattle.gtd_repeats.proofs.ListFacts.{any_default}

-- the row that is taken where there is none
abbrev pub nothing : Restriction
nothing = record { element = 0; closed = Both; vehicles = Every; domain = None }

module _ (rows : List Restriction) (row other : ℕ) (inside : row < length rows) (placed : other < length rows) where
  module _ (firsts : List ℕ) (are : AreFirsts (AreAlikeIn rows kind.Seconds) (length rows) firsts) where
    -- the seconds of rows are those of the first rows with the same seconds
    pub of_firsts : IsWithinSeconds rows (get_or firsts row 0) (get_or firsts other 0) ↔ IsWithinSeconds rows row other
    of_firsts =
        let a = (are.each row inside).alike.2 in
        let b = (are.each other placed).alike.2 in (
          (λ h t in_range k. (b t in_range).0 (h t in_range ((a t in_range).1 k))),
          (λ h t in_range k. (b t in_range).1 (h t in_range ((a t in_range).0 k))),
        )

    -- so rows with the same first row are within each other
    pub of_one_first : get_or firsts row 0 ≡ get_or firsts other 0 → IsWithinSeconds rows row other
    of_one_first e =
        of_firsts.0 (subst (λ (n : ℕ). IsWithinSeconds rows (get_or firsts row 0) n) e (λ t in_range h. h))

  module _ (firsts : List ℕ) (are : AreFirsts (AreAlikeIn rows kind.Row) (length rows) firsts) where
    -- rows that say the same have the same first row
    pub one_first : IsSameRow (row_at rows row) (row_at rows other) → get_or firsts row 0 ≡ get_or firsts other 0
    one_first same =
        same_first (AreAlikeIn rows kind.Row) (likeness rows kind.Row) (length rows) firsts are row other inside placed
        (inside, placed, same)

    -- and rows with the same first row say the same
    pub of_one_same : get_or firsts row 0 ≡ get_or firsts other 0 → IsSameRow (row_at rows row) (row_at rows other)
    of_one_same e =
        let l = likeness rows kind.Row in
        let first = get_or firsts row 0 in
        let a = (are.each row inside).alike in
        let b = (are.each other placed).alike in
        (l.transitive row first other (l.symmetric first row a)
        (subst (λ (n : ℕ). AreAlikeIn rows kind.Row n other) (sym e) b)).2

  pub only_within : (r o : Restriction) → r ≡ slice_index_or rows row r → o ≡ slice_index_or rows other o → MayBeWithin r o
      → IsWithinSeconds rows row other → (IsSameRow (row_at rows row) (row_at rows other) → ⊥) → IsWithinOf rows row other
  only_within r o e f may seconds apart =
      let here : r ≡ row_at rows row = e ∙ any_default rows row r nothing inside in
      let there : o ≡ row_at rows other = f ∙ any_default rows other o nothing placed in
      let is = subst (λ (x : Restriction). MayBeWithin x (row_at rows other)) here
      (subst (λ (y : Restriction). MayBeWithin r y) there may) in
      record {
        inside = placed;
        within = record { element = is.element; closed = is.closed; vehicles = is.vehicles; seconds = seconds };
        apart = apart;
      }

  pub may_be : (r o : Restriction) → r ≡ slice_index_or rows row r → o ≡ slice_index_or rows other o → IsWithinOf rows row other
      → MayBeWithin r o
  may_be r o e f is =
      let here : row_at rows row ≡ r = sym (e ∙ any_default rows row r nothing inside) in
      let there : row_at rows other ≡ o = sym (f ∙ any_default rows other o nothing placed) in
      let w = is.within in
      subst (λ (x : Restriction). MayBeWithin x o) here (subst (λ (y : Restriction). MayBeWithin (row_at rows row) y) there
      (record { element = w.element; closed = w.closed; vehicles = w.vehicles }))
