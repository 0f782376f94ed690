-- The place of a mode is that which a table of means tells.
use Rattle.std.proofs.Common.{◌≡◌, ap, refl, ◌+◌, ℕ, cond, List, [], ◌∷◌}
use Rattle.std.specs.Prelude.{Option, Some}
use Rattle.gtd_conditional_means.specs.Meanings.{is_row_of, place_of}
use Rattle.gtd_conditional_means.specs.declared.meaning.MeansKind.TheVariants.{Mode}
use Rattle.gtd_conditional_means.specs.declared.meaning.MeansRow.{MeansRow}
use Rattle.gtd_conditional_tags.specs.Keys.{mode_at}

pub place_is : (count : ℕ) (name : List ℕ) (rows : List MeansRow) → place_of count Mode name rows ≡ mode_at count name rows
place_is count name [] = refl
place_is count name (row ∷ rows) =
    ap (λ (place : Option ℕ). cond (is_row_of Mode name row) (Some count) place) (place_is (count + 1) name rows)
