-- What is said of the rows, with what is said of one row more.
use Rattle.std.proofs.Common.{◌≡◌, refl, add-one, ◌+◌, ℕ, suc, List, []}
use Rattle.std.specs.Prelude.{Option}
use Rattle.gtd_records.specs.Closing.{Restriction}
use Rattle.gtd_repeats.specs.Findings.{AreFindingsOf, IsSaidOfRow, IsSaidOfText, with_finding}
use Rattle.gtd_repeats.specs.declared.findings.Finding.{Finding}

at_suc : (rows : List Restriction) (row : ℕ) (before : List Finding) (of_row of_text : Option Finding)
    → AreFindingsOf rows row before → IsSaidOfRow rows row of_row → IsSaidOfText rows row of_text
    → AreFindingsOf rows (suc row) (with_finding (with_finding before of_row) of_text)
unfolding AreFindingsOf
at_suc rows row before of_row of_text are first second = (before, of_row, of_text, are, first, second, refl)

pub findings_more : (rows : List Restriction) (row : ℕ) (before : List Finding) (of_row of_text : Option Finding)
    → AreFindingsOf rows row before → IsSaidOfRow rows row of_row → IsSaidOfText rows row of_text
    → AreFindingsOf rows (row + 1) (with_finding (with_finding before of_row) of_text)
findings_more rows row before of_row of_text are first second =
    rw (add-one row) (at_suc rows row before of_row of_text are first second)

pub no_findings : (rows : List Restriction) (findings : List Finding) → findings ≡ [] → AreFindingsOf rows 0 findings
unfolding AreFindingsOf
no_findings rows findings e = e
