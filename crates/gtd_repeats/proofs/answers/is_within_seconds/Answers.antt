-- The answer that is remembered is that of the rows' domains.
use Rattle.std.proofs.Common.{◌≡◌, ◌∙◌, ap}
use Rattle.std.proofs.lemmas.List.{get_or_default}
use Rattle.gtd_records.specs.Closing.{Restriction}
use Rattle.gtd_repeats.specs.Sameness.{row_at}
use Rattle.gtd_repeats.proofs.answers.is_within_seconds.Goals as goal

pub returns-clause-right : goal.returns-clause-right
returns-clause-right c =
    let rows = c.args.rows.now in
    let one : c.index-rows-row.result ≡ row_at rows c.args.row =
    c.index-rows-row.is ∙ get_or_default rows c.args.row _ _ c.requires.inside in
    let two : c.index-rows-other.result ≡ row_at rows c.args.other =
    c.index-rows-other.is ∙ get_or_default rows c.args.other _ _ c.requires.other in
    let first = c.domain.ensures.domain ∙ ap (λ (r : Restriction). r.domain) one in
    let second = c.domain-2.ensures.domain ∙ ap (λ (r : Restriction). r.domain) two in
    c.keep.ensures.right rows c.requires.right (rw (first, second) at c.in_ok-is_within.ensures.within)
