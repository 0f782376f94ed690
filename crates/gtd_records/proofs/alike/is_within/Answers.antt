-- Each row passed that closes the one has one of the other's with the same domain.
use Rattle.std.proofs.Common.{◌≡◌, List, rules, subst, sym}
use Rattle.std.specs.Prelude.{slice_index_or}
use Rattle.gtd_records.specs.Closing.{Restriction}
use Rattle.gtd_records.proofs.AlikeFacts.{covered_more}
use Rattle.gtd_records.proofs.FoundPlaces.{nowhere}
use Rattle.gtd_records.proofs.alike.is_within.Goals as goal
use Rattle.gtd_records.proofs.alike.is_within.Goals.{else-concerns-via-then-concerns+then-not-is_at+else-not-is_repeated}
use Rattle.gtd_records.proofs.alike.is_within.Goals.{else-concerns-via-then-concerns+else-not-is_at}
use Rattle.gtd_records.proofs.alike.is_within.Goals.{else-concerns-via-else-concerns}

pub loop-at-preserved : goal.loop-at-preserved
loop-at-preserved c =
    let rows = c.args.found.now in
    let part = c.args.one.places.now in
    let others = c.args.other.places.now in
    let i = c.loop-at.at in
    let there = c.requires.one i nowhere c.loop-at-test.true in
    let s = c.index-rows-place.result in
    let stands = subst (λ (l : List Restriction). s ≡ slice_index_or l (slice_index_or part i nowhere).row s)
    c.rows.ensures.rows c.index-rows-place.is in
    covered_more rows part others c.args.one.direction c.args.other.direction c.args.vehicle i nowhere s
    c.loop-at-test.true there stands
    (λ concerns. elim c.else-concerns.branch [
      | else-concerns-via-then-concerns+then-not-is_at+else-not-is_repeated w ↦ w.is_repeated.ensures.repeated (search rules)
      | else-concerns-via-then-concerns+else-not-is_at w ↦ w.is_at.ensures.repeated (search rules) s (sym stands)
      | else-concerns-via-else-concerns w ↦
          let yes = c.concerns.ensures.1 concerns in
          absurd (let no = w.if-concerns.false in cc)
    ])
    c.loop-at.invariant
