-- A row is within another, and does not say the same, exactly if its seconds, types and directions are among the other's and they
-- have not the same first row.
use Rattle.std.proofs.Common.{arith, rules, sym}
use Rattle.std.proofs.lemmas.Result.{IfOk-weaker}
use Rattle.gtd_repeats.proofs.KinFacts.{may_be, of_one_same, one_first, only_within}
use Rattle.gtd_repeats.proofs.kin.is_only_within.Goals as goal

pub returns-then-all-row-clause-within : goal.returns-then-all-row-clause-within
returns-then-all-row-clause-within c =
    let all = c.args.all.now in
    let same = c.if-all-row.true in (
      (λ t. absurd (search (rules, t))),
      (λ is. absurd (is.apart (of_one_same all.rows.now c.args.row c.args.other c.requires.inside c.requires.other all.sames.now
          c.requires.grouped.of_rows (omega (arith, same))))),
    )

pub returns-then-not-may_be_within-clause-within : goal.returns-then-not-may_be_within-clause-within
returns-then-not-may_be_within-clause-within c =
    let all = c.args.all.now in (
      (λ t. absurd (search (rules, t))),
      (λ is.
          let may = c.may_be_within.ensures.may.1 (may_be all.rows.now c.args.row c.args.other c.requires.inside c.requires.other
          c.index-rows-row.result c.index-rows-other.result c.index-rows-row.is c.index-rows-other.is is) in
          absurd (search (rules, may))),
    )

pub returns-clause-within : goal.returns-clause-within
returns-clause-within c =
    let all = c.args.all.now in
    let other_than = c.if-all-row.false in
    let may = c.if-not-may_be_within.ensures.may.0 (search rules) in
    IfOk-weaker c.is_within_meaning.result _ _ (λ is h. (
      (λ said.
          only_within all.rows.now c.args.row c.args.other c.requires.inside c.requires.other c.index-rows-row.result
          c.index-rows-other.result c.index-rows-row.is c.index-rows-other.is may (h.0 said) (λ same.
          let e = one_first all.rows.now c.args.row c.args.other c.requires.inside c.requires.other all.sames.now
          c.requires.grouped.of_rows same in
          absurd (omega (arith, other_than, e)))),
      (λ within. h.1 within.within.seconds),
    )) c.is_within_meaning.ensures.within
