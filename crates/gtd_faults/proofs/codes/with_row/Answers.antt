-- What is kept of a code once this row names it: this row, if no other did; that several do, if one or several did.
use Rattle.std.proofs.Common.{arith}
use Rattle.gtd_faults.proofs.NamingFacts.{now_often, now_once, still_often, still_once}
use Rattle.gtd_faults.proofs.codes.with_row.Goals as goal

pub returns-then-first-row : goal.returns-then-first-row
returns-then-first-row c = λ bytes named codes is number kept.
    rw (c.in-Once.is) (still_once c.args.path.now bytes named codes c.args.code c.in-Once.first c.in-Once.text
    (omega (arith, number))
    (rw (c.in-Once.is) at kept))

pub returns-in_ok-lone_text-in-Never : goal.returns-in_ok-lone_text-in-Never
returns-in_ok-lone_text-in-Never c = λ bytes named codes is number kept.
    now_once c.args.path.now bytes named codes c.args.code c.args.row.now.number
    c.in_ok-lone_text-in-Never.field-0 number (rw (c.in-Never.is) at kept) (c.in_ok-lone_text-in-Never.ensures bytes is)

pub returns-else-first-row : goal.returns-else-first-row
returns-else-first-row c = λ bytes named codes is number kept.
    now_often c.args.path.now bytes named codes c.args.code c.in-Once.first c.args.row.now.number c.in-Once.text number
    (λ e. absurd (omega (arith, e))) (rw (c.in-Once.is) at kept)

pub returns-in-Often : goal.returns-in-Often
returns-in-Often c = λ bytes named codes is number kept.
    rw (c.in-Often.is) (still_often c.args.path.now bytes named codes c.args.code (rw (c.in-Often.is) at kept))
