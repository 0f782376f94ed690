use Rattle.std.proofs.Common.{arith, refl}
use Rattle.gtd_hours_hidden.proofs.HiderFacts.{is_at, free-more, hides, hides-not, hides-none}
use Rattle.gtd_hours_hidden.proofs.rules.hider.Goals as goal

pub returns-then-has_other_hours : goal.returns-then-has_other_hours
returns-then-has_other_hours c =
    hides c.args.rules.now c.args.place c.loop-k.k c.index-rules-place.result c.index-rules-k.result
    (is_at c.args.rules.now c.args.place c.index-rules-place.result (omega arith) c.index-rules-place.is) (cc)
    (is_at c.args.rules.now c.loop-k.k c.index-rules-k.result (omega arith) c.index-rules-k.is) (cc) (omega arith)
    c.loop-k.invariant (c.if-has_other_hours.ensures.0 refl)

pub returns-then-takes_days : goal.returns-then-takes_days
returns-then-takes_days c =
    hides-not c.args.rules.now c.args.place c.loop-k.k c.index-rules-place.result c.index-rules-k.result
    (is_at c.args.rules.now c.args.place c.index-rules-place.result (omega arith) c.index-rules-place.is)
    (is_at c.args.rules.now c.loop-k.k c.index-rules-k.result (omega arith) c.index-rules-k.is) (cc) (omega arith)
    c.loop-k.invariant (λ h. let e = c.if-has_other_hours.ensures.1 h in absurd (cc))

pub loop-k-preserved : goal.loop-k-preserved
loop-k-preserved c =
    free-more c.args.rules.now c.args.place c.index-rules-place.result c.loop-k.k c.index-rules-k.result c.loop-k.invariant
    (is_at c.args.rules.now c.loop-k.k c.index-rules-k.result (omega arith) c.index-rules-k.is) (cc)

pub returns : goal.returns
returns c =
    hides-none c.args.rules.now c.args.place c.index-rules-place.result
    (is_at c.args.rules.now c.args.place c.index-rules-place.result (omega arith) c.index-rules-place.is)
    c.loop-k.k (omega arith) c.loop-k.invariant
