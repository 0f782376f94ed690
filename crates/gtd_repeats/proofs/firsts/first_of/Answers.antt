-- A row that is like an earlier one has that one's first row; one of which no such row is known is looked up.
use Rattle.std.proofs.Common.{◌≡◌, ◌∙◌, ◌≤◌, arith, subst, length, get_or, ℕ}
use Rattle.gtd_repeats.proofs.FirstFacts.{joined}
use Rattle.gtd_repeats.proofs.ListFacts.{any_default}
use Rattle.gtd_repeats.proofs.firsts.first_of.Goals as goal

pub returns-in-Some-clause-first : goal.returns-in-Some-clause-first
returns-in-Some-clause-first g c = λ numbers indices likeness shared placed inside so_far is at alike le.
    let look = c.in-Some.ensures.lookup in
    let firsts = c.args.firsts.now in
    let e : c.in-Some.first.now ≡ get_or firsts c.args.asked.known 0 =
    look.1 ∙ any_default firsts c.args.asked.known c.in-Some.first.now 0 look.3.0 in
    let found = joined (g.L.Likeness.alike c.args.rows.now) likeness numbers indices firsts c.args.buckets.now.items so_far
    c.args.asked.entry.row c.args.asked.known c.requires.next look.3.0 alike in
    rw e (found.0, so_far, found.1)

pub returns-in-None-clause-first : goal.returns-in-None-clause-first
returns-in-None-clause-first g c = λ numbers indices likeness shared placed inside so_far is at alike le.
    let look = c.in-None.ensures.lookup in
    let far : length c.args.firsts.now ≤ c.args.asked.known = look.3 in
    let same : c.args.asked.known ≡ c.args.asked.entry.row = omega (arith, far, le, c.requires.next) in
    let like = g.L.Likeness.alike c.args.rows.now in
    let self = subst (λ (k : ℕ). like k c.args.asked.entry.row) same alike in
    c.first_new.ensures.first numbers indices likeness shared placed inside so_far is at self
