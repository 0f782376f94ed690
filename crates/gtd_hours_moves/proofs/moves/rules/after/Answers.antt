-- `;` ends the rule, `:` and a year in range are right only behind earlier parts, and all else begins a later part.
use Rattle.std.proofs.Common.{◌∙◌, rules, sym}
use Rattle.gtd_hours_moves.proofs.GoodRules.{after_colon_good, after_later_good, after_semicolon_good, after_year_good}
use Rattle.gtd_hours_moves.proofs.moves.rules.after.Goals as goal

pub returns-in-Some-Semicolon-clause-good : goal.returns-in-Some-Semicolon-clause-good
returns-in-Some-Semicolon-clause-good c =
    rw (c.complete.ensures) (after_semicolon_good c.args.s c.args.next (search rules) c.requires.sound)

pub returns-in-Some-Colon-clause-good : goal.returns-in-Some-Colon-clause-good
returns-in-Some-Colon-clause-good c =
    rw (c.take-in-Some-Colon.ensures) (after_colon_good c.args.s c.args.next (search rules) c.requires.sound
    (sym c.precedes.ensures ∙ c.if-precedes.true))

pub returns-in-Some-Number-clause-good : goal.returns-in-Some-Number-clause-good
returns-in-Some-Number-clause-good c =
    rw (c.complete-in-Some-Number.ensures, c.written.ensures) (after_year_good c.args.s c.in-Some-Number.value
    c.in-Some-Number.digits c.args.next c.args.fits (search rules) c.if-fits.true c.requires.fit
    (sym c.precedes-then-fits.ensures ∙ c.if-precedes-2.true))

pub returns-in_default-clause-good : goal.returns-in_default-clause-good
returns-in_default-clause-good c = after_later_good c.args.s c.args.next c.later.result c.later.ensures.good
