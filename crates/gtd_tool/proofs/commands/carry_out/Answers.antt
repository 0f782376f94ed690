-- Each command's own claims, rewritten to the plan that it was called for, are the claims about the whole.
use Rattle.std.proofs.Common.{[]}
use Rattle.gtd_tool.proofs.commands.carry_out.Goals as goal

pub returns-in-Next-clause-printed : goal.returns-in-Next-clause-printed
returns-in-Next-clause-printed g c = rw (c.in-Next.is) c.print-in-Next.ensures.printed

pub returns-in-Next-clause-stopped : goal.returns-in-Next-clause-stopped
returns-in-Next-clause-stopped g c = rw (c.in-Next.is) c.print-in-Next.ensures.stopped

pub returns-in-Ever-clause-printed : goal.returns-in-Ever-clause-printed
returns-in-Ever-clause-printed g c = rw (c.in-Ever.is) c.print-in-Ever.ensures.printed

pub returns-in-Ever-clause-stopped : goal.returns-in-Ever-clause-stopped
returns-in-Ever-clause-stopped g c = rw (c.in-Ever.is) c.print-in-Ever.ensures.stopped

pub returns-in-Schedule-clause-ran : goal.returns-in-Schedule-clause-ran
returns-in-Schedule-clause-ran g c = rw (c.in-Schedule.is) (c.print-in-Schedule.ensures.ran [])

pub returns-in-Year-clause-ran : goal.returns-in-Year-clause-ran
returns-in-Year-clause-ran g c = rw (c.in-Year.is) (c.print-in-Year.ensures.ran [])

pub returns-in-Migrate-clause-ran : goal.returns-in-Migrate-clause-ran
returns-in-Migrate-clause-ran g c = rw (c.in-Migrate.is) (c.print-in-Migrate.ensures.ran [])
