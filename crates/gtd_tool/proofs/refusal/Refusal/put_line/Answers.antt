-- Case by case the texts handed over are the line of that refusal.
use Rattle.gtd_tool.proofs.refusal.Refusal.put_line.Goals as goal

pub returns-in-Moment-clause-line : goal.returns-in-Moment-clause-line
returns-in-Moment-clause-line g c = rw (c.in-Moment.is, ← c.name.ensures.text) c.put_texts-in-Moment.ensures.whole

pub returns-in-Horizon-clause-line : goal.returns-in-Horizon-clause-line
returns-in-Horizon-clause-line g c = rw (c.in-Horizon.is, ← c.name-in-Horizon.ensures.text) c.put_texts-in-Horizon.ensures.whole

pub returns-in-HasYear-clause-line : goal.returns-in-HasYear-clause-line
returns-in-HasYear-clause-line g c = rw (c.in-HasYear.is) c.put_texts-in-HasYear.ensures.whole

pub returns-in-Write-clause-line : goal.returns-in-Write-clause-line
returns-in-Write-clause-line g c = rw (c.in-Write.is) c.put_texts-in-Write.ensures.whole

pub returns-in-Memory-clause-line : goal.returns-in-Memory-clause-line
returns-in-Memory-clause-line g c = rw (c.in-Memory.is) c.put_texts-in-Memory.ensures.whole
