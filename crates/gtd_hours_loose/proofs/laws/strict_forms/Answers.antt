-- A strict text has no other form, and a form that was mended is strict and stands for the hours that are read of it.
use Rattle.gtd_hours_loose.proofs.ReadingLemmas.{mended_law, strict_law}
use Rattle.gtd_hours_loose.proofs.laws.strict_forms.Goals as goal

pub returns-clause-strict : goal.returns-clause-strict
returns-clause-strict c = strict_law

pub returns-clause-mended : goal.returns-clause-mended
returns-clause-mended c = mended_law
