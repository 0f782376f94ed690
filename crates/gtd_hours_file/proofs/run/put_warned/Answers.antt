-- Warnings change nothing of what is put: the answer of the run with them is that of the run without.
use Rattle.gtd_hours_file.proofs.run.put_warned.Goals as goal

pub returns-clause-stands : goal.returns-clause-stands
returns-clause-stands g c = λ how file.
    rw (c.with_warnings.ensures.lines) (c.put_sound.ensures.stands how c.args.path.now file)
