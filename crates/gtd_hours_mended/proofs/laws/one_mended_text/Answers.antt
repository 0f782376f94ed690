-- A text is mended as it is read, in one way, and each of its rules is written in one way.
use Rattle.gtd_hours_loose.specs.declared.manner.Manner.TheVariants as manner
use Rattle.gtd_hours_mended.proofs.OneFault.{one_mend_fault}
use Rattle.gtd_hours_mended.proofs.OneMended as proof
use Rattle.gtd_hours_mended.proofs.laws.one_mended_text.Goals as goal

pub returns-clause-mended : goal.returns-clause-mended
returns-clause-mended c =
    proof.one_mended c.one_meaning.ensures.written (λ names. c.one_reading.ensures.apart (manner.Loose names))
    c.one_reading-2.ensures.tokens c.one_reading-2.ensures.apart c.one_moment_text.ensures.checked
    c.one_moment_text.ensures.forms c.one_way.ensures.all

pub returns-clause-apart : goal.returns-clause-apart
returns-clause-apart c =
    proof.mended_apart c.one_meaning.ensures.written (λ names. c.one_reading.ensures.apart (manner.Loose names))
    c.one_reading-2.ensures.tokens c.one_reading-2.ensures.apart c.one_moment_text.ensures.checked
    c.one_moment_text.ensures.forms c.one_way.ensures.all

pub returns-clause-fault : goal.returns-clause-fault
returns-clause-fault c =
    one_mend_fault c.one_first_fault.ensures.fault c.one_first_fault.ensures.apart c.one_reading-3.ensures.fault
    c.one_reading-2.ensures.tokens c.one_reading-2.ensures.fault c.one_reading-2.ensures.apart
    c.one_moment_text.ensures.checked c.one_way.ensures.all
