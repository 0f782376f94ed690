-- A moment written with a space, with a fraction or without its seconds is read as the full form is.
use Rattle.std.proofs.Common.{subst}
use Rattle.std.specs.Prelude.{Result}
use Rattle.gtd_core.specs.declared.second.Sec.{Sec}
use Rattle.gtd_calendar.specs.Read.{IsReadStamp}
use Rattle.gtd_calendar.specs.declared.stamp.StampFault.{StampFault}
use Rattle.gtd_moments.proofs.Forms.{fraction, minutes, same, spaced}
use Rattle.gtd_moments.proofs.laws.each_form.Goals as goal

pub returns-clause-same : goal.returns-clause-same
returns-clause-same c = λ text second is.
    same text second
    (subst (λ (r : Result Sec StampFault). IsReadStamp text r) is (c.one_reading.ensures.stamp text)) is

pub returns-clause-spaced : goal.returns-clause-spaced
returns-clause-spaced c = λ text short second is form.
    spaced text second
    (subst (λ (r : Result Sec StampFault). IsReadStamp text r) is (c.one_reading.ensures.stamp text)) is short form

pub returns-clause-fraction : goal.returns-clause-fraction
returns-clause-fraction c = λ text long second is form.
    fraction text second
    (subst (λ (r : Result Sec StampFault). IsReadStamp text r) is (c.one_reading.ensures.stamp text)) is long form

pub returns-clause-minutes : goal.returns-clause-minutes
returns-clause-minutes c = λ text short second is form.
    minutes text second
    (subst (λ (r : Result Sec StampFault). IsReadStamp text r) is (c.one_reading.ensures.stamp text)) is short form
