-- A change in the range can be written as a moment, and its line or the word for none is what is printed.
use Rattle.std.proofs.Common.{Option, subst}
use Rattle.std.specs.Prelude.{IfSome}
use Rattle.gtd_core.specs.Parts.{domain_tree}
use Rattle.gtd_core.specs.declared.second.Sec.{Sec}
use Rattle.gtd_core.specs.Seconds.{IsHorizonSecond}
use Rattle.gtd_tool.proofs.AnswerLemmas.{calendar_day, change_line, change_part, on_ok, on_err}
use Rattle.gtd_tool.proofs.printer.print_change.Goals as goal

pub write_stamp-requires : goal.write_stamp-requires
write_stamp-requires g c =
    calendar_day c.in-Some.second.0 (subst (λ (o : Option Sec). IfSome o (λ t. IsHorizonSecond t.0)) c.in-Some.is
    c.requires.in_range)

pub returns-in-Some-clause-printed : goal.returns-in-Some-clause-printed
returns-in-Some-clause-printed g c =
    rw (c.in-Some.is) (on_ok c.print_stamped.result _ _
    (change_line (domain_tree c.args.domain.now) c.in-Some.second.0 _ _ _ _ c.write_stamp.ensures.value c.state_of.ensures.state)
    c.print_stamped.ensures.printed)

pub returns-in-Some-clause-part : goal.returns-in-Some-clause-part
returns-in-Some-clause-part g c =
    rw (c.in-Some.is) (on_err c.print_stamped.result _ _
    (change_part (domain_tree c.args.domain.now) c.in-Some.second.0 _ _ _ _ c.write_stamp.ensures.value c.state_of.ensures.state)
    c.print_stamped.ensures.part)
