-- The claims about requests with a record file and those without are brought together, by whether there is one.
use Rattle.gtd_tool.specs.Commands.{file_of}
use Rattle.gtd_tool.specs.Plans.{asked_by}
use Rattle.gtd_tool.proofs.AnswerLemmas.{part_of_any}
use Rattle.gtd_tool.proofs.RunLemmas.{alone, if_file, input_failures, on_err_either, ran_accepted, ran_failures, ran_lacking}
use Rattle.gtd_tool.proofs.RunLemmas.{ran_nothing, ran_part, ran_refused, with_file}
use Rattle.gtd_tool.proofs.performer.perform.Goals as goal

pub returns-clause-part : goal.returns-clause-part
returns-clause-part g c =
    let asked = asked_by c.args.plan.now in
    on_err_either (file_of asked) c.carry_out.result _ _ _
    (alone (file_of asked) _ _ (part_of_any asked g.W.Write.contents c.args.out.now c.carry_out.new.out c.carry_out.result)
    c.carry_out.ensures.stopped)
    (ran_part _ _ _ _ _ _ _ _) c.carry_out.ensures.ran

pub returns-clause-accepted : goal.returns-clause-accepted
returns-clause-accepted g c = λ reads vehicle year free.
    with_file (file_of (asked_by c.args.plan.now)) _ _ (λ ran. ran_accepted _ _ _ _ _ _ _ _ ran vehicle year free)
    c.carry_out.ensures.ran reads

pub returns-clause-refused : goal.returns-clause-refused
returns-clause-refused g c = λ reads vehicle year free.
    with_file (file_of (asked_by c.args.plan.now)) _ _ (λ ran. ran_refused _ _ _ _ _ _ _ _ ran vehicle year free)
    c.carry_out.ensures.ran reads

pub returns-clause-lacking : goal.returns-clause-lacking
returns-clause-lacking g c = λ reads vehicle year free.
    with_file (file_of (asked_by c.args.plan.now)) _ _ (λ ran. ran_lacking _ _ _ _ _ _ _ _ ran vehicle year free)
    c.carry_out.ensures.ran reads

pub returns-clause-read_faults : goal.returns-clause-read_faults
returns-clause-read_faults g c =
    let asked = asked_by c.args.plan.now in
    input_failures g.I.Input.failure_count (file_of asked) asked _ _ _ c.carry_out.result c.args.input.now c.carry_out.new.input _
    c.carry_out.ensures.untouched c.carry_out.ensures.stopped (ran_failures _ _ _ _ _ _ _ _) c.carry_out.ensures.ran

pub returns-clause-nothing : goal.returns-clause-nothing
returns-clause-nothing g c = if_file (file_of (asked_by c.args.plan.now)) _ _
    (ran_nothing _ _ _ _ _ _ _ _) c.carry_out.ensures.ran
