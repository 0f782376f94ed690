-- The note is told exactly if the file was put and no row of it is for the vehicle type.
use Rattle.std.proofs.Common.{◌∙◌, ap, refl, sym, true≢false}
use Rattle.std.specs.Prelude.{Err}
use Rattle.gtd_now.specs.Query.{query_of}
use Rattle.gtdesk_tool.specs.declared.refusal.RunRefusal.{RunRefusal}
use Rattle.gtdesk_tool.specs.Running.{failures_after_read, failures_after_write}
use Rattle.gtdesk_tool.proofs.NowFacts.{no_memory, not_vehicle, now_reads, now_writes}
use Rattle.gtdesk_tool.proofs.RunningFacts.{handed_on}
use Rattle.gtdesk_tool.proofs.now.print_now.Goals as goal

pub returns-then-not-is_vehicle_type-clause-ran : goal.returns-then-not-is_vehicle_type-clause-ran
returns-then-not-is_vehicle_type-clause-ran g c =
    not_vehicle (query_of c.args.turn.asked) c.args.turn.path.now (g.I.Input.to_come c.args.input.now)
    (g.O.Output.taken c.args.output.now) _ _ (g.E.Output.taken c.args.errors.now) (g.E.Output.failure_count c.args.errors.now) _
    (λ type. true≢false (sym (c.is_vehicle_type.ensures.1 type) ∙ c.if-not-is_vehicle_type.true))
    (ap (λ (r : RunRefusal). Err r) c.run_refusal.ensures.value)

pub returns-in-Err-clause-ran : goal.returns-in-Err-clause-ran
returns-in-Err-clause-ran g c =
    no_memory (query_of c.args.turn.asked) c.args.turn.path.now (g.I.Input.to_come c.args.input.now)
    (g.O.Output.taken c.args.output.now) _ _ (g.E.Output.taken c.args.errors.now) (g.E.Output.failure_count c.args.errors.now) _
    (c.is_vehicle_type.ensures.0 c.if-not-is_vehicle_type.false) refl

pub returns-clause-ran : goal.returns-clause-ran
returns-clause-ran g c =
    let e = c.run_now-answer.ensures in
    record {
      answer = c.run_now-answer.result;
      outcome = c.now_outcome.ensures.value;
      accepted = λ type read wrote. e.accepted type (e.read_faults ∙ read _) (e.write_faults ∙ wrote _);
      refused = λ type read wrote. e.refused type (e.read_faults ∙ read _) (e.write_faults ∙ wrote _);
      stands = e.stands;
      vehicle_known = e.vehicle_known;
      noted = rw (c.as_str.ensures.value, c.in-Ok.ensures.note) at c.tell_note.ensures.noted;
      whole = e.ended;
      vehicle_range = e.vehicle;
      year = e.year;
      element = e.element;
      endless = e.endless;
    }

pub returns-clause-read_faults : goal.returns-clause-read_faults
returns-clause-read_faults g c =
    handed_on failures_after_read _ _ _ _ _
    c.run_now-answer.ensures.read_faults (now_reads c.run_now-answer.result _) c.now_outcome.ensures.value

pub returns-clause-write_faults : goal.returns-clause-write_faults
returns-clause-write_faults g c =
    handed_on failures_after_write _ _ _ _ _
    c.run_now-answer.ensures.write_faults (now_writes c.run_now-answer.result _) c.now_outcome.ensures.value
