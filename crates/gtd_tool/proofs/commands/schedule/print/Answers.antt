-- The schedule's claims about its output hold for the writer, which the output was lent to, where some lines may still be gathered.
use Rattle.std.proofs.Common.{◌∙◌, ◌<◌, ◌≤◌, rules, arith, refl}
use Rattle.gtd_roads.specs.facts.ShownFacts.{runs-schedule}
use Rattle.gtd_tool.proofs.ClaimLemmas.{none_unnamed, of_headline}
use Rattle.gtd_tool.proofs.GatheredLemmas.{ended_empty, gathered_first, gathered_whole, no_vehicle_type, on_ok, ran_gathered}
use Rattle.gtd_tool.proofs.GatheredLemmas.{ran_out_of_range, ran_without_memory}
use Rattle.gtd_tool.proofs.commands.schedule.print.Goals as goal

pub returns : goal.returns
returns g c =
    let e = c.run_schedule.ensures in
    let answer = c.run_schedule.result in
    let began = c.new-output.ensures.taken ∙ c.new-device.ensures.bytes in
    record {
      ran = λ file. ran_gathered _ _ _ _ _ _ _ _ _ _ _
          (gathered_first g.W.Write.contents _ _ _ _ _ _ _ _ _ began (search rules) refl)
          (record {
            answer = answer;
            outcome = c.outcome.ensures.value;
            accepted = λ vehicle year read wrote.
                of_headline _ _ _ answer c.args.vehicle c.args.horizon
                (e.headline vehicle (e.read_faults ∙ read _) (e.write_faults ∙ wrote _));
            refused = λ vehicle year read wrote.
                (e.headline vehicle (e.read_faults ∙ read _) (e.write_faults ∙ wrote _)).refused;
            unnamed = λ vehicle year read wrote. none_unnamed _ _ _ answer;
            stands = (runs-schedule c.args.vehicle c.args.horizon _ _ _ answer).0 e.stands;
            vehicle = e.vehicle;
            year = ((λ is. absurd (e.year is)), (λ out. absurd (out.1 tt)));
            element = e.element;
            endless = e.endless;
            failures = e.read_faults;
          })
          (on_ok answer _ _
          (λ ended.
          gathered_whole g.W.Write.contents _ _ _ _ _ _ _ _ _ began (search rules) refl (ended_empty _ _ _ refl ended))
          e.ended);
    }

pub returns-then-vehicle-lt1 : goal.returns-then-vehicle-lt1
returns-then-vehicle-lt1 g c = record {
  ran = λ file. ran_out_of_range _ _ _ _ _ _ (no_vehicle_type c.args.vehicle c.then-vehicle-lt1.either);
}

pub returns-in_default : goal.returns-in_default
returns-in_default g c = record {
  ran = λ file. ran_without_memory _ _ _ _ _ _
      ((let least = c.if-vehicle-lt1.false in omega (arith, least)), c.if-vehicle-gt99.false) tt;
}
