-- Each run is put as one row; after the last one, the runs put are all of them.
use Rattle.std.proofs.Common.{◌≡◌, ◌∙◌, FitsSigned, List, refl, rules, subst, sym, to_z-of_z, w64}
use Rattle.std.proofs.lemmas.List.{map-id}
use Rattle.std.proofs.lemmas.Iterator.Adapters.{YieldsList-from_vec}
use Rattle.std.proofs.lemmas.Iterator.Consumers.{YieldsList-end}
use Rattle.gtd_hours_holidays.specs.declared.run.Run.{Run}
use Rattle.gtd_hours_holidays.proofs.MergedFacts.{ArePut, put_more}
use Rattle.gtd_hours_holidays.proofs.holidays.put_runs.Goals as goal

pub loop-run-preserved : goal.loop-run-preserved
loop-run-preserved c =
    let first : FitsSigned w64 c.in-Some.run'.first = search rules in
    let last : FitsSigned w64 c.in-Some.run'.last = search rules in
    rw c.in_ok-push.ensures.items
    (put_more c.args.kind c.loop-run.yielded c.in-Some.run' c.args.merged.now.items c.loop-run.merged.items _ (to_z-of_z first)
    (to_z-of_z last) refl refl c.loop-run.invariant)

pub returns : goal.returns
returns c =
    let gives = c.into_iter-run-iterator.ensures.into_iter_gives in
    let all-are = YieldsList-from_vec {s = c.into_iter-run-iterator.result} c.args.runs.items (search rules) (search rules) in
    let end = YieldsList-end all-are c.loop-run.yielded c.loop-run.run-iterator c.loop-run.yielded_by c.next.result
    c.next.new.self c.in-None.is c.next.ensures.steps in
    let whole : c.loop-run.yielded ≡ c.args.runs.items = sym (map-id c.loop-run.yielded) ∙ end.0 in
    subst (λ (runs : List Run). ArePut c.args.kind runs c.args.merged.now.items c.loop-run.merged.items) whole
    c.loop-run.invariant
