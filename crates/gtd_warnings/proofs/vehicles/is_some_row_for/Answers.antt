-- No record that was looked at is for the type, or the last one is.
use Rattle.std.proofs.Common.{sym, ap, subst, arith, refl}
use Rattle.gtd_records.specs.Closing.{Restriction}
use Rattle.gtd_rows.specs.Serving.{Serves}
use Rattle.gtd_rows.specs.declared.vehicles.Vehicles.{Vehicles}
use Rattle.gtd_warnings.proofs.VehicleFacts.{none_serves, one_serves, serves_more}
use Rattle.gtd_warnings.proofs.vehicles.is_some_row_for.Goals as goal

pub loop-record-init : goal.loop-record-init
loop-record-init c = λ k r lt e serves. omega (arith, lt)

pub loop-record-preserved : goal.loop-record-preserved
loop-record-preserved c =
    let here = ap (λ (r : Restriction). r.vehicles) c.record.view_is in
    let un = c.if-serves.false in
    let rows = c.rows-record-items.ensures.rows in
    serves_more c.args.records.now c.args.vehicle c.loop-record.record-index c.record-item.result (rw (sym rows) (omega arith))
    (sym (rw rows at c.record-item.is)) c.loop-record.invariant
    (λ serves.
    let yes = c.serves.ensures.1 (subst (λ (v : Vehicles). Serves v c.args.vehicle) (sym here) serves) in
    absurd cc)

pub returns-then-serves : goal.returns-then-serves
returns-then-serves c =
    let here = ap (λ (r : Restriction). r.vehicles) c.record.view_is in
    let rows = c.rows-record-items.ensures.rows in
    let serves = subst (λ (v : Vehicles). Serves v c.args.vehicle) here (c.serves.ensures.0 c.if-serves.true) in
    record {
      some = (
        (λ t. one_serves c.args.records.now c.args.vehicle c.loop-record.record-index c.record-item.result
            (rw (sym rows) (omega arith)) (sym (rw rows at c.record-item.is)) serves),
        (λ some. refl),
      );
    }

pub returns : goal.returns
returns c =
    let rows = c.rows-record-items.ensures.rows in
    record {
      some = (
        (λ f. absurd cc),
        (λ some. absurd (none_serves c.args.records.now c.args.vehicle c.loop-record.record-index
            (rw (sym rows) (omega arith)) c.loop-record.invariant some)),
      );
    }
