-- A row that was read as a record adds no line if warnings are not asked for. The place of another is walked to, and its fault
-- and its warnings are listed.
use Rattle.std.proofs.Common.{◌≤◌, ◌++◌, ◌∷◌, [], arith, sym, subst, length, length-append}
use Rattle.csv.specs.Records.{fields_of}
use Rattle.gtd_records.specs.ComputedRow.{IsRow}
use Rattle.gtd_rows.specs.declared.vehicles.Version.{Version}
use Rattle.gtd_lines.specs.Cut.{IsPlace}
use Rattle.gtd_faults.specs.ListedRows.{AreDoubtedIfAsked}
use Rattle.gtd_faults.proofs.ListedFacts.{row_of_file, sound_row, still_none}
use Rattle.gtd_faults.proofs.listing.ListingRowTaker.take_row.Goals as goal

pub returns-then-is_unlisted : goal.returns-then-is_unlisted
returns-then-is_unlisted c = record {
  row = (
    c.read_row.ensures.version,
    (λ path bytes asked before after text number are.
        let old = c.args.self.now in
        let fields = fields_of c.args.row.now in
        let found = c.is_unlisted.ensures.sound c.if-is_unlisted.true in
        let none = c.is_unlisted.ensures.unasked c.if-is_unlisted.true in
        let reached = are.reached in
        record {
          of_file = are.of_file;
          reached = (let l = length-append before (fields ∷ []) in omega (arith, l, reached));
          place = are.place;
          faulted =
              sound_row path bytes old.rows.version before fields c.args.number number old.faults are.faulted found.0
              (rw (found.1) at c.in_ok-read.ensures.read);
          doubted = still_none path bytes asked old.rows.version before (before ++ fields ∷ []) old.doubts none are.doubted;
        }),
  );
}

pub returns : goal.returns
returns c = record {
  row = (
    c.read_row.ensures.version,
    (λ path bytes asked before after text number are.
        let old = c.args.self.now in
        let fields = fields_of c.args.row.now in
        let reached = are.reached in
        let fits : old.reached ≤ c.args.number = omega (arith, number, reached) in
        let walked = c.walked-self.ensures fits (rw (are.of_file) are.place) in
        let place : IsPlace bytes c.args.number c.walked-self.result = rw (are.of_file) at walked in
        let count : c.args.number ≤ length (before ++ fields ∷ []) =
        (let l = length-append before (fields ∷ []) in omega (arith, l, number)) in
        let is = c.read_row.ensures.version in
        let here = row_of_file bytes _ old.rows.version before after text are.of_file number place in
        let read = c.in_ok-read.ensures.read in
        record {
          of_file = are.of_file;
          reached = count;
          place = place;
          faulted = c.in_ok-take_fault.ensures path bytes old.rows.version before here number read are.faulted;
          doubted =
              subst (λ (v : Version). AreDoubtedIfAsked path asked bytes v (before ++ fields ∷ []) c.take_doubts.new.doubts) is
              (c.in_ok-take_doubts.ensures path bytes asked before here number
              (subst (λ (v : Version). IsRow v c.args.number fields c.in_ok-read.read) (sym is) read)
              (subst (λ (v : Version). AreDoubtedIfAsked path asked bytes v before old.doubts) (sym is) are.doubted));
        }),
  );
}
