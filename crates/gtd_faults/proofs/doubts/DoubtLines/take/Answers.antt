-- What is listed of the rows so far and of this one is what is listed of all of them.
use Rattle.std.proofs.Common.{◌≡◌, ◌+◌, ◌++◌, ◌↔◌, ◌∙◌, ap, sym, ℕ, length, map, Contains}
use Rattle.std.proofs.lemmas.List.{length-map}
use Rattle.csv.specs.Records.{fields_of}
use Rattle.gtd_warnings.specs.Codes.{codes_named, naming}
use Rattle.gtd_faults.proofs.ListedFacts.{told_more}
use Rattle.gtd_faults.proofs.NamingFacts.{counted_more, kept_more}
use Rattle.gtd_faults.proofs.doubts.DoubtLines.take.Goals as goal

pub returns : goal.returns
returns c = λ path bytes asked rows is number read are.
    let row = c.args.row.now in
    let fields = fields_of row.fields.now in
    let told = c.in_ok-told.told.items in
    let named = map (codes_named c.args.version) rows in
    let codes = c.codes_listed-codes.result.now in
    let same : (code : ℕ) → Contains codes code ↔ Contains (codes_named c.args.version fields) code =
    rw (c.codes_listed-codes.ensures) c.in_ok-types.ensures in
    let after : row.number ≡ length named + 1 =
    number ∙ ap (λ (n : ℕ). n + 1) (sym (length-map rows (codes_named c.args.version))) in
    record {
      of_file = are.of_file;
      is_asked = are.is_asked;
      told = are.told ++ told;
      each =
          told_more asked rows fields row.number are.told told number are.each
          (rw (are.is_asked) at (c.in_ok-told.ensures.told c.args.version read));
      text =
          rw (are.of_file, c.as_slice.ensures.value) at
          (c.in_ok-push_told.ensures bytes are.told is (rw (c.as_slice.ensures.value) c.in_ok-told.ensures.rows)
          (rw (are.of_file) are.text));
      kept =
          kept_more c.args.version rows fields codes same path bytes _
          (rw (are.of_file) at (c.in_ok-take_codes.ensures bytes named is after (rw (are.of_file) are.kept)));
      counted = counted_more c.args.version rows fields codes same _ (c.counted_on-self.ensures (naming named) are.counted);
    }
