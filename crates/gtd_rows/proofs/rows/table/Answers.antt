-- A reader without headers and of any lengths starts before the first byte, with all records of the text left.
use Rattle.std.proofs.Common.{◌∙◌, refl, inl, inr}
use Rattle.csv.specs.Reading.{strip_bom}
use Rattle.gtd_rows.proofs.rows.table.Goals as goal

pub returns : goal.returns
returns c =
    let made = c.from_reader.ensures in
    let named = c.has_headers.ensures in
    let flexible = c.flexible.ensures in
    record {
      config = rw (flexible, named) at made.config ∙ c.new.ensures.config;
      trim = rw (flexible, named) at made.trim ∙ c.new.ensures.trim;
      flexible = rw flexible at made.flexible;
      ready = inr (inr (rw (flexible, named) at made.has_headers, made.headers));
      between = inl made.state;
      bytes = strip_bom c.args.text.now;
      source = made.source;
      records = rw made.state refl;
    }
