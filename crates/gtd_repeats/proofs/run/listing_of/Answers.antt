-- The findings are of rows of this file, so each of them has a line on which it begins.
use Rattle.gtd_repeats.proofs.LineFacts.{of_file}
use Rattle.gtd_repeats.proofs.run.listing_of.Goals as goal

pub text_of-requires : goal.text_of-requires
text_of-requires c = record {
  rows = rw c.as_slice.ensures.value
      (of_file c.args.bytes.now c.args.found.now c.in_ok-findings.findings.items c.requires.file
      (rw c.rows.ensures.rows at c.in_ok-findings.ensures.findings));
}
