-- The rows that were taken, how they end and the warnings make up the list of the whole file.
use Rattle.std.specs.Prelude.{string_bytes}
use Rattle.gtd_faults.proofs.ListedFacts.{whole_list}
use Rattle.gtd_faults.proofs.listing.list_of.Goals as goal

pub returns : goal.returns
returns c =
    whole_list c.args.path.now c.args.bytes.now c.requires.few c.args.asked.now c.in_ok-listing.listing c.take_rows.new.taker
    c.in_ok-listing.ensures c.end_faults.new.lines (string_bytes c.push_doubts.new.text)
    (λ v rows are. c.in_ok-push_doubts.ensures c.args.path.now c.args.bytes.now c.args.asked.now v rows are) c.in_ok-end.end
    c.in_ok-end.ensures.taken c.in_ok-end_faults.ensures
