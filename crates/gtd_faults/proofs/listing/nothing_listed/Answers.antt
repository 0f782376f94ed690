-- Before the first row there are no faults and no warnings, and the place is that of the first record.
use Rattle.std.proofs.Common.{arith, refl}
use Rattle.gtd_faults.proofs.listing.nothing_listed.Goals as goal

pub returns : goal.returns
returns c = λ version. record {
  of_file = refl;
  reached = omega arith;
  place = c.first.ensures.place;
  faulted = record {
    of_file = c.new-2.ensures.path;
    each = c.new-2.ensures.faults;
    text = rw (c.new-2.ensures.faults) (c.new-2.ensures.lines c.args.bytes.now);
  };
  doubted = c.in_ok-doubts.ensures c.args.bytes.now version;
}
