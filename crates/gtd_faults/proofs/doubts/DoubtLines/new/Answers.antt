-- Before the first row no warning has been told, no text written, and no code named.
use Rattle.std.proofs.Common.{[], refl}
use Rattle.gtd_faults.proofs.doubts.DoubtLines.new.Goals as goal

pub returns : goal.returns
returns c = λ bytes version. record {
  of_file = refl;
  is_asked = refl;
  told = [];
  each = refl;
  text = c.new-2.ensures.bytes;
  kept = c.in_ok-none_named.ensures c.args.path.now bytes;
  counted = refl;
}
