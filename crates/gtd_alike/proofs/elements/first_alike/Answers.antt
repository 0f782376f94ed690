-- For each of them one that is open at the same seconds was found, or itself.
use Rattle.std.proofs.Common.{refl, length}
use Rattle.gtd_alike.proofs.AlikeFacts.{first_elements}
use Rattle.gtd_alike.proofs.elements.first_alike.Goals as goal

pub returns : goal.returns
returns c = record {
  alike =
      first_elements c.args.found.now c.args.vehicle c.args.asked.now (length c.args.asked.now) c.in_ok-firsts.firsts.items refl
      c.in_ok-firsts.ensures.many c.in_ok-firsts.ensures.each;
}
