-- The bytes are copied to the end of what is gathered.
use Rattle.std.proofs.Common.{arith, ◌-◌, drop, length, refl}
use Rattle.gtd_gathered.proofs.GatheringLemmas.{grown}
use Rattle.gtd_gathered.proofs.gathered.Gathered.gather.Goals as goal

pub returns-clause-bytes : goal.returns-clause-bytes
returns-clause-bytes g c =
    let self = c.args.self.now in
    let bytes = c.args.bytes.now in
    grown self.from self.until (length bytes) (self.until - self.from) self.bytes.now c.copy_at.new.text bytes
    (drop (length bytes) (drop self.until self.bytes.now)) (let o = self.in_order in omega (arith, o))
    (let w = self.within in let r = self.room in omega (arith, w, r)) refl c.copy_at.ensures.text
