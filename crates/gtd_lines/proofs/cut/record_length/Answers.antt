-- The state after each byte is that of the CSV reader, so both see the end of the record at the same byte.
use Rattle.std.proofs.Common.{◌≡◌, arith, length}
use Rattle.std.proofs.lemmas.List.{drop_all}
use Rattle.gtd_lines.specs.Cut.{state_of}
use Rattle.gtd_lines.proofs.PlaceFacts.{follows_all, follows_end, follows_more, follows_start}
use Rattle.gtd_lines.proofs.cut.record_length.Goals as goal

pub loop-at-init : goal.loop-at-init
loop-at-init c = follows_start c.args.bytes.now

pub returns-in-None-clause-rest : goal.returns-in-None-clause-rest
returns-in-None-clause-rest c =
    follows_end c.args.bytes.now c.loop-at.at (state_of c.loop-at.within) (omega arith) c.loop-at.invariant c.in-None.ensures

pub loop-at-preserved : goal.loop-at-preserved
loop-at-preserved c =
    follows_more c.args.bytes.now c.loop-at.at (state_of c.loop-at.within) (state_of c.in-Some.next) (omega arith)
    c.loop-at.invariant c.in-Some.ensures.0 c.in-Some.ensures.1

pub returns-clause-rest : goal.returns-clause-rest
returns-clause-rest c =
    let end : c.loop-at.at ≡ length c.args.bytes.now = omega arith in
    follows_all c.args.bytes.now (state_of c.loop-at.within) (drop_all (length c.args.bytes.now) c.args.bytes.now (omega arith))
    (rw end at c.loop-at.invariant)
