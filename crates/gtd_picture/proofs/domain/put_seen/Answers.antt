-- A crowded domain leaves the output empty, and any other gets its picture.
use Rattle.std.proofs.Common.{rules}
use Rattle.std.specs.Prelude.{codes}
use Rattle.gtd_eval.specs.Membership.{InDomain}
use Rattle.gtd_picture.specs.Crowded.{IsSeen}
use Rattle.gtd_picture.specs.Picture.{IsPicture}
use Rattle.gtd_picture.proofs.CrowdFacts.{none_seen, one_seen, text_seen}
use Rattle.gtd_picture.proofs.PictureFacts.{one_picture, texts_ended}
use Rattle.gtd_picture.proofs.domain.put_seen.Goals as goal

pub returns-then-branch-clause-puts : goal.returns-then-branch-clause-puts
returns-then-branch-clause-puts g c =
    let set = InDomain c.args.domain.now in
    let title = c.args.title.now in
    let year = c.args.year in
    let taken = g.O.Output.taken in
    let kind = IsPicture set title (codes "in the domain") (codes "not in the domain") year in
    texts_ended (IsSeen set year kind) c.finish.result (taken c.args.output.now) (taken c.args.output.now)
    (taken c.finish.new.output) c.args.printer.now.progress c.args.printer.now.progress
    (one_seen set year kind (one_picture set title (codes "in the domain") (codes "not in the domain") year))
    (none_seen set year kind (c.in_ok-is_domain_crowded.ensures.crowded.0 (search rules)) (taken c.args.output.now)
    c.args.printer.now.progress) c.finish.ensures.bytes

pub returns-clause-puts : goal.returns-clause-puts
returns-clause-puts g c =
    let set = InDomain c.args.domain.now in
    let title = c.args.title.now in
    let year = c.args.year in
    let taken = g.O.Output.taken in
    text_seen set year (IsPicture set title (codes "in the domain") (codes "not in the domain") year)
    (λ crowded. let k = c.in_ok-is_domain_crowded.ensures.crowded.1 crowded in search (rules, k)) c.put_seconds.result
    (taken c.args.output.now) (taken c.put_seconds.new.output) c.args.printer.now.progress c.put_seconds.new.printer.progress
    c.put_seconds.ensures.puts
