-- What was taken and what is left make up the bytes after each write, so in the end all are taken, or a first part.
use Rattle.std.proofs.Common.{◌≡◌, ◌∙◌, ℕ, List, sym, ap, subst, drop, length, length-drop, arith, ◌-◌}
use Rattle.std.specs.Borrow.{Bor}
use Rattle.std.proofs.lemmas.List.{take_all}
use Rattle.gtd_tool.specs.Writing.{TakesBefore}
use Rattle.gtd_tool.proofs.WritingLemmas.{takes_none, takes_more, takes_kept, takes_all}
use Rattle.gtd_tool.proofs.writer.put.Goals as goal
use Rattle.gtd_tool.proofs.writer.put.Goals.{in-Ok, in-Err+else-ne}

pub loop-init : goal.loop-init
loop-init g c = takes_none _ _

pub loop-preserved : goal.loop-preserved
loop-preserved g c = elim c.match-write.branch [
  | in-Ok w ↦
      let rest : c.match-write.rest.now ≡ drop w.in-Ok.taken c.loop.rest.now = ap (λ (r : Bor (List ℕ)). r.now) w.rest-is
      ∙ take_all (length c.loop.rest.now - w.in-Ok.taken) (drop w.in-Ok.taken c.loop.rest.now)
      (omega (arith, length-drop w.in-Ok.taken c.loop.rest.now)) in
      subst (TakesBefore _ _ _) (sym rest) (takes_more _ _ _ _ _ w.in-Ok.taken c.loop.invariant w.in-Ok.ensures.bytes)
  | in-Err+else-ne w ↦
      let rest : c.match-write.rest.now ≡ c.loop.rest.now = ap (λ (r : Bor (List ℕ)). r.now) w.rest-is in
      subst (TakesBefore _ _ _) (sym rest) (takes_kept _ _ _ _ _ c.loop.invariant w.in-Err.ensures.bytes)
]

pub returns-then-is_empty-clause-whole : goal.returns-then-is_empty-clause-whole
returns-then-is_empty-clause-whole g c = takes_all _ _ _ _ c.loop.invariant (sym c.is_empty.ensures ∙ c.if-is_empty.true)
