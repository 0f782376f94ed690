-- Moves are made until one completes a piece, which is then read in addition, with fewer moves left. Where no move is
-- possible, the text has been read in full, or the fault is its first.
use Rattle.std.proofs.Common.{rules, ◌≡◌, ◌<◌, ◌≤◌, Option, None, ℕ, arith, subst}
use Rattle.gtd_hours_tokens.specs.declared.token.TokenKind.{TokenKind}
use Rattle.gtd_hours_moves.specs.declared.place.Move.{Move}
use Rattle.gtd_hours_grammar.specs.Steps.{IsMove}
use Rattle.gtd_hours_grammar.proofs.ReadLemmas.{fewer, stands_by}
use Rattle.gtd_hours_grammar.proofs.ReadingLemmas.{fault_read, gives_piece, has_read, hours_read, inside, keeps_more, read_to}
use Rattle.gtd_hours_grammar.proofs.SoundLemmas.{sound_all, sound_piece}
use Rattle.gtd_hours_grammar.proofs.reading.next_part.Goals as goal

at_most : {a b d : ℕ} → a ≤ b → d < a → d < b
at_most h k = omega (arith, h, k)

pub loop-next-init : goal.loop-next-init
loop-next-init c = record { some = c.requires.stands; same = λ given is. is; left = omega (arith) }

pub token_behind-requires-clause-inside : goal.token_behind-requires-clause-inside
token_behind-requires-clause-inside c = inside c.args.text.now c.args.reading c.loop-next.now c.loop-next.invariant

pub token_behind-requires-clause-read : goal.token_behind-requires-clause-read
token_behind-requires-clause-read c =
    let k = c.loop-next.invariant in
    has_read c.args.text.now c.loop-next.now k.some.0 (k.same k.some.0 k.some.1)

pub end_or_fault-requires-clause-inside : goal.end_or_fault-requires-clause-inside
end_or_fault-requires-clause-inside c = c.in_ok-next.ensures.inside

pub end_or_fault-requires-clause-read : goal.end_or_fault-requires-clause-read
end_or_fault-requires-clause-read c =
    let k = c.loop-next.invariant in
    let read = has_read c.args.text.now c.loop-next.now k.some.0 (k.same k.some.0 k.some.1) in
    read_to c.args.text.now c.loop-next.now.place c.in_ok-next.next read c.in_ok-next.ensures.next

pub step_from-requires : goal.step_from-requires
step_from-requires c = (c.loop-next.invariant.same c.loop-next.invariant.some.0 c.loop-next.invariant.some.1).stands

pub returns-in_default-clause-all : goal.returns-in_default-clause-all
returns-in_default-clause-all c = λ given is same.
    hours_read c.args.text.now c.loop-next.now given c.in_ok-next.next c.end_or_fault.result
    (c.loop-next.invariant.same given is) c.in_ok-next.ensures.next c.end_or_fault.ensures same

pub returns-in_default-clause-fault : goal.returns-in_default-clause-fault
returns-in_default-clause-fault c =
    let k = c.loop-next.invariant in
    let none : c.step_from.result ≡ None = search rules in
    let goes = subst (λ (n : Option TokenKind). IsMove c.loop-next.now.at n None) c.kind_of.ensures
    (subst (λ (m : Option Move). IsMove c.loop-next.now.at c.kind_of.result m) none c.step_from.ensures.computed) in
    fault_read c.args.text.now c.loop-next.now k.some.0 c.in_ok-next.next c.end_or_fault.result
    (k.same k.some.0 k.some.1) c.in_ok-next.ensures.next goes c.end_or_fault.ensures

pub returns-in-Some-part_behind-clause-piece : goal.returns-in-Some-part_behind-clause-piece
returns-in-Some-part_behind-clause-piece c = λ given is.
    let stands = stands_by c.args.text.now c.loop-next.now c.in_ok-next.next c.kind_of.result c.in-Some.step
    c.kind_of.ensures c.in_ok-next.ensures.next c.in_ok-next.ensures.past c.in_ok-next.ensures.inside
    c.in-Some.ensures.computed c.in-Some.ensures.good in
    let kept = c.in-Some-part_behind.ensures.kept in
    let at = c.loop-next.invariant.same given is in (
      kept.0,
      sound_piece c.loop-next.now.at c.kind_of.result c.in-Some.step kept.0 at.stands c.in-Some.ensures.computed kept.1,
      kept.2,
      rw (c.advanced-now.ensures) (gives_piece c.args.text.now c.args.reading c.loop-next.now c.in_ok-next.next
          c.in-Some.step kept.0 c.loop-next.invariant stands kept.1 given is),
    )

pub returns-in-Some-part_behind-clause-nearer : goal.returns-in-Some-part_behind-clause-nearer
returns-in-Some-part_behind-clause-nearer c =
    let stands = stands_by c.args.text.now c.loop-next.now c.in_ok-next.next c.kind_of.result c.in-Some.step
    c.kind_of.ensures c.in_ok-next.ensures.next c.in_ok-next.ensures.past c.in_ok-next.ensures.inside
    c.in-Some.ensures.computed c.in-Some.ensures.good in
    let less = fewer c.args.text.now c.loop-next.now c.in_ok-next.next c.in-Some.step
    (inside c.args.text.now c.args.reading c.loop-next.now c.loop-next.invariant) stands in
    rw (c.advanced-now.ensures) (at_most c.loop-next.invariant.left less)

pub loop-next-smaller : goal.loop-next-smaller
loop-next-smaller c =
    let stands = stands_by c.args.text.now c.loop-next.now c.in_ok-next.next c.kind_of.result c.in-Some.step
    c.kind_of.ensures c.in_ok-next.ensures.next c.in_ok-next.ensures.past c.in_ok-next.ensures.inside
    c.in-Some.ensures.computed c.in-Some.ensures.good in
    rw (c.advanced-now.ensures) (fewer c.args.text.now c.loop-next.now c.in_ok-next.next c.in-Some.step
    (inside c.args.text.now c.args.reading c.loop-next.now c.loop-next.invariant) stands)

pub loop-next-preserved : goal.loop-next-preserved
loop-next-preserved c =
    let stands = stands_by c.args.text.now c.loop-next.now c.in_ok-next.next c.kind_of.result c.in-Some.step
    c.kind_of.ensures c.in_ok-next.ensures.next c.in_ok-next.ensures.past c.in_ok-next.ensures.inside
    c.in-Some.ensures.computed c.in-Some.ensures.good in
    let is = c.loop-next.invariant.same c.loop-next.invariant.some.0 c.loop-next.invariant.some.1 in
    let sound = sound_all c.loop-next.now.at c.kind_of.result c.in-Some.step is.stands c.in-Some.ensures.computed in
    let empty : c.part_behind.result ≡ None = search rules in
    let none = c.part_behind.ensures.none empty sound in
    rw (c.advanced-now.ensures) (keeps_more c.args.text.now c.args.reading c.loop-next.now c.in_ok-next.next
    c.in-Some.step c.loop-next.invariant stands none)
