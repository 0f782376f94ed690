-- The fault told is the one of the first byte that begins no token, or else the first one of the tokens.
use Rattle.std.proofs.Common.{◌≡◌, ◌++◌, ◌∷◌, [], length, sym, ap, subst, inl, arith}
use Rattle.gtd_text.specs.declared.check.findings.Findings.{Findings}
use Rattle.gtd_text.specs.ComputedLexing.{Reads}
use Rattle.gtd_text.specs.facts.Lexed.{Found, found, all_read, read_more, read_space}
use Rattle.gtd_text.specs.facts.LexingForms.{fault_of_parts}
use Rattle.gtd_text.proofs.FindingsLemmas.{count_le, depth_le, finds_all, finds_more}
use Rattle.gtd_text.proofs.NextLemmas.{none_begins}
use Rattle.gtd_text.proofs.check.first_fault.Goals as goal

pub loop-place-preserved-then-text-place-eq32 : goal.loop-place-preserved-then-text-place-eq32
loop-place-preserved-then-text-place-eq32 c =
    let before = c.loop-place.invariant.has_read in
    record {
      inside = omega arith;
      deep = omega (arith, c.loop-place.invariant.deep);
      many = omega (arith, c.loop-place.invariant.many);
      has_read = (
        before.0,
        read_space c.args.text.now before.0 c.loop-place.place c.if-text-place-eq32.true before.1,
        before.2,
      );
    }

pub loop-place-preserved : goal.loop-place-preserved
loop-place-preserved c =
    let before = c.loop-place.invariant.has_read in
    let now = c.loop-place.findings in
    let token = c.in-Some.token in
    let here : Found c.args.text.now c.loop-place.place token = found _ _ _ c.loop-place-test.true (sym c.in-Some.ensures) in
    let depth = ap (λ (f : Findings). f.seen.depth) c.note.ensures in
    let count = ap (λ (f : Findings). f.count) c.note.ensures in
    record {
      inside = here.inside;
      deep = omega (arith, depth, depth_le now.seen.depth token.kind, c.loop-place.invariant.deep, here.past);
      many = omega (arith, count, count_le now.count token.kind, c.loop-place.invariant.many, here.past);
      has_read = (
        before.0 ++ token ∷ [],
        read_more c.args.text.now before.0 c.loop-place.place token before.1 here,
        finds_more (length c.args.text.now) before.0 now c.note.new.self token c.note.ensures before.2,
      );
    }

pub returns-in-None : goal.returns-in-None
returns-in-None c =
    let before = c.loop-place.invariant.has_read in
    inl (fault_of_parts c.args.text.now c.token_fault_at.result (none_begins c.args.text.now before.0 c.loop-place.place
    c.token_fault_at.result (all_read c.args.text.now before.0 c.loop-place.place before.1) c.loop-place-test.true
    c.if-text-place-eq32.false (sym c.in-None.ensures) c.token_fault_at.ensures.kind c.token_fault_at.ensures.place))

pub returns : goal.returns
returns c =
    let before = c.loop-place.invariant.has_read in
    let same : c.loop-place.place ≡ length c.args.text.now = omega arith in
    finds_all c.args.text.now before.0 c.loop-place.findings c.first.result
    (subst (λ n. Reads c.args.text.now 0 before.0 n) same (all_read c.args.text.now before.0 c.loop-place.place before.1))
    before.2 c.first.ensures
