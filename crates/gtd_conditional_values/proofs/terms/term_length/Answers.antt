-- How far the first term goes.
use Rattle.std.proofs.Common.{◌≡◌, ◌≤◌, ◌-◌, ◌∙◌, sym, subst, arith, ℕ, Bool, List, length, length-drop, take, drop}
use Rattle.std.proofs.lemmas.List.{take_all}
use Rattle.gtd_conditional_values.specs.Terms.{is_and}
use Rattle.gtd_conditional_values.proofs.Steps.{more_of_term, term_all, term_here}
use Rattle.gtd_conditional_values.proofs.terms.term_length.Goals as goal

-- a slice from a place on is what is left of the text there
rest_read : (text : List ℕ) (at : ℕ) (joined comment : Bool) (depth : ℕ) (result : Bool) → at ≤ length text
    → result ≡ is_and joined comment depth (take (length text - at) (drop at text))
    → result ≡ is_and joined comment depth (drop at text)
rest_read text at joined comment depth result within is =
    let long = length-drop at text in
    subst (λ (l : List ℕ). result ≡ is_and joined comment depth l)
    (take_all (length text - at) (drop at text) (omega (arith, long))) is

pub loop-place-preserved : goal.loop-place-preserved
loop-place-preserved c =
    let less = c.loop-place-test.true in
    let more = c.nested-depth.ensures.more in
    record {
      rest =
          rw (c.nested-depth.ensures.depth, c.quoted-comment.ensures.is, c.is_ascii_alphanumeric-joined.ensures.value)
          (more_of_term c.args.text.now c.loop-place.place c.loop-place.comment c.loop-place.depth less c.loop-place.joined
          c.loop-place.invariant.rest
          (sym (rest_read c.args.text.now c.loop-place.place c.loop-place.joined c.loop-place.comment c.loop-place.depth
          c.is_and.result (omega arith) c.is_and.ensures) ∙ c.if-is_and.false));
      few = omega arith;
    }

pub returns-then-is_and-clause-bytes : goal.returns-then-is_and-clause-bytes
returns-then-is_and-clause-bytes c =
    sym
    (term_here c.args.text.now c.loop-place.place c.loop-place.comment c.loop-place.depth c.loop-place-test.true
    c.loop-place.joined c.loop-place.invariant.rest
    (sym (rest_read c.args.text.now c.loop-place.place c.loop-place.joined c.loop-place.comment c.loop-place.depth
    c.is_and.result (omega arith) c.is_and.ensures) ∙ c.if-is_and.true))

pub returns-clause-bytes : goal.returns-clause-bytes
returns-clause-bytes c =
    sym
    (term_all c.args.text.now c.loop-place.place c.loop-place.comment c.loop-place.depth (omega arith) (omega arith)
    c.loop-place.joined c.loop-place.invariant.rest)
