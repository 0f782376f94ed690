-- Each byte with which a space other than one of ASCII begins adds a space to the form, and all other bytes pass.
use Rattle.std.proofs.Common.{◌≡◌, ◌+◌, ◌∷◌, length, subst, sym, arith}
use Rattle.gtd_hours_loose.specs.Mending.{spaces_in}
use Rattle.gtd_hours_loose.specs.declared.strict.StrictForm.{StrictForm}
use Rattle.gtd_hours_loose.proofs.MendingLemmas.{HoldsSpaces, byte_passed, space_put}
use Rattle.gtd_hours_loose.proofs.mending.push_spaces.Goals.{then-size-gt0+in_ok-push_part, else-size-gt0}
use Rattle.gtd_hours_loose.proofs.mending.push_spaces.Goals as goal

pub loop-byte-preserved : goal.loop-byte-preserved
loop-byte-preserved c =
    let at = c.loop-byte.at in
    let byte = c.in-Some.byte.now in
    let later = c.in-Some.later.now in
    let all = spaces_in c.args.place c.args.bytes.now in
    let split : c.loop-byte.rest.now ≡ byte ∷ later = c.in-Some.ensures.cases.0 in
    let long : length later + 1 ≡ length c.loop-byte.rest.now = c.in-Some.ensures.cases.1 in
    let P : StrictForm → Type 0 = λ f. HoldsSpaces c.args.form.now f (at + 1) later all in
    record {
      room = λ some. let r = c.loop-byte.invariant.room (omega (arith, long)) in omega (arith, r, long);
      holds = elim c.if-size-gt0.branch [
        | then-size-gt0+in_ok-push_part w ↦ subst P (sym w.form-is)
            (space_put c.args.form.now c.loop-byte.form w.push_part.new.strict at c.other_space-size.result byte later
            c.loop-byte.rest.now all split c.other_space-size.ensures.count w.if-size-gt0.true w.in_ok-push_part.ensures
            c.loop-byte.invariant.holds)
        | else-size-gt0 w ↦ subst P (sym w.form-is)
            (byte_passed c.args.form.now c.loop-byte.form at c.other_space-size.result byte later c.loop-byte.rest.now all split
            c.other_space-size.ensures.count w.if-size-gt0.false c.loop-byte.invariant.holds)
      ];
    }
