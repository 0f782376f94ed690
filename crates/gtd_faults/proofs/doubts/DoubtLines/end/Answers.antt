-- The lines of lone codes follow those of what is told, if enough rows name a code and the rule is not turned off.
use Rattle.std.proofs.Common.{[], sym, refl, inl, inr, arith, append-nil}
use Rattle.std.specs.Prelude.{string_bytes}
use Rattle.gtd_faults.proofs.doubts.DoubtLines.end.Goals as goal

pub returns-then-self-lt-ROWS_NEEDED : goal.returns-then-self-lt-ROWS_NEEDED
returns-then-self-lt-ROWS_NEEDED c = λ path bytes asked version rows are.
    let un = c.if-is_off.false in
    let off = rw (c.as_slice.ensures.value, are.is_asked) at c.is_off.ensures in
    let counted = are.counted in
    record {
      told = are.told;
      each = are.each;
      first = string_bytes c.args.self.now.text;
      told_lines = are.text;
      lone = [];
      all_lone = inl ((λ has. let yes = off.1 has in absurd cc), inr (omega (arith, counted), refl));
      last = [];
      lone_lines = refl;
      whole = sym (append-nil (string_bytes c.args.self.now.text));
    }

pub returns : goal.returns
returns c = λ path bytes asked version rows are.
    let un = c.if-is_off.false in
    let off = rw (c.as_slice.ensures.value, are.is_asked) at c.is_off.ensures in
    let counted = are.counted in
    let far = c.in_ok-push_all_lone.ensures path bytes _ (rw (c.as_slice-2.ensures.value) are.kept) in
    record {
      told = are.told;
      each = are.each;
      first = string_bytes c.args.self.now.text;
      told_lines = are.text;
      lone = far.0;
      all_lone = inl ((λ has. let yes = off.1 has in absurd cc), inl (omega (arith, counted), far.1));
      last = far.2;
      lone_lines = far.3;
      whole = far.4;
    }
