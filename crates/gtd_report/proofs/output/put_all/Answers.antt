use Rattle.std.proofs.Common.{◌≡◌, ◌+◌, ◌-◌, ◌∙◌, ◌++◌, sym, arith, ℕ, List, length, take, drop, length-drop}
use Rattle.std.proofs.KnownBytes.{Appends-trans}
use Rattle.std.proofs.Math.Seq.{take-add}
use Rattle.std.proofs.lemmas.List.{take_all}
use Rattle.gtd_report.proofs.output.put_all.Goals as goal

-- the first bytes, and the first of the rest
rest_taken : (bytes : List ℕ) (k n : ℕ) → take k bytes ++ take n (take (length bytes - k) (drop k bytes)) ≡ take (k + n) bytes
rest_taken bytes k n = rw (take_all (length bytes - k) (drop k bytes) (simp length-drop (omega arith))) (sym (take-add k n bytes))

pub loop-taken-preserved : goal.loop-taken-preserved
loop-taken-preserved g c =
    let i = c.loop-taken.invariant in
    let taken = g.O.Output.taken in
    record {
      within = omega (arith, c.in-Took.ensures.within);
      bytes = rw (rest_taken c.args.bytes.now c.loop-taken.taken c.in-Took.n) at
          (Appends-trans (taken c.args.output.now) (taken c.loop-taken.output)
          (taken c.put.new.self) _ _ i.bytes c.in-Took.ensures.bytes);
      failures = c.in-Took.ensures.failures ∙ i.failures;
    }
