use Rattle.std.proofs.Common.{◌≡◌, ◌+◌, ◌-◌, ◌<◌, ◌≤◌, ◌∙◌, ◌++◌, ap, sym, arith, ℕ, List, length, take, drop, Option}
use Rattle.std.proofs.KnownBytes.{Appends-trans}
use Rattle.std.proofs.Math.Seq.{take-add}
use Rattle.std.specs.Io.KnownBytes.{Appends}
use Rattle.std.specs.Prelude.{Result, Ok, Err, IfErr}
use Rattle.gtd_report.specs.declared.output.ShortPut.{ShortPut}
use Rattle.gtd_schedule.proofs.put.put_bytes.Goals as goal

-- the first bytes, and the first of the rest
front : (bytes : List ℕ) (k n : ℕ) → k ≤ n → take k bytes ++ take (n - k) (drop k bytes) ≡ take n bytes
front bytes k n few =
    let same : k + (n - k) ≡ n = omega arith in
    sym (take-add k (n - k) bytes) ∙ ap (λ (m : ℕ). take m bytes) same

-- what was taken of a line in all, of which a first part was taken before
short_of : {T : Type 0} (r : Result T ShortPut) (bytes : List ℕ) (k : ℕ) (a b t : Option (List ℕ)) → Appends a b (take k bytes)
    → IfErr r (λ short. (k ≤ short.taken) × (short.taken < length bytes)
    × Appends b t (take (short.taken - k) (drop k bytes)))
    → IfErr r (λ short. (short.taken < length bytes) × Appends a t (take short.taken bytes))
short_of (Ok x) bytes k a b t first rest = tt
short_of (Err short) bytes k a b t first rest =
    (rest.1, rw (front bytes k short.taken rest.0) at (Appends-trans a b t _ _ first rest.2))

pub returns-else-taken-line-clause-some : goal.returns-else-taken-line-clause-some
returns-else-taken-line-clause-some g c =
    let taken = g.O.Output.taken in
    short_of c.put_rest.result c.args.line.now c.in-Took.taken (taken c.args.output.now) (taken c.put.new.self)
    (taken c.put_rest.new.output) c.in-Took.ensures.bytes c.put_rest.ensures.some
