-- Case by case of how the right span lies to the left one, after which nothing comes.
use Rattle.std.proofs.Common.{◌≡◌, ◌∙◌, Some, None, arith, [], ◌∷◌}
use Rattle.std.specs.Prelude.{◌≤ℤ◌, ◌<ℤ◌}
use Rattle.std.proofs.lemmas.Int.{ints}
use Rattle.std.proofs.lemmas.Grind.{common_steps}
use Rattle.gtd_spans.specs.declared.merge.Side.TheVariants.{Ended, Held}
use Rattle.gtd_spans.proofs.UnionSteps.{from-weaken, normal-begins}
use Rattle.gtd_spans.proofs.MinusSteps.{drop-right, give-drop, give-left, give-trim, trim-left, drop-left, taken-off}
use Rattle.gtd_spans.proofs.MinusSteps.{nothing-less, one-and-nothing-less}
use Rattle.gtd_spans.proofs.merge.Merge.part_before.Goals as goal

pub returns-then-le-clause-gap : goal.returns-then-le-clause-gap
returns-then-le-clause-gap c =
    let le : c.args.y.until ≤ℤ c.args.x.from = grind (arith, ints, common_steps) in
    taken-off c.args.self.now c.args.x c.args.y c.args.self.now.left None c.requires.op c.requires.left c.requires.right
    (λ r n m. (rw c.requires.left n, rw c.requires.left (drop-right c.args.x c.args.y [] r n le)))

pub returns-then-le-3-clause-gap : goal.returns-then-le-3-clause-gap
returns-then-le-3-clause-gap c =
    let le : c.args.x.until ≤ℤ c.args.y.from = grind (arith, ints, common_steps) in
    let lu : c.args.x.until ≤ℤ c.args.y.until = grind (arith, ints, common_steps) in
    taken-off c.args.self.now c.args.x c.args.y Ended (Some c.args.x) c.requires.op c.requires.left c.requires.right
    (λ r n m. (
      tt,
      give-left c.args.x [] (c.args.y ∷ r) n (from-weaken c.args.y.from c.args.x.until (c.args.y ∷ r) le
          (normal-begins c.args.y r m)) ∙ one-and-nothing-less c.args.x c.args.y r,
    ))

pub returns-then-lt-clause-gap : goal.returns-then-lt-clause-gap
returns-then-lt-clause-gap c =
    let lt : c.args.x.from <ℤ c.args.y.from = grind (arith, ints, common_steps) in
    let within : c.args.y.from <ℤ c.args.x.until = grind (arith, ints, common_steps) in
    let lu : c.args.x.until ≤ℤ c.args.y.until = grind (arith, ints, common_steps) in
    let part : c.between.result ≡ record { from = c.args.x.from; until = c.args.y.from } =
    rw (c.from-then-lt.ensures.value, c.from-then-lt-2.ensures.value) at c.between.ensures.value in
    rw part
    (taken-off c.args.self.now c.args.x c.args.y Ended (Some (record { from = c.args.x.from; until = c.args.y.from }))
    c.requires.op c.requires.left c.requires.right
    (λ r n m. (tt, give-drop c.args.x c.args.y [] r n m lt within lu ∙ one-and-nothing-less _ c.args.y r)))

pub returns-then-le-2-clause-gap : goal.returns-then-le-2-clause-gap
returns-then-le-2-clause-gap c =
    let le : c.args.y.from ≤ℤ c.args.x.from = grind (arith, ints, common_steps) in
    let lu : c.args.x.until ≤ℤ c.args.y.until = grind (arith, ints, common_steps) in
    taken-off c.args.self.now c.args.x c.args.y Ended None c.requires.op c.requires.left c.requires.right
    (λ r n m. (tt, drop-left c.args.x c.args.y [] r n m le lu ∙ nothing-less c.args.y r))

pub returns-then-lt-2-clause-gap : goal.returns-then-lt-2-clause-gap
returns-then-lt-2-clause-gap c =
    let lt : c.args.x.from <ℤ c.args.y.from = grind (arith, ints, common_steps) in
    let lu : c.args.y.until <ℤ c.args.x.until = grind (arith, ints, common_steps) in
    let part : c.between-then-lt-2.result ≡ record { from = c.args.x.from; until = c.args.y.from } =
    rw (c.from-then-lt-2-2.ensures.value, c.from-then-lt-2-3.ensures.value) at c.between-then-lt-2.ensures.value in
    let rest : c.between-2.result ≡ record { from = c.args.y.until; until = c.args.x.until } =
    rw (c.until-4.ensures.value, c.until-5.ensures.value) at c.between-2.ensures.value in
    rw (rest, part)
    (taken-off c.args.self.now c.args.x c.args.y (Held (record { from = c.args.y.until; until = c.args.x.until }))
    (Some (record { from = c.args.x.from; until = c.args.y.from })) c.requires.op c.requires.left c.requires.right
    (λ r n m. ((lu, n.1, n.2), give-trim c.args.x c.args.y [] r n m lt lu)))

pub returns-clause-gap : goal.returns-clause-gap
returns-clause-gap c =
    let le : c.args.y.from ≤ℤ c.args.x.from = grind (arith, ints, common_steps) in
    let lt : c.args.x.from <ℤ c.args.y.until = grind (arith, ints, common_steps) in
    let lu : c.args.y.until <ℤ c.args.x.until = grind (arith, ints, common_steps) in
    let rest : c.between-2.result ≡ record { from = c.args.y.until; until = c.args.x.until } =
    rw (c.until-4.ensures.value, c.until-5.ensures.value) at c.between-2.ensures.value in
    rw rest
    (taken-off c.args.self.now c.args.x c.args.y (Held (record { from = c.args.y.until; until = c.args.x.until })) None
    c.requires.op c.requires.left c.requires.right
    (λ r n m. ((lu, n.1, n.2), trim-left c.args.x c.args.y [] r n m le lt lu)))
