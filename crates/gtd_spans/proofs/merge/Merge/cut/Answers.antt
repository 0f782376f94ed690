-- Case by case of how the right span lies to the left one: what is given of the left span and what is left of it.
use Rattle.std.proofs.Common.{◌≡◌, Some, None, refl, arith, ◌∷◌}
use Rattle.std.specs.Prelude.{◌≤ℤ◌, ◌<ℤ◌}
use Rattle.std.proofs.lemmas.Int.{ints}
use Rattle.std.proofs.lemmas.Grind.{common_steps}
use Rattle.gtd_core.specs.declared.domain.Op.TheVariants.{Minus}
use Rattle.gtd_spans.specs.declared.merge.Side.TheVariants.{Open, Held}
use Rattle.gtd_spans.proofs.UnionSteps.{from-weaken, normal-begins}
use Rattle.gtd_spans.proofs.MeetSteps.{step-by, minus-keeps}
use Rattle.gtd_spans.proofs.MinusSteps.{drop-right, give-drop, give-left, give-trim, trim-left, drop-left}
use Rattle.gtd_spans.proofs.merge.Merge.cut.Goals as goal

pub returns-then-le-clause-steps : goal.returns-then-le-clause-steps
returns-then-le-clause-steps c =
    let le : c.args.y.until ≤ℤ c.args.x.from = grind (arith, ints, common_steps) in (
      ((λ h. let k : Held c.args.x ≡ Open = rw c.requires.left at h in cc), refl),
      step-by Minus c.args.self.now c.args.x c.args.y c.args.self.now.left Open None c.requires.op
          (minus-keeps _) c.requires.left c.requires.right
          (λ l r n m. (rw c.requires.left n, m.2, rw c.requires.left (drop-right c.args.x c.args.y l r n le))),
    )

pub returns-then-le-2-clause-steps : goal.returns-then-le-2-clause-steps
returns-then-le-2-clause-steps c =
    let le : c.args.x.until ≤ℤ c.args.y.from = grind (arith, ints, common_steps) in
    step-by Minus c.args.self.now c.args.x c.args.y Open c.args.self.now.right (Some c.args.x) c.requires.op
    (minus-keeps _) c.requires.left c.requires.right
    (λ l r n m. (
      n.2,
      rw c.requires.right m,
      rw c.requires.right
          (give-left c.args.x l (c.args.y ∷ r) n (from-weaken c.args.y.from c.args.x.until (c.args.y ∷ r) le
          (normal-begins c.args.y r m))),
    ))

pub returns-then-lt-clause-steps : goal.returns-then-lt-clause-steps
returns-then-lt-clause-steps c =
    let lt : c.args.x.from <ℤ c.args.y.from = grind (arith, ints, common_steps) in
    let within : c.args.y.from <ℤ c.args.x.until = grind (arith, ints, common_steps) in
    let lu : c.args.x.until ≤ℤ c.args.y.until = grind (arith, ints, common_steps) in
    let part : c.between-part.result ≡ record { from = c.args.x.from; until = c.args.y.from } =
    rw (c.from-then-lt.ensures.value, c.from-then-lt-2.ensures.value) at c.between-part.ensures.value in
    rw part
    (step-by Minus c.args.self.now c.args.x c.args.y Open c.args.self.now.right
    (Some (record { from = c.args.x.from; until = c.args.y.from })) c.requires.op (minus-keeps _) c.requires.left c.requires.right
    (λ l r n m. (n.2, rw c.requires.right m, rw c.requires.right (give-drop c.args.x c.args.y l r n m lt within lu))))

pub returns-then-lt-2-clause-steps : goal.returns-then-lt-2-clause-steps
returns-then-lt-2-clause-steps c =
    let lt : c.args.x.from <ℤ c.args.y.from = grind (arith, ints, common_steps) in
    let lu : c.args.y.until <ℤ c.args.x.until = grind (arith, ints, common_steps) in
    let part : c.between-part.result ≡ record { from = c.args.x.from; until = c.args.y.from } =
    rw (c.from-then-lt.ensures.value, c.from-then-lt-2.ensures.value) at c.between-part.ensures.value in
    let rest : c.between.result ≡ record { from = c.args.y.until; until = c.args.x.until } =
    rw (c.until-then-lt-2-2.ensures.value, c.until-then-lt-2-3.ensures.value) at c.between.ensures.value in
    rw (rest, part)
    (step-by Minus c.args.self.now c.args.x c.args.y (Held (record { from = c.args.y.until; until = c.args.x.until })) Open
    (Some (record { from = c.args.x.from; until = c.args.y.from })) c.requires.op (minus-keeps _) c.requires.left c.requires.right
    (λ l r n m. ((lu, n.1, n.2), m.2, give-trim c.args.x c.args.y l r n m lt lu)))

pub returns-then-lt-3-clause-steps : goal.returns-then-lt-3-clause-steps
returns-then-lt-3-clause-steps c =
    let le : c.args.y.from ≤ℤ c.args.x.from = grind (arith, ints, common_steps) in
    let lt : c.args.x.from <ℤ c.args.y.until = grind (arith, ints, common_steps) in
    let lu : c.args.y.until <ℤ c.args.x.until = grind (arith, ints, common_steps) in
    let rest : c.between-then-lt-3.result ≡ record { from = c.args.y.until; until = c.args.x.until } =
    rw (c.until-then-lt-3.ensures.value, c.until-then-lt-3-2.ensures.value) at c.between-then-lt-3.ensures.value in
    rw rest (
      ((λ h. let k : Held (record { from = c.args.y.until; until = c.args.x.until }) ≡ Open = h in cc), refl),
      step-by Minus c.args.self.now c.args.x c.args.y (Held (record { from = c.args.y.until; until = c.args.x.until })) Open None
          c.requires.op
          (minus-keeps _) c.requires.left c.requires.right
          (λ l r n m. ((lu, n.1, n.2), m.2, trim-left c.args.x c.args.y l r n m le lt lu)),
    )

pub returns-clause-steps : goal.returns-clause-steps
returns-clause-steps c =
    let le : c.args.y.from ≤ℤ c.args.x.from = grind (arith, ints, common_steps) in
    let lu : c.args.x.until ≤ℤ c.args.y.until = grind (arith, ints, common_steps) in (
      refl,
      step-by Minus c.args.self.now c.args.x c.args.y Open c.args.self.now.right None c.requires.op
          (minus-keeps _) c.requires.left c.requires.right
          (λ l r n m. (n.2, rw c.requires.right m, rw c.requires.right (drop-left c.args.x c.args.y l r n m le lu))),
    )
