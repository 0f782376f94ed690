-- At each turn each row passed has the number of its domain.
use Rattle.std.proofs.Common.{◌<◌, arith, refl, length, length-append, ℕ, [], ◌∷◌}
use Rattle.gtd_repeats.specs.Numbers.{IsNumberOf}
use Rattle.gtd_repeats.specs.Sameness.{row_at}
use Rattle.gtd_repeats.proofs.ListFacts.{all_more}
use Rattle.gtd_repeats.proofs.numbers.numbers_of.Goals as goal

pub loop-row-preserved : goal.loop-row-preserved
loop-row-preserved c =
    let rows = c.args.rows.now in
    let row = c.loop-row.row in
    let numbers = c.loop-row.numbers.items in
    let number = c.in_ok-number.number in
    let inv = c.loop-row.invariant in
    let inside : row < length rows = omega arith in
    let next = rw c.as_slice.ensures.value at c.in_ok-number.ensures.number in
    let last = next inv.each (rw inv.many (c.requires.known.same row inside))
    (rw inv.many (c.requires.known.not_later row inside)) in
    let l = length-append numbers (number ∷ []) in
    record {
      many = rw c.in_ok-push.ensures.items (omega (arith, l, inv.many));
      each = rw c.in_ok-push.ensures.items
          (all_more (λ (k n : ℕ). IsNumberOf (row_at rows k).domain n) numbers number (length numbers) refl last inv.each);
    }
