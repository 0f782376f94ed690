-- A row with the text of an earlier one has that one's number, so this is not counted again.
use Rattle.std.proofs.Common.{◌≡◌, ◌∙◌, sym, subst, get_or, ℕ}
use Rattle.gtd_repeats.specs.Numbers.{IsNumberOf}
use Rattle.gtd_repeats.specs.Sameness.{row_at}
use Rattle.gtd_repeats.proofs.ListFacts.{any_default}
use Rattle.gtd_repeats.proofs.numbers.next_number.Goals as goal

pub returns-in-Some : goal.returns-in-Some
returns-in-Some c = record {
  number = λ each same early.
      let look = c.in-Some.ensures.lookup in
      let inside = look.3.0 in
      let known = c.args.known in
      let numbers = c.args.numbers.now in
      let e : c.in-Some.number.now ≡ get_or numbers known 0 = look.1 ∙ any_default numbers known c.in-Some.number.now 0 inside in
      let there : IsNumberOf (row_at c.args.rows.now known).domain c.in-Some.number.now =
      subst (λ (n : ℕ). IsNumberOf (row_at c.args.rows.now known).domain n) (sym e) (each known inside) in
      rw (sym same) there;
}
