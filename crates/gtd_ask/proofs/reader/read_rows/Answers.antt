-- What is found of the rows so far, followed by those that the reader still has to give, is what all of them stand for.
use Rattle.std.proofs.Common.{◌≡◌, arith, refl, sym, subst, List, ℕ, Bor, Some, rules, ◌∷◌, [], length-append}
use Rattle.std.specs.Result.{is_ok}
use Rattle.std.specs.Prelude.{true}
use Rattle.std.specs.List.{All}
use Rattle.std.proofs.lemmas.List.Elements.{All-push}
use Rattle.std.proofs.lemmas.Result.{err_from_is_err_and}
use Rattle.csv.specs.Records.{fields_of}
use Rattle.gtd_core.specs.Seconds.{IsMomentSecond}
use Rattle.gtd_ask.proofs.ReadFacts.{at_end, at_fault, at_start, after_row, none_in, too_many}
use Rattle.gtd_ask.specs.declared.question.Question.{Question}
use Rattle.gtd_ask.proofs.reader.read_rows.Goals as goal

pub loop-number-init : goal.loop-number-init
loop-number-init c = record {
  far = λ rows has. rw (c.new-found.ensures.items)
      (at_start (λ (source : Bor (List ℕ)). Some source.now) c.args.reader.now rows has);
  count = rw (c.new-found.ensures.items) refl;
  range = rw (c.new-found.ensures.items) none_in;
}

pub returns-then-not-branch-clause-rows : goal.returns-then-not-branch-clause-rows
returns-then-not-branch-clause-rows c = λ rows has.
    at_end _ _ _ _ _ (c.loop-number.invariant.far rows has) (omega arith) (rw c.if-not-branch.true at c.in_ok-next_row.ensures)

pub returns-in_err-question-clause-rows : goal.returns-in_err-question-clause-rows
returns-in_err-question-clause-rows c = λ rows has.
    let p = err_from_is_err_and c.from_residual-in_err-question.result c.from_residual-in_err-question.ensures.1 in
    rw (p.1, p.2) (λ not.
    at_fault (λ (source : Bor (List ℕ)). Some source.now) c.loop-number.reader rows c.next_row.new.reader
    c.loop-number.found.items c.loop-number.number (fields_of c.next_row.new.row) c.in_err-question.field-0.0
    (c.loop-number.invariant.far rows has) (omega arith) (rw c.if-not-branch.false at c.in_ok-next_row.ensures)
    (sym c.in_err-question.ensures.value))

pub loop-number-preserved : goal.loop-number-preserved
loop-number-preserved c =
    let good : is_ok c.push.result ≡ true = search rules in
    let items = rw good at c.push.ensures.items in
    let i = c.loop-number.invariant in
    record {
      far = λ rows has.
          rw items (after_row (λ (source : Bor (List ℕ)). Some source.now) c.loop-number.reader rows
          c.next_row.new.reader c.loop-number.found.items c.loop-number.number (fields_of c.next_row.new.row)
          c.in_ok-question.question (i.far rows has) (rw c.if-not-branch.false at c.in_ok-next_row.ensures)
          (sym c.in_ok-question.ensures.value));
      count = (let n = length-append c.loop-number.found.items (c.in_ok-question.question ∷ []) in
          rw items (omega (arith, n, i.count)));
      range = subst (λ (l : List Question). All (λ (q : Question). IsMomentSecond q.second.0) l) (sym items)
          (All-push (λ (q : Question). IsMomentSecond q.second.0) c.loop-number.found.items c.in_ok-question.question i.range
          c.in_ok-question.ensures.range);
    }

pub returns-then-branch-clause-rows : goal.returns-then-branch-clause-rows
returns-then-branch-clause-rows c = λ rows has _.
    let last : c.loop-number.number ≡ 2000001 = omega arith in
    too_many (λ (source : Bor (List ℕ)). Some source.now) c.loop-number.reader rows c.next_row-2.new.reader
    c.loop-number.found.items (fields_of c.next_row-2.new.row)
    (rw last at (c.loop-number.invariant.far rows has)) (rw c.if-branch.true at c.in_ok-next_row-2.ensures)

pub returns-clause-rows : goal.returns-clause-rows
returns-clause-rows c = λ rows has.
    at_end _ _ _ _ _ (c.loop-number.invariant.far rows has) (omega arith) (rw c.if-branch.false at c.in_ok-next_row-2.ensures)
