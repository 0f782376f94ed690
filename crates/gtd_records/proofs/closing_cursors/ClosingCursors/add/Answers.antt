-- The cursor of a record that repeats comes to those that do, and the longer period is one of them all.
use Rattle.std.proofs.Common.{arith, length-append, [], ◌∷◌, inl, inr}
use Rattle.std.proofs.lemmas.Int.{ints}
use Rattle.gtd_eval.specs.facts.CursorFacts.{nodes-append, start-append}
use Rattle.gtd_eval.specs.facts.PeriodFacts.{from-longer}
use Rattle.gtd_records.specs.Closing.{HoldsAt}
use Rattle.gtd_records.proofs.OpenFacts.{left-more, pushed, right-more}
use Rattle.gtd_records.proofs.PeriodFacts.{more-repeat}
use Rattle.gtd_records.proofs.closing_cursors.ClosingCursors.add.Goals as goal

pub returns-in_default-clause-nodes : goal.returns-in_default-clause-nodes
returns-in_default-clause-nodes c =
    rw c.in_ok-push.ensures.items (omega (
      arith,
      nodes-append c.args.self.now.others.items (c.in_ok-cursor.cursor ∷ []),
      length-append c.args.self.now.others.items (c.in_ok-cursor.cursor ∷ []),
      c.in_ok-cursor.ensures.nodes,
    ))

pub returns-in_default-clause-seconds : goal.returns-in_default-clause-seconds
returns-in_default-clause-seconds c = λ t.
    rw c.in_ok-push.ensures.items (right-more _ _ _ _ _ (pushed c.args.self.now.others.items c.in_ok-cursor.cursor t)
    (c.in_ok-cursor.ensures.seconds t))

pub returns-clause-nodes : goal.returns-clause-nodes
returns-clause-nodes c =
    rw c.in_ok-push-2.ensures.items (omega (
      arith,
      nodes-append c.args.self.now.repeating.items (c.in_ok-cursor-2.cursor ∷ []),
      length-append c.args.self.now.repeating.items (c.in_ok-cursor-2.cursor ∷ []),
      c.in_ok-cursor-2.ensures.nodes,
    ))

pub returns-clause-seconds : goal.returns-clause-seconds
returns-clause-seconds c = λ t.
    rw c.in_ok-push-2.ensures.items (left-more _ _ _ _ _ (pushed c.args.self.now.repeating.items c.in_ok-cursor-2.cursor t)
    (c.in_ok-cursor-2.ensures.seconds t))

pub returns-clause-repeats : goal.returns-clause-repeats
returns-clause-repeats c = λ are.
    rw c.in_ok-push-2.ensures.items (more-repeat c.args.horizon c.args.self.now.period c.in-Some.period c.longer-self.result
    c.args.self.now.repeating.items c.in_ok-cursor-2.cursor (HoldsAt c.args.record.now.domain) c.longer-self.ensures.first
    c.longer-self.ensures.second c.in_ok-cursor-2.ensures.seconds c.in-Some.ensures.repeats are)

pub returns-in_default-clause-start : goal.returns-in_default-clause-start
returns-in_default-clause-start c = λ all. (
  all.0,
  rw c.in_ok-push.ensures.items (start-append c.args.self.now.others.items (c.in_ok-cursor.cursor ∷ []) all.1
      (c.in_ok-cursor.ensures.start, tt)),
)

pub returns-clause-start : goal.returns-clause-start
returns-clause-start c = λ all. (
  rw c.in_ok-push-2.ensures.items (start-append c.args.self.now.repeating.items (c.in_ok-cursor-2.cursor ∷ []) all.0
      (c.in_ok-cursor-2.ensures.start, tt)),
  all.1,
)

pub returns-in_default-clause-again : goal.returns-in_default-clause-again
returns-in_default-clause-again c = record { longer = omega (arith, ints); added = λ t h. inl h }

pub returns-clause-again : goal.returns-clause-again
returns-clause-again c =
    let set = HoldsAt c.args.record.now.domain in
    record {
      longer = c.longer-self.ensures.first;
      added = rw c.in_ok-push-2.ensures.items (λ t h.
          elim ((pushed c.args.self.now.repeating.items c.in_ok-cursor-2.cursor t).0 h) [
            | inl before ↦ inl before
            | inr new ↦ inr (
              ((c.in_ok-cursor-2.ensures.seconds t).0 new).1,
              from-longer c.in-Some.period c.longer-self.result set c.longer-self.ensures.second c.in-Some.ensures.repeats,
            )
          ]);
    }
