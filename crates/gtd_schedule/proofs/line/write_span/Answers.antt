use Rattle.std.proofs.Common.{◌≡◌, ◌∙◌, sym, ap, refl, arith, ℕ, List, ◌++◌, length, length-append, take, drop}
use Rattle.std.proofs.lemmas.List.{take_at, take-append-drop}
use Rattle.gtd_schedule.specs.Lines.{span_text}
use Rattle.gtd_schedule.proofs.MomentParts.{from_is, from_shown, until_is, until_shown}
use Rattle.gtd_schedule.proofs.line.write_span.Goals as goal

-- the whole buffer, once its last bytes were written over by as many
whole_is : (items front a b text : List ℕ) (head len : ℕ) → length items ≡ len → front ≡ take head items
    → length (drop head items) ≡ length text → a ++ b ≡ text
    → take len ((front ++ (a ++ b)) ++ drop (length (front ++ (a ++ b))) items) ≡ take head items ++ text
whole_is items front a b text head len long is same both =
    let new : front ++ (a ++ b) ≡ take head items ++ text = rw (is, both) refl in
    let parts = ap length (take-append-drop head items) in
    let sum = length-append (take head items) (drop head items) in
    let written = ap length new ∙ length-append (take head items) text in
    take_at (front ++ (a ++ b)) (drop (length (front ++ (a ++ b))) items) len (omega arith) ∙ new

pub write_moment-requires-clause-shown : goal.write_moment-requires-clause-shown
write_moment-requires-clause-shown c =
    from_shown c.args.shown.now (drop c.args.head c.args.line.now.items) c.requires.shown c.split_at_mut-from.result.0.now
    (c.split_at_mut-from.ensures.front ∙ ap (take 20) (c.split_at_mut-moments.ensures.back
    ∙ ap (drop c.args.head) c.as_mut_slice.ensures.value))

pub write_moment-requires-2-clause-shown : goal.write_moment-requires-2-clause-shown
write_moment-requires-2-clause-shown c =
    until_shown c.args.shown.now (drop c.args.head c.args.line.now.items) c.requires.shown c.split_at_mut-from.result.1.now
    (c.split_at_mut-from.ensures.back ∙ ap (drop 20) (c.split_at_mut-moments.ensures.back
    ∙ ap (drop c.args.head) c.as_mut_slice.ensures.value))

pub returns-clause-line : goal.returns-clause-line
returns-clause-line c =
    let items = c.args.line.now.items in
    let span = c.args.span in
    let bytes = drop c.args.head items in
    let now = c.split_at_mut-moments.ensures.back ∙ ap (drop c.args.head) c.as_mut_slice.ensures.value in
    let a = from_is c.args.shown.now bytes c.requires.shown c.split_at_mut-from.result.0.now span.from c.write_moment.new.text
    (c.split_at_mut-from.ensures.front ∙ ap (take 20) now) (rw (c.from.ensures.value) at c.write_moment.ensures.text) in
    let b = until_is c.args.shown.now bytes c.requires.shown c.split_at_mut-from.result.1.now span.until
    c.write_moment-2.new.text
    (c.split_at_mut-from.ensures.back ∙ ap (drop 20) now) (rw (c.until.ensures.value) at c.write_moment-2.ensures.text) in
    whole_is items c.split_at_mut-moments.result.0.now c.write_moment.new.text c.write_moment-2.new.text (span_text span)
    c.args.head c.args.line.now.len (sym (ap length c.as_mut_slice.ensures.value) ∙ c.as_mut_slice.ensures.len)
    (c.split_at_mut-moments.ensures.front ∙ ap (take c.args.head) c.as_mut_slice.ensures.value)
    (ap length c.requires.shown.is) (rw (a, b) refl)

pub returns-clause-shown : goal.returns-clause-shown
returns-clause-shown c = record {
  from = c.args.span.from;
  until = c.args.span.until;
  from_kept = rw (c.from.ensures.value) at c.write_moment.ensures.kept;
  until_kept = rw (c.until.ensures.value) at c.write_moment-2.ensures.kept;
  is = refl;
}
