-- Of the rows passed so far each that has no like in the other file has its element in the list.
use Rattle.std.proofs.Common.{◌≡◌, ◌≤◌, ◌+◌, arith, length, Bor}
use Rattle.std.specs.Prelude.{Some, option_map}
use Rattle.gtd_records.specs.Closing.{Restriction}
use Rattle.gtd_changes.proofs.RowFacts.{fewer_left, found_all, new_fits, new_step, none_of, old_fits, old_step, row_of}
use Rattle.gtd_changes.proofs.RowFacts.{some_rows}
use Rattle.gtd_changes.specs.Compared.{rows_in}
use Rattle.gtd_changes.specs.Same.{IsRowAt, new_rows, old_rows}
use Rattle.gtd_changes.proofs.rows.differing_of.Goals as goal

pub overflow_add-at : goal.overflow_add-at
overflow_add-at c =
    let i = c.loop-meeting.invariant in
    let at = c.loop-meeting.at in
    let next = c.loop-meeting.next in
    let olds = rows_in c.args.old.now in
    let news = rows_in c.args.new.now in
    let one = option_map (λ (r : Bor Restriction). r.now) c.row_at.result in
    let two = option_map (λ (r : Bor Restriction). r.now) c.row_at-in-loop-meeting.result in
    let here : (r : Restriction) → one ≡ Some r → IsRowAt olds at r =
    λ r e. row_of (λ (x : Bor Restriction). x.now) (IsRowAt olds at) c.row_at.result r c.row_at.ensures.row e in
    let there : (r : Restriction) → two ≡ Some r → IsRowAt news next r =
    λ r e. row_of (λ (x : Bor Restriction). x.now) (IsRowAt news next) c.row_at-in-loop-meeting.result r
    c.row_at-in-loop-meeting.ensures.row e in
    let m = c.in-Some.meeting in
    let meets = c.in-Some.ensures.meets in
    let fits : at + old_rows m ≤ length olds = old_fits olds news at next one two here there m meets i.at in
    let a = c.old_rows-at.ensures.value in
    let many = c.count_of.ensures.value in
    omega (arith, fits, a, many)

pub overflow_add-next : goal.overflow_add-next
overflow_add-next c =
    let i = c.loop-meeting.invariant in
    let at = c.loop-meeting.at in
    let next = c.loop-meeting.next in
    let olds = rows_in c.args.old.now in
    let news = rows_in c.args.new.now in
    let one = option_map (λ (r : Bor Restriction). r.now) c.row_at.result in
    let two = option_map (λ (r : Bor Restriction). r.now) c.row_at-in-loop-meeting.result in
    let here : (r : Restriction) → one ≡ Some r → IsRowAt olds at r =
    λ r e. row_of (λ (x : Bor Restriction). x.now) (IsRowAt olds at) c.row_at.result r c.row_at.ensures.row e in
    let there : (r : Restriction) → two ≡ Some r → IsRowAt news next r =
    λ r e. row_of (λ (x : Bor Restriction). x.now) (IsRowAt news next) c.row_at-in-loop-meeting.result r
    c.row_at-in-loop-meeting.ensures.row e in
    let m = c.in-Some.meeting in
    let meets = c.in-Some.ensures.meets in
    let fit : next + new_rows m ≤ length news =
    new_fits olds news at next one two here there m meets i.next in
    let b = c.new_rows-next.ensures.value in
    let many = c.count_of-2.ensures.value in
    omega (arith, fit, b, many)

pub loop-meeting-preserved : goal.loop-meeting-preserved
loop-meeting-preserved c =
    let i = c.loop-meeting.invariant in
    let at = c.loop-meeting.at in
    let next = c.loop-meeting.next in
    let olds = rows_in c.args.old.now in
    let news = rows_in c.args.new.now in
    let one = option_map (λ (r : Bor Restriction). r.now) c.row_at.result in
    let two = option_map (λ (r : Bor Restriction). r.now) c.row_at-in-loop-meeting.result in
    let here : (r : Restriction) → one ≡ Some r → IsRowAt olds at r =
    λ r e. row_of (λ (x : Bor Restriction). x.now) (IsRowAt olds at) c.row_at.result r c.row_at.ensures.row e in
    let there : (r : Restriction) → two ≡ Some r → IsRowAt news next r =
    λ r e. row_of (λ (x : Bor Restriction). x.now) (IsRowAt news next) c.row_at-in-loop-meeting.result r
    c.row_at-in-loop-meeting.ensures.row e in
    let m = c.in-Some.meeting in
    let meets = c.in-Some.ensures.meets in
    let fits : at + old_rows m ≤ length olds = old_fits olds news at next one two here there m meets i.at in
    let fit : next + new_rows m ≤ length news =
    new_fits olds news at next one two here there m meets i.next in
    let a = c.old_rows-at.ensures.value in
    let b = c.new_rows-next.ensures.value in
    record {
      at = omega (arith, fits, a);
      next = omega (arith, fit, b);
      old = rw (a, c.in_ok-list.ensures.listed)
          (old_step olds news at next one two here there m c.loop-meeting.elements.items meets i.old);
      new = rw (b, c.in_ok-list.ensures.listed)
          (new_step olds news at next one two here there m c.loop-meeting.elements.items meets i.new);
    }

pub loop-meeting-smaller : goal.loop-meeting-smaller
loop-meeting-smaller c =
    let i = c.loop-meeting.invariant in
    let at = c.loop-meeting.at in
    let next = c.loop-meeting.next in
    let olds = rows_in c.args.old.now in
    let news = rows_in c.args.new.now in
    let one = option_map (λ (r : Bor Restriction). r.now) c.row_at.result in
    let two = option_map (λ (r : Bor Restriction). r.now) c.row_at-in-loop-meeting.result in
    let here : (r : Restriction) → one ≡ Some r → IsRowAt olds at r =
    λ r e. row_of (λ (x : Bor Restriction). x.now) (IsRowAt olds at) c.row_at.result r c.row_at.ensures.row e in
    let there : (r : Restriction) → two ≡ Some r → IsRowAt news next r =
    λ r e. row_of (λ (x : Bor Restriction). x.now) (IsRowAt news next) c.row_at-in-loop-meeting.result r
    c.row_at-in-loop-meeting.ensures.row e in
    let m = c.in-Some.meeting in
    let meets = c.in-Some.ensures.meets in
    let fits : at + old_rows m ≤ length olds = old_fits olds news at next one two here there m meets i.at in
    let fit : next + new_rows m ≤ length news =
    new_fits olds news at next one two here there m meets i.next in
    let a = c.old_rows-at.ensures.value in
    let b = c.new_rows-next.ensures.value in
    let some = some_rows m in
    fewer_left (length olds) (length news) at next c.old_rows-at.result c.new_rows-next.result
    (omega (arith, fits, a)) (omega (arith, fit, b)) (omega (arith, some, a, b))

pub returns : goal.returns
returns c =
    let i = c.loop-meeting.invariant in
    let olds = rows_in c.args.old.now in
    let news = rows_in c.args.new.now in
    let meets = c.in_default.ensures.meets in
    let first : length olds ≤ c.loop-meeting.at =
    none_of (λ (x : Bor Restriction). x.now) (length olds ≤ c.loop-meeting.at) c.row_at.result c.row_at.ensures.none
    meets.0 in
    let second : length news ≤ c.loop-meeting.next =
    none_of (λ (x : Bor Restriction). x.now) (length news ≤ c.loop-meeting.next) c.row_at-in-loop-meeting.result
    c.row_at-in-loop-meeting.ensures.none meets.1 in
    record {
      old = found_all olds news c.loop-meeting.at c.loop-meeting.elements.items first i.old;
      new = found_all news olds c.loop-meeting.next c.loop-meeting.elements.items second i.new;
    }
