-- Rules that need nothing, and of which nothing lasts too long, have times of a day: for `plain_of`.
use Rattle.std.proofs.Common.{◌≡◌, refl, arith, ℕ, zero, suc, ◌+◌, ◌-◌, ◌≤◌, Bool, true, false, nat_le, List, [], ◌∷◌}
use Rattle.std.proofs.Common.{length}
use Rattle.std.specs.Prelude.{Option, Some, None, if◌then◌else◌, is_some, ◌==◌}
use Rattle.std.specs.Option.{option_or}
use Rattle.std.proofs.lemmas.Bool.{and_parts, leb-true}
use Rattle.gtd_hours2.specs.Opening.{Clocks, end_after, minute_of}
use Rattle.gtd_hours2.specs.Rules.{Rule}
use Rattle.gtd_hours2.specs.declared.values.RulePart.{RulePart}
use Rattle.gtd_hours2.specs.declared.values.RulePart.TheVariants as part
use Rattle.gtd_hours2.specs.declared.values.TimeOfDay.{TimeOfDay}
use Rattle.gtd_hours2.specs.declared.values.TimeOfDay.TheVariants as time
use Rattle.gtd_hours2.specs.declared.values.TimeTail.{TimeTail}
use Rattle.gtd_hours2.specs.declared.values.TimeTail.TheVariants as tail
use Rattle.gtd_hours_plain2.specs.Clocks.{clocks_of, event_minutes}
use Rattle.gtd_hours_plain2.specs.Lasting.{is_short, last_long, long_at, long_from, long_in, long_part, open_long}
use Rattle.gtd_hours_plain2.specs.Needs.{at_part, begin_need, end_need, event_need, is_within, need_from, part_need, parts_need}
use Rattle.gtd_hours_plain2.specs.Needs.{point_need, rule_need, some_falls_back, tail_need, time_need, unknown_need, unless}
use Rattle.gtd_hours_plain2.specs.Numbers.{given_or}
use Rattle.gtd_hours_plain2.specs.Times.{AreAllOfDay, AreOfDay, EndsInDay, HasTailInDay, IsOfDay, IsTimeOfDay}
use Rattle.gtd_hours_plain2.specs.declared.given.GivenDays.{GivenDays}
use Rattle.gtd_hours_plain2.specs.declared.given.GivenTimes.{GivenTimes}
use Rattle.gtd_hours_plain2.specs.declared.need.PartNeed.{PartNeed}
use Rattle.gtd_hours_plain2.specs.declared.need.PartNeed.TheVariants as kind

-- ---- none of two

left : {A : Type 0} → (a b : Option A) → option_or a b ≡ None → a ≡ None
left None b e = refl
left (Some x) b e = absurd cc

right : {A : Type 0} → (a b : Option A) → option_or a b ≡ None → b ≡ None
right None b e = e
right (Some x) b e = absurd cc

-- ---- a time

given : (b : Bool) (k : PartNeed) → unless b k ≡ None → b ≡ true
given true k e = refl
given false k e = absurd cc

event_given : (base : Option ℕ) (within : Bool) (k l : PartNeed) → event_need base within k l ≡ None → within ≡ true
event_given None within k l e = absurd cc
event_given (Some base) within k l e = given within l e

is_before_end : (most base minutes : ℕ) (is_before : Bool) → is_within most base minutes is_before ≡ true
    → (if is_before then base - minutes else base + minutes) ≤ most
is_before_end most base minutes true e =
    leb-true (base - minutes) most (and_parts (nat_le minutes base) (nat_le (base - minutes) most) e).1
is_before_end most base minutes false e = leb-true (base + minutes) most e

begins_on : (g : GivenTimes) (first : TimeOfDay) → begin_need g first ≡ None → minute_of (clocks_of g) first ≤ 1439
begins_on g (time.Clock m) e = leb-true m 1439 (given (nat_le m 1439) kind.BeginOutside e)
begins_on g (time.Event v minutes is_before) e =
    is_before_end 1439 (given_or 0 (event_minutes g v)) minutes is_before
    (event_given (event_minutes g v) (is_within 1439 (given_or 0 (event_minutes g v)) minutes is_before) kind.BeginEvent
    kind.BeginOutside e)

short : (b : Bool) (n : ℕ) (is_open : Bool) → long_at b n is_open ≡ None → b ≡ true
short true n is_open e = refl
short false n is_open e = absurd cc

ends_on : (c : Clocks) (n begin : ℕ) (last : Option TimeOfDay) → last_long c n begin last ≡ None → EndsInDay c begin last
ends_on c n begin None e = tt
ends_on c n begin (Some last) e =
    leb-true (end_after begin (minute_of c last)) (begin + 1440) (short (is_short begin (minute_of c last)) n false e)

steps : (step : ℕ) (b : Bool) → (if step == 0 then Some kind.NoStep else unless b kind.StepLength) ≡ None → 1 ≤ step
steps zero b e = absurd cc
steps (suc step) b e = omega arith

tail_on : (g : GivenTimes) (n begin : ℕ) (t : TimeTail) → open_long (clocks_of g) n begin t ≡ None → tail_need g t ≡ None
    → HasTailInDay (clocks_of g) begin t
tail_on g n begin tail.Plain e f = tt
tail_on g n begin tail.Open e f =
    leb-true (end_after begin (given_or 0 g.open_end)) (begin + 1440) (short (is_short begin (given_or 0 g.open_end)) n true e)
tail_on g n begin (tail.Every step) e f = steps step (is_some g.points) f

time_on : (g : GivenTimes) (n : ℕ) (first : TimeOfDay) (last : Option TimeOfDay) (t : TimeTail) → time_need g first last t ≡ None
    → long_part (clocks_of g) n (part.Time first last t) ≡ None → IsOfDay (clocks_of g) first last t
time_on g n first last t e f =
    let c = clocks_of g in
    let begin = minute_of c first in
    let point = point_need g last t in
    let from = begin_need g first in
    let to = end_need g last in
    let rest = right point (option_or from (option_or to (tail_need g t))) e in
    let behind = right from (option_or to (tail_need g t)) rest in
    let starts : begin ≤ 1439 = begins_on g first (left from (option_or to (tail_need g t)) rest) in
    record {
      begins = omega (arith, starts);
      ends = ends_on c n begin last (left (last_long c n begin last) (open_long c n begin t) f);
      has_tail = tail_on g n begin t (right (last_long c n begin last) (open_long c n begin t) f) (right to (tail_need g t) behind);
    }

-- ---- parts and rules

part_on : (d : GivenDays) (g : GivenTimes) (n : ℕ) (x : RulePart) → part_need d g x ≡ None
    → long_part (clocks_of g) n x ≡ None → IsTimeOfDay (clocks_of g) x
part_on d g n (part.Time first last t) e f = time_on g n first last t e f
part_on d g n (part.Years first last step) e f = tt
part_on d g n (part.Months first last) e f = tt
part_on d g n (part.Days first last) e f = tt
part_on d g n (part.Dated year first final last) e f = tt
part_on d g n (part.Weeks first last step) e f = tt
part_on d g n (part.Holidays which offset) e f = tt
part_on d g n (part.Weekdays first last) e f = tt
part_on d g n (part.NthWeekday w k b o) e f = tt

no_need : (n : ℕ) (k : Option PartNeed) → at_part n k ≡ None → k ≡ None
no_need n None e = refl
no_need n (Some k) e = absurd cc

parts_on : (d : GivenDays) (g : GivenTimes) (n : ℕ) (xs : List RulePart) → parts_need d g n xs ≡ None
    → long_in (clocks_of g) n xs ≡ None → AreOfDay (clocks_of g) xs
parts_on d g n [] e f = tt
parts_on d g n (x ∷ xs) e f = (
  part_on d g n x (no_need n (part_need d g x) (left (at_part n (part_need d g x)) (parts_need d g (n + 1) xs) e))
      (left (long_part (clocks_of g) n x) (long_in (clocks_of g) (n + 1) xs) f),
  parts_on d g (n + 1) xs (right (at_part n (part_need d g x)) (parts_need d g (n + 1) xs) e)
      (right (long_part (clocks_of g) n x) (long_in (clocks_of g) (n + 1) xs) f),
)

rules_on : (d : GivenDays) (g : GivenTimes) (i n : ℕ) (rules : List Rule) → need_from d g i n rules ≡ None
    → long_from (clocks_of g) n rules ≡ None → AreAllOfDay (clocks_of g) rules
rules_on d g i n [] e f = tt
rules_on d g i n (rule ∷ rules) e f =
    let c = clocks_of g in
    let falls = some_falls_back rules in
    let first = rule_need d g i n rule falls in
    let rest = need_from d g (i + 1) (n + length rule.parts) rules in
    let long = long_in c n rule.parts in
    let later = long_from c (n + length rule.parts) rules in (
      parts_on d g n rule.parts (left (parts_need d g n rule.parts) (unknown_need i rule falls) (left first rest e))
          (left long later f),
      rules_on d g (i + 1) (n + length rule.parts) rules (right first rest e) (right long later f),
    )

pub all_on : (d : GivenDays) (g : GivenTimes) (rules : List Rule) → need_from d g 0 0 rules ≡ None
    → long_from (clocks_of g) 0 rules ≡ None → AreAllOfDay (clocks_of g) rules
all_on d g rules e f = rules_on d g 0 0 rules e f
