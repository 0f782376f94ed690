-- Forms that need nothing and are not too long stand for ranges of a day.
use Rattle.std.proofs.Common.{◌≡◌, ◌∙◌, ℕ, zero, suc, ◌+◌, ◌-◌, ◌<◌, ◌≤◌, inl, inr, List, [], ◌∷◌, refl, sym, ap, subst, arith}
use Rattle.std.specs.Prelude.{min, max, nat_lt, ◌&&◌, not, is_some, is_none, Option, Some, None, Bool, true, false}
use Rattle.std.specs.Prelude.{if◌then◌else◌}
use Rattle.std.specs.Option.{option_or}
use Rattle.std.proofs.Math.Nat.{min-le_right, min-eq_left, min-eq_right}
use Rattle.std.proofs.lemmas.Bool.{cases_lt, le-ltb, lt-ltb}
use Rattle.gtd_hours_times.specs.declared.moment.Event.{Event}
use Rattle.gtd_hours_times.specs.declared.moment.Moment.{Moment}
use Rattle.gtd_hours_times.specs.declared.moment.TimeForm.{TimeForm}
use Rattle.gtd_hours_moments.specs.declared.clocks.Clocks.{Clocks}
use Rattle.gtd_hours_moments.specs.declared.needs.Need.{Need}
use Rattle.gtd_hours_moments.specs.declared.needs.NeedKind.{NeedKind}
use Rattle.gtd_hours_moments.specs.declared.needs.NeedKind.TheVariants as kind
use Rattle.gtd_hours_moments.specs.declared.ranges.MinuteRange.{MinuteRange}
use Rattle.gtd_hours_moments.specs.Meaning.{Each, EachForm, IsDaily, IsOfDay, IsPlainRange, IsSomeRange, IsTimeOnly}
use Rattle.gtd_hours_moments.specs.Minutes.{last_minute, lasting, minute_at}
use Rattle.gtd_hours_moments.specs.Needs.{first_need, form_need, form_too_long, last_need, last_too_long, moment_need, need_at}
use Rattle.gtd_hours_moments.specs.Needs.{need_by, open_too_long, point_need, sign_need, too_long}
use Rattle.gtd_hours_moments.specs.Options.{given_or}
use Rattle.gtd_hours_moments.specs.Ranges.{before_midnight, closed_ranges, open_ranges, points_in, range_after}
use Rattle.gtd_hours_moments.specs.Ranges.{ranges_by}

-- ---- none of two

none_left : (a b : Option Need) → option_or a b ≡ None → a ≡ None
none_left None b e = refl
none_left (Some x) b e = absurd cc

none_right : (a b : Option Need) → option_or a b ≡ None → b ≡ None
none_right None b e = e
none_right (Some x) b e = absurd cc

-- ---- how long ranges last

pub if_true : {A : Type 0} (b : Bool) (x y : A) → b ≡ true → (if b then x else y) ≡ x
if_true true x y e = refl
if_true false x y e = absurd cc

pub if_false : {A : Type 0} (b : Bool) (x y : A) → b ≡ false → (if b then x else y) ≡ y
if_false false x y e = refl
if_false true x y e = absurd cc

some_lasting : (begin end : ℕ) → begin < 1440 → 0 < lasting begin end
some_lasting begin end day = elim (cases_lt begin end) [
  | inl less ↦
      let e : lasting begin end ≡ end - begin =
      if_true (nat_lt begin end) (end - begin) (end + 1440 - begin) (lt-ltb begin end less) in
      omega (arith, e, less)
  | inr more ↦
      let e : lasting begin end ≡ end + 1440 - begin =
      if_false (nat_lt begin end) (end - begin) (end + 1440 - begin) (le-ltb begin end more) in
      omega (arith, e, day)
]

not_long : (n place : ℕ) (k : NeedKind) → (if nat_lt 1440 n then need_at k place else None) ≡ None → n ≤ 1440
not_long n place k e = elim (cases_lt 1440 n) [
  | inl less ↦
      let is : (if nat_lt 1440 n then need_at k place else None) ≡ need_at k place =
      if_true (nat_lt 1440 n) (need_at k place) None (lt-ltb 1440 n less) in
      let both : need_at k place ≡ None = sym is ∙ e in absurd cc
  | inr more ↦ more
]

of_day : (begin long : ℕ) → begin < 1440 → 0 < long → long ≤ 1440 → IsOfDay (range_after begin long)
of_day begin long day some most = record { begins = day; some = omega (arith, some); most = omega (arith, most) }

-- ---- points

each_point : (left wait step minute point : ℕ) → (0 < left → minute + left ≤ 1440) → 0 < point → point ≤ 1440
    → Each IsOfDay (points_in left wait step minute point)
each_point zero wait step minute point room some most = tt
each_point (suc left) zero step minute point room some most = (
  of_day minute point (let r = room (omega arith) in omega (arith, r)) some most,
  each_point left (step - 1) step (minute + 1) point (λ more. let r = room (omega arith) in omega (arith, r)) some most,
)
each_point (suc left) (suc wait) step minute point room some most =
    each_point left wait step (minute + 1) point (λ more. let r = room (omega arith) in omega (arith, r)) some most

some_point : (left step minute point : ℕ) → 0 < left → IsSomeRange (points_in left 0 step minute point)
some_point zero step minute point some = absurd (omega arith)
some_point (suc left) step minute point some = tt

room_left : (begin long : ℕ) → (0 < before_midnight begin long) → begin + before_midnight begin long ≤ 1440
room_left begin long some = let top = min-le_right (begin + long + 1) 1440 in omega (arith, some, top)

some_left : (begin long : ℕ) → begin < 1440 → 0 < before_midnight begin long
some_left begin long day = elim (cases_lt (begin + long + 1) 1440) [
  | inl less ↦
      let e : min (begin + long + 1) 1440 ≡ begin + long + 1 = min-eq_left (omega (arith, less)) in omega (arith, e)
  | inr more ↦ let e : min (begin + long + 1) 1440 ≡ 1440 = min-eq_right more in omega (arith, e, day)
]

-- ---- forms

abbrev Daily : List MinuteRange → Type 0
Daily found = IsSomeRange found × Each IsOfDay found

one_range : (begin long : ℕ) → begin < 1440 → 0 < long → long ≤ 1440 → Daily (range_after begin long ∷ [])
one_range begin long day some most = (tt, (of_day begin long day some most, tt))

max_long : (a b : ℕ) → 0 < a → a ≤ 1440 → b ≤ 1440 → (0 < max a b) × (max a b ≤ 1440)
max_long a b some few fewer = (omega (arith, some), omega (arith, few, fewer))

open_daily : (begin : ℕ) (last : Option Moment) (open_end : Option ℕ) (clocks : Clocks) (sign : ℕ) → begin < 1440
    → (open_end ≡ None → ⊥) → last_too_long begin last clocks ≡ None → open_too_long begin open_end sign ≡ None
    → Daily (open_ranges begin (last_minute clocks last) open_end)
open_daily begin last None clocks sign day given l o = absurd (given refl)
open_daily begin None (Some end) clocks sign day given l o =
    one_range begin (lasting begin end) day (some_lasting begin end day) (not_long (lasting begin end) sign kind.OpenEnd o)
open_daily begin (Some moment) (Some end) clocks sign day given l o =
    let m = minute_at clocks moment in
    let long = max_long (lasting begin m) (lasting begin end) (some_lasting begin m day)
    (not_long (lasting begin m) moment.place kind.Range l) (not_long (lasting begin end) sign kind.OpenEnd o) in
    one_range begin (max (lasting begin m) (lasting begin end)) day long.0 long.1

-- what is given for points lasts some minutes, and a day at most
points_in_day : (clocks : Clocks) (point : ℕ) → clocks.points ≡ Some point → (0 < point) × (point ≤ 1440)
points_in_day clocks point e =
    let some : 1 ≤ given_or 1 (Some point) = subst (λ (o : Option ℕ). 1 ≤ given_or 1 o) e clocks.some_points in
    let most : given_or 1 (Some point) ≤ 1440 = subst (λ (o : Option ℕ). given_or 1 o ≤ 1440) e clocks.points_in in
    (omega (arith, some), most)

closed_daily : (begin : ℕ) (last : Option Moment) (step points : Option ℕ) (clocks : Clocks) → begin < 1440
    → points ≡ clocks.points → (last ≡ None → points ≡ None → ⊥) → ((n : ℕ) → step ≡ Some n → points ≡ None → ⊥)
    → last_too_long begin last clocks ≡ None → Daily (closed_ranges begin (last_minute clocks last) step points)
closed_daily begin None step None clocks day same given steps l = absurd (given refl refl)
closed_daily begin None step (Some point) clocks day same given steps l =
    let p = points_in_day clocks point (sym same) in one_range begin point day p.0 p.1
closed_daily begin (Some moment) None points clocks day same given steps l =
    let m = minute_at clocks moment in
    one_range begin (lasting begin m) day (some_lasting begin m day) (not_long (lasting begin m) moment.place kind.Range l)
closed_daily begin (Some moment) (Some step) None clocks day same given steps l = absurd (steps step refl refl)
closed_daily begin (Some moment) (Some step) (Some point) clocks day same given steps l =
    let long = lasting begin (minute_at clocks moment) in
    let p = points_in_day clocks point (sym same) in (
      some_point (before_midnight begin long) step begin point (some_left begin long day),
      each_point (before_midnight begin long) 0 step begin point (room_left begin long) p.0 p.1,
    )

-- what is not needed is given
open_given : (is_open : Bool) (end : Option ℕ) (place : ℕ) (other : Option Need) → is_open ≡ true
    → (if is_open && is_none end then need_at kind.OpenEnd place else other) ≡ None → end ≡ None → ⊥
open_given true None place other is e none = absurd cc
open_given true (Some end) place other is e none = absurd cc
open_given false end place other is e none = absurd cc

point_given : (last : Option Moment) (is_open : Bool) (points : Option ℕ) (place : ℕ) → is_open ≡ false
    → (if is_none last && not is_open && is_none points then need_at kind.Point place else None) ≡ None → last ≡ None
    → points ≡ None → ⊥
point_given None false None place is e none bare = absurd cc
point_given None false (Some point) place is e none bare = absurd cc
point_given None true points place is e none bare = absurd cc
point_given (Some last) is_open points place is e none bare = absurd cc

step_given : (is_open : Bool) (end step points : Option ℕ) (place : ℕ) → is_open ≡ false
    → (if is_open && is_none end then need_at kind.OpenEnd place
    else if is_some step && is_none points then need_at kind.Point place else None) ≡ None
    → (n : ℕ) → step ≡ Some n → points ≡ None → ⊥
step_given false end (Some step) None place is e n some bare = absurd cc
step_given false end (Some step) (Some point) place is e n some bare = absurd cc
step_given false end None points place is e n some bare = absurd cc
step_given true end step points place is e n some bare = absurd cc

daily_by : (form : TimeForm) (clocks : Clocks) (is_open : Bool) → form.is_open ≡ is_open → point_need form clocks ≡ None
    → sign_need form clocks ≡ None → last_too_long (minute_at clocks form.begin) form.last clocks ≡ None
    → (if form.is_open then open_too_long (minute_at clocks form.begin) clocks.open_end form.sign else None) ≡ None
    → minute_at clocks form.begin < 1440
    → Daily (ranges_by is_open (minute_at clocks form.begin) (last_minute clocks form.last) form.step clocks)
daily_by form clocks true is p s l o day =
    open_daily (minute_at clocks form.begin) form.last clocks.open_end clocks form.sign day
    (open_given form.is_open clocks.open_end form.sign
    (if is_some form.step && is_none clocks.points then need_at kind.Point form.sign else None) is s)
    l
    (subst (λ (b : Bool). (if b then open_too_long (minute_at clocks form.begin) clocks.open_end form.sign else None) ≡ None) is
    o)
daily_by form clocks false is p s l o day =
    closed_daily (minute_at clocks form.begin) form.last form.step clocks.points clocks day refl
    (point_given form.last form.is_open clocks.points form.begin.place is p)
    (step_given form.is_open clocks.open_end form.step clocks.points form.sign is s)
    l

daily : (form : TimeForm) (clocks : Clocks) → form_need form clocks ≡ None → form_too_long form clocks ≡ None
    → IsDaily clocks form
daily form clocks n t day =
    let point = point_need form clocks in
    let first = moment_need 1439 form.begin clocks in
    let last = last_need form.last clocks in
    let sign = sign_need form clocks in
    let rest = none_right point (option_or first (option_or last sign)) n in
    let s = none_right last sign (none_right first (option_or last sign) rest) in
    let long = last_too_long (minute_at clocks form.begin) form.last clocks in
    let open_long = if form.is_open then open_too_long (minute_at clocks form.begin) clocks.open_end form.sign else None in
    daily_by form clocks form.is_open refl (none_left point (option_or first (option_or last sign)) n) s
    (none_left long open_long t) (none_right long open_long t) day

pub all_daily : (forms : List TimeForm) (clocks : Clocks) → first_need forms clocks ≡ None → too_long forms clocks ≡ None
    → EachForm (IsDaily clocks) forms
all_daily [] clocks n t = tt
all_daily (form ∷ forms) clocks n t = (
  daily form clocks (none_left (form_need form clocks) (first_need forms clocks) n)
      (none_left (form_too_long form clocks) (too_long forms clocks) t),
  all_daily forms clocks (none_right (form_need form clocks) (first_need forms clocks) n)
      (none_right (form_too_long form clocks) (too_long forms clocks) t),
)

-- ---- ranges of times need nothing

point_none : (last : Option Moment) (is_open : Bool) (points : Option ℕ) (place : ℕ) → IsTimeOnly last
    → (if is_none last && not is_open && is_none points then need_at kind.Point place else None) ≡ None
point_none None is_open points place is = absurd is
point_none (Some last) is_open points place is = refl

last_none : (last : Option Moment) (clocks : Clocks) → IsTimeOnly last → last_need last clocks ≡ None
last_none None clocks is = absurd is
last_none (Some moment) clocks is = ap (λ (e : Option Event). need_by 1440 e moment clocks) is

sign_none : (is_open : Bool) (end step points : Option ℕ) (place : ℕ) → is_open ≡ false → step ≡ None
    → (if is_open && is_none end then need_at kind.OpenEnd place
    else if is_some step && is_none points then need_at kind.Point place else None) ≡ None
sign_none false end None points place is none = refl
sign_none false end (Some step) points place is none = absurd cc
sign_none true end step points place is none = absurd cc

both_none : (a b : Option Need) → a ≡ None → b ≡ None → option_or a b ≡ None
both_none None b e f = f
both_none (Some x) b e f = absurd cc

plain_needs_none : (form : TimeForm) (clocks : Clocks) → IsPlainRange form → form_need form clocks ≡ None
plain_needs_none form clocks is =
    let point = point_need form clocks in
    let first = moment_need 1439 form.begin clocks in
    let last = last_need form.last clocks in
    let sign = sign_need form clocks in
    both_none point (option_or first (option_or last sign))
    (point_none form.last form.is_open clocks.points form.begin.place is.last)
    (both_none first (option_or last sign)
    (ap (λ (e : Option Event). need_by 1439 e form.begin clocks) is.begin)
    (both_none last sign (last_none form.last clocks is.last)
    (sign_none form.is_open clocks.open_end form.step clocks.points form.sign is.closed is.step)))

pub none_needed : (forms : List TimeForm) (clocks : Clocks) → EachForm IsPlainRange forms → first_need forms clocks ≡ None
none_needed [] clocks each = refl
none_needed (form ∷ forms) clocks each =
    both_none (form_need form clocks) (first_need forms clocks) (plain_needs_none form clocks each.0)
    (none_needed forms clocks each.1)
