-- How long the line of a row can be.
use Rattle.std.proofs.Common.{◌<◌, ◌≤◌, ◌+◌, ◌-◌, ◌*◌, ◌/◌, ◌%◌, ◌^◌, arith, ℕ, zero, suc, List, [], ◌∷◌, ◌++◌, length}
use Rattle.std.proofs.Common.{length-append, add-one, Option, Some, None, Bool, true, false}
use Rattle.std.specs.Prelude.{codes, decimal, ◌==◌, if◌then◌else◌}
use Rattle.std.specs.List.{flat_map, slice_index}
use Rattle.std.specs.List.Sorted.{IsStrictlyIncreasing}
use Rattle.std.proofs.lemmas.Fmt.{length-decimal-le}
use Rattle.gtd_core.specs.facts.Leaves.{leaves_are_valid}
use Rattle.gtd_core.specs.Parts.{domain_tree}
use Rattle.gtd_core.specs.declared.domain.Domain.{Domain}
use Rattle.gtd_core.specs.declared.start.StartParts.{StartParts}
use Rattle.gtd_core.specs.declared.duration.DurationParts.{DurationParts}
use Rattle.gtd_core.specs.declared.domain.Op.{Op}
use Rattle.gtd_core.specs.declared.domain.Op.TheVariants.{Union, Meet, Minus}
use Rattle.gtd_core.specs.FieldTable.{number_digits, year_digits, place_digits, weekday_digits, weekdays_digits, nonzero_digits}
use Rattle.gtd_core.specs.Ranges.{HasSixDigits, IsStart, IsWithin}
use Rattle.gtd_core.specs.Trees.{Tree, Single, Joined, AreValid, leaf_count}
use Rattle.gtd_text.specs.Canonical.{canonical, duration_shown, duration_text, field_text, fields_text, or_zero, sign_text}
use Rattle.gtd_text.specs.Canonical.{start_text}

-- ---- the canonical text of an expression

joined_short : (a b : List ℕ) (m n : ℕ) → length a ≤ m → length b ≤ n → length (a ++ b) ≤ m + n
joined_short a b m n p q = let all = length-append a b in omega arith

three_short : (a b c : List ℕ) (k l m : ℕ) → length a ≤ k → length b ≤ l → length c ≤ m → length (a ++ b ++ c) ≤ k + l + m
three_short a b c k l m p q r = joined_short (a ++ b) c (k + l) m (joined_short a b k l p q) r

-- a field with one number
one_short : (letter : ℕ) (digits : List ℕ) (n : ℕ) → length digits ≤ n → length (field_text (letter ∷ []) (digits ∷ [])) ≤ n + 1
unfolding field_text
one_short letter digits n few = let all = length-append digits [] in omega arith

number_short : (letter low high : ℕ) (o : Option ℕ) → high < 100 → IsWithin low high o
    → length (field_text (letter ∷ []) (number_digits o)) ≤ 3
unfolding field_text
number_short letter low high None few is = omega arith
number_short letter low high (Some n) few is =
    let up = is.1 in
    let number = length-decimal-le 2 n (omega arith) (omega arith) (omega arith) in
    one_short letter (decimal n) 2 number

year_short : (letter : ℕ) (o : Option ℕ) → length (field_text (letter ∷ []) (year_digits o)) ≤ 5
unfolding field_text
year_short letter None = omega arith
year_short letter (Some n) = omega arith

place_short : (letter : ℕ) (o : Option (ℕ × ℕ)) → length (field_text (letter ∷ []) (place_digits o)) ≤ 3
unfolding field_text
place_short letter None = omega arith
place_short letter (Some p) = omega arith

day_short : (b : Bool) (letter k : ℕ) (others : List (List ℕ)) (n : ℕ) → length (field_text (letter ∷ []) others) ≤ n
    → length (field_text (letter ∷ []) ((if b then ((48 + k) ∷ []) ∷ [] else []) ++ others)) ≤ n + 2
unfolding field_text
day_short true letter k others n h = omega arith
day_short false letter k others n h = omega arith

days_short : (letter w : ℕ) (days : List ℕ)
    → length (field_text (letter ∷ []) (flat_map (weekday_digits w) days)) ≤ 2 * length days
unfolding field_text
days_short letter w [] = omega arith
days_short letter w (k ∷ days) =
    let all = day_short (w / 2 ^ (k - 1) % 2 == 1) letter k (flat_map (weekday_digits w) days) (2 * length days)
    (days_short letter w days) in
    omega (arith, all)

weekdays_short : (letter w : ℕ) → length (field_text (letter ∷ []) (weekdays_digits w)) ≤ 14
weekdays_short letter w = days_short letter w (1 ∷ 2 ∷ 3 ∷ 4 ∷ 5 ∷ 6 ∷ 7 ∷ [])

-- the fields of a start have at most 43 bytes
start_short : (start : StartParts) → IsStart start → length (start_text start) ≤ 43
unfolding start_text
start_short s h =
    joined_short _ _ 5 38 (year_short 121 s.year)
    (joined_short _ _ 3 35 (number_short 77 1 12 s.month (omega arith) h.month)
    (joined_short _ _ 3 32 (number_short 119 1 53 s.week (omega arith) h.week)
    (joined_short _ _ 3 29 (place_short 102 s.nth)
    (joined_short _ _ 3 26 (place_short 108 s.nth_back)
    (joined_short _ _ 3 23 (number_short 100 1 31 s.day (omega arith) h.day)
    (joined_short _ _ 14 9 (weekdays_short 116 s.weekdays)
    (joined_short _ _ 3 6 (number_short 104 0 23 s.hour (omega arith) h.hour)
    (joined_short _ _ 3 3 (number_short 109 0 59 s.minute (omega arith) h.minute)
    (joined_short _ _ 3 0 (number_short 115 0 59 s.second (omega arith) h.second) (omega arith))))))))))

nonzero_by : (b : Bool) (letter n : ℕ) → n ≤ 999999 → length (field_text (letter ∷ []) (if b then [] else decimal n ∷ [])) ≤ 7
unfolding field_text
nonzero_by true letter n few = omega arith
nonzero_by false letter n few =
    one_short letter (decimal n) 6 (length-decimal-le 6 n (omega arith) (omega arith) (omega arith))

nonzero_short : (letter n : ℕ) → n ≤ 999999 → length (field_text (letter ∷ []) (nonzero_digits n)) ≤ 7
nonzero_short letter n few = nonzero_by (n == 0) letter n few

zero_short : (text : List ℕ) (n : ℕ) → 2 ≤ n → length text ≤ n → length (or_zero text) ≤ n
zero_short [] n some few = some
zero_short (b ∷ text) n some few = few

-- the numbers of a duration have at most 49 bytes
duration_short : (duration : DurationParts) → HasSixDigits duration → length (duration_text duration) ≤ 49
unfolding duration_text
duration_short d h =
    zero_short (fields_text (duration_shown d)) 49 (omega arith)
    (joined_short _ _ 7 42 (nonzero_short 121 d.years h.years)
    (joined_short _ _ 7 35 (nonzero_short 77 d.months h.months)
    (joined_short _ _ 7 28 (nonzero_short 119 d.weeks h.weeks)
    (joined_short _ _ 7 21 (nonzero_short 100 d.days h.days)
    (joined_short _ _ 7 14 (nonzero_short 104 d.hours h.hours)
    (joined_short _ _ 7 7 (nonzero_short 109 d.minutes h.minutes)
    (joined_short _ _ 7 0 (nonzero_short 115 d.seconds h.seconds) (omega arith))))))))

sign_short : (op : Op) → length (sign_text op) ≤ 1
sign_short Union = omega arith
sign_short Meet = omega arith
sign_short Minus = omega arith

-- a basic domain has at most 98 bytes, and each operator three more
pub canonical_short : (e : Tree) → AreValid e → length (canonical e) + 3 ≤ 101 * leaf_count e
canonical_short (Single start duration) h =
    let s = start_short start h.0 in
    let d = duration_short duration h.1.0 in
    let all = joined_short (codes "[(" ++ start_text start ++ codes "){" ++ duration_text duration) (codes "}]") 96 2
    (joined_short (codes "[(" ++ start_text start ++ codes "){") (duration_text duration) 47 49
    (three_short (codes "[(") (start_text start) (codes "){") 2 43 2 (omega arith) s (omega arith)) d) (omega arith) in
    omega arith
canonical_short (Joined op left right) h =
    let l = canonical_short left h.0 in
    let r = canonical_short right h.1 in
    let s = sign_short op in
    let a = length-append (codes "[") (canonical left) in
    let b = length-append (codes "[" ++ canonical left) (sign_text op) in
    let c = length-append (codes "[" ++ canonical left ++ sign_text op) (canonical right) in
    let d = length-append (codes "[" ++ canonical left ++ sign_text op ++ canonical right) (codes "]") in
    omega arith

-- ---- the codes

-- rising numbers are not below their places
rising_at : (xs : List ℕ) → IsStrictlyIncreasing xs → (k : ℕ) → k < length xs → k ≤ slice_index xs k
rising_at xs rising zero h = omega arith
rising_at xs rising (suc k) h =
    let before = rising_at xs rising k (omega arith) in
    let step : slice_index xs k < slice_index xs (suc k) = rw (add-one k) at (rising k (omega arith)) in
    omega arith

-- so there are few of them where they are small
pub few_codes : (xs : List ℕ) → IsStrictlyIncreasing xs → ((k : ℕ) → k < length xs → slice_index xs k < 256) → length xs ≤ 256
few_codes [] rising small = omega arith
few_codes (x ∷ xs) rising small =
    let at = rising_at (x ∷ xs) rising (length xs) (omega arith) in
    let last = small (length xs) (omega arith) in
    omega arith

-- ---- the line of a domain

-- the canonical text of a domain of at most 128 basic ones
pub domain_short : (domain : Domain) → length (canonical (domain_tree domain)) ≤ 12925
domain_short domain =
    let few = domain.few_leaves in
    let short = canonical_short (domain_tree domain) (leaves_are_valid domain.expr) in
    omega arith
