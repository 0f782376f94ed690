-- The lines of days.
use Rattle.std.proofs.Common.{◌≡◌, ◌∙◌, sym, ap, refl, ◌≤◌, ◌*◌, ◌-◌, ◌↔◌, ℕ, zero, suc, arith, List, ◌∷◌}
use Rattle.std.proofs.Common.{◌++◌, length, length-append, append_assoc, take}
use Rattle.std.specs.Prelude.{ℤ, pos, ◌+ℤ◌, ◌*ℤ◌, ◌≤ℤ◌, ◌<ℤ◌, decimal, codes, replicate, All}
use Rattle.std.proofs.lemmas.Int.{ints}
use Rattle.std.proofs.lemmas.List.{length-replicate, take_all}
use Rattle.std.proofs.lemmas.List.Elements.{All-cons, All-nil}
use Rattle.std.proofs.lemmas.Fmt.{length-decimal-le}
use Rattle.gtd_calendar.specs.Stamp.{date_text}
use Rattle.gtd_spans.specs.facts.CountFacts.{count-few, count-same, one-count}
use Rattle.gtd_report.specs.Putting.{text_of}
use Rattle.gtd_year.specs.YearTable.{AreDayLines, day_line, right_aligned}

-- a date has ten bytes
length-date : (day : ℤ) → length (date_text day) ≡ 10
length-date day = refl

-- a day's line has seventeen bytes
pub length-day_line : (day : ℤ) (count : ℕ) → count ≤ 86400 → length (day_line day count) ≡ 17
length-day_line day count few =
    let d = length-decimal-le 5 count (omega arith) (omega arith) (omega arith) in
    let w = length-date day in
    simp (length-append, length-replicate) (omega arith)

module _ (set : ℤ → Type 0) where
  -- days have one list of lines
  pub one_table : (day : ℤ) (n : ℕ) (a b : List (List ℕ)) → AreDayLines set day n a → AreDayLines set day n b → a ≡ b
  unfolding AreDayLines
  one_table day zero a b p q = p ∙ sym q
  one_table day (suc n) a b p q =
      let count = one-count set (day *ℤ pos 86400) 86400 p.0 q.0 p.2 q.2 in
      let rest = one_table (day +ℤ pos 1) n p.1 q.1 p.3 q.3 in
      p.4 ∙ ap (λ (c : ℕ). day_line day c ∷ p.1) count ∙ ap (λ (l : List (List ℕ)). day_line day q.0 ∷ l) rest ∙ sym q.4

  -- how many lines and how many bytes
  pub length-days : (day : ℤ) (n : ℕ) (a : List (List ℕ)) → AreDayLines set day n a
      → (length a ≡ n) × (length (text_of a) ≡ 17 * n)
  unfolding AreDayLines
  length-days day zero a p = (ap length p, ap (λ (l : List (List ℕ)). length (text_of l)) p)
  length-days day (suc n) a p =
      let r = length-days (day +ℤ pos 1) n p.1 p.3 in
      let one = length-day_line day p.0 (count-few set (day *ℤ pos 86400) 86400 p.0 p.2) in
      let l = ap length p.4 in
      let b = ap (λ (l : List (List ℕ)). length (text_of l)) p.4 ∙ length-append (day_line day p.0) (text_of p.1) in
      (omega (arith, l, r.0), omega (arith, b, one, r.1))

  -- each line has seventeen bytes
  pub each_line : (day : ℤ) (n : ℕ) (a : List (List ℕ)) → AreDayLines set day n a → All (λ (line : List ℕ). length line ≡ 17) a
  unfolding AreDayLines
  each_line day zero a p = rw p (All-nil (λ (line : List ℕ). length line ≡ 17))
  each_line day (suc n) a p =
      let one = length-day_line day p.0 (count-few set (day *ℤ pos 86400) 86400 p.0 p.2) in
      rw (p.4) (All-cons (λ (line : List ℕ). length line ≡ 17) (day_line day p.0) p.1 one (each_line (day +ℤ pos 1) n p.1 p.3))

-- sets that have the same seconds on those days have the same lines
pub same_days : (one two : ℤ → Type 0) (day : ℤ) (n : ℕ) (lines : List (List ℕ))
    → ((t : ℤ) → (day *ℤ pos 86400) ≤ℤ t → t <ℤ ((day +ℤ pos n) *ℤ pos 86400) → one t ↔ two t)
    → AreDayLines one day n lines → AreDayLines two day n lines
unfolding AreDayLines
same_days one two day zero lines h p = p
same_days one two day (suc n) lines h p = (
  p.0,
  p.1,
  count-same one two (day *ℤ pos 86400) 86400 p.0 (λ t a. h t a.0 (omega (arith, ints, a.1))) p.2,
  same_days one two (day +ℤ pos 1) n p.1 (λ t l u. h t (omega (arith, ints, l)) (omega (arith, ints, u))) p.3,
  p.4,
)

-- a day's line, made piece by piece
pub made_line : (day : ℤ) (count m : ℕ) (digits one two three four five : List ℕ) → count ≤ 86400
    → digits ≡ decimal count → one ≡ date_text day → two ≡ one ++ codes " " → m ≡ 11
    → three ≡ take (16 - length digits) two ++ replicate (16 - length digits - m) 32 → four ≡ three ++ digits
    → five ≡ four ++ codes "\n" → five ≡ day_line day count
made_line day count m digits one two three four five few d a b long e f g =
    let n = ap length d in
    let short = length-decimal-le 5 count (omega arith) (omega arith) (omega arith) in
    let w = length-date day in
    let l : length two ≡ 11 = omega (arith, ap length b, length-append one (codes " "), ap length a) in
    let whole : take (16 - length digits) two ≡ two = take_all (16 - length digits) two (omega arith) in
    let pad : 16 - length digits - m ≡ 5 - length (decimal count) = omega arith in
    let k : three ≡ (date_text day ++ codes " ") ++ replicate (5 - length (decimal count)) 32 =
    e ∙ ap (λ (x : List ℕ). x ++ replicate (16 - length digits - m) 32) (whole ∙ b ∙ ap (λ (x : List ℕ). x ++ codes " ") a)
    ∙ ap (λ (i : ℕ). (date_text day ++ codes " ") ++ replicate i 32) pad in
    let q : four ≡ (date_text day ++ codes " ") ++ right_aligned count =
    f ∙ ap (λ (x : List ℕ). x ++ digits) k
    ∙ ap (λ (x : List ℕ). ((date_text day ++ codes " ") ++ replicate (5 - length (decimal count)) 32) ++ x) d
    ∙ append_assoc (date_text day ++ codes " ") (replicate (5 - length (decimal count)) 32) (decimal count) in
    g ∙ ap (λ (x : List ℕ). x ++ codes "\n") q
