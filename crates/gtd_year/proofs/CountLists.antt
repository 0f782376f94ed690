-- Lists of the numbers of seconds of days, and their lines.
use Rattle.std.proofs.Common.{◌≡◌, ◌∙◌, arith, ap, refl, sym, subst, ◌<◌, ◌≤◌, ◌+◌, Bool, ℕ, zero, suc, List, [], ◌∷◌, ◌++◌}
use Rattle.std.proofs.Common.{◌*◌, add-one, drop, get_or, length, length-append, take}
use Rattle.std.specs.Prelude.{ℤ, pos, ◌+ℤ◌, ◌*ℤ◌, IfSome, IsTrue, Option, Some, None}
use Rattle.std.proofs.Math.Seq.{get_or-append_seam}
use Rattle.std.proofs.lemmas.Int.{ints}
use Rattle.std.proofs.lemmas.List.{get_or_append_left}
use Rattle.gtd_records.specs.facts.IndexFacts.{by_le}
use Rattle.gtd_report.specs.Putting.{text_of}
use Rattle.gtd_spans.specs.Counting.{IsCount}
use Rattle.gtd_spans.specs.facts.CountFacts.{count-few}
use Rattle.gtd_year.specs.Counts.{AreCounts, RepeatsWeekly, count_lines}
use Rattle.gtd_year.specs.YearTable.{AreDayLines, day_line}
use Rattle.gtd_year.proofs.DayFacts.{length-day_line}
use Rattle.gtd_year.proofs.WeeklyFacts.{later_count}

module _ (set : ℤ → Type 0) (first : ℤ) where
  -- the number of the day a week before
  pub week_counted : (day : ℤ) (days place : ℕ) (counts : List ℕ) (weekly : Bool) (before : Option ℕ) → length counts ≡ place
      → place < days → day ≡ first +ℤ pos place → (IsTrue weekly → RepeatsWeekly set first days) → AreCounts set first counts
      → IfSome before (λ count. IsTrue weekly × (k : ℕ) × (k + 7 ≡ length counts) × (count ≡ get_or counts k 0))
      → IfSome before (λ count. IsCount set (day *ℤ pos 86400) 86400 count)
  week_counted day days place counts weekly None many within at repeats are h = tt
  week_counted day days place counts weekly (Some count) many within at repeats are h =
      let k = h.1 in
      let there = h.2 in
      let here : day ≡ first +ℤ pos (k + 7) = omega (arith, ints, at, many, there) in
      rw (h.3) (later_count set first day days k (get_or counts k 0) (repeats h.0) here (omega (arith, many, there, within))
      (are k (omega (arith, there))))

  -- one number more
  pub counts_more : (place count : ℕ) (counts : List ℕ) → length counts ≡ place
      → IsCount set ((first +ℤ pos place) *ℤ pos 86400) 86400 count → AreCounts set first counts
      → AreCounts set first (counts ++ count ∷ [])
  counts_more place count counts many counted are = λ k lt.
      let l = length-append counts (count ∷ []) in
      by_le {P = IsCount set ((first +ℤ pos k) *ℤ pos 86400) 86400 (get_or (counts ++ count ∷ []) k 0)} (length counts) k
      (λ ge.
      let e : length counts ≡ k = omega (arith, l, lt, ge) in
      let last : get_or (counts ++ count ∷ []) k 0 ≡ count =
      subst (λ (n : ℕ). get_or (counts ++ count ∷ []) n 0 ≡ count) e (get_or-append_seam counts count [] 0) in
      rw last (subst (λ (n : ℕ). IsCount set ((first +ℤ pos n) *ℤ pos 86400) 86400 count) (sym many ∙ e) counted))
      (λ less. rw (get_or_append_left counts (count ∷ []) 0 k less) (are k less))

  -- no day has more seconds than there are
  pub counts_few : (counts : List ℕ) → AreCounts set first counts → (k : ℕ) → k < length counts → get_or counts k 0 ≤ 86400
  counts_few counts are k lt = count-few set ((first +ℤ pos k) *ℤ pos 86400) 86400 (get_or counts k 0) (are k lt)

-- the lines of counted days
pub lines_counted : (set : ℤ → Type 0) (first : ℤ) (counts : List ℕ) → AreCounts set first counts
    → AreDayLines set first (length counts) (count_lines first counts)
unfolding AreDayLines
lines_counted set first [] are = refl
lines_counted set first (count ∷ counts) are =
    let here : first +ℤ pos 0 ≡ first = omega (arith, ints) in
    let one = subst (λ (n : ℤ). IsCount set (n *ℤ pos 86400) 86400 count) here (are 0 (omega arith)) in
    let rest = lines_counted set (first +ℤ pos 1) counts (λ k lt.
    let next : first +ℤ pos (suc k) ≡ (first +ℤ pos 1) +ℤ pos k = omega (arith, ints) in
    subst (λ (n : ℤ). IsCount set (n *ℤ pos 86400) 86400 (get_or counts k 0)) next (are (suc k) (omega (arith, lt)))) in
    (count, count_lines (first +ℤ pos 1) counts, one, rest, refl)

-- the lines of some days, of the next one and of those after it
pub lines_split : (first day : ℤ) (counts : List ℕ) (k count : ℕ) → k < length counts → count ≡ get_or counts k 0
    → day ≡ first +ℤ pos k
    → count_lines first counts
    ≡ count_lines first (take k counts) ++ day_line day count ∷ count_lines (day +ℤ pos 1) (drop (suc k) counts)
lines_split first day [] k count lt is at = absurd (omega (arith, lt))
lines_split first day (c ∷ counts) zero count lt is at =
    let same : first ≡ day = omega (arith, ints, at) in
    rw (is, ← same) refl
lines_split first day (c ∷ counts) (suc k) count lt is at =
    ap (λ (l : List (List ℕ)). day_line first c ∷ l)
    (lines_split (first +ℤ pos 1) day counts k count (omega (arith, lt)) is (omega (arith, ints, at)))

pub lines_more : (first day : ℤ) (counts : List ℕ) (k count : ℕ) → k < length counts → count ≡ get_or counts k 0
    → day ≡ first +ℤ pos k
    → count_lines first (take (suc k) counts) ≡ count_lines first (take k counts) ++ day_line day count ∷ []
lines_more first day [] k count lt is at = absurd (omega (arith, lt))
lines_more first day (c ∷ counts) zero count lt is at =
    let same : first ≡ day = omega (arith, ints, at) in
    rw (is, ← same) refl
lines_more first day (c ∷ counts) (suc k) count lt is at =
    ap (λ (l : List (List ℕ)). day_line first c ∷ l)
    (lines_more (first +ℤ pos 1) day counts k count (omega (arith, lt)) is (omega (arith, ints, at)))

-- the lines of the first days, and of those after them
pub lines_parts : (first : ℤ) (counts : List ℕ) (k : ℕ)
    → count_lines first counts ≡ count_lines first (take k counts) ++ count_lines (first +ℤ pos k) (drop k counts)
lines_parts first counts zero =
    let same : first +ℤ pos 0 ≡ first = omega (arith, ints) in
    rw same refl
lines_parts first [] (suc k) = refl
lines_parts first (c ∷ counts) (suc k) =
    let same : (first +ℤ pos 1) +ℤ pos k ≡ first +ℤ pos (suc k) = omega (arith, ints) in
    ap (λ (l : List (List ℕ)). day_line first c ∷ l)
    (subst (λ (n : ℤ). count_lines (first +ℤ pos 1) counts
    ≡ count_lines (first +ℤ pos 1) (take k counts) ++ count_lines n (drop k counts)) same
    (lines_parts (first +ℤ pos 1) counts k))

-- how many lines the first days have, and how many bytes
pub lines_long : (first : ℤ) (counts : List ℕ) (k : ℕ) → k ≤ length counts
    → ((j : ℕ) → j < length counts → get_or counts j 0 ≤ 86400)
    → (length (count_lines first (take k counts)) ≡ k) × (length (text_of (count_lines first (take k counts))) ≡ 17 * k)
lines_long first counts zero le few = (refl, refl)
lines_long first [] (suc k) le few = absurd (omega (arith, le))
lines_long first (c ∷ counts) (suc k) le few =
    let rest = lines_long (first +ℤ pos 1) counts k (omega (arith, le)) (λ j lt. few (suc j) (omega (arith, lt))) in
    let one = length-day_line first c (few 0 (omega arith)) in
    let all = length-append (day_line first c) (text_of (count_lines (first +ℤ pos 1) (take k counts))) in
    (omega (arith, rest.0), omega (arith, rest.1, one, all))

-- the line of the next day
pub next_line : (first day : ℤ) (counts : List ℕ) (k count : ℕ) (line written : List ℕ) → line ≡ written
    → written ≡ day_line day count → k < length counts → count ≡ get_or counts k 0 → day ≡ first +ℤ pos k → count ≤ 86400
    → (length line ≡ 17)
    × (count_lines first (take (k + 1) counts) ≡ count_lines first (take k counts) ++ line ∷ [])
    × (rest : List (List ℕ)) × (count_lines first counts ≡ count_lines first (take k counts) ++ line ∷ rest)
next_line first day counts k count line written same made lt is at few =
    let its = same ∙ made in (
      ap length its ∙ length-day_line day count few,
      rw (add-one k, its) (lines_more first day counts k count lt is at),
      count_lines (day +ℤ pos 1) (drop (suc k) counts),
      rw its (lines_split first day counts k count lt is at),
    )

-- the lines of so many counted days
pub counted_days : (set : ℤ → Type 0) (first : ℤ) (days : ℕ) (counts listed : List ℕ) → listed ≡ counts → length counts ≡ days
    → AreCounts set first counts → AreDayLines set first days (count_lines first listed)
counted_days set first days counts listed same many are =
    rw same (subst (λ (n : ℕ). AreDayLines set first n (count_lines first counts)) many (lines_counted set first counts are))
