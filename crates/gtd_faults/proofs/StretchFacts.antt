-- How many bytes fit into so many columns.
use Rattle.std.proofs.Common.{sym, ap, refl, arith}
use Rattle.std.proofs.Common.{◌≡◌, ◌∙◌, ◌<◌, ◌≤◌, ◌+◌, ◌-◌, ℕ, zero, suc, List, [], ◌∷◌, drop, get_or, length}
use Rattle.std.proofs.Common.{true, false}
use Rattle.std.specs.Prelude.{if◌then◌else◌, nat_le}
use Rattle.std.proofs.lemmas.Bool.Decides.{nat_tests}
use Rattle.gtd_faults.specs.Snippet.{fit, fit_back, width}

chosen : (w left a : ℕ) → w ≤ left → (if nat_le w left then a else 0) ≡ a
chosen w left a le = let e : nat_le w left ≡ true = grind (arith, nat_tests) in rw e refl

left_out : (w left a : ℕ) → left < w → (if nat_le w left then a else 0) ≡ 0
left_out w left a lt = let e : nat_le w left ≡ false = grind (arith, nat_tests) in rw e refl

-- one byte more
fit_after : (left i : ℕ) (text : List ℕ) → i < length text → width (get_or text i 0) ≤ left
    → fit left (drop i text) ≡ suc (fit (left - width (get_or text i 0)) (drop (suc i) text))
fit_after left i [] lt le = absurd (omega arith)
fit_after left zero (x ∷ text) lt le = chosen (width x) left (suc (fit (left - width x) text)) le
fit_after left (suc i) (x ∷ text) lt le = fit_after left i text (omega arith) le

pub fit_more : (left i : ℕ) (text : List ℕ) → i < length text → width (get_or text i 0) ≤ left
    → fit left (drop i text) ≡ suc (fit (left - width (get_or text i 0)) (drop (i + 1) text))
fit_more left i text lt le =
    let e : suc i ≡ i + 1 = omega arith in
    fit_after left i text lt le ∙ ap (λ (k : ℕ). suc (fit (left - width (get_or text i 0)) (drop k text))) e

-- none
pub fit_none : (left i : ℕ) (text : List ℕ) → i < length text → left < width (get_or text i 0) → fit left (drop i text) ≡ 0
fit_none left i [] lt le = absurd (omega arith)
fit_none left zero (x ∷ text) lt le = left_out (width x) left (suc (fit (left - width x) text)) le
fit_none left (suc i) (x ∷ text) lt le = fit_none left i text (omega arith) le

before : (place count : ℕ) → count < place → place - count ≡ suc (place - 1 - count)
before place count lt = omega arith

pub back_more : (left place count : ℕ) (text : List ℕ) → count < place → width (get_or text (place - 1 - count) 0) ≤ left
    → fit_back left text (place - count) ≡ suc (fit_back (left - width (get_or text (place - 1 - count) 0)) text
    (place - (count + 1)))
back_more left place count text lt le =
    let n : ℕ = place - 1 - count in
    let e : place - (count + 1) ≡ n = omega arith in
    ap (fit_back left text) (before place count lt)
    ∙ chosen (width (get_or text n 0)) left (suc (fit_back (left - width (get_or text n 0)) text n)) le
    ∙ ap (λ (m : ℕ). suc (fit_back (left - width (get_or text n 0)) text m)) (sym e)

pub back_none : (left place count : ℕ) (text : List ℕ) → count < place → left < width (get_or text (place - 1 - count) 0)
    → fit_back left text (place - count) ≡ 0
back_none left place count text lt le =
    let n : ℕ = place - 1 - count in
    ap (fit_back left text) (before place count lt)
    ∙ left_out (width (get_or text n 0)) left (suc (fit_back (left - width (get_or text n 0)) text n)) le
