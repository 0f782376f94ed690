-- Every so many numbers, in pieces.
use Rattle.std.proofs.Common.{◌≡◌, ◌↔◌, ◌⊎◌, ℕ, ◌+◌, ◌-◌, ◌*◌, ◌/◌, ◌%◌, ◌<◌, ◌≤◌, min, inl, inr, arith}
use Rattle.std.proofs.lemmas.Bool.{cases_lt}
use Rattle.std.proofs.lemmas.Nat.{div-add-mod', div-mul-add, le-div, mod-mul-add}
use Rattle.std.proofs.Math.Nat.{div-mul-le_self, mod-add-div', mod-lt}

-- a number is in a piece if its place has the piece's quotient and a low rest
piece-to : (x m w p : ℕ) → w ≤ m → p * m ≤ x → x < p * m + w → (x / m ≡ p) × (x % m < w)
piece-to x m w p le low high =
    let r : ℕ = x - p * m in
    let e : x ≡ p * m + r = omega arith in
    let small : r < w = omega arith in
    let less : r < m = omega arith in
    rw e (div-mul-add p m r less, (let k = mod-mul-add p m r less in rw k small))

piece-from : (x m w p : ℕ) → x / m ≡ p → x % m < w → (p * m ≤ x) × (x < p * m + w)
piece-from x m w p e low =
    let whole = rw e at (mod-add-div' x m) in
    (omega (arith, whole), omega (arith, whole, low))

-- the numbers of the pieces so far and of one more
pub one_more-piece : (e so : Type 0) (P : ℕ → Type 0) (first last stride width piece begin : ℕ) → 1 ≤ width → width ≤ stride
    → begin ≡ first + piece * stride
    → (so ↔ ((k : ℕ) × (first ≤ k) × (k ≤ last) × ((k - first) / stride < piece) × ((k - first) % stride < width) × P k))
    → (e ↔ (so ⊎ ((k : ℕ) × (begin ≤ k) × (k ≤ min (begin + width - 1) last) × P k)))
    → e ↔ ((k : ℕ) × (first ≤ k) × (k ≤ last) × ((k - first) / stride < piece + 1) × ((k - first) % stride < width) × P k)
one_more-piece e so P first last stride width piece begin some most is before one = (
  (λ h. elim (one.0 h) [
    | inl x ↦ let y = before.0 x in (y.0, y.1, y.2, omega (arith, y.3), y.4, y.5)
    | inr y ↦
        let low : piece * stride ≤ y.0 - first = omega (arith, y.1) in
        let high : y.0 - first < piece * stride + width = omega (arith, y.2, y.1) in
        let at = piece-to (y.0 - first) stride width piece most low high in
        (y.0, omega (arith, y.1), omega (arith, y.2), omega (arith, at.0), at.1, y.3)
  ]),
  (λ y. one.1 (elim (cases_lt ((y.0 - first) / stride) piece) [
    | inl lt ↦ inl (before.1 (y.0, y.1, y.2, lt, y.4, y.5))
    | inr ge ↦
        let same : (y.0 - first) / stride ≡ piece = omega (arith, ge, y.3) in
        let at = piece-from (y.0 - first) stride width piece same y.4 in
        inr (y.0, omega (arith, at.0, y.1), within y.0 first last begin width (piece * stride) is y.1 y.2 some at.1, y.5)
  ])),
)
  where
    within : (k first last begin width far : ℕ) → begin ≡ first + far → first ≤ k → k ≤ last → 1 ≤ width → k - first < far + width
        → k ≤ min (begin + width - 1) last
    within k first last begin width far is low high some lt = omega arith

-- the numbers of all pieces
pub all-pieces : (e so : Type 0) (P : ℕ → Type 0) (first last stride width piece : ℕ) → 0 < stride
    → (last - first) / stride < piece
    → (so ↔ ((k : ℕ) × (first ≤ k) × (k ≤ last) × ((k - first) / stride < piece) × ((k - first) % stride < width) × P k))
    → (e ↔ so) → e ↔ ((k : ℕ) × (first ≤ k) × (k ≤ last) × ((k - first) % stride < width) × P k)
all-pieces e so P first last stride width piece some all before same = (
  (λ h. let y = before.0 (same.0 h) in (y.0, y.1, y.2, y.4, y.5)),
  (λ y.
      let less : y.0 - first ≤ last - first = omega (arith, y.2) in
      let whole = div-mul-le_self (y.0 - first) stride in
      let le = le-div ((y.0 - first) / stride) (last - first) stride some (omega (arith, whole, less)) in
      same.1 (before.1 (y.0, y.1, y.2, omega (arith, le, all), y.3, y.4))),
)

-- the numbers up to week 52, and week 53
pub with-last : (e a b : Type 0) (P : ℕ → Type 0) (first last : ℕ) → first ≤ 52 → last ≡ 53
    → (a ↔ ((k : ℕ) × (first ≤ k) × (k ≤ 52) × P k)) → (b ↔ ((k : ℕ) × (53 ≤ k) × (k ≤ 53) × P k)) → (e ↔ (a ⊎ b))
    → e ↔ ((k : ℕ) × (first ≤ k) × (k ≤ last) × P k)
with-last e a b P first last le is before own both = (
  (λ h. elim (both.0 h) [
    | inl x ↦ let y = before.0 x in (y.0, y.1, omega (arith, y.2), y.3)
    | inr x ↦ let y = own.0 x in (y.0, omega (arith, y.1), omega (arith, y.2), y.3)
  ]),
  (λ y. both.1 (elim (cases_lt y.0 53) [
    | inl lt ↦ inl (before.1 (y.0, y.1, omega (arith, lt), y.3))
    | inr ge ↦ inr (own.1 (y.0, omega (arith, ge), omega (arith, y.2), y.3))
  ])),
)

-- alternatives, one of which is the same
pub along : (e b p q : Type 0) → (p ↔ q) → (e ↔ (b ⊎ p)) → e ↔ (b ⊎ q)
along e b p q same all = (
  (λ h. elim (all.0 h) [ inl x ↦ inl x | inr x ↦ inr (same.0 x) ]),
  (λ h. all.1 (elim h [ inl x ↦ inl x | inr x ↦ inr (same.1 x) ])),
)

-- What holds so far or has a number that is left is all: so it is with one more run, which has the next of these numbers.
pub one_more-run : (e so run all : Type 0) (P : ℕ → Type 0) (begin end next last : ℕ) → begin ≤ next → next ≤ last
    → next ≡ end + 1 → (run ↔ ((k : ℕ) × (begin ≤ k) × (k ≤ end) × P k)) → (e ↔ (so ⊎ run))
    → ((so ⊎ ((k : ℕ) × (begin ≤ k) × (k ≤ last) × P k)) ↔ all)
    → (e ⊎ ((k : ℕ) × (next ≤ k) × (k ≤ last) × P k)) ↔ all
one_more-run e so run all P begin end next last later within is own both before = (
  (λ h. before.0 (elim h [
    | inl x ↦ elim (both.0 x) [
      | inl y ↦ inl y
      | inr y ↦ let k = own.0 y in inr (k.0, k.1, omega (arith, k.2), k.3)
    ]
    | inr k ↦ inr (k.0, omega (arith, k.1), k.2, k.3)
  ])),
  (λ h. elim (before.1 h) [
    | inl y ↦ inl (both.1 (inl y))
    | inr k ↦ elim (cases_lt k.0 next) [
      | inl lt ↦ inl (both.1 (inr (own.1 (k.0, k.1, omega (arith, lt), k.3))))
      | inr ge ↦ inr (k.0, omega (arith, ge), k.2, k.3)
    ]
  ]),
)

-- a hundred years more are one run more
pub later-run : (left : ℕ) → (left + 100) / 100 ≡ left / 100 + 1
later-run left =
    let whole = div-add-mod' left 100 in
    let e : left + 100 ≡ (left / 100 + 1) * 100 + left % 100 = omega (arith, whole) in
    rw e (div-mul-add (left / 100 + 1) 100 (left % 100) (mod-lt left (omega arith)))

-- so many runs are left after one of a hundred years
pub runs-left : (begin last before more all : ℕ) → begin + 100 ≤ last → more ≡ before + 1
    → before + ((last - begin) / 100 + 1) ≡ all → more + ((last - (begin + 100)) / 100 + 1) ≡ all
runs-left begin last before more all within is count =
    let e : last - begin ≡ (last - (begin + 100)) + 100 = omega (arith, within) in
    let one = later-run (last - (begin + 100)) in
    let told : before + (((last - (begin + 100)) + 100) / 100 + 1) ≡ all = rw e at count in
    omega (arith, is, one, told)
