-- Two halves that overlap are the whole.
use Rattle.std.proofs.Common.{◌≡◌, ◌∙◌, List, [], ◌∷◌, ◌++◌, zero, suc, refl, sym, ap, arith, ℕ, ◌+◌, ◌≤◌, length, take, drop, append_assoc}
use Rattle.std.proofs.lemmas.List.{take-append-drop, take-append-le}
use Rattle.std.proofs.lemmas.Slice.{drop-append-drop}

drop-more : (k n : ℕ) (xs : List ℕ) → drop n (drop k xs) ≡ drop (k + n) xs
drop-more zero n xs = let e : zero + n ≡ n = omega arith in rw e refl
drop-more (suc k) n [] = none n ∙ let e : suc k + n ≡ suc (k + n) = omega arith in rw e refl
  where
    none : (n : ℕ) → drop {A = ℕ} n [] ≡ []
    none zero = refl
    none (suc n) = refl
drop-more (suc k) n (x ∷ xs) = drop-more k n xs ∙ let e : suc k + n ≡ suc (k + n) = omega arith in rw e refl

take-less : (k n : ℕ) (xs : List ℕ) → k ≤ n → take k (take n xs) ≡ take k xs
take-less zero n xs h = refl
take-less (suc k) zero xs h = absurd (omega (arith, h))
take-less (suc k) (suc n) [] h = refl
take-less (suc k) (suc n) (x ∷ xs) h = ap (λ (l : List ℕ). x ∷ l) (take-less k n xs (omega (arith, h)))

length-first : (n : ℕ) (xs : List ℕ) → n ≤ length xs → length (take n xs) ≡ n
length-first zero xs h = refl
length-first (suc n) [] h = absurd (omega (arith, h))
length-first (suc n) (x ∷ xs) h = let i = length-first n xs (omega (arith, h)) in omega (arith, i)

pub halves : (n k : ℕ) (b t first : List ℕ) → length b ≡ n → 32 ≤ n → n ≤ 64 → k + 32 ≡ n → first ≡ take 32 b ++ drop 32 t
    → take k first ++ (drop k b ++ drop 32 (drop k first)) ≡ b ++ drop n t
halves n k b t first len least most is e =
    let l : length (take 32 b) ≡ 32 = length-first 32 b (omega (arith, len, least)) in
    let front : take k first ≡ take k b =
    ap (take k) e ∙ take-append-le k (take 32 b) (drop 32 t) (omega (arith, l, most, is)) ∙ take-less k 32 b (omega (arith, most, is)) in
    let rest : drop 32 (drop k first) ≡ drop n t =
    drop-more k 32 first ∙ ap (λ (m : ℕ). drop m first) is ∙ ap (drop n) e ∙ drop-append-drop 32 t (take 32 b) n least l in
    rw (front, rest) (sym (append_assoc (take k b) (drop k b) (drop n t)) ∙ ap (λ (l : List ℕ). l ++ drop n t) (take-append-drop k b))

pub halves-are : (n k : ℕ) (b t first front back behind : List ℕ) → length b ≡ n → 32 ≤ n → n ≤ 64 → k + 32 ≡ n
    → first ≡ take 32 b ++ drop 32 t → front ≡ take k first → back ≡ drop k b → behind ≡ drop 32 (drop k first)
    → front ++ (back ++ behind) ≡ b ++ drop n t
halves-are n k b t first front back behind len least most is e f g h = rw (f, g, h) (halves n k b t first len least most is e)
