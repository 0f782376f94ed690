-- Longest runs at the front of bytes.
use Rattle.std.proofs.Common.{◌≡◌, ℕ, zero, suc, ◌+◌, ◌<◌, ◌≤◌, Bool, true, false, cond, List, [], ◌∷◌, ◌++◌, length, drop, take}
use Rattle.std.proofs.Common.{get_or, refl, sym, ap, subst, ◌∙◌, arith}
use Rattle.std.specs.Prelude.{◌&&◌}
use Rattle.std.specs.List.{list_all, prefix_len, take_while}
use Rattle.std.proofs.lemmas.List.{take-append-drop}
use Rattle.std.proofs.Math.Seq.{take-append_seam}
use Rattle.gtd_scan.specs.Runs.{begins, IsRun}

pub and_left : (a b : Bool) → (a && b) ≡ true → a ≡ true
and_left true b e = refl
and_left false b e = absurd cc

pub and_right : (a b : Bool) → (a && b) ≡ true → b ≡ true
and_right true b e = e
and_right false b e = absurd cc

pub all_at : (is : ℕ → Bool) (run : List ℕ) (i : ℕ) → i < length run → list_all is run ≡ true → is (get_or run i 0) ≡ true
all_at is [] i here all = absurd (omega arith)
all_at is (x ∷ xs) zero here all = and_left (is x) (list_all is xs) all
all_at is (x ∷ xs) (suc i) here all = all_at is xs i (omega arith) (and_right (is x) (list_all is xs) all)

by_first : (is : ℕ → Bool) (b : Bool) (x : ℕ) (xs : List ℕ) → is x ≡ b → list_all is (take_while is xs) ≡ true
    → list_all is (take (cond b (1 + prefix_len is xs) 0) (x ∷ xs)) ≡ true
by_first is true x xs e h =
    let one : 1 + prefix_len is xs ≡ suc (prefix_len is xs) = omega arith in
    ap (λ (n : ℕ). list_all is (take n (x ∷ xs))) one ∙ ap (λ (b : Bool). b && list_all is (take_while is xs)) e ∙ h
by_first is false x xs e h = refl

-- what is counted are such bytes
pub front_all : (is : ℕ → Bool) (bytes : List ℕ) → list_all is (take_while is bytes) ≡ true
front_all is [] = refl
front_all is (x ∷ xs) = by_first is (is x) x xs refl (front_all is xs)

after_first : (is : ℕ → Bool) (b : Bool) (x : ℕ) (xs : List ℕ) → is x ≡ b → begins is (drop (prefix_len is xs) xs) ≡ false
    → begins is (drop (cond b (1 + prefix_len is xs) 0) (x ∷ xs)) ≡ false
after_first is true x xs e h =
    let one : 1 + prefix_len is xs ≡ suc (prefix_len is xs) = omega arith in
    ap (λ (n : ℕ). begins is (drop n (x ∷ xs))) one ∙ h
after_first is false x xs e h = e

-- and no more follow
pub after_front : (is : ℕ → Bool) (bytes : List ℕ) → begins is (drop (prefix_len is bytes) bytes) ≡ false
after_front is [] = refl
after_front is (x ∷ xs) = after_first is (is x) x xs refl (after_front is xs)

pub front_run : (is : ℕ → Bool) (bytes : List ℕ) → IsRun is (take_while is bytes) (drop (prefix_len is bytes) bytes)
front_run is bytes = (front_all is bytes, after_front is bytes)

pub front_split : (is : ℕ → Bool) (bytes : List ℕ) → bytes ≡ take_while is bytes ++ drop (prefix_len is bytes) bytes
front_split is bytes = sym (take-append-drop (prefix_len is bytes) bytes)

step : (b : Bool) (n m : ℕ) → b ≡ true → n ≡ m → cond b (1 + n) 0 ≡ suc m
step true n m e h = omega (arith, h)
step false n m e h = absurd cc

stop : (b : Bool) (n : ℕ) → b ≡ false → cond b (1 + n) 0 ≡ 0
stop false n e = refl
stop true n e = absurd cc

-- a longest run is what is counted
pub run_length : (is : ℕ → Bool) (run rest : List ℕ) → IsRun is run rest → prefix_len is (run ++ rest) ≡ length run
run_length is [] [] h = refl
run_length is [] (x ∷ rest) h = stop (is x) _ h.1
run_length is (x ∷ run) rest h =
    step (is x) _ _ (and_left (is x) (list_all is run) h.0)
    (run_length is run rest (and_right (is x) (list_all is run) h.0, h.1))

pub run_front : (is : ℕ → Bool) (run rest : List ℕ) → IsRun is run rest → take_while is (run ++ rest) ≡ run
run_front is run rest h = ap (λ (n : ℕ). take n (run ++ rest)) (run_length is run rest h) ∙ take-append_seam run rest

drop_length : (run rest : List ℕ) → drop (length run) (run ++ rest) ≡ rest
drop_length [] rest = refl
drop_length (x ∷ run) rest = drop_length run rest

pub run_after : (is : ℕ → Bool) (run rest : List ℕ) → IsRun is run rest → drop (prefix_len is (run ++ rest)) (run ++ rest) ≡ rest
run_after is run rest h = ap (λ (n : ℕ). drop n (run ++ rest)) (run_length is run rest h) ∙ drop_length run rest

pub front_length : (is : ℕ → Bool) (bytes : List ℕ) → prefix_len is bytes ≡ length (take_while is bytes)
front_length is bytes =
    ap (prefix_len is) (front_split is bytes)
    ∙ run_length is (take_while is bytes) (drop (prefix_len is bytes) bytes) (front_run is bytes)

some_first : (is : ℕ → Bool) (b : Bool) (x : ℕ) (xs : List ℕ) → b ≡ true
    → 1 ≤ length (take (cond b (1 + prefix_len is xs) 0) (x ∷ xs))
some_first is true x xs e =
    let one : 1 + prefix_len is xs ≡ suc (prefix_len is xs) = omega arith in
    subst (λ (n : ℕ). 1 ≤ length (take n (x ∷ xs))) (sym one) (omega arith)
some_first is false x xs e = absurd cc

pub some_front : (is : ℕ → Bool) (x : ℕ) (xs : List ℕ) → is x ≡ true → 1 ≤ length (take_while is (x ∷ xs))
some_front is x xs e = some_first is (is x) x xs e
