-- What is read in brackets after other numbers: for `in_brackets`.
use Rattle.std.proofs.Common.{◌≡◌, refl, ℕ, suc, ◌+◌, ◌-◌, ◌<◌, false, List, [], ◌∷◌, ◌++◌, arith}
use Rattle.std.specs.Prelude.{Ok, Err}
use Rattle.std.proofs.lemmas.List.{append_assoc}
use Rattle.gtd_hours_text2.specs.declared.brackets.NthNumber.{NthNumber}
use Rattle.gtd_hours_text2.specs.Parts.{Read, before_nths, nth, nths}

pub before_nothing : (r : Read (List NthNumber)) → before_nths [] r ≡ r
before_nothing (Ok later) = refl
before_nothing (Err place) = refl

pub before_more : (xs ys : List NthNumber) → (r : Read (List NthNumber))
    → before_nths xs (before_nths ys r) ≡ before_nths (xs ++ ys) r
before_more xs ys (Ok later) = rw (append_assoc xs ys later.0) refl
before_more xs ys (Err place) = refl

-- the numbers up to one, from their first on
pub nths_more : (n m : ℕ) → n < m → nths n (m - n) ≡ nth n false ∷ nths (n + 1) (m - (n + 1))
nths_more n m below = rw (count n m below) refl
  where
    count : (n m : ℕ) → n < m → m - n ≡ suc (m - (n + 1))
    count n m below = omega arith

pub push_more : (out all : List NthNumber) → (x : NthNumber) → (n m : ℕ) → n < m → x ≡ nth n false
    → out ++ nths n (m - n) ≡ all → (out ++ x ∷ []) ++ nths (n + 1) (m - (n + 1)) ≡ all
push_more out all x n m below is h =
    rw (is, append_assoc out (nth n false ∷ []) (nths (n + 1) (m - (n + 1)))) (rw (nths_more n m below) at h)
