-- Answers that are remembered stay right.
use Rattle.std.proofs.Common.{refl, ℕ, zero, suc, List, [], ◌∷◌, ◌++◌, get_or, true}
use Rattle.std.specs.Prelude.{slice_set}
use Rattle.gtd_records.specs.Closing.{Restriction}
use Rattle.gtd_repeats.specs.Answers.{AreRight, IsRight}
use Rattle.gtd_repeats.specs.declared.answers.Answer.{Answer}

module _ (rows : List Restriction) where
  -- the answer of a place that has none
  abbrev pub first : Answer
  first = record { row = 0; other = 0; is_within = true }

  pub first_right : IsRight rows first
  first_right = ((λ said t in_range h. h), (λ h. refl))

  pushed : (xs : List Answer) → ((k : ℕ) → IsRight rows (get_or xs k first)) → (k : ℕ)
      → IsRight rows (get_or (xs ++ first ∷ []) k first)
  pushed [] h zero = first_right
  pushed [] h (suc k) = first_right
  pushed (x ∷ xs) h zero = h 0
  pushed (x ∷ xs) h (suc k) = pushed xs (λ j. h (suc j)) k

  put : (xs : List Answer) (place : ℕ) (x : Answer) → ((k : ℕ) → IsRight rows (get_or xs k first)) → IsRight rows x → (k : ℕ)
      → IsRight rows (get_or (slice_set xs place x) k first)
  put [] place x h right k = h k
  put (y ∷ xs) zero x h right zero = right
  put (y ∷ xs) zero x h right (suc k) = h (suc k)
  put (y ∷ xs) (suc place) x h right zero = h 0
  put (y ∷ xs) (suc place) x h right (suc k) = put xs place x (λ j. h (suc j)) right k

  pub none_right : AreRight rows []
  none_right = record { each = λ k. first_right }

  pub more_right : (xs : List Answer) → AreRight rows xs → AreRight rows (xs ++ first ∷ [])
  more_right xs are = record { each = pushed xs are.each }

  pub kept_right : (xs : List Answer) (place : ℕ) (x : Answer) → AreRight rows xs → IsRight rows x
      → AreRight rows (slice_set xs place x)
  kept_right xs place x are right = record { each = put xs place x are.each right }
