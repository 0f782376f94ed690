-- What stands at the places of a list, and in which order.
use Rattle.std.proofs.Common.{◌≡◌, refl, ◌<◌, ◌≤◌, ◌+◌, ℕ, zero, suc, List, [], ◌∷◌, length, map, get_or, arith, is_lt, false}
use Rattle.std.specs.Prelude.{slice_index_or}
use Rattle.std.specs.List.Sorted.{IsNonDecreasingBy, IsSorted}
use Rattle.std.specs.Ordering.{nat_cmp}
use Rattle.std.proofs.lemmas.List.{length-map}
use Rattle.std.proofs.lemmas.Bool.Decides.{nat_tests}
use Rattle.gtd_places.specs.declared.place.RowDirections.TheVariants.{Positive}
use Rattle.gtd_places.specs.declared.place.RowPlace.{RowPlace}
use Rattle.gtd_places.specs.declared.place.RowVehicles.TheVariants.{Every}

-- what stands past the end
abbrev pub nowhere : RowPlace
nowhere = record { element = 0; row = 0; directions = Positive; vehicles = Every }

pub by_le : {P : Type 0} (a b : ℕ) → (a ≤ b → P) → (b < a → P) → P
by_le zero b f g = f (omega arith)
by_le (suc a) zero f g = g (omega arith)
by_le (suc a) (suc b) f g = by_le a b (λ h. f (omega arith)) (λ h. g (omega arith))

-- an index within a list has one value, whatever comes past its end
pub any_default : {X : Type 0} (xs : List X) (k : ℕ) (d e : X) → k < length xs → slice_index_or xs k d ≡ slice_index_or xs k e
any_default [] k d e h = absurd (omega arith)
any_default (x ∷ xs) zero d e h = refl
any_default (x ∷ xs) (suc k) d e h = any_default xs k d e (omega arith)

not_less : (a b : ℕ) → b ≤ a → is_lt (nat_cmp a b) ≡ false
not_less a b h = grind (arith, nat_tests)

-- places that are ordered by element have elements in order
number_at : (places : List RowPlace) (k d : ℕ) (p : RowPlace) → k < length places
    → get_or (map (λ (q : RowPlace). q.element) places) k d
    ≡ (slice_index_or places k p).element
number_at [] k d p h = absurd (omega arith)
number_at (q ∷ places) zero d p h = refl
number_at (q ∷ places) (suc k) d p h = number_at places k d p (omega arith)

pub sorted_numbers : (places : List RowPlace) → IsNonDecreasingBy (λ (p : RowPlace). p.element) places
    → IsSorted nat_cmp (map (λ (p : RowPlace). p.element) places)
sorted_numbers places sorted = λ k d low high.
    let p : RowPlace = nowhere in
    let within : k + 1 < length places = rw length-map at high in
    rw (number_at places (k + 1) d p within, number_at places k d p (omega arith))
    (not_less _ _ (sorted k (k + 1) p (omega arith) within))
