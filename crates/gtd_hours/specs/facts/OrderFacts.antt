-- The order of two ends, by the days that are computed.
use Rattle.std.proofs.Common.{◌≡◌, true, ℤ, pos, ◌+ℤ◌, Bool}
use Rattle.gtd_hours.specs.Moving.{AreInOrder, is_yearly, last_year}
use Rattle.gtd_hours.specs.ComputedPlaces.{IsInOrder, end_day}
use Rattle.gtd_hours.specs.declared.places.End.{End}
use Rattle.gtd_hours.specs.facts.PlaceFacts.{end-is, end-only}

pub order-to : (over : Bool) (first last : End) → is_yearly first ≡ true → is_yearly last ≡ true
    → AreInOrder over first last → (y : ℤ) → IsInOrder over first last y
order-to over first last f l h y =
    let b = end-is last (last_year over y) l in (
      h.0 y (end_day first y) (end_day last (last_year over y)) (end-is first y f) b,
      h.1 y (end_day last (last_year over y)) (end_day first (y +ℤ pos 1)) b (end-is first (y +ℤ pos 1) f),
    )

pub order-from : (over : Bool) (first last : End) → ((y : ℤ) → IsInOrder over first last y) → AreInOrder over first last
order-from over first last each = (
  (λ y a b x z. rw (end-only first y a x, end-only last (last_year over y) b z) (each y).0),
  (λ y b c x z. rw (end-only last (last_year over y) b x, end-only first (y +ℤ pos 1) c z) (each y).1),
)
