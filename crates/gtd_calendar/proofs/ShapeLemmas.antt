-- The numbers of a text that has a shape, computed.
use Rattle.std.proofs.Common.{◌≡◌, ℕ, ◌+◌, ◌-◌, ◌*◌, ◌/◌, ◌%◌, ◌<◌, List, ◌∷◌, Option, Some, None, refl, sym, ap}
use Rattle.std.proofs.Common.{arith}
use Rattle.std.specs.Prelude.{slice_index, bytes_eq}
use Rattle.std.specs.Cmp.Lexicographic.{bytes_decides}
use Rattle.std.proofs.lemmas.Bool.{cond_both}
use Rattle.std.proofs.lemmas.Option.{none-some}
use Rattle.gtd_calendar.specs.Stamp.{ymd_text, hms_text, IsYmdText, IsHmsText}
use Rattle.gtd_calendar.specs.Read.{two_at, ymd_if, hms_if, ymd_in, hms_in}
use Rattle.gtd_calendar.specs.ReadParts.{IsYmd, IsHms}

two-value : (n : ℕ) → n < 100 → 10 * (48 + n / 10 % 10 - 48) + (48 + n % 10 - 48) ≡ n
two-value n low = omega arith

four-value : (n : ℕ) → n < 10000 → 100 * (10 * (48 + n / 1000 % 10 - 48) + (48 + n / 100 % 10 - 48))
    + (10 * (48 + n / 10 % 10 - 48) + (48 + n % 10 - 48)) ≡ n
four-value n low = omega arith

-- two bytes that are digits stand for a number below 100, and four for one below 10000
two-low : (a b p q : ℕ) → a ≡ 48 + p % 10 → b ≡ 48 + q % 10 → 10 * (a - 48) + (b - 48) < 100
two-low a b p q e f = omega arith

four-low : (a b c d p q r s : ℕ) → a ≡ 48 + p % 10 → b ≡ 48 + q % 10 → c ≡ 48 + r % 10 → d ≡ 48 + s % 10
    → 100 * (10 * (a - 48) + (b - 48)) + (10 * (c - 48) + (d - 48)) < 10000
four-low a b c d p q r s e f g h = omega arith

-- the numbers at the places of a date are those that it shows
ymd-places : (text : List ℕ) (y m d : ℕ) → IsYmdText text y m d → (100 * two_at text 0 + two_at text 2 ≡ y)
    × (two_at text 5 ≡ m) × (two_at text 8 ≡ d)
ymd-places text y m d h =
    let at : (i : ℕ) → slice_index text i ≡ slice_index (ymd_text y m d) i = λ i. ap (λ t. slice_index t i) h.is in (
      rw (at 0, at 1, at 2, at 3) (four-value y h.year_in),
      rw (at 5, at 6) (two-value m h.month_in),
      rw (at 8, at 9) (two-value d h.day_in),
    )

-- a text made of some numbers is a date with the numbers at its places
ymd-made : (text : List ℕ) (y m d : ℕ) → y ≡ 100 * two_at text 0 + two_at text 2 → m ≡ two_at text 5 → d ≡ two_at text 8
    → text ≡ ymd_text y m d → IsYmdText text y m d
ymd-made text y m d e f g is =
    let at : (i : ℕ) → slice_index text i ≡ slice_index (ymd_text y m d) i = λ i. ap (λ t. slice_index t i) is in
    record {
      year_in = rw e (four-low _ _ _ _ (y / 1000) (y / 100) (y / 10) y (at 0) (at 1) (at 2) (at 3));
      month_in = rw f (two-low _ _ (m / 10) m (at 5) (at 6));
      day_in = rw g (two-low _ _ (d / 10) d (at 8) (at 9));
      is = is;
    }

-- a text of the shape gives the numbers that it shows
pub ymd_in-is : (text : List ℕ) (y m d : ℕ) → IsYmdText text y m d → ymd_in text ≡ Some (y, m, d)
unfolding ymd_in
ymd_in-is text y m d h =
    let at = ymd-places text y m d h in
    same text y m d _ _ _ at.0 at.1 at.2 h.is
  where
    same : (text : List ℕ) (y m d a b c : ℕ) → a ≡ y → b ≡ m → c ≡ d → text ≡ ymd_text y m d
        → ymd_if text a b c ≡ Some (y, m, d)
    same text y m d a b c e f g is = rw (e, f, g, (bytes_decides text (ymd_text y m d)).1 is) refl

-- what is computed of a text are its numbers, if it has the shape
pub ymd_in-shape : (text : List ℕ) → IsYmd text (ymd_in text)
unfolding ymd_in
ymd_in-shape text = shape text _ _ _ refl refl refl (ymd_in-is text)
  where
    shape : (text : List ℕ) (y m d : ℕ) → y ≡ 100 * two_at text 0 + two_at text 2 → m ≡ two_at text 5
        → d ≡ two_at text 8
        → ((a b c : ℕ) → IsYmdText text a b c → ymd_if text y m d ≡ Some (a, b, c)) → IsYmd text (ymd_if text y m d)
    shape text y m d e f g is =
        cond_both (bytes_eq text (ymd_text y m d)) (Some (y, m, d)) None (IsYmd text)
        (λ t. ymd-made text y m d e f g ((bytes_decides text (ymd_text y m d)).0 t))
        (λ t a b c h. none-some (a, b, c) (rw t at (is a b c h)))

-- the numbers that the shape gives are those that are computed
pub ymd-only : (text : List ℕ) (r : Option (ℕ × ℕ × ℕ)) → IsYmd text r → r ≡ ymd_in text
ymd-only text (Some x) h = sym (ymd_in-is text x.0 x.1 x.2 h)
ymd-only text None h = none text (ymd_in text) (ymd_in-shape text) h
  where
    none : (text : List ℕ) (r : Option (ℕ × ℕ × ℕ)) → IsYmd text r → ((y m d : ℕ) → IsYmdText text y m d → ⊥) → None ≡ r
    none text None h never = refl
    none text (Some x) h never = absurd (never x.0 x.1 x.2 h)

-- the same for clocks
hms-places : (text : List ℕ) (h m s : ℕ) → IsHmsText text h m s → (two_at text 1 ≡ h) × (two_at text 4 ≡ m)
    × (two_at text 7 ≡ s)
hms-places text h m s is =
    let at : (i : ℕ) → slice_index text i ≡ slice_index (84 ∷ hms_text h m s) i = λ i. ap (λ t. slice_index t i)
    is.is in (
      rw (at 1, at 2) (two-value h is.hour_in),
      rw (at 4, at 5) (two-value m is.minute_in),
      rw (at 7, at 8) (two-value s is.second_in),
    )

hms-made : (text : List ℕ) (h m s : ℕ) → h ≡ two_at text 1 → m ≡ two_at text 4 → s ≡ two_at text 7
    → text ≡ 84 ∷ hms_text h m s → IsHmsText text h m s
hms-made text h m s e f g is =
    let at : (i : ℕ) → slice_index text i ≡ slice_index (84 ∷ hms_text h m s) i = λ i. ap (λ t. slice_index t i) is in
    record {
      hour_in = rw e (two-low _ _ (h / 10) h (at 1) (at 2));
      minute_in = rw f (two-low _ _ (m / 10) m (at 4) (at 5));
      second_in = rw g (two-low _ _ (s / 10) s (at 7) (at 8));
      is = is;
    }

pub hms_in-is : (text : List ℕ) (h m s : ℕ) → IsHmsText text h m s → hms_in text ≡ Some (h, m, s)
unfolding hms_in
hms_in-is text h m s is =
    let at = hms-places text h m s is in
    same text h m s _ _ _ at.0 at.1 at.2 is.is
  where
    same : (text : List ℕ) (h m s a b c : ℕ) → a ≡ h → b ≡ m → c ≡ s → text ≡ 84 ∷ hms_text h m s
        → hms_if text a b c ≡ Some (h, m, s)
    same text h m s a b c e f g is = rw (e, f, g, (bytes_decides text (84 ∷ hms_text h m s)).1 is) refl

pub hms_in-shape : (text : List ℕ) → IsHms text (hms_in text)
unfolding hms_in
hms_in-shape text = shape text _ _ _ refl refl refl (hms_in-is text)
  where
    shape : (text : List ℕ) (h m s : ℕ) → h ≡ two_at text 1 → m ≡ two_at text 4 → s ≡ two_at text 7
        → ((a b c : ℕ) → IsHmsText text a b c → hms_if text h m s ≡ Some (a, b, c)) → IsHms text (hms_if text h m s)
    shape text h m s e f g is =
        cond_both (bytes_eq text (84 ∷ hms_text h m s)) (Some (h, m, s)) None (IsHms text)
        (λ t. hms-made text h m s e f g ((bytes_decides text (84 ∷ hms_text h m s)).0 t))
        (λ t a b c x. none-some (a, b, c) (rw t at (is a b c x)))
