-- What the forms of a moment's text stand for.
use Rattle.std.proofs.Common.{◌≡◌, ◌∙◌, refl, sym, ap, subst, arith, ℕ, suc, Bool, true, false, List, ◌∷◌, ◌++◌, length}
use Rattle.std.proofs.lemmas.Bool.Decides.{nat_tests}
use Rattle.std.specs.Prelude.{codes, drop, if◌then◌else◌, nat_lt, take, Some, None, Ok, Err}
use Rattle.gtd_core.specs.declared.second.Sec.{Sec}
use Rattle.gtd_calendar.specs.Clock.{IsStampText, four_digits, two_digits}
use Rattle.gtd_calendar.specs.Read.{IsReadStamp, stamp_in}
use Rattle.gtd_calendar.specs.declared.stamp.StampFault.TheVariants.{Shape}
use Rattle.gtd_moments.specs.Moments.{HasFraction, IsOfMinutes, IsSpaced, may_follow, moment_in, read_parts, with_letter}

-- a text as long as that of a second is not too short
long : (n : ℕ) → nat_lt (suc (suc (suc (suc (suc (suc (suc (suc (suc (suc (suc (suc (suc (suc (suc (suc (suc (suc (suc
    n))))))))))))))))))) 16 ≡ false
long n = grind (arith, nat_tests)

module _ (year month day hour minute second : ℕ) where
  abbrev pub shown : List ℕ
  shown =
      four_digits year ++ codes "-" ++ two_digits month ++ codes "-" ++ two_digits day ++ codes "T" ++ two_digits hour
      ++ codes ":" ++ two_digits minute ++ codes ":" ++ two_digits second

  shown_same : moment_in shown ≡ stamp_in shown
  unfolding stamp_in
  shown_same = refl

  shown_spaced : moment_in (take 10 shown ++ (32 ∷ drop 11 shown)) ≡ stamp_in shown
  unfolding stamp_in
  shown_spaced = refl

  shown_fraction : (fraction : List ℕ) → may_follow fraction ≡ true → moment_in (shown ++ fraction) ≡ stamp_in shown
  shown_fraction fraction may =
      ap (λ (b : Bool). if b then Err Shape
      else read_parts (take 16 shown) (if may_follow fraction then Some (drop 16 shown) else None)) (long (length fraction))
      ∙ ap (λ (b : Bool). read_parts (take 16 shown) (if b then Some (drop 16 shown) else None)) may

  shown_minutes : drop 16 shown ≡ codes ":00" → moment_in (take 16 shown) ≡ stamp_in shown
  unfolding stamp_in
  shown_minutes e = ap (λ (s : List ℕ). stamp_in (with_letter (take 16 shown) ++ s)) (sym e)

-- the text of a second, and what a text stands for that is made of it
by_text : (text : List ℕ) (s : _) → IsStampText s text → (P : List ℕ → Type 0)
    → ((year month day hour minute second : ℕ) → P (shown year month day hour minute second)) → P text
by_text text s (number, year, month, day, hour, minute, second, year_in, date, time, is) P each =
    subst P (sym is) (each year month day hour minute second)

module _ (text : List ℕ) (second : Sec) (read : IsReadStamp text (Ok second)) (is : stamp_in text ≡ Ok second) where
  pub same : moment_in text ≡ Ok second
  same = by_text text second.0 read.0 (λ t. moment_in t ≡ stamp_in t) shown_same ∙ is

  pub spaced : (short : List ℕ) → IsSpaced text short → moment_in short ≡ Ok second
  spaced short form =
      ap moment_in form.is
      ∙ by_text text second.0 read.0 (λ t. moment_in (take 10 t ++ (32 ∷ drop 11 t)) ≡ stamp_in t) shown_spaced ∙ is

  pub fraction : (long_text : List ℕ) → HasFraction text long_text → moment_in long_text ≡ Ok second
  fraction long_text form =
      ap moment_in form.is
      ∙ by_text text second.0 read.0 (λ t. moment_in (t ++ form.fraction) ≡ stamp_in t)
      (λ y m d h mi s. shown_fraction y m d h mi s form.fraction form.may_follow) ∙ is

  pub minutes : (short : List ℕ) → IsOfMinutes text short → moment_in short ≡ Ok second
  minutes short form =
      ap moment_in form.is
      ∙ by_text text second.0 read.0 (λ t. drop 16 t ≡ codes ":00" → moment_in (take 16 t) ≡ stamp_in t) shown_minutes
      form.seconds ∙ is
