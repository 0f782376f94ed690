-- A text is one list of tokens, of which all else is computed.
use Rattle.std.proofs.Common.{◌≡◌, ◌∙◌, ℕ, List, sym, ap}
use Rattle.gtd_hours_times.specs.declared.times.TimeToken.{TimeToken}
use Rattle.gtd_hours_times.specs.Tokens.{AreTimeTokens}
use Rattle.gtd_hours_moments.specs.declared.clocks.Clocks.{Clocks}
use Rattle.gtd_hours_moments.specs.declared.placed.PlacedText.{PlacedText}
use Rattle.gtd_hours_moments.specs.declared.text.MomentText.{MomentText}
use Rattle.gtd_hours_moments.specs.Checked.{checked_puts}
use Rattle.gtd_hours_moments.specs.Parts.{breaks_off, forms_of, parts_of, told_of}
use Rattle.gtd_hours_moments.specs.Places.{places_from, text_of}
use Rattle.gtd_hours_moments.specs.Plain.{plain_puts}
use Rattle.gtd_hours_moments.specs.Reading.{IsMomentText, IsPlainText}

module _ (one_list : (text : List ℕ) (one other : List TimeToken) → AreTimeTokens text one → AreTimeTokens text other
    → one ≡ other) where
  pub one_checked : (text : List ℕ) (a b : MomentText) → IsMomentText text a → IsMomentText text b
      → a.checked.text.items ≡ b.checked.text.items
  one_checked text a b p q =
      p.has.checked.text
      ∙ ap (λ (ts : List TimeToken). text_of (checked_puts text (parts_of ts))) (one_list text p.tokens q.tokens p.are q.are)
      ∙ sym q.has.checked.text

  pub one_places : (text : List ℕ) (a b : MomentText) → IsMomentText text a → IsMomentText text b
      → a.checked.places.items ≡ b.checked.places.items
  one_places text a b p q =
      p.has.checked.places
      ∙ ap (λ (ts : List TimeToken). places_from 0 (checked_puts text (parts_of ts)))
      (one_list text p.tokens q.tokens p.are q.are)
      ∙ sym q.has.checked.places

  pub one_told : (text : List ℕ) (a b : MomentText) → IsMomentText text a → IsMomentText text b → a.told.items ≡ b.told.items
  one_told text a b p q =
      p.has.told
      ∙ ap (λ (ts : List TimeToken). told_of (parts_of ts)) (one_list text p.tokens q.tokens p.are q.are)
      ∙ sym q.has.told

  pub one_forms : (text : List ℕ) (a b : MomentText) → IsMomentText text a → IsMomentText text b
      → a.forms.items ≡ b.forms.items
  one_forms text a b p q =
      p.has.forms
      ∙ ap (λ (ts : List TimeToken). forms_of (parts_of ts)) (one_list text p.tokens q.tokens p.are q.are)
      ∙ sym q.has.forms

  pub one_end : (text : List ℕ) (a b : MomentText) → IsMomentText text a → IsMomentText text b → a.breaks_off ≡ b.breaks_off
  one_end text a b p q =
      p.has.breaks
      ∙ ap (λ (ts : List TimeToken). breaks_off (parts_of ts)) (one_list text p.tokens q.tokens p.are q.are)
      ∙ sym q.has.breaks

  pub one_plain : (clocks : Clocks) (text : List ℕ) (a b : PlacedText) → IsPlainText clocks text a → IsPlainText clocks text b
      → a.text.items ≡ b.text.items
  one_plain clocks text a b p q =
      p.holds.text
      ∙ ap (λ (ts : List TimeToken). text_of (plain_puts clocks text (parts_of ts)))
      (one_list text p.tokens q.tokens p.are q.are)
      ∙ sym q.holds.text
