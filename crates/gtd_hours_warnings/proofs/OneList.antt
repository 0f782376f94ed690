-- A text has one list of rules that say days alone, as it has one text in which a range of times stands for each form of times.
use Rattle.std.proofs.Common.{◌≡◌, ◌∙◌, sym, ap, subst, ℕ, List, length}
use Rattle.gtd_hours_holiday_rules.specs.Reading.{IsHolidayText}
use Rattle.gtd_hours_holiday_rules.specs.declared.text.HolidayText.{HolidayText}
use Rattle.gtd_hours_items.specs.Comments.{IsBadPlace}
use Rattle.gtd_hours_times.specs.Tokens.{AreTimeTokens, IsTimeFault}
use Rattle.gtd_hours_times.specs.declared.times.TimeToken.{TimeToken}
use Rattle.gtd_hours_moments.specs.Reading.{IsMomentText}
use Rattle.gtd_hours_moments.specs.declared.placed.Placed.{Placed}
use Rattle.gtd_hours_moments.specs.declared.text.MomentText.{MomentText}
use Rattle.gtd_hours_warnings.specs.WholeDays.{ArePlainDays, AreWholeDays, written_places}

module _ (one_days : (text : List ℕ) (one other : HolidayText) → IsHolidayText text one → IsHolidayText text other
    → one.whole_days.items ≡ other.whole_days.items)
    (no_place : (text : List ℕ) (read : HolidayText) (place : ℕ) → IsHolidayText text read → IsBadPlace text place → ⊥) where
  pub one_plain : (text one other : List ℕ) → ArePlainDays text one → ArePlainDays text other → one ≡ other
  one_plain text one other (ArePlainDays.read a p e) (ArePlainDays.read b q f) = e ∙ one_days text a b p q ∙ sym f
  one_plain text one other (ArePlainDays.read a p e) (ArePlainDays.unread j q f) = absurd (no_place text a j p q)
  one_plain text one other (ArePlainDays.unread i p e) (ArePlainDays.read b q f) = absurd (no_place text b i q p)
  one_plain text one other (ArePlainDays.unread i p e) (ArePlainDays.unread j q f) = e ∙ sym f

  module _ (one_checked : (text : List ℕ) (one other : MomentText) → IsMomentText text one → IsMomentText text other
      → one.checked.text.items ≡ other.checked.text.items)
      (one_places : (text : List ℕ) (one other : MomentText) → IsMomentText text one → IsMomentText text other
      → one.checked.places.items ≡ other.checked.places.items)
      (no_fault : (text : List ℕ) (tokens : List TimeToken) (place : ℕ) → AreTimeTokens text tokens → IsTimeFault text place
      → ⊥) where
    same_plain : (text : List ℕ) (m n : MomentText) (a b : List ℕ) → IsMomentText text m → IsMomentText text n
        → ArePlainDays m.checked.text.items a → ArePlainDays n.checked.text.items b → a ≡ b
    same_plain text m n a b p q x y =
        one_plain n.checked.text.items a b (subst (λ (t : List ℕ). ArePlainDays t a) (one_checked text m n p q) x) y

    pub one_list : (text one other : List ℕ) → AreWholeDays text one → AreWholeDays text other → one ≡ other
    one_list text one other (AreWholeDays.tokens m a p x e) (AreWholeDays.tokens n b q y f) =
        e
        ∙ ap (λ (l : List Placed). written_places (length text) l a) (one_places text m n p q)
        ∙ ap (written_places (length text) n.checked.places.items) (same_plain text m n a b p q x y)
        ∙ sym f
    one_list text one other (AreWholeDays.tokens m a p x e) (AreWholeDays.fault j q f) =
        absurd (no_fault text p.tokens j p.are q)
    one_list text one other (AreWholeDays.fault i p e) (AreWholeDays.tokens n b q y f) =
        absurd (no_fault text q.tokens i q.are p)
    one_list text one other (AreWholeDays.fault i p e) (AreWholeDays.fault j q f) = e ∙ sym f
