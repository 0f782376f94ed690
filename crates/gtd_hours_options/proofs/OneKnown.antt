-- A text stands for hours that are alike wherever it stands for some, or has one first fault.
use Rattle.std.proofs.Common.{◌≡◌, ◌∙◌, sym, ap, subst, inl, inr, ℕ, List, [], ◌∷◌, map}
use Rattle.gtd_hours.specs.declared.hours.Hours.{Hours}
use Rattle.gtd_hours_moves.specs.Terms.{Piece}
use Rattle.gtd_hours_grammar.specs.Faults.{IsFirstFault, IsHoursText}
use Rattle.gtd_hours_grammar.specs.declared.fault.HoursFault.{HoursFault}
use Rattle.gtd_hours_items.specs.Comments.{IsBadPlace}
use Rattle.gtd_hours_holiday_rules.specs.Reading.{IsHolidayText}
use Rattle.gtd_hours_holiday_rules.specs.Rules.{Said, said_by}
use Rattle.gtd_hours_holiday_rules.specs.Told.{told_fault}
use Rattle.gtd_hours_holiday_rules.specs.declared.rules.HolidayRule.{HolidayRule}
use Rattle.gtd_hours_holiday_rules.specs.declared.text.HolidayText.{HolidayText}
use Rattle.gtd_hours_holiday_rules.specs.declared.told.Told.{Told}
use Rattle.gtd_hours_known.specs.Faults.{bad_token, told}
use Rattle.gtd_hours_known.specs.Needs.{first_need}
use Rattle.gtd_hours_known.specs.Reading.{IsHolidayFault, IsKnown, IsKnownFault, IsOtherFault, IsSound, KnownStandsFor}
use Rattle.gtd_hours_known.specs.Rules.{AreAllStrict, IsRuleFault}
use Rattle.gtd_hours_known.specs.declared.fault.KnownFault.{KnownFault}
use Rattle.gtd_hours_known.specs.declared.fault.KnownFault.TheVariants as of_text
use Rattle.gtd_hours_known.specs.declared.known.Known.{Known}
use Rattle.gtd_hours_known.specs.declared.known.KnownHours.{KnownHours}
use Rattle.gtd_hours_loose.specs.Reading.{IsStrict}
use Rattle.gtd_hours_text.specs.facts.OneMeaning.{same_rules}
use Rattle.gtd_hours_options.proofs.Alike.{AreAllAlike}
use Rattle.gtd_hours_options.proofs.AlikeDays.{alike_same}
use Rattle.gtd_hours_options.proofs.OneRules.{covered_apart, first_need_same, not_both, one_head, one_tail, rules_alike}
use Rattle.gtd_hours_options.proofs.OneRules.{same_uncovered, the_one}
use Rattle.gtd_hours_options.proofs.RuleFaults.{one_rule_fault, one_text_fault, sound_rules, sound_text}

module _ (known : Known)
    (first_fault : (text : List ℕ) (one other : HoursFault) → IsFirstFault text one → IsFirstFault text other → one ≡ other)
    (faultless : (text : List ℕ) (p : List Piece) (bad : HoursFault) → IsHoursText text p → IsFirstFault text bad → ⊥)
    (one_place : (text : List ℕ) (one other : ℕ) → IsBadPlace text one → IsBadPlace text other → one ≡ other)
    (one_checked : (text : List ℕ) (one other : HolidayText) → IsHolidayText text one → IsHolidayText text other
    → one.checked.items ≡ other.checked.items)
    (one_rules : (text : List ℕ) (one other : HolidayText) → IsHolidayText text one → IsHolidayText text other
    → map said_by one.rules.items ≡ map said_by other.rules.items)
    (one_told : (text : List ℕ) (one other : HolidayText) → IsHolidayText text one → IsHolidayText text other
    → one.told.items ≡ other.told.items)
    (no_place : (text : List ℕ) (read : HolidayText) (place : ℕ) → IsHolidayText text read → IsBadPlace text place → ⊥) where
  -- ---- a text with rules

  -- two texts that are read of the same text
  record Same (f g : HolidayText) : Type 0 where
    checked : f.checked.items ≡ g.checked.items
    rules : map said_by f.rules.items ≡ map said_by g.rules.items
    told : f.told.items ≡ g.told.items

  same_texts : (text : List ℕ) (f g : HolidayText) → IsHolidayText text f → IsHolidayText text g → Same f g
  same_texts text f g p q = record {
    checked = one_checked text f g p q;
    rules = one_rules text f g p q;
    told = one_told text f g p q;
  }

  needs_same : (f g : HolidayText) → Same f g → first_need known f.rules.items ≡ first_need known g.rules.items
  needs_same f g same = first_need_same known f.rules.items g.rules.items same.rules

  checked_sound : (f g : HolidayText) (bad : HoursFault) → Same f g → IsStrict f.checked.items
      → IsFirstFault g.checked.items bad → ⊥
  checked_sound f g bad same is q = sound_text first_fault faultless f.checked.items g.checked.items bad same.checked is q

  one_holiday_fault : (f g : HolidayText) (a b : KnownFault) → Same f g → Same g f
      → IsHolidayFault known f a → IsHolidayFault known g b → a ≡ b
  one_holiday_fault f g a b s t (IsHolidayFault.checked x p e) (IsHolidayFault.checked y q d) =
      e
      ∙ ap (λ (bad : HoursFault). told (told_fault bad f.told.items))
      (one_text_fault first_fault faultless f.checked.items g.checked.items x y s.checked p q)
      ∙ ap (λ (l : List Told). told (told_fault y l)) s.told
      ∙ sym d
  one_holiday_fault f g a b s t (IsHolidayFault.checked x p e) (IsHolidayFault.own y u q d) =
      absurd (checked_sound g f x t u p)
  one_holiday_fault f g a b s t (IsHolidayFault.checked x p e) (IsHolidayFault.needed u q) =
      absurd (checked_sound g f x t u.checked p)
  one_holiday_fault f g a b s t (IsHolidayFault.own x u p e) (IsHolidayFault.checked y q d) =
      absurd (checked_sound f g y s u q)
  one_holiday_fault f g a b s t (IsHolidayFault.own x u p e) (IsHolidayFault.own y v q d) =
      e
      ∙ ap (λ (bad : HoursFault). of_text.Hours bad)
      (one_rule_fault first_fault faultless f.rules.items g.rules.items x y s.rules p q)
      ∙ sym d
  one_holiday_fault f g a b s t (IsHolidayFault.own x u p e) (IsHolidayFault.needed v q) =
      absurd (sound_rules first_fault faultless g.rules.items f.rules.items x t.rules v.rules p)
  one_holiday_fault f g a b s t (IsHolidayFault.needed u p) (IsHolidayFault.checked y q d) =
      absurd (checked_sound f g y s u.checked q)
  one_holiday_fault f g a b s t (IsHolidayFault.needed u p) (IsHolidayFault.own y v q d) =
      absurd (sound_rules first_fault faultless f.rules.items g.rules.items y s.rules u.rules q)
  one_holiday_fault f g a b s t (IsHolidayFault.needed u p) (IsHolidayFault.needed v q) =
      the_one (first_need known f.rules.items) (first_need known g.rules.items) a b (needs_same f g s) p q
  one_holiday_fault f g a b s t (IsHolidayFault.checked x p e) (IsHolidayFault.uncovered place day v n un d) =
      absurd (checked_sound g f x t v.checked p)
  one_holiday_fault f g a b s t (IsHolidayFault.own x u p e) (IsHolidayFault.uncovered place day v n un d) =
      absurd (sound_rules first_fault faultless g.rules.items f.rules.items x t.rules v.rules p)
  one_holiday_fault f g a b s t (IsHolidayFault.needed u p) (IsHolidayFault.uncovered place day v n un d) =
      absurd (not_both (first_need known g.rules.items) (first_need known f.rules.items) a (needs_same g f t) n p)
  one_holiday_fault f g a b s t (IsHolidayFault.uncovered place day u n un e) (IsHolidayFault.checked y q d) =
      absurd (checked_sound f g y s u.checked q)
  one_holiday_fault f g a b s t (IsHolidayFault.uncovered place day u n un e) (IsHolidayFault.own y v q d) =
      absurd (sound_rules first_fault faultless f.rules.items g.rules.items y s.rules u.rules q)
  one_holiday_fault f g a b s t (IsHolidayFault.uncovered place day u n un e) (IsHolidayFault.needed v q) =
      absurd (not_both (first_need known f.rules.items) (first_need known g.rules.items) b (needs_same f g s) n q)
  one_holiday_fault f g a b s t (IsHolidayFault.uncovered i x u n un e) (IsHolidayFault.uncovered j y v m also d) =
      let one = same_uncovered known f.rules.items g.rules.items i j x y s.rules un also in
      e ∙ (λ k. of_text.Uncovered (one.0 k) (one.1 k)) ∙ sym d

  not_both_so : (f g : HolidayText) (hours : Hours) (bad : KnownFault) → Same f g → IsSound f → IsKnown known f hours
      → IsHolidayFault known g bad → ⊥
  not_both_so f g hours bad s u is (IsHolidayFault.checked y q d) = checked_sound f g y s u.checked q
  not_both_so f g hours bad s u is (IsHolidayFault.own y v q d) =
      sound_rules first_fault faultless f.rules.items g.rules.items y s.rules u.rules q
  not_both_so f g hours bad s u is (IsHolidayFault.needed v q) =
      not_both (first_need known f.rules.items) (first_need known g.rules.items) bad (needs_same f g s) is.no_need q
  not_both_so f g hours bad s u is (IsHolidayFault.uncovered place day v n un d) =
      covered_apart known f.rules.items g.rules.items hours.rules.items place day s.rules is.rules un

  -- ---- any text

  one_other_fault : (text : List ℕ) (a b : KnownFault) → IsOtherFault known text a → IsOtherFault known text b → a ≡ b
  one_other_fault text a b (IsOtherFault.token i p e) (IsOtherFault.token j q d) =
      e ∙ ap bad_token (one_place text i j p q) ∙ sym d
  one_other_fault text a b (IsOtherFault.token i p e) (IsOtherFault.within g q u) = absurd (no_place text g i q p)
  one_other_fault text a b (IsOtherFault.within f p s) (IsOtherFault.token j q d) = absurd (no_place text f j p q)
  one_other_fault text a b (IsOtherFault.within f p s) (IsOtherFault.within g q u) =
      one_holiday_fault f g a b (same_texts text f g p q) (same_texts text g f q p) s u

  pub one_known_fault : (text : List ℕ) (a b : KnownFault) → IsKnownFault known text a → IsKnownFault known text b → a ≡ b
  one_known_fault text a b p q = one_other_fault text a b p.1 q.1

  listed_apart : (text : List ℕ) (f : HolidayText) (hours : Hours) (bad : KnownFault) → IsHolidayText text f → IsSound f
      → IsKnown known f hours → IsOtherFault known text bad → ⊥
  listed_apart text f hours bad p u is (IsOtherFault.token j q d) = no_place text f j p q
  listed_apart text f hours bad p u is (IsOtherFault.within g q v) =
      not_both_so f g hours bad (same_texts text f g p q) u is v

  pub known_apart : (text : List ℕ) (read : KnownHours) (bad : KnownFault) → KnownStandsFor known text read
      → IsKnownFault known text bad → ⊥
  known_apart text read bad (KnownStandsFor.plain stands marks) q = q.0 (stands.p, stands.is)
  known_apart text read bad (KnownStandsFor.listed f other p u is marks) q = listed_apart text f read.hours bad p u is q.1

  pub known_same : (text : List ℕ) (one also : KnownHours) → KnownStandsFor known text one → KnownStandsFor known text also
      → AreAllAlike one.hours.rules.items also.hours.rules.items
  known_same text one also (KnownStandsFor.plain stands marks) (KnownStandsFor.plain too more) =
      alike_same one.hours.rules.items also.hours.rules.items (same_rules text one.hours also.hours stands too)
  known_same text one also (KnownStandsFor.plain stands marks) (KnownStandsFor.listed g other q v so more) =
      absurd (other (stands.p, stands.is))
  known_same text one also (KnownStandsFor.listed f other p u is marks) (KnownStandsFor.plain too more) =
      absurd (other (too.p, too.is))
  known_same text one also (KnownStandsFor.listed f other p u is marks) (KnownStandsFor.listed g another q v so more) =
      rules_alike known f.rules.items g.rules.items one.hours.rules.items also.hours.rules.items
      (one_rules text f g p q) is.rules so.rules
