-- A text that has no mended text has one first fault.
use Rattle.std.proofs.Common.{◌≡◌, ◌∙◌, sym, ap, subst, inl, inr, ℕ, true, false, List, length}
use Rattle.gtd_hours_grammar.specs.Faults.{IsFirstFault, IsHoursText}
use Rattle.gtd_hours_grammar.specs.declared.fault.HoursFault.{HoursFault}
use Rattle.gtd_hours_moves.specs.Terms.{Piece}
use Rattle.gtd_hours_tokens.specs.Lexing.{IsTokenFault}
use Rattle.gtd_hours_tokens.specs.declared.token.Token.{Token}
use Rattle.gtd_hours_tokens.specs.facts.WholeText.{apart}
use Rattle.gtd_hours_items.specs.Comments.{IsBadPlace}
use Rattle.gtd_hours_items.specs.declared.items.Item.{Item}
use Rattle.gtd_hours_holiday_rules.specs.Parts.{parts_of}
use Rattle.gtd_hours_holiday_rules.specs.declared.parts.Part.{Part}
use Rattle.gtd_hours_times.specs.Tokens.{AreTimeTokens, IsTimeFault}
use Rattle.gtd_hours_times.specs.declared.times.TimeToken.{TimeToken}
use Rattle.gtd_hours_moments.specs.Reading.{IsMomentText}
use Rattle.gtd_hours_moments.specs.declared.text.MomentText.{MomentText}
use Rattle.gtd_hours_known.specs.Manners.{token_fault}
use Rattle.gtd_hours_known.specs.declared.fault.KnownFault.TheVariants as fault
use Rattle.gtd_hours_loose.specs.StrictForms.{IsStrictForm}
use Rattle.gtd_hours_loose.specs.declared.manner.Manner.TheVariants as manner
use Rattle.gtd_hours_loose.specs.declared.strict.StrictForm.{StrictForm}
use Rattle.gtd_hours_loose_tokens.specs.declared.token.DayNames.{DayNames}
use Rattle.gtd_hours_loose_tokens.specs.declared.token.TokenFault.{TokenFault}
use Rattle.gtd_hours_options.proofs.BadPlaces.{one_bad_place}
use Rattle.gtd_hours_options.proofs.OneWay.{no_form, one_token_fault, same_form_text, same_parts}
use Rattle.gtd_hours_options.proofs.RuleFaults.{one_rule_fault}
use Rattle.gtd_hours_options.specs.Manners.{placed_fault}
use Rattle.gtd_hours_options.specs.Readings.{AreReadInOneWay, HowRead}
use Rattle.gtd_hours_options.specs.Told.{bad_token}
use Rattle.gtd_hours_options.specs.declared.fault.OptionsFault.{OptionsFault}
use Rattle.gtd_hours_options.specs.declared.fault.OptionsFault.TheVariants as wrong
use Rattle.gtd_hours_options.specs.declared.fault.OptionsReadFault.TheVariants as reading
use Rattle.gtd_hours_mended.specs.Mending.{HasBadRule, HasBadRuleIn, HasBadRuleOf, IsCheckedFault, IsFaulty, IsFormFault}
use Rattle.gtd_hours_mended.specs.Mending.{IsMendStop, IsUnmended}
use Rattle.gtd_hours_mended.proofs.OneMended.{fault_with, same_items, same_tokens, sound_apart}
use Rattle.gtd_hours_mended.proofs.Quotes.{ends_whole, none_broken}
use Rattle.gtd_hours_mended.proofs.SoundQuotes.{sound_whole}

module _ (first_fault : (text : List ℕ) (one other : HoursFault) → IsFirstFault text one → IsFirstFault text other → one ≡ other)
    (faultless : (text : List ℕ) (p : List Piece) (bad : HoursFault) → IsHoursText text p → IsFirstFault text bad → ⊥)
    (one_byte : (text : List ℕ) (one other : ℕ) → IsTokenFault text one → IsTokenFault text other → one ≡ other)
    (one_times : (text : List ℕ) (one other : List TimeToken) → AreTimeTokens text one → AreTimeTokens text other → one ≡ other)
    (one_place : (text : List ℕ) (one other : ℕ) → IsTimeFault text one → IsTimeFault text other → one ≡ other)
    (no_place : (text : List ℕ) (tokens : List TimeToken) (place : ℕ) → AreTimeTokens text tokens → IsTimeFault text place → ⊥)
    (one_checked : (text : List ℕ) (one other : MomentText) → IsMomentText text one → IsMomentText text other
    → one.checked.text.items ≡ other.checked.text.items)
    (one_way : (how : HowRead) → AreReadInOneWay how) where
  -- ---- the rules of a checked text

  of_parts : (checked : List ℕ) (parts : List Part) (a b : HoursFault) → HasBadRuleOf checked parts a
      → HasBadRuleOf checked parts b → a ≡ b
  of_parts checked parts a b p q =
      one_rule_fault first_fault faultless p.found q.found a b (p.rules ∙ sym q.rules) p.own q.own

  of_tokens : (checked : List ℕ) (ts : List Token) (a b : HoursFault) → HasBadRuleIn checked ts a → HasBadRuleIn checked ts b
      → a ≡ b
  of_tokens checked ts a b p q =
      of_parts checked (parts_of q.items) a b
      (subst (λ (items : List Item). HasBadRuleOf checked (parts_of items) a)
      (same_items checked ts p.items q.items p.are q.are) p.has) q.has

  of_text : (checked : List ℕ) (a b : HoursFault) → HasBadRule checked a → HasBadRule checked b → a ≡ b
  of_text checked a b p q =
      of_tokens checked q.tokens a b
      (subst (λ (ts : List Token). HasBadRuleIn checked ts a) (same_tokens checked p.tokens q.tokens p.are q.are) p.has) q.has

  -- a text whose rules are told, and whose comments are whole, is whole tokens
  no_bad_place : (checked : List ℕ) (place : ℕ) (bad : HoursFault) → ends_whole false checked ≡ true → HasBadRule checked bad
      → IsBadPlace checked place → ⊥
  no_bad_place checked place bad whole p (inl byte) = apart checked p.tokens place p.are byte.fault
  no_bad_place checked place bad whole p (inr broken) = none_broken checked place whole broken

  checked_fault : (checked : List ℕ) (a b : OptionsFault) → ends_whole false checked ≡ true → IsCheckedFault checked a
      → IsCheckedFault checked b → a ≡ b
  checked_fault checked a b whole (IsCheckedFault.item i p e) (IsCheckedFault.item j q d) =
      e ∙ ap bad_token (one_bad_place one_byte checked i j p q) ∙ sym d
  checked_fault checked a b whole (IsCheckedFault.item i p e) (IsCheckedFault.own y q d) =
      absurd (no_bad_place checked i y whole q p)
  checked_fault checked a b whole (IsCheckedFault.own x p e) (IsCheckedFault.item j q d) =
      absurd (no_bad_place checked j x whole p q)
  checked_fault checked a b whole (IsCheckedFault.own x p e) (IsCheckedFault.own y q d) =
      e ∙ ap (λ (bad : HoursFault). wrong.Known (fault.Hours bad)) (of_text checked x y p q) ∙ sym d

  -- ---- a text as it is written

  faulty_fault : (text : List ℕ) (a b : OptionsFault) → IsFaulty text a → IsFaulty text b → a ≡ b
  faulty_fault text a b p q =
      (one_way (record { manner = manner.Strict; options = q.options })).fault text a b
      (fault_with p.options q.options text a p.nothing q.nothing p.fault) q.fault

  unmended_fault : (text : List ℕ) (a b : OptionsFault) → IsUnmended text a → IsUnmended text b → a ≡ b
  unmended_fault text a b (IsUnmended.faulty p) (IsUnmended.faulty q) = faulty_fault text a b p q
  unmended_fault text a b (IsUnmended.faulty p) (IsUnmended.token j t q d) = absurd (sound_apart one_way text a t p)
  unmended_fault text a b (IsUnmended.faulty p) (IsUnmended.checked n t is q) = absurd (sound_apart one_way text a t p)
  unmended_fault text a b (IsUnmended.token i s p e) (IsUnmended.faulty q) = absurd (sound_apart one_way text b s q)
  unmended_fault text a b (IsUnmended.token i s p e) (IsUnmended.token j t q d) =
      e ∙ ap bad_token (one_place text i j p q) ∙ sym d
  unmended_fault text a b (IsUnmended.token i s p e) (IsUnmended.checked n t is q) = absurd (no_place text is.tokens i is.are p)
  unmended_fault text a b (IsUnmended.checked m s is p) (IsUnmended.faulty q) = absurd (sound_apart one_way text b s q)
  unmended_fault text a b (IsUnmended.checked m s is p) (IsUnmended.token j t q d) = absurd (no_place text is.tokens j is.are q)
  unmended_fault text a b (IsUnmended.checked m s is p) (IsUnmended.checked n t so q) =
      checked_fault n.checked.text.items a b (sound_whole one_times one_checked text n t so)
      (subst (λ (l : List ℕ). IsCheckedFault l a) (one_checked text m n is so) p) q

  -- ---- its strict form

  placed_same : (names : DayNames) (text : List ℕ) (f g : StrictForm) (x y : OptionsFault) → IsStrictForm names text f
      → IsStrictForm names text g → IsUnmended f.text.items x → IsUnmended g.text.items y
      → placed_fault (length text) f.parts.items x ≡ placed_fault (length text) g.parts.items y
  placed_same names text f g x y is so p q =
      let same =
      unmended_fault g.text.items x y
      (subst (λ (l : List ℕ). IsUnmended l x) (same_form_text names text f g is so) p) q in
      ap (λ (bad : OptionsFault). placed_fault (length text) f.parts.items bad) same
      ∙ ap (λ ps. placed_fault (length text) ps y) (same_parts names text f g is so)

  form_fault : (names : DayNames) (text : List ℕ) (a b : OptionsFault) → IsFormFault names text a → IsFormFault names text b
      → a ≡ b
  form_fault names text a b (IsFormFault.token v p e) (IsFormFault.token w q d) =
      e ∙ ap (λ (bad : TokenFault). wrong.Known (token_fault bad)) (one_token_fault names text v w p q) ∙ sym d
  form_fault names text a b (IsFormFault.token v p e) (IsFormFault.form g y so q d) = absurd (no_form names text g v so p)
  form_fault names text a b (IsFormFault.form f x is p e) (IsFormFault.token w q d) = absurd (no_form names text f w is q)
  form_fault names text a b (IsFormFault.form f x is p e) (IsFormFault.form g y so q d) =
      e ∙ placed_same names text f g x y is so p q ∙ sym d

  -- A text has one first fault at most, if it has no mended text.
  pub one_mend_fault : (names : DayNames) (text : List ℕ) (a b : OptionsFault) → IsMendStop names text (reading.Fault a)
      → IsMendStop names text (reading.Fault b) → a ≡ b
  one_mend_fault names text a b (plain, own, f, g, h) (other, another, k, l, m) = form_fault names text a b h m
