-- In a text that is not at fault, and in its checked text, each comment is whole.
use Rattle.std.proofs.Common.{◌≡◌, ◌∙◌, refl, sym, ap, ℕ, Bool, true, false, List, [], ◌∷◌, ◌++◌, length, map}
use Rattle.std.proofs.Common.{append_assoc}
use Rattle.std.proofs.lemmas.Bool.{false≢true}
use Rattle.std.specs.Prelude.{◌&&◌, codes, if◌then◌else◌, not}
use Rattle.gtd_hours_tokens.specs.Lexing.{AreTokens, Reads}
use Rattle.gtd_hours_tokens.specs.declared.token.Token.{Token}
use Rattle.gtd_hours_grammar.specs.Faults.{IsHoursText, kinds}
use Rattle.gtd_hours_grammar.specs.declared.fault.HoursFault.{HoursFault}
use Rattle.gtd_hours_moves.specs.Terms.{Piece}
use Rattle.gtd_hours_moving.specs.Words.{is_unread, stretch}
use Rattle.gtd_hours_items.specs.Comments.{are_whole, is_whole}
use Rattle.gtd_hours_items.specs.Items.{begins_quoted}
use Rattle.gtd_hours_items.proofs.TokenLemmas.{left_true, right_true}
use Rattle.gtd_hours_holiday_rules.specs.Reading.{IsHolidayText}
use Rattle.gtd_hours_holiday_rules.specs.declared.text.HolidayText.{HolidayText}
use Rattle.gtd_hours_times.specs.Steps.{step_of}
use Rattle.gtd_hours_times.specs.Tokens.{AreTimeTokens, IsTimeToken, time_token}
use Rattle.gtd_hours_times.specs.Tokens as times
use Rattle.gtd_hours_times.specs.declared.behind.Behind.{Behind}
use Rattle.gtd_hours_times.specs.declared.behind.Behind.TheVariants as behind
use Rattle.gtd_hours_times.specs.declared.behind.Written.{Written}
use Rattle.gtd_hours_times.specs.declared.behind.Written.TheVariants as written
use Rattle.gtd_hours_times.specs.declared.moment.TimeForm.{TimeForm}
use Rattle.gtd_hours_times.specs.declared.times.TimeToken.{TimeToken}
use Rattle.gtd_hours_moments.specs.Checked.{checked_puts, form_of}
use Rattle.gtd_hours_moments.specs.Parts.{parts_from, parts_of}
use Rattle.gtd_hours_moments.specs.Places.{text_of}
use Rattle.gtd_hours_moments.specs.Reading.{IsMomentText}
use Rattle.gtd_hours_moments.specs.declared.clocks.Clocks.{Clocks}
use Rattle.gtd_hours_moments.specs.declared.text.MomentText.{MomentText}
use Rattle.gtd_hours_moments.specs.declared.told.Told.{Told}
use Rattle.gtd_hours_known.specs.Faults.{bad_token}
use Rattle.gtd_hours_known.specs.Reading.{IsKnownFault, IsOtherFault, KnownStandsFor}
use Rattle.gtd_hours_known.specs.declared.fault.KnownFault.{KnownFault}
use Rattle.gtd_hours_known.specs.declared.fault.KnownFault.TheVariants as fault
use Rattle.gtd_hours_known.specs.declared.known.Known.{Known}
use Rattle.gtd_hours_known.specs.declared.known.KnownHours.{KnownHours}
use Rattle.gtd_hours_options.specs.First.{checked_fault, first_of}
use Rattle.gtd_hours_options.specs.Misfits.{is_before, misfit, with_misfits}
use Rattle.gtd_hours_options.specs.Reading.{IsTimesFault, StandsWith}
use Rattle.gtd_hours_options.specs.Reading as timed
use Rattle.gtd_hours_options.specs.declared.fault.OptionsFault.{OptionsFault}
use Rattle.gtd_hours_options.specs.declared.options.Options.{Options}
use Rattle.gtd_hours_mended.specs.Mending.{IsSound, is_known_need, is_need}
use Rattle.gtd_hours_mended.proofs.Quotes.{both_true, ends_whole, token_passes, whole_text}
use Rattle.gtd_hours_mended.proofs.ReadKinds.{all_read, hours_read}

-- The text is tokens, of which each is whole.
pub record AreWhole (text : List ℕ) : Type 0 where
  pub tokens : List Token
  pub are : AreTokens text tokens
  pub whole : are_whole text tokens ≡ true

-- ---- which texts are so

-- what is read is no comment
if_read : (u q g : Bool) → not u ≡ true → (if u && q then g else true) ≡ true
if_read true q g e = absurd (false≢true e)
if_read false q g e = refl

-- tokens that plain hours read are no comments
read_whole : (text : List ℕ) (tokens : List Token) → all_read (kinds tokens) ≡ true → are_whole text tokens ≡ true
read_whole text [] e = refl
read_whole text (t ∷ tokens) e =
    both_true (is_whole text t) (are_whole text tokens)
    (if_read (is_unread t.kind) (begins_quoted (stretch text t.from t.to)) _
    (left_true (not (is_unread t.kind)) (all_read (kinds tokens)) e))
    (read_whole text tokens (right_true (not (is_unread t.kind)) (all_read (kinds tokens)) e))

-- plain hours
strict_whole : (text : List ℕ) (p : List Piece) → IsHoursText text p → AreWhole text
strict_whole text p h = record {
  tokens = h.tokens;
  are = h.are;
  whole = read_whole text h.tokens (hours_read p (kinds h.tokens) h.hours);
}

-- a text with holidays, and comments that end
holiday_whole : (text : List ℕ) (found : HolidayText) → IsHolidayText text found → AreWhole text
holiday_whole text found h = record { tokens = h.tokens; are = h.are; whole = h.whole }

-- a text that is read
known_whole : (known : Known) (text : List ℕ) (read : KnownHours) → KnownStandsFor known text read → AreWhole text
known_whole known text read (KnownStandsFor.plain stands marks) = strict_whole text stands.p stands.is
known_whole known text read (KnownStandsFor.listed found other is sound so marks) = holiday_whole text found is

-- a fault that is no need is not equal to one that is
no_need : (first bad : KnownFault) → first ≡ bad → is_known_need bad ≡ false → is_known_need first ≡ true → ⊥
no_need first bad e none need = false≢true (sym none ∙ sym (ap is_known_need e) ∙ need)

-- a text of which something is needed
fault_whole : (known : Known) (text : List ℕ) (bad : KnownFault) → IsKnownFault known text bad → is_known_need bad ≡ true
    → AreWhole text
fault_whole known text bad (other, IsOtherFault.token place p e) need = absurd (no_need bad (bad_token place) e refl need)
fault_whole known text bad (other, IsOtherFault.within found p f) need = holiday_whole text found p

-- ---- the checked text

-- tokens are tokens of times
time_tokens : (text : List ℕ) (place : ℕ) (tokens : List Token) (to : ℕ) → Reads text place tokens to
    → times.Reads text place (map (time_token text) tokens) to
time_tokens text place [] to h = h
time_tokens text place (t ∷ tokens) to h =
    (h.0, IsTimeToken.plain t h.1 refl, time_tokens text t.to tokens to h.2)

-- what stands for a token ends whole if its bytes do
form_passes : (w : Written) (bytes : List ℕ) → ((more : List ℕ) → ends_whole false (bytes ++ more) ≡ ends_whole false more)
    → (more : List ℕ) → ends_whole false (form_of w bytes ++ more) ≡ ends_whole false more
form_passes written.Kept bytes pass more = pass more
form_passes written.Time bytes pass more = pass more
form_passes written.TimeToMidnight bytes pass more =
    ap (ends_whole false) (append_assoc bytes (codes "-24:00") more) ∙ pass (codes "-24:00" ++ more)
form_passes written.LastMinute bytes pass more = refl
form_passes written.First bytes pass more = refl
form_passes written.FirstToMidnight bytes pass more = refl
form_passes written.Last bytes pass more = refl
form_passes written.ToMidnight bytes pass more = refl
form_passes written.Dash bytes pass more = refl
form_passes written.Comma bytes pass more = refl
form_passes written.Nothing bytes pass more = refl
form_passes (written.Misfit k) bytes pass more = refl

-- the forms that stand for whole tokens end whole
puts_whole : (text : List ℕ) (b : Behind) (place : ℕ) (tokens : List Token) (to : ℕ) → Reads text place tokens to
    → are_whole text tokens ≡ true
    → ends_whole false (text_of (checked_puts text (parts_from b (map (time_token text) tokens)))) ≡ true
puts_whole text b place [] to h w = refl
puts_whole text b place (t ∷ tokens) to h w =
    let step = step_of b (time_token text t) (map (time_token text) tokens) in
    let rest = text_of (checked_puts text (parts_from step.behind (map (time_token text) tokens))) in
    form_passes step.written (stretch text t.from t.to)
    (token_passes text t h.1 (left_true (is_whole text t) (are_whole text tokens) w)) (32 ∷ rest)
    ∙ puts_whole text step.behind t.to tokens to h.2 (right_true (is_whole text t) (are_whole text tokens) w)

module _ (one_list : (text : List ℕ) (one other : List TimeToken) → AreTimeTokens text one → AreTimeTokens text other
    → one ≡ other)
    (one_checked : (text : List ℕ) (one other : MomentText) → IsMomentText text one → IsMomentText text other
    → one.checked.text.items ≡ other.checked.text.items) where
  -- of whole tokens
  of_tokens : (text : List ℕ) (moments : MomentText) → AreWhole text → IsMomentText text moments
      → ends_whole false moments.checked.text.items ≡ true
  of_tokens text moments h is =
      ap (ends_whole false) (is.has.checked.text
      ∙ ap (λ (ts : List TimeToken). text_of (checked_puts text (parts_of ts)))
      (one_list text is.tokens (map (time_token text) h.tokens) is.are (time_tokens text 0 h.tokens (length text) h.are)))
      ∙ puts_whole text behind.Free 0 h.tokens (length text) h.are h.whole

  -- where another reading of the times of the text has a whole checked text
  of_checked : (text : List ℕ) (moments read : MomentText) → IsMomentText text moments → IsMomentText text read
      → AreWhole read.checked.text.items → ends_whole false moments.checked.text.items ≡ true
  of_checked text moments read is so h =
      ap (ends_whole false) (one_checked text moments read is so) ∙ whole_text read.checked.text.items h.tokens h.are h.whole

  -- ---- a text that is not at fault

  -- a fault of plain hours is no need
  hours_need : (forms : List TimeForm) (clocks : Clocks) (told : List Told) (bad : HoursFault)
      → is_need (first_of forms clocks (with_misfits told (fault.Hours bad))) ≡ false
  hours_need forms clocks [] bad = refl
  hours_need forms clocks (t ∷ told) bad = by_first forms clocks t bad (is_before (fault.Hours bad) t.place)
    where
      -- whichever of the two comes first
      by_first : (forms : List TimeForm) (clocks : Clocks) (t : Told) (bad : HoursFault) (b : Bool)
          → is_need (first_of forms clocks (if b then fault.Hours bad else misfit t)) ≡ false
      by_first forms clocks t bad true = refl
      by_first forms clocks t bad false = refl

  -- nor is an ambiguous number
  ambiguous_need : (forms : List TimeForm) (clocks : Clocks) (told : List Told) (place : ℕ)
      → is_need (first_of forms clocks (with_misfits told (fault.Ambiguous place))) ≡ false
  ambiguous_need forms clocks [] place = refl
  ambiguous_need forms clocks (t ∷ told) place = by_first forms clocks t place (is_before (fault.Ambiguous place) t.place)
    where
      -- whichever of the two comes first
      by_first : (forms : List TimeForm) (clocks : Clocks) (t : Told) (place : ℕ) (b : Bool)
          → is_need (first_of forms clocks (if b then fault.Ambiguous place else misfit t)) ≡ false
      by_first forms clocks t place true = refl
      by_first forms clocks t place false = refl

  -- a fault of the checked text that is a need of the text is one itself
  need_of_checked : (end : ℕ) (m : MomentText) (clocks : Clocks) (bad : KnownFault)
      → is_need (checked_fault end m clocks bad) ≡ true → is_known_need bad ≡ true
  need_of_checked end m clocks (fault.Hours bad) need =
      absurd (false≢true (sym (hours_need m.forms.items clocks m.told.items _) ∙ need))
  need_of_checked end m clocks (fault.Ambiguous place) need =
      absurd (false≢true (sym (ambiguous_need m.forms.items clocks m.told.items _) ∙ need))
  need_of_checked end m clocks bad need = refl

  -- a fault that equals a need is one
  need_as : (bad other : OptionsFault) → bad ≡ other → is_need bad ≡ true → is_need other ≡ true
  need_as bad other e need = sym (ap is_need e) ∙ need

  -- where times or what is known are needed
  times_whole : (options : Options) (text : List ℕ) (moments : MomentText) (bad : OptionsFault) → IsMomentText text moments
      → IsTimesFault options text bad → is_need bad ≡ true → ends_whole false moments.checked.text.items ≡ true
  times_whole options text moments bad is (IsTimesFault.token place p e) need =
      absurd (false≢true (need_as bad _ e need))
  times_whole options text moments bad is (IsTimesFault.checked m first has f e) need =
      of_checked text moments m is has.is
      (fault_whole options.known m.checked.text.items first f
      (need_of_checked (length text) m options.clocks first (need_as bad _ e need)))
  times_whole options text moments bad is (IsTimesFault.time m has read e) need =
      of_checked text moments m is has.is (known_whole options.known m.checked.text.items read.0 read.1)
  times_whole options text moments bad is (IsTimesFault.plain m plain first given p f e) need =
      of_checked text moments m is given.has.is
      (known_whole options.known m.checked.text.items given.checked.0 given.checked.1)

  -- In the checked text of a text that is not at fault, each comment is whole.
  pub sound_whole : (text : List ℕ) (moments : MomentText) → IsSound text → IsMomentText text moments
      → ends_whole false moments.checked.text.items ≡ true
  sound_whole text moments (IsSound.read options read nothing (StandsWith.known stands)) is =
      of_tokens text moments (known_whole options.known text read stands) is
  sound_whole text moments (IsSound.read options read nothing (StandsWith.timed bad m f given plain)) is =
      of_checked text moments m is given.has.is
      (known_whole options.known m.checked.text.items given.checked.0 given.checked.1)
  sound_whole text moments (IsSound.needs options bad nothing (first, f, timed.IsOtherFault.without m so none e) need) is =
      of_tokens text moments (fault_whole options.known text first f (need_as bad _ e need)) is
  sound_whole text moments (IsSound.needs options bad nothing (first, f, timed.IsOtherFault.within p) need) is =
      times_whole options text moments bad is p need
