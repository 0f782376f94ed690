-- A text without times has no other reading than without options for times, as it has one list of forms, and one of tokens that
-- cannot stand where they do.
use Rattle.std.proofs.Common.{◌≡◌, ℕ, Bool, List, true, false}
use Rattle.std.specs.Prelude.{◌||◌, is_some}
use Rattle.gtd_hours_known.specs.Reading.{IsKnownFault, KnownStandsFor}
use Rattle.gtd_hours_known.specs.declared.fault.KnownFault.{KnownFault}
use Rattle.gtd_hours_known.specs.declared.known.KnownHours.{KnownHours}
use Rattle.gtd_hours_times.specs.Tokens.{AreTimeTokens, IsTimeFault}
use Rattle.gtd_hours_times.specs.declared.moment.TimeForm.{TimeForm}
use Rattle.gtd_hours_times.specs.declared.times.TimeToken.{TimeToken}
use Rattle.gtd_hours_moments.specs.Reading.{IsMomentText}
use Rattle.gtd_hours_moments.specs.declared.text.MomentText.{MomentText}
use Rattle.gtd_hours_moments.specs.declared.told.Told.{Told}
use Rattle.gtd_hours_options.specs.First.{has_forms, has_times}
use Rattle.gtd_hours_options.specs.Misfits.{first_misfit}
use Rattle.gtd_hours_options.specs.Reading.{HasTimes, IsOptionsFault, IsOtherFault, IsTimesFault, StandsWith}
use Rattle.gtd_hours_options.specs.Reading.{checked, known, plain, time, timed, token, within, without}
use Rattle.gtd_hours_options.specs.declared.fault.OptionsFault.{OptionsFault}
use Rattle.gtd_hours_options.specs.declared.fault.OptionsFault.TheVariants as wrong
use Rattle.gtd_hours_options.specs.declared.options.Options.{Options}

no_times : (a b : List TimeForm) (m n : List Told) (o p : Bool) → a ≡ b → m ≡ n → o ≡ p
    → has_forms a || (is_some (first_misfit m) || o) ≡ true → has_forms b || (is_some (first_misfit n) || p) ≡ false → ⊥
no_times a b m n o p same alike ends some nothing = cc

module _ (one_forms : (text : List ℕ) (one other : MomentText) → IsMomentText text one → IsMomentText text other
    → one.forms.items ≡ other.forms.items)
    (one_told : (text : List ℕ) (one other : MomentText) → IsMomentText text one → IsMomentText text other
    → one.told.items ≡ other.told.items)
    (one_end : (text : List ℕ) (one other : MomentText) → IsMomentText text one → IsMomentText text other
    → one.breaks_off ≡ other.breaks_off)
    (apart : (text : List ℕ) (tokens : List TimeToken) (place : ℕ) → AreTimeTokens text tokens → IsTimeFault text place → ⊥)
  where
    not_timed : (text : List ℕ) (moments other : MomentText) → IsMomentText text moments
        → has_times moments ≡ false → HasTimes text other → ⊥
    not_timed text moments other is none has =
        no_times other.forms.items moments.forms.items other.told.items moments.told.items other.breaks_off moments.breaks_off
        (one_forms text other moments has.is is) (one_told text other moments has.is is) (one_end text other moments has.is is)
        has.times none

    pub only_known : (options : Options) (text : List ℕ) (moments : MomentText) (read : KnownHours)
        → IsMomentText text moments → has_times moments ≡ false → StandsWith options text read
        → KnownStandsFor options.known text read
    only_known options text moments read is none (known stands) = stands
    only_known options text moments read is none (timed bad other f given reading) =
        absurd (not_timed text moments other is none given.has)

    not_within : (options : Options) (text : List ℕ) (moments : MomentText) (bad : OptionsFault) → IsMomentText text moments
        → has_times moments ≡ false → IsTimesFault options text bad → ⊥
    not_within options text moments bad is none (token place wrong_token e) = apart text is.tokens place is.are wrong_token
    not_within options text moments bad is none (checked other first has f e) = not_timed text moments other is none has
    not_within options text moments bad is none (time other has read e) = not_timed text moments other is none has
    not_within options text moments bad is none (plain other made first given made_is f e) =
        not_timed text moments other is none given.has

    same_fault : (options : Options) (text : List ℕ) (moments : MomentText) (first : KnownFault) (bad : OptionsFault)
        → IsMomentText text moments → has_times moments ≡ false → IsOtherFault options text first bad
        → bad ≡ wrong.Known first
    same_fault options text moments first bad is none (without other other_is e same) = same
    same_fault options text moments first bad is none (within f) = absurd (not_within options text moments bad is none f)

    pub known_fault : (options : Options) (text : List ℕ) (moments : MomentText) (bad : OptionsFault)
        → IsMomentText text moments → has_times moments ≡ false → IsOptionsFault options text bad
        → (first : KnownFault) × IsKnownFault options.known text first × (bad ≡ wrong.Known first)
    known_fault options text moments bad is none f = (f.0, f.1, same_fault options text moments f.0 bad is none f.2)
