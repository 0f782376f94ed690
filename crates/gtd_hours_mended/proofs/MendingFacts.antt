-- Why a text has no mended text, step by step.
use Rattle.std.proofs.Common.{◌≡◌, refl, subst, ℕ, List, length, true, Result, Ok, Err}
use Rattle.std.specs.Prelude.{IfOk}
use Rattle.gtd_hours_tokens.specs.Lexing.{AreTokens}
use Rattle.gtd_hours_tokens.specs.declared.token.Token.{Token}
use Rattle.gtd_hours_items.specs.Comments.{IsNoHolidayText}
use Rattle.gtd_hours_items.specs.declared.stop.NoHolidayText.{NoHolidayText}
use Rattle.gtd_hours_items.specs.declared.stop.NoHolidayText.TheVariants as items
use Rattle.gtd_hours_times.specs.Tokens.{IsNoMomentText}
use Rattle.gtd_hours_times.specs.declared.moment.TimeForm.{TimeForm}
use Rattle.gtd_hours_times.specs.declared.stop.NoMomentText.{NoMomentText}
use Rattle.gtd_hours_times.specs.declared.stop.NoMomentText.TheVariants as moments
use Rattle.gtd_hours_moments.specs.Reading.{IsMomentText}
use Rattle.gtd_hours_moments.specs.declared.text.MomentText.{MomentText}
use Rattle.gtd_hours_loose.specs.Reading.{IsReadFault}
use Rattle.gtd_hours_loose.specs.StrictForms.{IsLooseStop, IsStrictForm}
use Rattle.gtd_hours_loose.specs.declared.reader.LooseFault.{LooseFault}
use Rattle.gtd_hours_loose.specs.declared.reader.LooseReadFault.TheVariants as loose
use Rattle.gtd_hours_loose.specs.declared.strict.StrictForm.{StrictForm}
use Rattle.gtd_hours_loose_tokens.specs.declared.stop.LooseStop.{LooseStop}
use Rattle.gtd_hours_loose_tokens.specs.declared.stop.LooseStop.TheVariants as stop
use Rattle.gtd_hours_loose_tokens.specs.declared.token.DayNames.{DayNames}
use Rattle.gtd_hours_options.specs.Manners.{no_form, placed}
use Rattle.gtd_hours_options.specs.Reading.{IsOptionsFault}
use Rattle.gtd_hours_options.specs.declared.fault.OptionsFault.{OptionsFault}
use Rattle.gtd_hours_options.specs.declared.fault.OptionsReadFault.{OptionsReadFault}
use Rattle.gtd_hours_options.specs.declared.fault.OptionsReadFault.TheVariants as reading
use Rattle.gtd_hours_options.specs.declared.options.Options.{Options}
use Rattle.gtd_hours_mended.specs.Mending.{GivesNothing, HasRules, IsCheckedFault, IsCheckedStop, IsFormFault, IsFormStop}
use Rattle.gtd_hours_mended.specs.Mending.{IsMendStop, IsMended, IsOtherStop, IsSound, IsTokensStop, IsUnmended, IsUnmendedStop}
use Rattle.gtd_hours_mended.specs.Mending.{is_need}
use Rattle.gtd_hours_mended.specs.Stops.{no_items, no_moments, no_rules}
use Rattle.gtd_hours_mended.specs.declared.making.MakeStop.{MakeStop}
use Rattle.gtd_hours_mended.specs.declared.making.MakeStop.TheVariants as make

-- a text that only asks for options is not at fault
pub needs_sound : (options : Options) (text : List ℕ) (bad : OptionsFault) (result : Result (Unit {0}) OptionsReadFault)
    → GivesNothing options → IsOptionsFault options text bad → IfOk result (λ done. is_need bad ≡ true)
    → IfOk result (λ done. IsSound text)
needs_sound options text bad (Ok done) nothing fault need = IsSound.needs options bad nothing fault need
needs_sound options text bad (Err why) nothing fault need = tt

-- ---- a text as it is written

pub items_stop : (checked : List ℕ) (why : NoHolidayText) → IsNoHolidayText checked why
    → IsCheckedStop checked (no_items why)
items_stop checked (items.BadToken place) is = IsCheckedFault.item place is refl
items_stop checked items.NoMemory is = tt

pub rules_stop : (checked : List ℕ) (tokens : List Token) (why : MakeStop) → AreTokens checked tokens
    → IsTokensStop checked tokens why → IsCheckedStop checked (no_rules why)
rules_stop checked tokens (make.Own bad) are is =
    IsCheckedFault.own bad (record { tokens = tokens; are = are; has = is }) refl
rules_stop checked tokens make.NoMemory are is = tt

pub moments_stop : (text : List ℕ) (why : NoMomentText) → IsSound text → IsNoMomentText text why
    → IsUnmendedStop text (no_moments why)
moments_stop text (moments.BadToken place) sound is = IsUnmended.token place sound is refl
moments_stop text moments.NoMemory sound is = tt

pub checked_mended : (text mended checked : List ℕ) (forms : List TimeForm) (read : MomentText) → IsSound text
    → IsMomentText text read → checked ≡ read.checked.text.items → forms ≡ read.forms.items → HasRules checked forms mended
    → IsMended text mended
checked_mended text mended checked forms read sound is same same_forms has = record {
  moments = read;
  sound = sound;
  is = is;
  has = subst (λ (fs : List TimeForm). HasRules read.checked.text.items fs mended) same_forms
      (subst (λ (l : List ℕ). HasRules l forms mended) same has);
}

pub checked_stop : (text checked : List ℕ) (read : MomentText) (why : OptionsReadFault) → IsSound text
    → IsMomentText text read → checked ≡ read.checked.text.items → IsCheckedStop checked why → IsUnmendedStop text why
checked_stop text checked read (reading.Fault bad) sound is same stop =
    IsUnmended.checked read sound is (subst (λ (l : List ℕ). IsCheckedFault l bad) same stop)
checked_stop text checked read reading.NoMemory sound is same stop = tt

-- ---- any text

pub form_stop : (names : DayNames) (text : List ℕ) (why : LooseStop) → IsLooseStop names text why
    → IsFormStop names text (no_form why)
form_stop names text (stop.Token bad) is = IsFormFault.token bad is refl
form_stop names text stop.NoMemory is = tt

pub placed_stop : (names : DayNames) (text : List ℕ) (form : StrictForm) (why : OptionsReadFault) → IsStrictForm names text form
    → IsUnmendedStop form.text.items why → IsFormStop names text (placed (length text) form.parts.items why)
placed_stop names text form (reading.Fault bad) is stop = IsFormFault.form form bad is stop refl
placed_stop names text form reading.NoMemory is stop = tt

pub other_stop : (names : DayNames) (text : List ℕ) (own : OptionsFault) (why : OptionsReadFault) → IsUnmended text own
    → IsFormStop names text why → IsOtherStop names text why
other_stop names text own (reading.Fault bad) is stop = (own, is, stop)
other_stop names text own reading.NoMemory is stop = tt

pub mend_stop : (names : DayNames) (text : List ℕ) (plain : LooseFault) (why : OptionsReadFault)
    → IsReadFault names text (loose.Fault plain) → IsOtherStop names text why → IsMendStop names text why
mend_stop names text plain (reading.Fault bad) is stop = (plain, stop.0, is, stop.1, stop.2)
mend_stop names text plain reading.NoMemory is stop = tt
