-- The mended text of a text, and why a text has none.
use Rattle.std.specs.Prelude.{◌≡◌, ℕ, Bool, true, false, List, length, map, None}
use Rattle.gtd_hours.specs.Written.{hours_text}
use Rattle.gtd_hours_grammar.specs.declared.fault.HoursFault.{HoursFault}
use Rattle.gtd_hours_tokens.specs.Lexing.{AreTokens}
use Rattle.gtd_hours_tokens.specs.declared.token.Token.{Token}
use Rattle.gtd_hours_items.specs.Comments.{IsBadPlace}
use Rattle.gtd_hours_items.specs.Items.{AreItems}
use Rattle.gtd_hours_items.specs.declared.items.Item.{Item}
use Rattle.gtd_hours_holiday_rules.specs.Parts.{parts_of}
use Rattle.gtd_hours_holiday_rules.specs.Rules.{rules_of, said_by}
use Rattle.gtd_hours_holiday_rules.specs.declared.parts.Part.{Part}
use Rattle.gtd_hours_holiday_rules.specs.declared.rules.HolidayRule.{HolidayRule}
use Rattle.gtd_hours_times.specs.Tokens.{IsTimeFault}
use Rattle.gtd_hours_times.specs.declared.moment.TimeForm.{TimeForm}
use Rattle.gtd_hours_moments.specs.Reading.{IsMomentText}
use Rattle.gtd_hours_moments.specs.declared.needs.NeedKind.{NeedKind}
use Rattle.gtd_hours_moments.specs.declared.needs.NeedKind.TheVariants as need
use Rattle.gtd_hours_moments.specs.declared.text.MomentText.{MomentText}
use Rattle.gtd_hours_loose.specs.Reading.{IsLooseReading, IsReadFault}
use Rattle.gtd_hours_loose.specs.StrictForms.{IsLooseFault, IsStrictForm}
use Rattle.gtd_hours_loose.specs.declared.reader.LooseFault.{LooseFault}
use Rattle.gtd_hours_loose.specs.declared.reader.LooseHours.{LooseHours}
use Rattle.gtd_hours_loose.specs.declared.reader.LooseReadFault.TheVariants as loose
use Rattle.gtd_hours_loose.specs.declared.strict.StrictForm.{StrictForm}
use Rattle.gtd_hours_loose_tokens.specs.declared.token.DayNames.{DayNames}
use Rattle.gtd_hours_loose_tokens.specs.declared.token.TokenFault.{TokenFault}
use Rattle.gtd_hours_known.specs.Manners.{token_fault}
use Rattle.gtd_hours_known.specs.Rules.{IsRuleFault}
use Rattle.gtd_hours_known.specs.declared.fault.KnownFault.{KnownFault}
use Rattle.gtd_hours_known.specs.declared.fault.KnownFault.TheVariants as fault
use Rattle.gtd_hours_known.specs.declared.known.KnownHours.{KnownHours}
use Rattle.gtd_hours_options.specs.Manners.{placed_fault}
use Rattle.gtd_hours_options.specs.Reading.{IsOptionsFault, StandsWith}
use Rattle.gtd_hours_options.specs.Told.{bad_token}
use Rattle.gtd_hours_options.specs.declared.fault.OptionsFault.{OptionsFault}
use Rattle.gtd_hours_options.specs.declared.fault.OptionsFault.TheVariants as wrong
use Rattle.gtd_hours_options.specs.declared.fault.OptionsReadFault.{OptionsReadFault}
use Rattle.gtd_hours_options.specs.declared.fault.OptionsReadFault.TheVariants as reading
use Rattle.gtd_hours_options.specs.declared.options.Options.{Options}
use Rattle.gtd_hours_writing.specs.Rules.{rules_text}
use Rattle.gtd_hours_writing.specs.declared.rule.MendedRule.{MendedRule}
use Rattle.gtd_hours_mended.specs.Comments.{comments_of}
use Rattle.gtd_hours_mended.specs.Making.{AreMade}
use Rattle.gtd_hours_mended.specs.declared.making.MakeStop.{MakeStop}
use Rattle.gtd_hours_mended.specs.declared.making.MakeStop.TheVariants as make

-- ---- what refuses a text

pub record GivesNothing (options : Options) : Type 0 where
  pub holidays : options.known.holidays ≡ None
  pub years : options.known.years ≡ None
  pub open_end : options.clocks.open_end ≡ None
  pub points : options.clocks.points ≡ None
  pub sunrise : options.clocks.sunrise ≡ None
  pub sunset : options.clocks.sunset ≡ None
  pub dawn : options.clocks.dawn ≡ None
  pub dusk : options.clocks.dusk ≡ None

-- Something is not given for a time.
abbrev pub is_missing : NeedKind → Bool
is_missing need.Range = false
is_missing k = true

-- Something is not given or known, and the text itself is not at fault.
abbrev pub is_known_need : KnownFault → Bool
is_known_need (fault.Hours bad) = false
is_known_need (fault.Ambiguous place) = false
is_known_need bad = true

abbrev pub is_need : OptionsFault → Bool
is_need (wrong.Known bad) = is_known_need bad
is_need (wrong.Time what) = is_missing what.kind

-- The text is not at fault: without options it is read, or something is not given or known.
pub data IsSound (text : List ℕ) : Type 0 where
  read : (options : Options) → (read : KnownHours) → GivesNothing options → StandsWith options text read → IsSound text
  needs : (options : Options) → (bad : OptionsFault) → GivesNothing options → IsOptionsFault options text bad
      → is_need bad ≡ true → IsSound text

-- The text has this first fault.
pub record IsFaulty (text : List ℕ) (bad : OptionsFault) : Type 0 where
  pub options : Options
  pub nothing : GivesNothing options
  pub fault : IsOptionsFault options text bad
  pub own : is_need bad ≡ false

abbrev pub IsFaultyStop : List ℕ → OptionsReadFault → Type 0
IsFaultyStop text (reading.Fault bad) = IsFaulty text bad
IsFaultyStop text reading.NoMemory = Unit {0}

-- ---- a text as it is written

-- The rules of a text with these parts and forms of times are written.
pub record HasRulesOf (checked : List ℕ) (parts : List Part) (forms : List TimeForm) (mended : List ℕ) : Type 0 where
  pub found : List HolidayRule
  pub made : List MendedRule
  pub rules : map said_by found ≡ rules_of checked parts
  pub are_made : AreMade checked found (comments_of parts) forms made
  pub written : mended ≡ rules_text made

-- The same of a text with the parts of its items, where these are its tokens.
pub record HasRulesIn (checked : List ℕ) (tokens : List Token) (forms : List TimeForm) (mended : List ℕ) : Type 0 where
  pub items : List Item
  pub are : AreItems checked tokens items
  pub has : HasRulesOf checked (parts_of items) forms mended

pub record HasRules (checked : List ℕ) (forms : List TimeForm) (mended : List ℕ) : Type 0 where
  pub tokens : List Token
  pub are : AreTokens checked tokens
  pub has : HasRulesIn checked tokens forms mended

-- The mended text of a text that is not at fault: its rules are those of the text in which a range of times stands for each form
-- of times.
pub record IsMended (text mended : List ℕ) : Type 0 where
  pub moments : MomentText
  pub sound : IsSound text
  pub is : IsMomentText text moments
  pub has : HasRules moments.checked.text.items moments.forms.items mended

-- ---- why a text has none

-- Of the rules of a text with these parts, the first one whose own text is no hours has this first fault there.
pub record HasBadRuleOf (checked : List ℕ) (parts : List Part) (bad : HoursFault) : Type 0 where
  pub found : List HolidayRule
  pub rules : map said_by found ≡ rules_of checked parts
  pub own : IsRuleFault found bad

pub record HasBadRuleIn (checked : List ℕ) (tokens : List Token) (bad : HoursFault) : Type 0 where
  pub items : List Item
  pub are : AreItems checked tokens items
  pub has : HasBadRuleOf checked (parts_of items) bad

pub record HasBadRule (checked : List ℕ) (bad : HoursFault) : Type 0 where
  pub tokens : List Token
  pub are : AreTokens checked tokens
  pub has : HasBadRuleIn checked tokens bad

-- why rules are not written
abbrev pub IsPartsStop : List ℕ → List Part → MakeStop → Type 0
IsPartsStop checked parts (make.Own bad) = HasBadRuleOf checked parts bad
IsPartsStop checked parts make.NoMemory = Unit {0}

abbrev pub IsTokensStop : List ℕ → List Token → MakeStop → Type 0
IsTokensStop checked tokens (make.Own bad) = HasBadRuleIn checked tokens bad
IsTokensStop checked tokens make.NoMemory = Unit {0}

-- A byte with which no token begins, a comment that is not whole, or a rule whose own text is no hours.
pub data IsCheckedFault (checked : List ℕ) (bad : OptionsFault) : Type 0 where
  item : (place : ℕ) → IsBadPlace checked place → bad ≡ bad_token place → IsCheckedFault checked bad
  own : (first : HoursFault) → HasBadRule checked first → bad ≡ wrong.Known (fault.Hours first) → IsCheckedFault checked bad

abbrev pub IsCheckedStop : List ℕ → OptionsReadFault → Type 0
IsCheckedStop checked (reading.Fault bad) = IsCheckedFault checked bad
IsCheckedStop checked reading.NoMemory = Unit {0}

-- Why a text has no mended text as it is written: its first fault. The other two are of texts that are not at fault, and no text
-- is known that has one of them.
pub data IsUnmended (text : List ℕ) (bad : OptionsFault) : Type 0 where
  faulty : IsFaulty text bad → IsUnmended text bad
  token : (place : ℕ) → IsSound text → IsTimeFault text place → bad ≡ bad_token place → IsUnmended text bad
  checked : (moments : MomentText) → IsSound text → IsMomentText text moments
      → IsCheckedFault moments.checked.text.items bad → IsUnmended text bad

abbrev pub IsUnmendedStop : List ℕ → OptionsReadFault → Type 0
IsUnmendedStop text (reading.Fault bad) = IsUnmended text bad
IsUnmendedStop text reading.NoMemory = Unit {0}

-- ---- any text

-- The text is mended as its strict form is.
pub record IsMendedForm (names : DayNames) (text mended : List ℕ) : Type 0 where
  pub form : StrictForm
  pub is : IsStrictForm names text form
  pub mends : IsMended form.text.items mended

-- A text that is no plain hours is mended as it is written or, if that is at fault, as its strict form is.
pub data IsOtherText (names : DayNames) (text mended : List ℕ) : Type 0 where
  written : IsMended text mended → IsOtherText names text mended
  form : (bad : OptionsFault) → IsUnmended text bad → IsMendedForm names text mended → IsOtherText names text mended

-- The mended text: of plain hours, strictly or loosely written, the writing of the hours.
pub data IsMendedText (names : DayNames) (text mended : List ℕ) : Type 0 where
  plain : (read : LooseHours) → IsLooseReading names text read → mended ≡ hours_text read.hours → IsMendedText names text mended
  other : (bad : LooseFault) → IsReadFault names text (loose.Fault bad) → IsOtherText names text mended
      → IsMendedText names text mended

-- The first fault of a text that has one as it is written: of its tokens, or else of its strict form.
pub data IsFormFault (names : DayNames) (text : List ℕ) (bad : OptionsFault) : Type 0 where
  token : (why : TokenFault) → IsLooseFault names text why → bad ≡ wrong.Known (token_fault why) → IsFormFault names text bad
  form : (form : StrictForm) → (first : OptionsFault) → IsStrictForm names text form → IsUnmended form.text.items first
      → bad ≡ placed_fault (length text) form.parts.items first → IsFormFault names text bad

abbrev pub IsFormStop : DayNames → List ℕ → OptionsReadFault → Type 0
IsFormStop names text (reading.Fault bad) = IsFormFault names text bad
IsFormStop names text reading.NoMemory = Unit {0}

-- It has no mended text as it is written, and this fault.
abbrev pub IsOtherStop : DayNames → List ℕ → OptionsReadFault → Type 0
IsOtherStop names text (reading.Fault bad) = (own : OptionsFault) × IsUnmended text own × IsFormFault names text bad
IsOtherStop names text reading.NoMemory = Unit {0}

-- It is no plain hours either.
abbrev pub IsMendStop : DayNames → List ℕ → OptionsReadFault → Type 0
IsMendStop names text (reading.Fault bad) =
    (plain : LooseFault) × (own : OptionsFault) × IsReadFault names text (loose.Fault plain) × IsUnmended text own
    × IsFormFault names text bad
IsMendStop names text reading.NoMemory = Unit {0}
