-- A text has one mended text at most, and then no fault.
use mathlib.Core.HLevel.{is_prop→PathP}
use Rattle.std.proofs.Common.{◌≡◌, ◌∙◌, ◌≤◌, sym, ap, subst, inl, inr, refl, ℕ, true, false, List, length}
use Rattle.std.proofs.Common.{None}
use Rattle.std.proofs.Props.{props}
use Rattle.std.proofs.lemmas.Bool.{false≢true}
use Rattle.gtd_hours.specs.Written.{hours_text}
use Rattle.gtd_hours.specs.declared.hours.Hours.{Hours}
use Rattle.gtd_hours_grammar.specs.declared.fault.HoursFault.{HoursFault}
use Rattle.gtd_hours_tokens.specs.Lexing.{AreTokens}
use Rattle.gtd_hours_tokens.specs.declared.token.Token.{Token}
use Rattle.gtd_hours_tokens.specs.facts.WholeText.{apart, one_list}
use Rattle.gtd_hours_moving.specs.facts.OneFront.{one_front}
use Rattle.gtd_hours_items.specs.Items.{AreItems}
use Rattle.gtd_hours_items.specs.declared.items.Item.{Item}
use Rattle.gtd_hours_holiday_rules.specs.Parts.{parts_of}
use Rattle.gtd_hours_holiday_rules.specs.declared.parts.Part.{Part}
use Rattle.gtd_hours_holiday_rules.proofs.OneText.{one_items}
use Rattle.gtd_hours_times.specs.Tokens.{AreTimeTokens, IsTimeFault}
use Rattle.gtd_hours_times.specs.declared.moment.TimeForm.{TimeForm}
use Rattle.gtd_hours_times.specs.declared.times.TimeToken.{TimeToken}
use Rattle.gtd_hours_moments.specs.Options.{given_or}
use Rattle.gtd_hours_moments.specs.Reading.{IsMomentText}
use Rattle.gtd_hours_moments.specs.declared.clocks.Clocks.{Clocks}
use Rattle.gtd_hours_moments.specs.declared.text.MomentText.{MomentText}
use Rattle.gtd_hours_known.specs.Marks.{HasMarks}
use Rattle.gtd_hours_known.specs.Reading.{KnownStandsFor}
use Rattle.gtd_hours_known.specs.declared.known.Known.{Known}
use Rattle.gtd_hours_known.specs.declared.known.KnownHours.{KnownHours}
use Rattle.gtd_hours_holiday_rules.specs.declared.rules.HolidayRule.{HolidayRule}
use Rattle.gtd_hours_loose.specs.Reading.{IsLooseReading, IsReadFault}
use Rattle.gtd_hours_loose.specs.declared.manner.Manner.TheVariants as manner
use Rattle.gtd_hours_loose.specs.declared.reader.LooseFault.{LooseFault}
use Rattle.gtd_hours_loose.specs.declared.reader.LooseHours.{LooseHours}
use Rattle.gtd_hours_loose.specs.declared.reader.LooseReadFault.TheVariants as loose
use Rattle.gtd_hours_loose.proofs.OneReading as loose_reading
use Rattle.gtd_hours_loose_tokens.specs.declared.token.DayNames.{DayNames}
use Rattle.gtd_hours_options.proofs.OneWay.{no_form, same_form_text}
use Rattle.gtd_hours_options.specs.Reading.{IsOptionsFault, StandsWith}
use Rattle.gtd_hours_options.specs.Readings.{AreReadInOneWay, HowRead}
use Rattle.gtd_hours_options.specs.declared.fault.OptionsFault.{OptionsFault}
use Rattle.gtd_hours_options.specs.declared.fault.OptionsReadFault.TheVariants as reading
use Rattle.gtd_hours_options.specs.declared.options.Options.{Options}
use Rattle.gtd_hours_text.specs.Standing.{StandsFor}
use Rattle.gtd_hours_mended.specs.Comments.{comments_of}
use Rattle.gtd_hours_mended.specs.Mending.{GivesNothing, HasBadRule, HasBadRuleIn, HasBadRuleOf, HasRules, HasRulesIn, HasRulesOf}
use Rattle.gtd_hours_mended.specs.Mending.{IsCheckedFault, IsFaulty, IsFormFault, IsMendStop, IsMended, IsMendedForm}
use Rattle.gtd_hours_mended.specs.Mending.{IsMendedText, IsOtherText, IsSound, IsUnmended, is_need}
use Rattle.gtd_hours_mended.proofs.AlikeRules.{all_alike, made_apart, rules_same}
use Rattle.gtd_hours_mended.proofs.Quotes.{ends_whole, none_broken}
use Rattle.gtd_hours_mended.proofs.SoundQuotes.{sound_whole}

-- ---- the rules of a checked text

-- a text has one list of tokens
pub same_tokens : (text : List ℕ) (xs ys : List Token) → AreTokens text xs → AreTokens text ys → xs ≡ ys
same_tokens text xs ys p q = one_list text 0 xs ys (length text) p q

-- and one of items
pub same_items : (text : List ℕ) (ts : List Token) (xs ys : List Item) → AreItems text ts xs → AreItems text ts ys → xs ≡ ys
same_items text ts xs ys p q = one_items one_front text ts xs ys p q

-- the rules of parts are written in one way
one_of_parts : (checked : List ℕ) (parts : List Part) (forms : List TimeForm) (one other : List ℕ)
    → HasRulesOf checked parts forms one → HasRulesOf checked parts forms other → one ≡ other
one_of_parts checked parts forms one other p q =
    p.written
    ∙ rules_same p.made q.made
    (all_alike checked p.found q.found (comments_of parts) forms p.made q.made (p.rules ∙ sym q.rules) p.are_made q.are_made)
    ∙ sym q.written

-- and so are those of tokens
one_of_tokens : (checked : List ℕ) (ts : List Token) (forms : List TimeForm) (one other : List ℕ)
    → HasRulesIn checked ts forms one → HasRulesIn checked ts forms other → one ≡ other
one_of_tokens checked ts forms one other p q =
    one_of_parts checked (parts_of q.items) forms one other
    (subst (λ (items : List Item). HasRulesOf checked (parts_of items) forms one)
    (same_items checked ts p.items q.items p.are q.are) p.has) q.has

-- and of a text
one_of_text : (checked : List ℕ) (forms : List TimeForm) (one other : List ℕ) → HasRules checked forms one
    → HasRules checked forms other → one ≡ other
one_of_text checked forms one other p q =
    one_of_tokens checked q.tokens forms one other
    (subst (λ (ts : List Token). HasRulesIn checked ts forms one) (same_tokens checked p.tokens q.tokens p.are q.are) p.has) q.has

-- ---- why rules are not written

-- rules that are written have no fault
bad_of_parts : (checked : List ℕ) (parts : List Part) (forms : List TimeForm) (mended : List ℕ) (bad : HoursFault)
    → HasRulesOf checked parts forms mended → HasBadRuleOf checked parts bad → ⊥
bad_of_parts checked parts forms mended bad p q =
    made_apart checked p.found q.found (comments_of parts) forms p.made bad (p.rules ∙ sym q.rules) p.are_made q.own

-- nor have those of tokens
bad_of_tokens : (checked : List ℕ) (ts : List Token) (forms : List TimeForm) (mended : List ℕ) (bad : HoursFault)
    → HasRulesIn checked ts forms mended → HasBadRuleIn checked ts bad → ⊥
bad_of_tokens checked ts forms mended bad p q =
    bad_of_parts checked (parts_of q.items) forms mended bad
    (subst (λ (items : List Item). HasRulesOf checked (parts_of items) forms mended)
    (same_items checked ts p.items q.items p.are q.are) p.has) q.has

-- nor of a text
bad_of_text : (checked : List ℕ) (forms : List TimeForm) (mended : List ℕ) (bad : HoursFault) → HasRules checked forms mended
    → HasBadRule checked bad → ⊥
bad_of_text checked forms mended bad p q =
    bad_of_tokens checked q.tokens forms mended bad
    (subst (λ (ts : List Token). HasRulesIn checked ts forms mended) (same_tokens checked p.tokens q.tokens p.are q.are) p.has)
    q.has

-- A text with rules and whole comments has no fault.
checked_apart : (checked : List ℕ) (forms : List TimeForm) (mended : List ℕ) (bad : OptionsFault)
    → ends_whole false checked ≡ true → HasRules checked forms mended → IsCheckedFault checked bad → ⊥
checked_apart checked forms mended bad whole p (IsCheckedFault.item place (inl byte) e) =
    apart checked p.tokens place p.are byte.fault
checked_apart checked forms mended bad whole p (IsCheckedFault.item place (inr broken) e) = none_broken checked place whole broken
checked_apart checked forms mended bad whole p (IsCheckedFault.own first q e) = bad_of_text checked forms mended first p q

-- ---- options with which nothing is given

-- clock times with the same fields are the same: that they are in range is no further part of them
clocks_same : (a b : Clocks) → a.open_end ≡ b.open_end → a.points ≡ b.points → a.sunrise ≡ b.sunrise → a.sunset ≡ b.sunset
    → a.dawn ≡ b.dawn → a.dusk ≡ b.dusk → a ≡ b
clocks_same a b open_end points sunrise sunset dawn dusk = λ i. record {
  open_end = open_end i;
  points = points i;
  sunrise = sunrise i;
  sunset = sunset i;
  dawn = dawn i;
  dusk = dusk i;
  open_end_in = is_prop→PathP (λ j. given_or 0 (open_end j) ≤ 2880) (λ j. hlevel props) a.open_end_in b.open_end_in i;
  some_points = is_prop→PathP (λ j. 1 ≤ given_or 1 (points j)) (λ j. hlevel props) a.some_points b.some_points i;
  points_in = is_prop→PathP (λ j. given_or 1 (points j) ≤ 1440) (λ j. hlevel props) a.points_in b.points_in i;
  sunrise_in = is_prop→PathP (λ j. given_or 0 (sunrise j) ≤ 1440) (λ j. hlevel props) a.sunrise_in b.sunrise_in i;
  sunset_in = is_prop→PathP (λ j. given_or 0 (sunset j) ≤ 1440) (λ j. hlevel props) a.sunset_in b.sunset_in i;
  dawn_in = is_prop→PathP (λ j. given_or 0 (dawn j) ≤ 1440) (λ j. hlevel props) a.dawn_in b.dawn_in i;
  dusk_in = is_prop→PathP (λ j. given_or 0 (dusk j) ≤ 1440) (λ j. hlevel props) a.dusk_in b.dusk_in i;
}

-- and so is what is known
known_same : (a b : Known) → a.holidays ≡ b.holidays → a.years ≡ b.years → a ≡ b
known_same a b holidays years = λ i. record { holidays = holidays i; years = years i }

-- they are the same
options_same : (a b : Options) → GivesNothing a → GivesNothing b → a ≡ b
options_same a b p q =
    let known = known_same a.known b.known (p.holidays ∙ sym q.holidays) (p.years ∙ sym q.years) in
    let clocks = clocks_same a.clocks b.clocks (p.open_end ∙ sym q.open_end) (p.points ∙ sym q.points)
    (p.sunrise ∙ sym q.sunrise) (p.sunset ∙ sym q.sunset) (p.dawn ∙ sym q.dawn) (p.dusk ∙ sym q.dusk) in
    λ i. record { known = known i; clocks = clocks i }

-- a fault without options is one with all that give nothing
pub fault_with : (a b : Options) (text : List ℕ) (bad : OptionsFault) → GivesNothing a → GivesNothing b
    → IsOptionsFault a text bad → IsOptionsFault b text bad
fault_with a b text bad p q f = subst (λ (o : Options). IsOptionsFault o text bad) (options_same a b p q) f

-- ---- hours that are read as they are written

-- the same hours without a strict form
abbrev as_written : KnownHours → KnownHours
as_written read = record read { form = None }

-- they have the same marks
marks_so : (rules : List HolidayRule) (read : KnownHours) → HasMarks rules read → HasMarks rules (as_written read)
marks_so rules read m = record { first = m.first; remarks = m.remarks; unknowns = m.unknowns }

-- whichever strict form is told with them
reads_so : (options : Options) (text : List ℕ) (read : KnownHours) → StandsWith options text read
    → StandsWith options text (as_written read)
reads_so options text read (StandsWith.known (KnownStandsFor.plain stands marks)) =
    StandsWith.known (KnownStandsFor.plain stands (marks_so _ read marks))
reads_so options text read (StandsWith.known (KnownStandsFor.listed found other is sound so marks)) =
    StandsWith.known (KnownStandsFor.listed found other is sound so (marks_so _ read marks))
reads_so options text read (StandsWith.timed bad m f given r) = StandsWith.timed bad m f given (record {
  plain = r.plain;
  own = r.own;
  is = r.is;
  stands = r.stands;
  placed = record {
    hours = r.placed.hours;
    first = r.placed.first;
    remarks = r.placed.remarks;
    unknowns = r.placed.unknowns;
  };
})

-- ---- plain hours

-- loosely written hours are written in one way
one_plain : ((text : List ℕ) (one other : Hours) → StandsFor text one → StandsFor text other → hours_text one ≡ hours_text other)
    → (names : DayNames) (text : List ℕ) (one other : LooseHours) → IsLooseReading names text one
    → IsLooseReading names text other → hours_text one.hours ≡ hours_text other.hours
one_plain written names text one other p q =
    loose_reading.one_reading (λ (a b : Hours). hours_text a ≡ hours_text b) written (manner.Loose names) text one other p q

-- ---- texts that are not at fault

module _ (one_way : (how : HowRead) → AreReadInOneWay how) where
  -- a text is at fault or not
  pub sound_apart : (text : List ℕ) (bad : OptionsFault) → IsSound text → IsFaulty text bad → ⊥
  sound_apart text bad (IsSound.read options read nothing stands) f =
      (one_way (record { manner = manner.Strict; options = options })).apart text (as_written read) bad
      (reads_so options text read stands, refl) (fault_with f.options options text bad f.nothing nothing f.fault)
  sound_apart text bad (IsSound.needs options other nothing fault need) f =
      let same : bad ≡ other = (one_way (record { manner = manner.Strict; options = options })).fault text bad other
      (fault_with f.options options text bad f.nothing nothing f.fault) fault in
      false≢true (sym f.own ∙ ap is_need same ∙ need)

-- ---- any text

module _ (written : (text : List ℕ) (one other : Hours) → StandsFor text one → StandsFor text other
    → hours_text one ≡ hours_text other)
    (plain_apart : (names : DayNames) (text : List ℕ) (read : LooseHours) (bad : LooseFault) → IsLooseReading names text read
    → IsReadFault names text (loose.Fault bad) → ⊥)
    (one_times : (text : List ℕ) (one other : List TimeToken) → AreTimeTokens text one → AreTimeTokens text other → one ≡ other)
    (no_place : (text : List ℕ) (tokens : List TimeToken) (place : ℕ) → AreTimeTokens text tokens → IsTimeFault text place → ⊥)
    (one_checked : (text : List ℕ) (one other : MomentText) → IsMomentText text one → IsMomentText text other
    → one.checked.text.items ≡ other.checked.text.items)
    (one_forms : (text : List ℕ) (one other : MomentText) → IsMomentText text one → IsMomentText text other
    → one.forms.items ≡ other.forms.items)
    (one_way : (how : HowRead) → AreReadInOneWay how) where
  -- as it is written it has one mended text
  one_written : (text one other : List ℕ) → IsMended text one → IsMended text other → one ≡ other
  one_written text one other p q =
      let checked = one_checked text p.moments q.moments p.is q.is in
      let forms = one_forms text p.moments q.moments p.is q.is in
      one_of_text q.moments.checked.text.items q.moments.forms.items one other
      (subst (λ (fs : List TimeForm). HasRules q.moments.checked.text.items fs one) forms
      (subst (λ (l : List ℕ). HasRules l p.moments.forms.items one) checked p.has)) q.has

  -- or a fault
  written_apart : (text mended : List ℕ) (bad : OptionsFault) → IsMended text mended → IsUnmended text bad → ⊥
  written_apart text mended bad p (IsUnmended.faulty f) = sound_apart one_way text bad p.sound f
  written_apart text mended bad p (IsUnmended.token place sound f e) = no_place text p.is.tokens place p.is.are f
  written_apart text mended bad p (IsUnmended.checked m sound is f) =
      checked_apart p.moments.checked.text.items p.moments.forms.items mended bad
      (sound_whole one_times one_checked text p.moments p.sound p.is) p.has
      (subst (λ (l : List ℕ). IsCheckedFault l bad) (one_checked text m p.moments is p.is) f)

  -- so has its strict form
  one_form : (names : DayNames) (text one other : List ℕ) → IsMendedForm names text one → IsMendedForm names text other
      → one ≡ other
  one_form names text one other p q =
      one_written q.form.text.items one other
      (subst (λ (l : List ℕ). IsMended l one) (same_form_text names text p.form q.form p.is q.is) p.mends) q.mends

  -- which has no fault then
  form_apart : (names : DayNames) (text mended : List ℕ) (bad : OptionsFault) → IsMendedForm names text mended
      → IsFormFault names text bad → ⊥
  form_apart names text mended bad p (IsFormFault.token why f e) = no_form names text p.form why p.is f
  form_apart names text mended bad p (IsFormFault.form form first is f e) =
      written_apart p.form.text.items mended first p.mends
      (subst (λ (l : List ℕ). IsUnmended l first) (same_form_text names text form p.form is p.is) f)

  -- a text that is no plain hours has one mended text
  one_other : (names : DayNames) (text one other : List ℕ) → IsOtherText names text one → IsOtherText names text other
      → one ≡ other
  one_other names text one other (IsOtherText.written p) (IsOtherText.written q) = one_written text one other p q
  one_other names text one other (IsOtherText.written p) (IsOtherText.form bad f q) = absurd (written_apart text one bad p f)
  one_other names text one other (IsOtherText.form bad f p) (IsOtherText.written q) = absurd (written_apart text other bad q f)
  one_other names text one other (IsOtherText.form bad f p) (IsOtherText.form worse g q) = one_form names text one other p q

  -- A text has one mended text at most.
  pub one_mended : (names : DayNames) (text one other : List ℕ) → IsMendedText names text one → IsMendedText names text other
      → one ≡ other
  one_mended names text one other (IsMendedText.plain a p e) (IsMendedText.plain b q f) =
      e ∙ one_plain written names text a b p q ∙ sym f
  one_mended names text one other (IsMendedText.plain a p e) (IsMendedText.other bad f q) =
      absurd (plain_apart names text a bad p f)
  one_mended names text one other (IsMendedText.other bad f p) (IsMendedText.plain b q e) =
      absurd (plain_apart names text b bad q f)
  one_mended names text one other (IsMendedText.other bad f p) (IsMendedText.other worse g q) = one_other names text one other p q

  -- And then it has no fault.
  pub mended_apart : (names : DayNames) (text mended : List ℕ) (bad : OptionsFault) → IsMendedText names text mended
      → IsMendStop names text (reading.Fault bad) → ⊥
  mended_apart names text mended bad (IsMendedText.plain a p e) (plain, own, f, g, h) = plain_apart names text a plain p f
  mended_apart names text mended bad (IsMendedText.other worse f (IsOtherText.written p)) (plain, own, k, g, h) =
      written_apart text mended own p g
  mended_apart names text mended bad (IsMendedText.other worse f (IsOtherText.form first k p)) (plain, own, l, g, h) =
      form_apart names text mended bad p h
