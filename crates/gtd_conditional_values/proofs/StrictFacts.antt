-- What hours are where they are read strictly, and what plain hours are however they are read.
use Rattle.std.proofs.Common.{◌≡◌, subst, sym, ℕ, List}
use Rattle.std.specs.Prelude.{None}
use Rattle.gtd_hours.specs.declared.hours.Hours.{Hours}
use Rattle.gtd_hours_known.specs.Reading.{KnownStandsFor}
use Rattle.gtd_hours_known.specs.declared.known.KnownHours.{KnownHours}
use Rattle.gtd_hours_loose.specs.declared.manner.Manner.{Manner}
use Rattle.gtd_hours_loose.specs.declared.manner.Manner.TheVariants as manner
use Rattle.gtd_hours_options.specs.Manners.{IsLooseReading, IsReadFaultWithIn, IsReadingWithIn}
use Rattle.gtd_hours_options.specs.Reading.{IsOptionsFault, StandsWith}
use Rattle.gtd_hours_options.specs.Readings.{HowRead}
use Rattle.gtd_hours_options.specs.declared.fault.OptionsFault.{OptionsFault}
use Rattle.gtd_hours_options.specs.declared.fault.OptionsReadFault.TheVariants as unread
use Rattle.gtd_hours_options.specs.declared.options.Options.{Options}
use Rattle.gtd_hours_text.specs.Standing.{StandsFor}
use Rattle.gtd_conditional_values.specs.ReadTerms.{IsHours, IsHoursFault}
use Rattle.gtd_conditional_values.specs.declared.hours.TermHours.{TermHours}
use Rattle.gtd_conditional_values.specs.declared.term.Term.TheVariants as term
use Rattle.gtd_conditional_values.specs.declared.term.TermFault.{TermFault}
use Rattle.gtd_conditional_values.specs.declared.term.TermFault.TheVariants as fault

-- ---- strictly

pub strict_hours : (how : HowRead) (place : ℕ) (text : List ℕ) (given : TermHours) → how.manner ≡ manner.Strict
    → IsHours how place text (term.Hours given)
    → (read : KnownHours) × StandsWith how.options text read × (read.form ≡ None) × (given.hours ≡ read.hours)
strict_hours how place text given strict is =
    let stands = subst (λ (m : Manner). IsReadingWithIn m how.options text is.0) strict is.1 in
    (is.0, stands.0, stands.1, is.2.hours)

pub strict_fault : (how : HowRead) (place : ℕ) (text : List ℕ) (bad : TermFault) → how.manner ≡ manner.Strict
    → IsHoursFault how place text bad
    → (first : OptionsFault) × IsOptionsFault how.options text first × (bad ≡ fault.Hours place first)
strict_fault how place text bad strict is =
    (is.0, subst (λ (m : Manner). IsReadFaultWithIn m how.options text (unread.Fault is.0)) strict is.1, is.2)

-- ---- a text that stands for plain hours as it is written

module _ (options : Options) (text : List ℕ) (hours : Hours) (plain : StandsFor text hours) where
  -- it is no text with holidays
  known_plainly : (read : KnownHours) → KnownStandsFor options.known text read → StandsFor text read.hours
  known_plainly read (KnownStandsFor.plain stands marks) = stands
  known_plainly read (KnownStandsFor.listed found other is sound known marks) = absurd (other (plain.p, plain.is))

  -- nor one with times
  stands_plainly : (read : KnownHours) → StandsWith options text read → StandsFor text read.hours
  stands_plainly read (StandsWith.known stands) = known_plainly read stands
  stands_plainly read (StandsWith.timed bad moments wrong given reading) = absurd (wrong.0 (plain.p, plain.is))

  no_fault : (bad : OptionsFault) → IsOptionsFault options text bad → ⊥
  no_fault bad is = is.1.0 (plain.p, plain.is)

  reads_plainly : (m : Manner) (read : KnownHours) → IsReadingWithIn m options text read → StandsFor text read.hours
  reads_plainly manner.Strict read is = stands_plainly read is.0
  reads_plainly (manner.Loose names) read (IsLooseReading.written form stands) = stands_plainly read stands
  reads_plainly (manner.Loose names) read (IsLooseReading.mended bad form own wrong is stands placed) =
      absurd (no_fault bad wrong)

  no_fault_in : (m : Manner) (bad : OptionsFault) → IsReadFaultWithIn m options text (unread.Fault bad) → ⊥
  no_fault_in manner.Strict bad is = no_fault bad is
  no_fault_in (manner.Loose names) bad is = no_fault is.0 is.1

pub plain_hours : (how : HowRead) (place : ℕ) (text : List ℕ) (hours : Hours) (given : TermHours) → StandsFor text hours
    → IsHours how place text (term.Hours given) → StandsFor text given.hours
plain_hours how place text hours given plain is =
    subst (λ (h : Hours). StandsFor text h) (sym is.2.hours) (reads_plainly how.options text hours plain how.manner is.0 is.1)

pub plain_fault : (how : HowRead) (place : ℕ) (text : List ℕ) (hours : Hours) (bad : TermFault) → StandsFor text hours
    → IsHoursFault how place text bad → ⊥
plain_fault how place text hours bad plain is = no_fault_in how.options text hours plain how.manner is.0 is.1
