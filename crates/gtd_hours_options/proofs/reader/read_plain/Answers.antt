-- Hours and fault are those of the plain text, at places of the text.
use Rattle.std.proofs.Common.{◌∙◌, ap, ℕ, List, length, subst, sym}
use Rattle.gtd_hours_known.specs.Reading.{IsKnownStop, KnownStandsFor}
use Rattle.gtd_hours_moments.specs.declared.placed.Placed.{Placed}
use Rattle.gtd_hours_options.specs.Reading.{IsTimesStop, plain_stop}
use Rattle.gtd_hours_options.specs.Told.{IsPlacedReading}
use Rattle.gtd_hours_options.proofs.ReadingFacts.{no_text, plain_text}
use Rattle.gtd_hours_options.proofs.reader.read_plain.Goals as goal

pub returns-in-Err-clause-fault : goal.returns-in-Err-clause-fault
returns-in-Err-clause-fault c =
    subst (IsTimesStop c.args.options.now c.args.text.now) (sym c.stopped.ensures)
    (no_text c.args.options.now c.args.text.now c.in-Err.why c.in-Err.ensures.fault)

pub returns-in-Err-read_known_hours-clause-fault : goal.returns-in-Err-read_known_hours-clause-fault
returns-in-Err-read_known_hours-clause-fault c =
    let why = c.in-Err-read_known_hours.why in
    let fault = subst (λ (l : List ℕ). IsKnownStop c.args.options.now.known l why) c.as_slice.ensures.value
    c.in-Err-read_known_hours.ensures.fault in
    let same = c.plain_stop.ensures
    ∙ ap (λ (l : List Placed). plain_stop (length c.args.text.now) l why) c.as_slice-in-Err-read_known_hours.ensures.value in
    subst (IsTimesStop c.args.options.now c.args.text.now) (sym same)
    (plain_text c.args.options.now c.args.text.now c.args.moments.now c.in-Ok.plain why c.requires c.in-Ok.ensures.plain fault)

pub returns-clause-hours : goal.returns-clause-hours
returns-clause-hours c =
    let own = c.in-Ok-read_known_hours.read in
    record {
      plain = c.in-Ok.plain;
      own = own;
      is = c.in-Ok.ensures.plain;
      stands = subst (λ (l : List ℕ). KnownStandsFor c.args.options.now.known l own)
          c.as_slice.ensures.value c.in-Ok-read_known_hours.ensures.hours;
      placed = subst (λ (l : List Placed). IsPlacedReading (length c.args.text.now) l own c.in-Ok-placed_read.read)
          c.as_slice-in-Ok-read_known_hours.ensures.value c.in-Ok-placed_read.ensures.hours;
    }
