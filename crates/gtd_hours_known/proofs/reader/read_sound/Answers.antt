-- The rules need something, or all is given that they need.
use Rattle.std.proofs.Common.{◌∙◌, ◌≡◌, sym, subst, List}
use Rattle.std.specs.Prelude.{IfErr, IfOk}
use Rattle.gtd_hours_holiday_rules.specs.declared.rules.HolidayRule.{HolidayRule}
use Rattle.gtd_hours_known.specs.Given.{AreAllGiven}
use Rattle.gtd_hours_known.specs.Needs.{first_need}
use Rattle.gtd_hours_known.specs.Reading.{IsTableStop, needed}
use Rattle.gtd_hours_known.specs.Rules.{AreHolidayRules}
use Rattle.gtd_hours_known.proofs.GivenFacts.{all_given}
use Rattle.gtd_hours_known.proofs.ReadingFacts.{known_hours, table_fault}
use Rattle.gtd_hours_known.proofs.reader.read_sound.Goals as goal

pub read_given-requires-clause-given : goal.read_given-requires-clause-given
read_given-requires-clause-given c =
    let need : first_need c.args.known.now c.args.found.now.rules.items ≡ c.first_need.result =
    sym (rw c.as_slice.ensures.value at c.first_need.ensures) in
    subst (λ (rs : List HolidayRule). AreAllGiven c.args.known.now rs) (sym c.as_slice-in-None.ensures.value)
    (all_given c.args.known.now c.args.found.now.rules.items (need ∙ c.in-None.is))

pub returns-in-Some-clause-fault : goal.returns-in-Some-clause-fault
returns-in-Some-clause-fault c =
    let need : first_need c.args.known.now c.args.found.now.rules.items ≡ c.first_need.result =
    sym (rw c.as_slice.ensures.value at c.first_need.ensures) in
    needed c.requires (need ∙ c.in-Some.is)

pub returns-in-None-clause-hours : goal.returns-in-None-clause-hours
returns-in-None-clause-hours c =
    let known = c.args.known.now in
    let need : first_need known c.args.found.now.rules.items ≡ c.first_need.result =
    sym (rw c.as_slice.ensures.value at c.first_need.ensures) in
    known_hours known c.args.found.now c.read_given.result (need ∙ c.in-None.is)
    (subst (λ (rs : List HolidayRule). IfOk c.read_given.result (λ read. AreHolidayRules known rs read.hours.rules.items))
    c.as_slice-in-None.ensures.value c.read_given.ensures.rules)

pub returns-in-None-clause-fault : goal.returns-in-None-clause-fault
returns-in-None-clause-fault c =
    let known = c.args.known.now in
    let need : first_need known c.args.found.now.rules.items ≡ c.first_need.result =
    sym (rw c.as_slice.ensures.value at c.first_need.ensures) in
    table_fault known c.args.found.now c.read_given.result c.requires (need ∙ c.in-None.is)
    (subst (λ (rs : List HolidayRule). IfErr c.read_given.result (IsTableStop known rs)) c.as_slice-in-None.ensures.value
    c.read_given.ensures.fault)
