use Rattle.std.proofs.Common.{◌≡◌, ap, subst, arith, ◌++◌, List, ℕ, length, length-append, Option}
use Rattle.std.specs.Prelude.{Result}
use Rattle.std.proofs.lemmas.Result.{err_from_is_err_and}
use Rattle.gtd_core.specs.declared.horizon.Horizon.{Horizon}
use Rattle.gtd_records.specs.Closing.{Restriction}
use Rattle.gtd_report.specs.facts.ElementFacts.{few_elements}
use Rattle.gtd_report.specs.facts.PutFacts.{puts_nothing}
use Rattle.gtd_report.specs.Putting.{IsByElement, PutsText}
use Rattle.gtd_report.specs.declared.output.Progress.{Progress}
use Rattle.gtd_report.specs.declared.output.Stop.{Stop}
use Rattle.gtd_changes.proofs.FormFacts.{one_in}
use Rattle.gtd_changes.specs.Forms.{AreLinesIn, IsTextIn, header_in}
use Rattle.gtd_changes.specs.declared.form.Form.{Form}
use Rattle.gtd_changes.proofs.run.ChangesReport.put.Goals as goal

-- what was put of two files that are these
put_of : (form : Form) (vehicle : ℕ) (horizon : Horizon) (one two old new : List Restriction) (header : List ℕ)
    (r : Result (Unit {0}) Stop) (a b : Option (List ℕ)) (p q : Progress) → one ≡ old → two ≡ new → header ≡ header_in form
    → PutsText (IsByElement (old ++ new) header (AreLinesIn form one two vehicle horizon)) r a b p q
    → PutsText (IsTextIn form old new vehicle horizon) r a b p q
put_of form vehicle horizon one two old new header r a b p q e f h puts =
    subst (λ (x : List Restriction). PutsText
    (IsByElement (old ++ new) (header_in form) (AreLinesIn form x new vehicle horizon)) r a b p q) e
    (subst (λ (x : List Restriction). PutsText
    (IsByElement (old ++ new) (header_in form) (AreLinesIn form one x vehicle horizon)) r a b p q) f
    (subst (λ (x : List ℕ). PutsText
    (IsByElement (old ++ new) x (AreLinesIn form one two vehicle horizon)) r a b p q) h puts))

pub returns-in_err-elements-clause-puts : goal.returns-in_err-elements-clause-puts
returns-in_err-elements-clause-puts g c =
    let p = err_from_is_err_and c.from_residual.result c.from_residual.ensures.1 in
    rw (p.1) (λ lines is. puts_nothing p.0 (g.O.Output.taken c.args.output.now) c.args.printer.now.progress lines)

pub returns-in_err-pair-clause-puts : goal.returns-in_err-pair-clause-puts
returns-in_err-pair-clause-puts g c =
    let p = err_from_is_err_and c.from_residual-in_err-pair.result c.from_residual-in_err-pair.ensures.1 in
    rw (p.1) (λ lines is. puts_nothing p.0 (g.O.Output.taken c.args.output.now) c.args.printer.now.progress lines)

pub put_listed-requires-clause-few : goal.put_listed-requires-clause-few
put_listed-requires-clause-few g c =
    let few = few_elements (c.args.self.now.old.now ++ c.args.found.now) c.in_ok-elements.elements.items
    c.in_ok-elements.ensures.named in
    let both = length-append c.args.self.now.old.now c.args.found.now in
    let same = ap length c.as_slice.ensures.value in
    omega (arith, few, both, same, c.requires.few, c.args.self.now.few)

pub put_listed-requires-clause-one : goal.put_listed-requires-clause-one
put_listed-requires-clause-one g c =
    let pair = c.in_ok-pair.pair in
    let asked = c.args.self.now.asked in
    one_in pair.old.now pair.new.now asked.vehicle asked.horizon asked.form

pub returns-clause-puts : goal.returns-clause-puts
returns-clause-puts g c =
    let pair = c.in_ok-pair.pair in
    let asked = c.args.self.now.asked in
    let taken = g.O.Output.taken in
    put_of asked.form asked.vehicle asked.horizon pair.old.now pair.new.now c.args.self.now.old.now c.args.found.now
    c.header_in-header.result.now c.put_listed.result (taken c.args.output.now) (taken c.put_listed.new.output)
    c.args.printer.now.progress c.put_listed.new.printer.progress c.in_ok-pair.ensures.files.0 c.in_ok-pair.ensures.files.1
    c.header_in-header.ensures.value
    (c.put_listed.ensures.puts (c.args.self.now.old.now ++ c.args.found.now)
    (rw (c.as_slice.ensures.value) c.in_ok-elements.ensures.named))
