-- Each of the two is closed where the other is.
use Rattle.std.proofs.Common.{◌≡◌, ◌∙◌, subst}
use Rattle.gtd_rows.specs.declared.direction.DirectedElement.{DirectedElement}
use Rattle.gtd_records.specs.facts.IndexFacts.{any_default}
use Rattle.gtd_alike.specs.Alike.{AreOpenAlike, asked_at}
use Rattle.gtd_alike.proofs.elements.ElementsLikeness.is_alike.Goals as goal

pub returns : goal.returns
returns c =
    let asked = c.args.self.now.asked.now in
    let rows = c.args.self.now.found.now in
    let vehicle = c.args.self.now.vehicle in
    let first = c.in-Some.one.now in
    let second = c.in-Some-get.other.now in
    let look = c.in-Some.ensures.lookup in
    let see = c.in-Some-get.ensures.lookup in
    let one : first ≡ asked_at asked c.args.first = look.1 ∙ any_default asked c.args.first _ _ look.3.0 in
    let other : second ≡ asked_at asked c.args.second = see.1 ∙ any_default asked c.args.second _ _ see.3.0 in
    record {
      alike = λ yes.
          subst (λ (a : DirectedElement). AreOpenAlike rows vehicle a (asked_at asked c.args.second)) one
          (subst (λ (b : DirectedElement). AreOpenAlike rows vehicle first b) other
          (λ t.
          let same = c.are_closed_alike.ensures.alike yes t in (
            (λ free closed. free (same.1 closed)),
            (λ free closed. free (same.0 closed)),
          )));
    }
