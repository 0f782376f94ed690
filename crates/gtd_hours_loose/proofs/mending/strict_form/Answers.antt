-- Numbers that could be times and are not read as times make the text ambiguous, at the place of the first of them.
use Rattle.std.proofs.Common.{◌≡◌, ◌∙◌, ℕ, List, Ok, ap, map, refl, subst, sym}
use Rattle.std.specs.Char.{to_ascii_lowercase}
use Rattle.gtd_hours_loose_tokens.specs.Lexing.{tokens_of}
use Rattle.gtd_hours_loose.specs.Pairs.{pair_fault}
use Rattle.gtd_hours_loose.specs.StrictForms.{pair}
use Rattle.gtd_hours_loose.proofs.mending.strict_form.Goals as goal

pub returns-in-Some-clause-fault : goal.returns-in-Some-clause-fault
returns-in-Some-clause-fault c =
    let low : c.as_slice.result.now ≡ map to_ascii_lowercase c.args.text.now =
    c.as_slice.ensures.value ∙ c.in_ok-lower.ensures.ok in
    let are = subst (λ (l : List ℕ). tokens_of c.args.names l ≡ Ok c.in_ok-tokens.tokens.items) low
    c.in_ok-tokens.ensures.tokens in
    pair c.in_ok-tokens.tokens.items c.in-Some.place are
    (ap pair_fault (sym c.as_slice-2.ensures.value) ∙ sym c.in-Some.ensures) refl
