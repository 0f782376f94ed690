-- Each field that fits goes into the parts, and the sign that closes ends them.
use Rattle.std.proofs.Common.{◌≡◌, false, true, refl, sym, ap, subst, ◌∙◌, arith, rules}
use Rattle.gtd_core.specs.Ranges.{no_parts}
use Rattle.gtd_core.specs.declared.start.StartParts.{StartParts}
use Rattle.gtd_text.specs.Building.{AfterStart}
use Rattle.gtd_text.specs.Reached.{Reached}
use Rattle.gtd_text.specs.Fitting.{is_close_parenthesis}
use Rattle.gtd_text.specs.Summary.{start_takes}
use Rattle.gtd_text.proofs.StepLemmas.{no_start_field, not_close, start_closed, start_front, start_misfit, start_more, start_refused, start_unended}
use Rattle.gtd_text.proofs.builder.basic.start_at.Goals as goal

pub loop-token-init : goal.loop-token-init
loop-token-init c = record {
  past = omega arith;
  inside = c.requires;
  so_far = λ outer sum prod r.
      let none : c.default-parts.result ≡ no_parts = search rules in
      start_front c.args.text.now c.args.place outer sum prod c.default-parts.result c.none-letters.result none
      c.none-letters.ensures r;
}

pub returns-then-not-fits_start-clause-found : goal.returns-then-not-fits_start-clause-found
returns-then-not-fits_start-clause-found c outer sum prod r =
    let misfit : start_takes c.loop-token.letters c.in-Some.token.kind ≡ false =
    sym c.fits_start.ensures ∙ c.if-not-fits_start.true in
    start_misfit c.args.text.now c.loop-token.at c.in-Some.token outer sum prod c.loop-token.parts c.loop-token.letters
    c.in-Some.ensures.next (ap is_close_parenthesis c.in-Field.is) misfit (c.loop-token.invariant.so_far outer sum prod r)

pub returns-in_default-kind : goal.returns-in_default-kind
returns-in_default-kind c = record {
  found = λ outer sum prod r.
      start_misfit c.args.text.now c.loop-token.at c.in-Some.token outer sum prod c.loop-token.parts c.loop-token.letters
      c.in-Some.ensures.next (not_close c.in-Some.token.kind c.in_default-kind.not-CloseParenthesis)
      (no_start_field c.loop-token.letters c.in-Some.token.kind c.in_default-kind.not-Field)
      (c.loop-token.invariant.so_far outer sum prod r);
  past = tt;
  inside = tt;
}

pub loop-token-preserved : goal.loop-token-preserved
loop-token-preserved c = record {
  past = omega (arith, c.in-Some.ensures.past, c.loop-token.invariant.past);
  inside = c.in-Some.ensures.inside;
  so_far = λ outer sum prod r.
      let fit : start_takes c.loop-token.letters c.in-Some.token.kind ≡ true =
      sym c.fits_start.ensures ∙ c.if-not-fits_start.false in
      start_more c.args.text.now c.loop-token.at c.in-Some.token c.in-Field.letter c.in-Field.value c.in-Field.digits outer sum
      prod c.loop-token.parts c.start_with-parts.result c.loop-token.letters c.with-letters.result c.in-Some.ensures.next
      c.in-Some.ensures.there c.in-Field.is fit c.start_with-parts.ensures c.with-letters.ensures
      (c.loop-token.invariant.so_far outer sum prod r);
}

pub returns-clause-found : goal.returns-clause-found
returns-clause-found c outer sum prod r =
    start_unended c.args.text.now c.loop-token.at outer sum prod c.loop-token.parts c.loop-token.letters
    c.in_default.ensures.next (c.loop-token.invariant.so_far outer sum prod r)

pub returns-in-Some-new-clause-found : goal.returns-in-Some-new-clause-found
returns-in-Some-new-clause-found c outer sum prod r =
    subst (λ (p : StartParts). Reached c.args.text.now c.in-Some.token.to (AfterStart outer sum prod p))
    (sym c.in-Some-new.ensures.kept)
    (start_closed c.args.text.now c.loop-token.at c.in-Some.token outer sum prod c.loop-token.parts c.loop-token.letters
    c.in-Some.ensures.next c.in-Some.ensures.there c.in-CloseParenthesis.is (c.in-Some-new.ensures.accepted.0 refl)
    (c.loop-token.invariant.so_far outer sum prod r))

pub returns-in-None-clause-found : goal.returns-in-None-clause-found
returns-in-None-clause-found c outer sum prod r =
    start_refused c.args.text.now c.loop-token.at c.in-Some.token outer sum prod c.loop-token.parts c.loop-token.letters
    c.in-Some.ensures.next c.in-CloseParenthesis.is (λ ok. let bad = c.in-None.ensures.accepted.1 ok in absurd cc)
    (c.loop-token.invariant.so_far outer sum prod r)
