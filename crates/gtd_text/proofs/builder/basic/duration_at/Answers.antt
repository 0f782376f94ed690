-- Each field that fits goes into the parts, and the sign that closes ends them.
use Rattle.std.proofs.Common.{◌≡◌, false, true, sym, ap, subst, ◌∙◌, arith}
use Rattle.gtd_core.specs.declared.duration.DurationParts.{DurationParts}
use Rattle.gtd_core.specs.Trees.{Single}
use Rattle.gtd_text.specs.Building.{AfterItem, times}
use Rattle.gtd_text.specs.Reached.{Reached}
use Rattle.gtd_text.specs.Fitting.{is_close_brace}
use Rattle.gtd_text.specs.Summary.{duration_takes}
use Rattle.gtd_text.proofs.StepLemmas.{duration_closed, duration_empty, duration_misfit, duration_more, duration_refused, duration_unended, no_duration_field, not_close_brace}
use Rattle.gtd_text.proofs.builder.basic.duration_at.Goals as goal

pub returns-then-not-fits_duration-clause-found : goal.returns-then-not-fits_duration-clause-found
returns-then-not-fits_duration-clause-found c outer sum prod start r =
    let misfit : duration_takes c.loop-token.letters c.in-Some.token.kind ≡ false =
    sym c.fits_duration.ensures ∙ c.if-not-fits_duration.true in
    duration_misfit c.args.text.now c.loop-token.at c.in-Some.token outer sum prod start c.loop-token.parts
    c.loop-token.letters c.loop-token.has_field c.in-Some.ensures.next (ap is_close_brace c.in-Field.is) misfit
    (c.loop-token.invariant.so_far outer sum prod start r)

pub returns-then-not-has_field-clause-found : goal.returns-then-not-has_field-clause-found
returns-then-not-has_field-clause-found c outer sum prod start r =
    duration_empty c.args.text.now c.loop-token.at c.in-Some.token outer sum prod start c.loop-token.parts
    c.loop-token.letters c.loop-token.has_field c.in-Some.ensures.next c.in-CloseBrace.is c.if-not-has_field.true
    (c.loop-token.invariant.so_far outer sum prod start r)

pub returns-in_default-kind : goal.returns-in_default-kind
returns-in_default-kind c = record {
  found = λ outer sum prod start r.
      duration_misfit c.args.text.now c.loop-token.at c.in-Some.token outer sum prod start c.loop-token.parts
      c.loop-token.letters c.loop-token.has_field c.in-Some.ensures.next
      (not_close_brace c.in-Some.token.kind c.in_default-kind.not-CloseBrace)
      (no_duration_field c.loop-token.letters c.in-Some.token.kind c.in_default-kind.not-Field)
      (c.loop-token.invariant.so_far outer sum prod start r);
  past = tt;
  inside = tt;
}

pub loop-token-preserved : goal.loop-token-preserved
loop-token-preserved c = record {
  past = omega (arith, c.in-Some.ensures.past, c.loop-token.invariant.past);
  inside = c.in-Some.ensures.inside;
  so_far = λ outer sum prod start r.
      let fit : duration_takes c.loop-token.letters c.in-Some.token.kind ≡ true =
      sym c.fits_duration.ensures ∙ c.if-not-fits_duration.false in
      duration_more c.args.text.now c.loop-token.at c.in-Some.token c.in-Field.letter c.in-Field.value c.in-Field.digits outer
      sum prod start c.loop-token.parts c.duration_with-parts.result c.loop-token.letters c.with-letters.result
      c.loop-token.has_field c.in-Some.ensures.next c.in-Some.ensures.there c.in-Field.is fit c.duration_with-parts.ensures
      c.with-letters.ensures (c.loop-token.invariant.so_far outer sum prod start r);
}

pub returns-clause-found : goal.returns-clause-found
returns-clause-found c outer sum prod start r =
    duration_unended c.args.text.now c.loop-token.at outer sum prod start c.loop-token.parts c.loop-token.letters
    c.loop-token.has_field c.in_default.ensures.next (c.loop-token.invariant.so_far outer sum prod start r)

pub returns-in-Some-new-clause-found : goal.returns-in-Some-new-clause-found
returns-in-Some-new-clause-found c outer sum prod start r =
    subst (λ (p : DurationParts). Reached c.args.text.now c.in-Some.token.to
    (AfterItem outer sum (times prod (Single start p)))) (sym c.in-Some-new.ensures.kept)
    (duration_closed c.args.text.now c.loop-token.at c.in-Some.token outer sum prod start c.loop-token.parts
    c.loop-token.letters c.loop-token.has_field c.in-Some.ensures.next c.in-Some.ensures.there c.in-CloseBrace.is
    c.if-not-has_field.false (c.loop-token.invariant.so_far outer sum prod start r))

pub returns-in-None-clause-found : goal.returns-in-None-clause-found
returns-in-None-clause-found c outer sum prod start r =
    duration_refused c.args.text.now c.loop-token.at c.in-Some.token outer sum prod start c.loop-token.parts
    c.loop-token.letters c.loop-token.has_field c.in-Some.ensures.next c.in-CloseBrace.is
    (λ ok. let bad = c.in-None.ensures.accepted.1 ok in absurd cc)
    (c.loop-token.invariant.so_far outer sum prod start r)
