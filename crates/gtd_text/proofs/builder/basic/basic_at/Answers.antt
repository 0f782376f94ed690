-- The start, the brace and the duration each lead on from where the one before ends.
use Rattle.std.proofs.Common.{◌≡◌, None, refl, ap, rules}
use Rattle.gtd_core.specs.Parts.{start_parts}
use Rattle.gtd_text.specs.Building.{AfterStart}
use Rattle.gtd_text.specs.Fitting.{is_open_brace}
use Rattle.gtd_text.proofs.BuildLemmas.{none_finishes}
use Rattle.gtd_text.proofs.StepLemmas.{brace_on, no_brace, not_open}
use Rattle.gtd_text.proofs.builder.basic.basic_at.Goals as goal

pub returns-in_err-start-clause-found : goal.returns-in_err-start-clause-found
returns-in_err-start-clause-found c outer sum prod r =
    let none : c.from_residual.result ≡ None = search rules in
    rw none (c.in_err-start.ensures.found outer sum prod r)

pub returns-in_err-brace-clause-found : goal.returns-in_err-brace-clause-found
returns-in_err-brace-clause-found c outer sum prod r =
    let none : c.from_residual-in_err-brace.result ≡ None = search rules in
    rw none (none_finishes c.args.text.now c.in_ok-start.end (AfterStart outer sum prod (start_parts c.in_ok-start.start))
    (c.in_ok-start.ensures.found outer sum prod r) c.in_err-brace.ensures.next refl)

pub returns-in_err-duration-in-OpenBrace-clause-found : goal.returns-in_err-duration-in-OpenBrace-clause-found
returns-in_err-duration-in-OpenBrace-clause-found c outer sum prod r =
    let none : c.from_residual-in_err-duration-in-OpenBrace.result ≡ None = search rules in
    let start = start_parts c.in_ok-start.start in
    rw none (c.in_err-duration-in-OpenBrace.ensures.found outer sum prod start
    (brace_on c.args.text.now c.in_ok-start.end c.in_ok-brace.brace outer sum prod start c.in_ok-brace.ensures.next
    c.in_ok-brace.ensures.there (ap is_open_brace c.in-OpenBrace.is) (c.in_ok-start.ensures.found outer sum prod r)))

pub returns-in_ok-duration-in-OpenBrace-clause-found : goal.returns-in_ok-duration-in-OpenBrace-clause-found
returns-in_ok-duration-in-OpenBrace-clause-found c outer sum prod r =
    let start = start_parts c.in_ok-start.start in
    c.in_ok-duration-in-OpenBrace.ensures.found outer sum prod start
    (brace_on c.args.text.now c.in_ok-start.end c.in_ok-brace.brace outer sum prod start c.in_ok-brace.ensures.next
    c.in_ok-brace.ensures.there (ap is_open_brace c.in-OpenBrace.is) (c.in_ok-start.ensures.found outer sum prod r))

pub returns-in_default : goal.returns-in_default
returns-in_default c = record {
  found = λ outer sum prod r.
      no_brace c.args.text.now c.in_ok-start.end c.in_ok-brace.brace outer sum prod (start_parts c.in_ok-start.start)
      c.in_ok-brace.ensures.next (not_open c.in_ok-brace.brace.kind c.in_default.not-OpenBrace)
      (c.in_ok-start.ensures.found outer sum prod r);
  past = tt;
  inside = tt;
}
