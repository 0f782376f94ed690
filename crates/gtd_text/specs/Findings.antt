-- What the check keeps in one pass over the tokens: the first fault of each kind so far, and what finds later ones. It
-- defines no fault: `FirstFault` does, and it is proved that both say the same.
use Rattle.std.specs.Prelude.{ℕ, [], Option, Some, None, nat_lt, if◌then◌else◌}
use Rattle.std.specs.Option.{option_or}
use Rattle.gtd_core.specs.Limits.{most_bound, most_basic_domains, most_depth}
use Rattle.gtd_core.specs.Ranges.{bound_of}
use Rattle.gtd_core.specs.declared.fault.Fault.TheVariants as faults
use Rattle.gtd_core.specs.declared.fault.TextFault.{TextFault}
use Rattle.gtd_text.specs.declared.token.Token.{Token}
use Rattle.gtd_text.specs.declared.token.TokenKind.{TokenKind}
use Rattle.gtd_text.specs.declared.token.TokenKind.TheVariants.{OpenBrace, Field}
use Rattle.gtd_text.specs.declared.check.findings.Findings.{Findings}
use Rattle.gtd_text.specs.declared.check.grammar.Seen.{Seen}
use Rattle.gtd_text.specs.declared.check.limits.OpenDuration.{OpenDuration}
use Rattle.gtd_text.specs.Grammar.{zero_parts}
use Rattle.gtd_text.specs.ComputedFields.{with_duration_field}
use Rattle.gtd_text.specs.Found.{count_after, depth_after}
use Rattle.gtd_text.specs.Summary.{seen, seen_with, takes, misfit, ends}

-- The fault of a token after which this many brackets are open, or this many parentheses have opened.
abbrev pub too_deep_at : ℕ → ℕ → Option TextFault
too_deep_at depth place = if nat_lt most_depth depth then Some (record { kind = faults.TooDeep; place = place }) else None

abbrev pub too_many_at : ℕ → ℕ → Option TextFault
too_many_at count place =
    if nat_lt most_basic_domains count then Some (record { kind = faults.TooMany; place = place }) else None

-- The fault of a token that does not fit after those before it.
abbrev pub misfit_at : Seen → Token → Option TextFault
misfit_at before token =
    if takes before token.kind then None else Some (record { kind = misfit before token.kind; place = token.from })

-- The fault of tokens that end too early.
abbrev pub incomplete_at : Seen → ℕ → Option TextFault
incomplete_at before end = if ends before then None else Some (record { kind = faults.Incomplete; place = end })

-- The fault of a duration that ends with the fields so far.
abbrev pub fault_of_opened : Option OpenDuration → Option TextFault
fault_of_opened None = None
fault_of_opened (Some duration) =
    if nat_lt most_bound (bound_of duration.parts)
    then Some (record { kind = faults.TooLongDuration; place = duration.place })
    else None

-- The duration that is open after one more token, which is at this place.
abbrev pub with_field : Option OpenDuration → TokenKind → Option OpenDuration
with_field None field = None
with_field (Some duration) field =
    Some (record { place = duration.place; parts = with_duration_field duration.parts field })

abbrev pub opened_after : Option OpenDuration → TokenKind → ℕ → Option OpenDuration
opened_after opened (Field letter value digits) place = with_field opened (Field letter value digits)
opened_after opened OpenBrace place = Some (record { place = place; parts = zero_parts })
opened_after opened sign place = None

-- The first fault of a duration: a sign ends the one that is open.
abbrev pub too_long_with : Option TextFault → Option OpenDuration → TokenKind → Option TextFault
too_long_with found opened (Field letter value digits) = found
too_long_with found opened sign = option_or found (fault_of_opened opened)

-- Before any token is read.
abbrev pub no_findings : Findings
no_findings = record {
  seen = seen [];
  count = 0;
  opened = None;
  too_deep = None;
  too_many = None;
  misfit = None;
  too_long = None;
}

-- One more token is read.
abbrev pub findings_with : Findings → Token → Findings
findings_with before token = record {
  seen = seen_with before.seen token.kind;
  count = count_after before.count token.kind;
  opened = opened_after before.opened token.kind token.from;
  too_deep = option_or before.too_deep (too_deep_at (depth_after before.seen.depth token.kind) token.from);
  too_many = option_or before.too_many (too_many_at (count_after before.count token.kind) token.from);
  misfit = option_or before.misfit (misfit_at before.seen token);
  too_long = too_long_with before.too_long before.opened token.kind;
}

-- The first fault, if the text ends here.
abbrev pub first_of : ℕ → Findings → Option TextFault
first_of end findings =
    option_or
    (option_or (option_or findings.too_deep findings.too_many) (option_or findings.misfit (incomplete_at findings.seen end)))
    (option_or findings.too_long (fault_of_opened findings.opened))
