-- What is wrong with a token that does not go on, computed: behind the token that was read last and the place to which it led,
-- where the reading has come to another place since.
use Rattle.std.specs.Prelude.{ℕ, Bool, Option, if◌then◌else◌}
use Rattle.gtd_hours_tokens.specs.declared.token.Token.{Token}
use Rattle.gtd_hours_tokens.specs.declared.token.TokenKind.{TokenKind}
use Rattle.gtd_hours_tokens.specs.declared.token.TokenKind.TheVariants as token
use Rattle.gtd_hours_grammar.specs.declared.fault.FaultKind.{FaultKind}
use Rattle.gtd_hours_grammar.specs.declared.fault.FaultKind.TheVariants as fault
use Rattle.gtd_hours_moves.specs.declared.place.Place.{Place}
use Rattle.gtd_hours_moves.specs.Grammar.{by_place, with_years}
use Rattle.gtd_hours_grammar.specs.Faults.{dash_kind, day_kind, is_offset, is_told_before, plus_kind, weekday_kind}
use Rattle.gtd_hours_moves.specs.Sound.{takes_number, takes_time}
use Rattle.gtd_hours_moves.specs.Runs.{is_judged}

abbrev pub range_if : Bool → FaultKind
range_if b = if b then fault.Range else fault.Unexpected

-- what is wrong with a number: it is a step of too many years, or out of its range, or none is expected
abbrev pub number_misfit : Bool → Bool → FaultKind
number_misfit many fits = if many then fault.Years else range_if fits

-- where a fault of this kind is told at a token, behind one at the place before, which may be the sign of an offset
abbrev pub place_of : FaultKind → Bool → ℕ → Token → ℕ
place_of fault.Years offset before t = before
place_of fault.Range offset before t = if is_told_before offset t.kind then before else t.from
place_of kind offset before t = t.from

abbrev pub misfit_of : Place → Place → Option TokenKind → Option TokenKind → TokenKind → FaultKind
misfit_of behind at before last (token.Number value digits) =
    number_misfit (is_judged at (token.Number value digits) with_years) (takes_number behind)
misfit_of behind at before last (token.Time hour minute) = range_if (takes_time behind)
misfit_of behind at before last (token.Month m) = range_if (is_judged at (token.Month m) by_place)
misfit_of behind at before last token.Slash = range_if (is_judged at token.Slash by_place)
misfit_of behind at before last token.Unsupported = fault.Unsupported
misfit_of behind at before last token.Plus = plus_kind last
misfit_of behind at before last token.Dash = dash_kind last
misfit_of behind at before last token.Day = day_kind before last
misfit_of behind at before last (token.Weekday k) = weekday_kind (is_offset before last)
misfit_of behind at before last t = fault.Unexpected
