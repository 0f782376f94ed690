-- The name of a rule is a text, so bytes that are no text name none.
use Rattle.std.proofs.Common.{sym, subst}
use Rattle.std.specs.Str.{IsUtf8}
use Rattle.gtdesk_words.proofs.RuleFacts.{names_are_text}
use Rattle.gtdesk_words.proofs.words.rule_named.Goals as goal

pub returns-in-Err : goal.returns-in-Err
returns-in-Err c = λ rule e.
    c.in-Err.ensures.cases.0 (subst IsUtf8 (sym e) (names_are_text rule))
