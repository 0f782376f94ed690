-- The line, the row and the text of its domain are the members of one object, in this order.
use Rattle.std.specs.Prelude.{◌++◌, [], ◌∷◌, codes}
use Rattle.json.specs.Token.{begin_object, end_object}
use Rattle.gtd_now.proofs.Appending.{both, on_ok, three}
use Rattle.gtd_now.specs.ObjectTokens.{number_member, text_member}
use Rattle.gtd_now.proofs.object.write_reason.Goals as goal

pub returns-clause-tokens : goal.returns-clause-tokens
returns-clause-tokens c =
    let line = number_member (codes "line") c.args.line in
    let row = number_member (codes "row") c.args.row in
    let text = text_member (codes "domain") c.as_str.result.now in
    let words = text_member (codes "words") c.as_str-2.result.now in
    rw (← c.in_ok-text.ensures, ← c.as_str.ensures.value, ← c.in_ok-words.ensures, ← c.as_str-2.ensures.value)
    (on_ok c.end_object.result _ _
    (λ e. three c.args.out.now.tokens c.begin_object.new.self.tokens c.write_number.new.out.tokens c.end_object.new.self.tokens
    (begin_object ∷ []) line (row ++ (text ++ (words ++ (end_object ∷ []))))
    c.in_ok-begin_object.ensures.ok c.in_ok-write_number.ensures.tokens
    (both c.end_object.new.self.tokens c.write_number-2.new.out.tokens c.write_number.new.out.tokens row
    (text ++ (words ++ (end_object ∷ [])))
    c.in_ok-write_number-2.ensures.tokens
    (three c.write_number-2.new.out.tokens c.write_text.new.out.tokens c.write_text-2.new.out.tokens c.end_object.new.self.tokens
    text words (end_object ∷ []) c.in_ok-write_text.ensures.tokens c.in_ok-write_text-2.ensures.tokens e)))
    c.end_object.ensures.ok)
