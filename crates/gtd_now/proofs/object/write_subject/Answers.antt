-- The element, the direction and the vehicle type are written one behind the other, as the members of a subject.
use Rattle.std.specs.Prelude.{codes}
use Rattle.gtd_now.proofs.Appending.{on_ok, three}
use Rattle.gtd_now.specs.ObjectTokens.{number_member, text_member}
use Rattle.gtd_now.proofs.object.write_subject.Goals as goal

pub returns-clause-tokens : goal.returns-clause-tokens
returns-clause-tokens c = rw (← c.direction_word.ensures, ← c.from.ensures)
    (on_ok c.write_number-2.result _ _
    (λ e. three c.args.out.now.tokens c.write_number.new.out.tokens c.write_text.new.out.tokens c.write_number-2.new.out.tokens
    (number_member (codes "element") c.args.entry.now.at.element) (text_member (codes "direction") c.direction_word.result.now)
    (number_member (codes "vehicle") c.from.result)
    c.in_ok-write_number.ensures.tokens c.in_ok-write_text.ensures.tokens e)
    c.write_number-2.ensures.tokens)
