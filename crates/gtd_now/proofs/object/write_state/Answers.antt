-- The word, the change and the rows that close are written one behind the other, as the members of a state.
use Rattle.std.specs.Prelude.{◌∷◌, codes}
use Rattle.json.specs.Json.{array}
use Rattle.json.specs.Token.{key}
use Rattle.json.specs.Tree.{json_tokens}
use Rattle.gtd_states.specs.States.{state_of}
use Rattle.gtd_now.proofs.Appending.{on_ok, three}
use Rattle.gtd_now.specs.Objects.{change_value, row_items}
use Rattle.gtd_now.specs.ObjectTokens.{text_member}
use Rattle.gtd_now.proofs.object.write_state.Goals as goal

pub returns-clause-tokens : goal.returns-clause-tokens
returns-clause-tokens c = rw (← c.state_word.ensures, ← c.as_slice.ensures.value)
    (on_ok c.write_rows.result _ _
    (λ e. three c.args.out.now.tokens c.write_text.new.out.tokens c.write_until.new.out.tokens c.write_rows.new.out.tokens
    (text_member (codes "state") c.state_word.result.now)
    (key (codes "until") ∷ json_tokens (change_value (state_of c.args.state.now).change))
    (key (codes "rows") ∷ json_tokens (array (row_items c.as_slice.result.now)))
    c.in_ok-write_text.ensures.tokens c.in_ok-write_until.ensures.tokens e)
    c.write_rows.ensures.tokens)
