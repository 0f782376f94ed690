-- No depth gives no spaces, and each step of depth gives four spaces before those of the rest.
use Rattle.std.proofs.Common.{rules, ◌-◌}
use Rattle.std.specs.Prelude.{codes}
use Rattle.gtd_words.specs.Words.{indent}
use Rattle.gtd_words.proofs.LineFacts.{indent_none, indent_more, ok_so, both_appended}
use Rattle.gtd_words.proofs.words.+push_indent.Goals as goal

pub returns-then-depth-eq0 : goal.returns-then-depth-eq0
returns-then-depth-eq0 t c = indent_none _ c.args.depth (search rules)

pub returns : goal.returns
returns t c = rw (indent_more c.args.depth (search rules))
    (ok_so c.push_indent.result
    (both_appended _ _ _ (codes "    ") (indent (c.args.depth - 1)) c.in_ok-push_str.ensures.bytes) c.push_indent.ensures)
