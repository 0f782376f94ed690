-- A field that needs quotes has its escaped bytes between two; any other one is appended as it is.
use Rattle.std.proofs.Common.{◌≡◌, ◌∙◌, ◌++◌, ap, rules, sym, true, List, ℕ}
use Rattle.csv.specs.Writing.{escaped, needs_quotes}
use Rattle.gtd_mend.specs.Mended.{writer_of}
use Rattle.gtd_mend.proofs.PrintFacts.{in_quotes, quoted_text}
use Rattle.gtd_mend.proofs.print.push_field.Goals as goal

pub returns : goal.returns
returns c =
    let writer = writer_of c.args.separator in
    let field = c.args.field.now in
    let quotes : needs_quotes writer field ≡ true = search rules in
    record {
      text = rw (c.in_ok-push-2.ensures.items, c.in_ok-push_escaped.ensures.text c.args.separator, c.in_ok-push.ensures.items)
          (in_quotes c.args.text.now.items (escaped writer field)
          ∙ ap (λ (t : List ℕ). c.args.text.now.items ++ t) (sym (quoted_text c.args.separator field quotes)));
    }
