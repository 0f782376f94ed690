-- A byte that cannot be printed is written as `\x` and its two hexadecimal digits.
use Rattle.std.proofs.Common.{rules, ◌≡◌, false, arith, ap, ◌++◌}
use Rattle.std.specs.Prelude.{codes}
use Rattle.std.proofs.Output.{has_written_of_eq}
use Rattle.std.proofs.lemmas.Fmt.{hex_byte}
use Rattle.gtd_faults.specs.Printable.{is_printable}
use Rattle.gtd_faults.proofs.printable.ShownByteDisplay.fmt.Goals as goal

pub returns-else-is_printable-clause-writes : goal.returns-else-is_printable-clause-writes
returns-else-is_printable-clause-writes g c = λ plain ok.
    let no : is_printable c.args.self.now.0 ≡ false = search rules in
    let two = hex_byte false c.args.self.now.0 (omega arith) in
    let writes = rw (c.in_radix.ensures, c.laid_out.ensures) at c.write.ensures.writes in
    has_written_of_eq _ _ _ _ _ (rw (no) (ap (λ t. codes "\\x" ++ t) two)) (writes plain ok)
