-- A field of spaces alone is kept as it is; of any other one the spaces in front and behind are left out.
use Rattle.std.proofs.Common.{◌≡◌, ◌∙◌, ap, refl, arith, length}
use Rattle.std.proofs.lemmas.Str.Ascii.{trim_ascii_is}
use Rattle.gtd_mend.specs.Fields.{from_front, to_back}
use Rattle.gtd_mend.proofs.FieldFacts.{cut, kept}
use Rattle.gtd_mend.proofs.field.without_spaces.Goals as goal

pub returns-then-is_empty : goal.returns-then-is_empty
returns-then-is_empty c =
    let field = c.args.field.now in
    let rest = c.trim_ascii-trimmed.result.now in
    let is : rest ≡ to_back (from_front field) =
    trim_ascii_is field rest (from_front field) refl c.trim_ascii-trimmed.ensures.value in
    let size : length rest ≡ length (to_back (from_front field)) = ap length is in
    record { value = kept (to_back (from_front field)) field (grind (arith, c.is_empty.ensures, size)) }

pub returns : goal.returns
returns c =
    let field = c.args.field.now in
    let rest = c.trim_ascii-trimmed.result.now in
    let is : rest ≡ to_back (from_front field) =
    trim_ascii_is field rest (from_front field) refl c.trim_ascii-trimmed.ensures.value in
    let size : length rest ≡ length (to_back (from_front field)) = ap length is in
    record {
      value = is ∙ cut (to_back (from_front field)) field (λ e. grind (arith, c.is_empty.ensures, size, e));
    }
