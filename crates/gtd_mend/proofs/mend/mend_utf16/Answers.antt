-- The units that follow the mark are a text, and what is put is that of this text.
use Rattle.std.proofs.Common.{◌≡◌, sym, Option, Some, List, ℕ}
use Rattle.std.specs.Prelude.{string_bytes}
use Rattle.gtd_mend.specs.Decoding.{text_of_units, units_of}
use Rattle.gtd_mend.proofs.mend.mend_utf16.Goals as goal

pub returns : goal.returns
returns c =
    let text : ◌≡◌ {A = Option (List ℕ)} (text_of_units (units_of c.args.first c.args.rest.now))
    (Some (string_bytes c.in-Some.text)) =
    sym (rw c.in-Some.is at c.in_ok-text.ensures.value) in
    record { mended = λ bytes. rw text (rw c.as_bytes.ensures.value at (c.mend_text.ensures.mended bytes)) }
