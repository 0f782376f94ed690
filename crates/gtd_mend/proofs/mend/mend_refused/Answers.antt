-- The byte order mark decides what the text is: UTF-16 in either order, UTF-8 behind its mark, or all bytes.
use Rattle.std.proofs.Common.{◌≡◌, ◌∙◌, [], ◌∷◌, false, sym, true}
use Rattle.csv.proofs.WriteFacts.{slice-end}
use Rattle.gtd_faults.specs.Hints.{begins_with}
use Rattle.gtd_mend.proofs.mend.mend_refused.Goals as goal

pub returns-then-begins_with : goal.returns-then-begins_with
returns-then-begins_with c =
    let bytes = c.args.bytes.now in
    let first : begins_with (255 ∷ 254 ∷ []) bytes ≡ true = sym c.begins_with.ensures.value ∙ c.if-begins_with.true in
    record { mended = rw first (rw (slice-end bytes 2) at (c.mend_utf16.ensures.mended bytes)) }

pub returns-then-begins_with-2 : goal.returns-then-begins_with-2
returns-then-begins_with-2 c =
    let bytes = c.args.bytes.now in
    let first : begins_with (255 ∷ 254 ∷ []) bytes ≡ false = sym c.begins_with.ensures.value ∙ c.if-begins_with.false in
    let second : begins_with (254 ∷ 255 ∷ []) bytes ≡ true = sym c.begins_with-2.ensures.value ∙ c.if-begins_with-2.true in
    record {
      mended = rw (first, second) (rw (slice-end bytes 2) at (c.mend_utf16-then-begins_with-2.ensures.mended bytes));
    }

pub returns-then-begins_with-3 : goal.returns-then-begins_with-3
returns-then-begins_with-3 c =
    let bytes = c.args.bytes.now in
    let first : begins_with (255 ∷ 254 ∷ []) bytes ≡ false = sym c.begins_with.ensures.value ∙ c.if-begins_with.false in
    let second : begins_with (254 ∷ 255 ∷ []) bytes ≡ false = sym c.begins_with-2.ensures.value ∙ c.if-begins_with-2.false in
    let third : begins_with (239 ∷ 187 ∷ 191 ∷ []) bytes ≡ true = sym c.begins_with-3.ensures.value ∙ c.if-begins_with-3.true in
    record { mended = rw (first, second, third) (rw (slice-end bytes 3) at (c.mend_text.ensures.mended bytes)) }

pub returns : goal.returns
returns c =
    let bytes = c.args.bytes.now in
    let first : begins_with (255 ∷ 254 ∷ []) bytes ≡ false = sym c.begins_with.ensures.value ∙ c.if-begins_with.false in
    let second : begins_with (254 ∷ 255 ∷ []) bytes ≡ false = sym c.begins_with-2.ensures.value ∙ c.if-begins_with-2.false in
    let third : begins_with (239 ∷ 187 ∷ 191 ∷ []) bytes ≡ false = sym c.begins_with-3.ensures.value ∙ c.if-begins_with-3.false in
    record { mended = rw (first, second, third) (c.mend_text-2.ensures.mended bytes) }
