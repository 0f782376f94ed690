-- The canonical text of an expression that was read: it needs no quotes, and is read again.
use Rattle.std.proofs.Common.{◌≡◌, ◌∙◌, ◌<◌, ◌^◌, refl, arith, ℕ, List, [], ◌∷◌, ◌++◌, Bool, true, false, Some}
use Rattle.std.specs.Prelude.{decimal, ◌||◌, Ok}
use Rattle.std.specs.Char.{digit_value}
use Rattle.std.specs.List.{list_any}
use Rattle.std.specs.Str.Parse.{AllDigits}
use Rattle.std.proofs.lemmas.Bool.Decides.{nat_tests}
use Rattle.std.proofs.lemmas.Fmt.{decimal_is_IsNumeral}
use Rattle.std.proofs.lemmas.List.Folds.{list_any-append}
use Rattle.csv.specs.Writing.{default_writer, needs_byte}
use Rattle.gtd_core.specs.Trees.{Tree, Single, Joined, AreValid}
use Rattle.gtd_text.specs.facts.CanonicalText.{canonical_stands}
use Rattle.gtd_text.specs.facts.Faultless.{canonical_faultless}
use Rattle.gtd_text.specs.facts.Printable.{IsPrintableTree}
use Rattle.gtd_text.specs.facts.TextBytes.{is_apart, canonical_plain}
use Rattle.gtd_text.specs.Canonical.{canonical}
use Rattle.gtd_records.specs.ComputedRow.{IsDomainColumn, IsReading}

-- ---- the text of an expression is read again

some_text : (tree : Tree) → (b : ℕ) × (rest : List ℕ) × (canonical tree ≡ b ∷ rest)
some_text (Single start duration) = (91, _, refl)
some_text (Joined op left right) = (91, _, refl)

as_column : (text : List ℕ) (tree : Tree) (b : ℕ) (rest : List ℕ) → text ≡ b ∷ rest → IsReading text (Ok tree)
    → IsDomainColumn text (Ok (Some tree))
as_column [] tree b rest e reading = absurd cc
as_column (x ∷ text) tree b rest e reading = reading

pub domain_read : (tree : Tree) → IsPrintableTree tree → IsDomainColumn (canonical tree) (Ok (Some tree))
domain_read tree p =
    let t = some_text tree in
    as_column (canonical tree) tree t.0 t.1 t.2 (canonical_stands tree p.valid, canonical_faultless tree p.valid p.few)

-- ---- texts that need no quotes

abbrev pub IsPlain : List ℕ → Type 0
IsPlain text = list_any (needs_byte default_writer) text ≡ false

pub plain_joined : (a b : List ℕ) → IsPlain a → IsPlain b → IsPlain (a ++ b)
plain_joined a b p q = list_any-append (needs_byte default_writer) a b ∙ rw (p, q) refl

-- a digit needs no quotes
digit_plain : (c : ℕ) → digit_value c < 10 → needs_byte default_writer c ≡ false
digit_plain c h = grind (arith, nat_tests)

pub digits_plain : (text : List ℕ) → AllDigits 10 text → IsPlain text
digits_plain [] h = refl
digits_plain (c ∷ text) h = rw (digit_plain c h.0, digits_plain text h.1) refl

pub decimal_plain : (n : ℕ) → n < 2 ^ 64 → IsPlain (decimal n)
decimal_plain n h = digits_plain (decimal n) (decimal_is_IsNumeral n h).0.1

neither : (a b : Bool) → (a || b) ≡ false → (a ≡ false) × (b ≡ false)
neither false b h = (refl, h)
neither true b h = absurd cc

apart_byte : (b : ℕ) → is_apart b ≡ false → needs_byte default_writer b ≡ false
apart_byte b h = grind (arith, nat_tests, h)

-- the bytes that a canonical text does not have are all that need quotes
plain_by : (text : List ℕ) → list_any is_apart text ≡ false → IsPlain text
plain_by [] h = refl
plain_by (b ∷ text) h =
    let parts = neither (is_apart b) (list_any is_apart text) h in
    rw (apart_byte b parts.0, plain_by text parts.1) refl

pub canonical_unquoted : (tree : Tree) → AreValid tree → IsPlain (canonical tree)
canonical_unquoted tree valid = plain_by (canonical tree) (canonical_plain tree valid)
