-- Fields fit a table exactly if they fit as it is computed.
use Rattle.std.proofs.Common.{◌≡◌, ◌∙◌, refl, sym, ap, ℕ, Bool, true, false, cond, List, [], ◌∷◌, inl, inr}
use Rattle.std.specs.Prelude.{◌==◌, ◌&&◌, ◌||◌, not}
use Rattle.std.proofs.lemmas.Bool.{cases_Bool, eqb-true}
use Rattle.gtd_core.specs.FieldTable.{FieldRow, start_fields, duration_fields, at_letter}
use Rattle.gtd_text.specs.declared.token.TokenKind.{TokenKind}
use Rattle.gtd_text.specs.declared.token.TokenKind.TheVariants.{Field}
use Rattle.gtd_text.specs.Grammar.{each_fits, fits, is_letter_of, is_repeated}
use Rattle.gtd_text.specs.ComputedFields.{all_fit_duration, all_fit_start, fits_duration, fits_start, has_letter}
use Rattle.gtd_text.specs.ComputedFields.{is_duration_letter, is_repeated_in_start, is_start_letter, is_start_value}

-- ---- letters that are repeated

never : (b : Bool) → (b && false) ≡ false
never true = refl
never false = refl

in_either : (a b c : Bool) → ((a && b) || (b && c)) ≡ (b && (a || c))
in_either true true c = refl
in_either true false c = refl
in_either false true c = refl
in_either false false c = refl

pub repeated : (before : List TokenKind) (letter : ℕ) → is_repeated before letter ≡ is_repeated_in_start before letter
repeated [] letter = sym (never (not (letter == 116)))
repeated (Field other value digits ∷ before) letter =
    ap (λ (b : Bool). (other == letter && not (letter == 116)) || b) (repeated before letter)
    ∙ in_either (other == letter) (not (letter == 116)) (has_letter letter before)
repeated (sign ∷ before) letter = sym (never (not (letter == 116)))

-- no field of a duration has the letter `t`
pub duration_once : (letter : ℕ) → is_duration_letter letter ≡ true → not (letter == 116) ≡ true
duration_once letter known =
    elim (cases_Bool (letter == 116)) [
      | inl e ↦ absurd (let k : false ≡ true = sym (ap is_duration_letter (eqb-true letter 116 e)) ∙ known in cc)
      | inr e ↦ ap not e
    ]

-- ---- a number that is taken has a letter of the table

if_known : (c a b d : Bool) → (b ≡ true → d ≡ true) → cond c a b ≡ true → cond c true d ≡ true
if_known true a b d h e = refl
if_known false a b d h e = h e

taken_known : {Parts : Type 0} (rows : List (FieldRow Parts)) (letter value digits : ℕ)
    → at_letter rows (λ row. row.takes value digits) false letter ≡ true → is_letter_of rows letter ≡ true
taken_known [] letter value digits h = h
taken_known (row ∷ rows) letter value digits h =
    if_known (letter == row.letter) (row.takes value digits) (at_letter rows (λ row. row.takes value digits) false letter)
    (is_letter_of rows letter) (taken_known rows letter value digits) h

-- ---- the fields of a start

and_known : (known many taken : Bool) → (taken ≡ true → known ≡ true) → (taken && not many) ≡ (known && not many && taken)
and_known true true true h = refl
and_known true true false h = refl
and_known true false true h = refl
and_known true false false h = refl
and_known false many true h = absurd (let k : false ≡ true = h refl in cc)
and_known false many false h = refl

start_same : (before : List TokenKind) (token : TokenKind) → fits start_fields before token ≡ fits_start before token
start_same before (Field letter value digits) =
    ap (λ (b : Bool). is_start_value letter value digits && not b) (repeated before letter)
    ∙ and_known (is_start_letter letter) (is_repeated_in_start before letter) (is_start_value letter value digits)
    (taken_known start_fields letter value digits)
start_same before sign = refl

-- ---- the fields of a duration

and_once : (known once has : Bool) → (known ≡ true → once ≡ true) → (known && not (once && has)) ≡ (known && not has)
and_once true true has h = refl
and_once true false has h = absurd (let k : false ≡ true = h refl in cc)
and_once false once has h = refl

duration_same : (before : List TokenKind) (token : TokenKind) → fits duration_fields before token ≡ fits_duration before token
duration_same before (Field letter value digits) =
    ap (λ (b : Bool). is_duration_letter letter && not b) (repeated before letter)
    ∙ and_once (is_duration_letter letter) (not (letter == 116)) (has_letter letter before) (duration_once letter)
duration_same before sign = refl

-- ---- several fields

each_same : (f g : List TokenKind → TokenKind → Bool) → ((before : List TokenKind) (token : TokenKind) → f before token
    ≡ g before token) → (before tokens : List TokenKind) → each_fits f before tokens ≡ each_fits g before tokens
each_same f g same before [] = refl
each_same f g same before (token ∷ tokens) =
    ap (λ (b : Bool). b && each_fits f (token ∷ before) tokens) (same before token)
    ∙ ap (λ (b : Bool). g before token && b) (each_same f g same (token ∷ before) tokens)

pub starts_as_computed : (tokens : List TokenKind) → each_fits (fits start_fields) [] tokens ≡ true
    → all_fit_start [] tokens ≡ true
starts_as_computed tokens h = sym (each_same (fits start_fields) fits_start start_same [] tokens) ∙ h

pub computed_starts : (tokens : List TokenKind) → all_fit_start [] tokens ≡ true → each_fits (fits start_fields) [] tokens ≡ true
computed_starts tokens h = each_same (fits start_fields) fits_start start_same [] tokens ∙ h

pub durations_as_computed : (tokens : List TokenKind) → each_fits (fits duration_fields) [] tokens ≡ true
    → all_fit_duration [] tokens ≡ true
durations_as_computed tokens h = sym (each_same (fits duration_fields) fits_duration duration_same [] tokens) ∙ h

pub computed_durations : (tokens : List TokenKind) → all_fit_duration [] tokens ≡ true
    → each_fits (fits duration_fields) [] tokens ≡ true
computed_durations tokens h = each_same (fits duration_fields) fits_duration duration_same [] tokens ∙ h
