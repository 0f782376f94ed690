-- What each definition says of the first byte of a text.
use Rattle.std.proofs.Common.{◌≡◌, refl, ◌+◌, ℕ, Bool, true, false, List, ◌∷◌}
use Rattle.std.specs.Prelude.{Some, option_map}
use Rattle.std.specs.Char.{is_ascii_alphanumeric}
use Rattle.gtd_conditional_values.specs.Nesting.{is_too_many, nested, quoted, unnested}
use Rattle.gtd_conditional_values.specs.Parts.{is_separator, part_length}
use Rattle.gtd_conditional_values.specs.Pieces.{closed_length, is_closing}
use Rattle.gtd_conditional_values.specs.Terms.{is_and, term_length}

pub nests_on : (comment : Bool) (depth byte : ℕ) (text : List ℕ) → is_too_many comment depth byte ≡ false
    → unnested comment depth (byte ∷ text)
    ≡ option_map (λ k. k + 1) (unnested (quoted comment byte) (nested comment depth byte) text)
nests_on comment depth byte text other = rw other refl

pub nests_here : (comment : Bool) (depth byte : ℕ) (text : List ℕ) → is_too_many comment depth byte ≡ true
    → unnested comment depth (byte ∷ text) ≡ Some 0
nests_here comment depth byte text met = rw met refl

pub parts_on : (comment : Bool) (depth byte : ℕ) (text : List ℕ) → is_separator comment depth byte ≡ false
    → part_length comment depth (byte ∷ text) ≡ part_length (quoted comment byte) (nested comment depth byte) text + 1
parts_on comment depth byte text other = rw other refl

pub parts_here : (comment : Bool) (depth byte : ℕ) (text : List ℕ) → is_separator comment depth byte ≡ true
    → part_length comment depth (byte ∷ text) ≡ 0
parts_here comment depth byte text met = rw met refl

pub terms_on : (joined comment : Bool) (depth byte : ℕ) (text : List ℕ) → is_and joined comment depth (byte ∷ text) ≡ false
    → term_length joined comment depth (byte ∷ text)
    ≡ term_length (is_ascii_alphanumeric byte) (quoted comment byte) (nested comment depth byte) text + 1
terms_on joined comment depth byte text other = rw other refl

pub terms_here : (joined comment : Bool) (depth byte : ℕ) (text : List ℕ) → is_and joined comment depth (byte ∷ text) ≡ true
    → term_length joined comment depth (byte ∷ text) ≡ 0
terms_here joined comment depth byte text met = rw met refl

pub closes_on : (comment : Bool) (depth byte : ℕ) (text : List ℕ) → is_closing comment depth byte ≡ false
    → closed_length comment depth (byte ∷ text) ≡ closed_length (quoted comment byte) (nested comment depth byte) text + 1
closes_on comment depth byte text other = rw other refl

pub closes_here : (comment : Bool) (depth byte : ℕ) (text : List ℕ) → is_closing comment depth byte ≡ true
    → closed_length comment depth (byte ∷ text) ≡ 0
closes_here comment depth byte text met = rw met refl
