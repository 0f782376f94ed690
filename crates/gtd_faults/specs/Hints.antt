-- The hint that is given for a file without a header, by its first line.
use Rattle.std.specs.Prelude.{◌++◌, ◌||◌, ◌==◌, ℕ, Bool, List, [], ◌∷◌, codes, drop, length, take, if◌then◌else◌}
use Rattle.std.specs.Prelude.{Option, Some, None}
use Rattle.std.specs.Char.{is_ascii_uppercase, to_ascii_lowercase}
use Rattle.std.specs.List.{count_by, list_any, take_while}
use Rattle.gtd_rows.specs.Columns.{is_word}
use Rattle.gtd_lines.specs.Lines.{is_within}
use Rattle.gtd_faults.specs.declared.hint.Hint.{Hint}
use Rattle.gtd_faults.specs.declared.hint.Hint.TheVariants as hint

-- the bytes of a file before its first line end
abbrev pub first_line : List ℕ → List ℕ
first_line bytes = take_while is_within bytes

abbrev pub begins_with : List ℕ → List ℕ → Bool
begins_with mark line = is_word mark (take (length mark) line)

-- the line begins with a byte order mark of UTF-16
abbrev pub begins_as_utf16 : List ℕ → Bool
begins_as_utf16 line = begins_with (255 ∷ 254 ∷ []) line || begins_with (254 ∷ 255 ∷ []) line

-- a line without a byte order mark of UTF-8
abbrev pub without_mark : List ℕ → List ℕ
without_mark line = if begins_with (239 ∷ 187 ∷ 191 ∷ []) line then drop 3 line else line

-- The plain form of a line: a comma for each semicolon and each tab; no spaces, no quotes, no zero bytes; small letters.
abbrev pub plain_byte : ℕ → Option ℕ
plain_byte byte =
    if byte == 59 || byte == 9 then Some 44
    else if byte == 0 || (byte == 32 || byte == 34) then None
    else Some (to_ascii_lowercase byte)

abbrev and_then : Option ℕ → List ℕ → List ℕ
and_then None rest = rest
and_then (Some byte) rest = byte ∷ rest

abbrev pub plain : List ℕ → List ℕ
plain [] = []
plain (byte ∷ rest) = and_then (plain_byte byte) (plain rest)

-- its plain form is a header
abbrev pub is_nearly_header : List ℕ → Bool
is_nearly_header line =
    is_word (plain line) (codes "element,direction,vehicle,domain")
    || is_word (plain line) (codes "element,direction,vehicles,domain")

abbrev pub has : ℕ → List ℕ → Bool
has byte line = list_any (λ b. b == byte) line

abbrev pub has_capitals : List ℕ → Bool
has_capitals line = list_any is_ascii_uppercase line

-- what is wrong with a line whose plain form is a header: the first of these
abbrev pub hint_of_header : List ℕ → Option Hint
hint_of_header line =
    if has 0 line then Some hint.Utf16
    else if has 59 line then Some hint.Semicolons
    else if has 9 line then Some hint.Tabs
    else if has 32 line then Some hint.Spaces
    else if has_capitals line then Some hint.Capitals
    else if has 34 line then Some hint.Quotes
    else None

-- a byte that is a comma in the plain form
abbrev pub is_comma : ℕ → Bool
is_comma byte = byte == 44 || (byte == 59 || byte == 9)

-- how many commas the plain form has
abbrev pub commas : List ℕ → ℕ
commas line = count_by is_comma line

-- the hint for a first line: one for a line with a mark of UTF-16, for a line whose plain form is a header, and for one with as
-- many fields
abbrev pub hint_of : List ℕ → Option Hint
hint_of line =
    if begins_as_utf16 line then Some hint.Utf16
    else if is_nearly_header (without_mark line) then hint_of_header (without_mark line)
    else if commas (without_mark line) == 3 then Some hint.Names
    else None

-- a hint in words
abbrev pub hint_text : Hint → List ℕ
hint_text hint.Utf16 = codes "the file is UTF-16; save it as UTF-8"
hint_text hint.Semicolons = codes "the fields are separated by semicolons; use commas"
hint_text hint.Tabs = codes "the fields are separated by tabs; use commas"
hint_text hint.Spaces = codes "there are spaces in the header; remove them"
hint_text hint.Capitals = codes "there are capital letters in the header; use small ones"
hint_text hint.Quotes = codes "quotes make one field of several; remove them"
hint_text hint.Names = codes "it has four fields, but other names; write the header in its place, or above it"

-- its line, or nothing
abbrev pub hint_line : Option Hint → List ℕ
hint_line None = []
hint_line (Some hint) = codes "    hint:     " ++ hint_text hint ++ codes "\n"
