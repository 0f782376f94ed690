-- How a field is mended.
use Rattle.std.specs.Prelude.{◌+◌, ◌-◌, ◌++◌, ◌&&◌, ◌||◌, ◌==◌, ℕ, Bool, true, false, List, [], ◌∷◌, map, length}
use Rattle.std.specs.Prelude.{take, drop, nat_le, nat_lt, if◌then◌else◌}
use Rattle.std.specs.Char.{is_ascii_digit, is_ascii_whitespace, to_ascii_lowercase}
use Rattle.std.specs.List.{list_all, prefix_len, suffix_len}
use Rattle.gtd_rows.specs.Columns.{Fields, is_word}
use Rattle.gtd_mend.specs.declared.change.FieldChange.{FieldChange}
use Rattle.gtd_mend.specs.declared.change.FieldChange.TheVariants as change
use Rattle.gtd_mend.specs.declared.content.Content.{Content}
use Rattle.gtd_mend.specs.declared.content.Content.TheVariants.{Word, Number, Domain, Other}

-- what a column holds: in the header names, and in the other rows an element, a direction, vehicle types and a domain
abbrev pub content_of : Bool → ℕ → Content
content_of true column = Word
content_of false column =
    if column == 0 then Number
    else if column == 1 then Word
    else if column == 2 then Number
    else if column == 3 then Domain
    else Other

-- ---- spaces around a field

abbrev pub from_front : List ℕ → List ℕ
from_front field = drop (prefix_len is_ascii_whitespace field) field

abbrev pub to_back : List ℕ → List ℕ
to_back field = take (length field - suffix_len is_ascii_whitespace field) field

-- the first field, unless it is empty
abbrev pub or_else : List ℕ → List ℕ → List ℕ
or_else [] field = field
or_else (byte ∷ rest) field = byte ∷ rest

-- A field that is nothing but spaces is left as it is: an empty domain would mean always.
abbrev pub without_spaces : List ℕ → List ℕ
without_spaces field = or_else (to_back (from_front field)) field

-- ---- quotation marks around a field

-- a quotation mark in UTF-8: straight, typographic or angular
abbrev pub is_quote : List ℕ → Bool
is_quote (a ∷ []) = a == 34 || a == 39
is_quote (a ∷ b ∷ []) = a == 194 && (b == 171 || b == 187)
is_quote (a ∷ b ∷ c ∷ []) = a == 226 && (b == 128 && (nat_le 152 c && nat_le c 159 || (c == 185 || c == 186)))
is_quote other = false

-- how many bytes the quotation mark has with which a field begins, or ends
abbrev pub front_quote : List ℕ → ℕ
front_quote field =
    if is_quote (take 1 field) then 1 else if is_quote (take 2 field) then 2 else if is_quote (take 3 field) then 3 else 0

abbrev pub last_bytes : ℕ → List ℕ → List ℕ
last_bytes count field = drop (length field - count) field

abbrev pub back_quote : List ℕ → ℕ
back_quote field =
    if is_quote (last_bytes 1 field) then 1
    else if is_quote (last_bytes 2 field) then 2
    else if is_quote (last_bytes 3 field) then 3
    else 0

-- marks at both ends are taken off, if there is something between them
abbrev pub without_quotes : List ℕ → List ℕ
without_quotes field =
    if nat_lt 0 (front_quote field)
    && (nat_lt 0 (back_quote field) && nat_lt (front_quote field + back_quote field) (length field))
    then take (length field - back_quote field - front_quote field) (drop (front_quote field) field)
    else field

-- ---- what depends on the column

abbrev pub in_small_letters : List ℕ → List ℕ
in_small_letters field = map to_ascii_lowercase field

-- a point, and one or more zeros
abbrev pub are_zeros : List ℕ → Bool
are_zeros [] = false
are_zeros (point ∷ zeros) = point == 46 && (nat_lt 0 (length zeros) && list_all (λ zero. zero == 48) zeros)

-- digits without a point and zeros after them
abbrev pub without_decimals : List ℕ → List ℕ
without_decimals field =
    if nat_lt 0 (prefix_len is_ascii_digit field) && are_zeros (drop (prefix_len is_ascii_digit field) field)
    then take (prefix_len is_ascii_digit field) field
    else field

-- a dash in UTF-8: one of U+2010 to U+2015, or the minus sign U+2212
abbrev pub is_dash : ℕ → ℕ → ℕ → Bool
is_dash a b c = a == 226 && (b == 128 && (nat_le 144 c && nat_le c 149) || b == 136 && c == 146)

-- a hyphen for each dash
unfoldable pub with_hyphens : List ℕ → List ℕ
with_hyphens [] = []
with_hyphens (a ∷ []) = a ∷ []
with_hyphens (a ∷ b ∷ []) = a ∷ b ∷ []
with_hyphens (a ∷ b ∷ c ∷ rest) = if is_dash a b c then 45 ∷ with_hyphens rest else a ∷ with_hyphens (b ∷ c ∷ rest)

abbrev pub as_content : Content → List ℕ → List ℕ
as_content Word field = in_small_letters field
as_content Number field = without_decimals field
as_content Domain field = with_hyphens field
as_content Other field = field

-- ---- a field, and a row

-- a field without the spaces around it, then without quotation marks around it, and then as its column asks
abbrev pub mended_field : Content → List ℕ → List ℕ
mended_field content field = as_content content (without_quotes (without_spaces field))

-- what the last step changes; it changes nothing of other contents
abbrev pub last_change : Content → FieldChange
last_change Word = change.Capitals
last_change Number = change.Decimals
last_change Domain = change.Dashes
last_change Other = change.Dashes

-- a change, if the one text is not the other
abbrev pub if_changed : FieldChange → List ℕ → List ℕ → List FieldChange
if_changed kind old new = if is_word old new then [] else kind ∷ []

-- the changes of a field, in the order of the steps
abbrev pub changes_of : Content → List ℕ → List FieldChange
changes_of content field =
    (if_changed change.Spaces field (without_spaces field)
    ++ if_changed change.Quotes (without_spaces field) (without_quotes (without_spaces field)))
    ++ if_changed (last_change content) (without_quotes (without_spaces field)) (mended_field content field)

-- the fields of a row, mended, if the first stands in this column
abbrev pub mended_from : Bool → ℕ → Fields → Fields
mended_from head column [] = []
mended_from head column (field ∷ fields) =
    mended_field (content_of head column) field ∷ mended_from head (column + 1) fields

abbrev pub mended_row : Bool → Fields → Fields
mended_row head fields = mended_from head 0 fields

-- the rows of a file, mended: the header, and the others
abbrev pub mended_table : List Fields → List Fields
mended_table [] = []
mended_table (header ∷ rows) = mended_row true header ∷ map (mended_row false) rows
