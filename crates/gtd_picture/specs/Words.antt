-- The words of a picture, as bytes of ASCII.
use Rattle.std.specs.Prelude.{ℕ, ◌+◌, ◌/◌, ◌%◌, ◌==◌, ◌&&◌, ◌++◌, not, Bool, if◌then◌else◌, List, [], ◌∷◌, codes, flat_map}
use Rattle.std.specs.Prelude.{length, nat_lt, take}

-- printable ASCII, and no backslash
abbrev pub is_plain : ℕ → Bool
is_plain b = nat_lt 31 b && nat_lt b 127 && not (b == 92)

-- the digit of a number below 16
abbrev pub hex_digit : ℕ → ℕ
hex_digit n = if nat_lt n 10 then 48 + n else 87 + n

-- a byte as people see it: itself, or \x and two digits
abbrev pub shown_byte : ℕ → List ℕ
shown_byte b = if is_plain b then b ∷ [] else (92 ∷ 120 ∷ hex_digit (b / 16) ∷ hex_digit (b % 16) ∷ [])

-- a character as it stands in XML: the three that XML gives a meaning have names
abbrev pub xml_text : ℕ → List ℕ
xml_text c =
    if c == 38 then codes "&amp;"
    else (if c == 60 then codes "&lt;"
    else (if c == 62 then codes "&gt;"
    else (c ∷ [])))

-- a byte as it stands in XML
abbrev pub escape : ℕ → List ℕ
escape b = flat_map xml_text (shown_byte b)

-- words, and what follows them
abbrev pub label_text : List ℕ → List ℕ → List ℕ
label_text words after = flat_map escape words ++ after

-- how many bytes of a title are shown
abbrev pub title_room : ℕ
title_room = 100

-- a title as it is shown: the first part of one that is too long
abbrev pub title_text : List ℕ → List ℕ → List ℕ
title_text title after =
    if nat_lt title_room (length title)
    then label_text (take title_room title) (codes "..." ++ after)
    else label_text title after

-- Sunday is 1 and Saturday 7
abbrev pub weekday_name : ℕ → List ℕ
weekday_name n =
    if n == 1 then codes "Sunday"
    else (if n == 2 then codes "Monday"
    else (if n == 3 then codes "Tuesday"
    else (if n == 4 then codes "Wednesday"
    else (if n == 5 then codes "Thursday"
    else (if n == 6 then codes "Friday"
    else codes "Saturday")))))

-- January is 1 and December 12
abbrev pub month_name : ℕ → List ℕ
month_name n =
    if n == 1 then codes "Jan"
    else (if n == 2 then codes "Feb"
    else (if n == 3 then codes "Mar"
    else (if n == 4 then codes "Apr"
    else (if n == 5 then codes "May"
    else (if n == 6 then codes "Jun"
    else (if n == 7 then codes "Jul"
    else (if n == 8 then codes "Aug"
    else (if n == 9 then codes "Sep"
    else (if n == 10 then codes "Oct"
    else (if n == 11 then codes "Nov"
    else codes "Dec"))))))))))
