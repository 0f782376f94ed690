-- Numbers, and times however they are written.
use Rattle.std.specs.Prelude.{ℕ, ◌+◌, ◌&&◌, ◌||◌, ◌==◌, not, nat_le, nat_lt, Bool, true, false, List, [], ◌∷◌, length, drop}
use Rattle.std.specs.Prelude.{Option, Some, None, Result, Ok, Err, if◌then◌else◌}
use Rattle.std.specs.List.{prefix_len, take_while}
use Rattle.std.specs.Char.{is_ascii_alphabetic, is_ascii_digit}
use Rattle.std.specs.Str.Parse.{digits_value}
use Rattle.gtd_hours_tokens2.specs.declared.token.TokenKind.{TokenKind}
use Rattle.gtd_hours_tokens2.specs.declared.token.TokenKind.TheVariants as token
use Rattle.gtd_hours_tokens2.specs.declared.token.TokenFaultKind.{TokenFaultKind}
use Rattle.gtd_hours_tokens2.specs.declared.token.TokenFaultKind.TheVariants as fault
use Rattle.gtd_hours_tokens2.specs.declared.found.Found.{Found}
use Rattle.gtd_hours_tokens2.specs.declared.clock.Minute.{Minute}
use Rattle.gtd_hours_tokens2.specs.declared.clock.Suffix.{Suffix}
use Rattle.gtd_hours_tokens2.specs.declared.clock.Suffix.TheVariants as suffix

-- What bytes begin with: a token of so many bytes, or a fault.
abbrev pub Front : Type 0
Front = Result Found TokenFaultKind

abbrev pub found : TokenKind → ℕ → Bool → Front
found kind n is_loose = Ok (record { kind = kind; length = n; is_loose = is_loose })

abbrev pub digits_of : List ℕ → List ℕ
digits_of bytes = take_while is_ascii_digit bytes

abbrev pub after_digits : List ℕ → List ℕ
after_digits bytes = drop (prefix_len is_ascii_digit bytes) bytes

abbrev pub begins_digit : List ℕ → Bool
begins_digit [] = false
begins_digit (byte ∷ bytes) = is_ascii_digit byte

abbrev pub begins_letter : List ℕ → Bool
begins_letter [] = false
begins_letter (byte ∷ bytes) = is_ascii_alphabetic byte

-- The bytes begin with a sign and a digit.
abbrev pub begins_part : ℕ → List ℕ → Bool
begins_part sign [] = false
begins_part sign (byte ∷ bytes) = (byte == sign) && begins_digit bytes

-- `:30` or `.30`, after its sign: two digits, after which neither a digit nor this sign with a digit follows.
abbrev pub minute_of : ℕ → List ℕ → List ℕ → Option Minute
minute_of sign minute rest =
    if (length minute == 2) && not (begins_part sign rest)
    then Some (record { value = digits_value 10 minute; length = 3; is_loose = not (sign == 58) })
    else None

-- `h` or `h30`, after the letter: two digits or none, after which neither a digit nor a letter follows.
abbrev pub hour_letter : List ℕ → List ℕ → Option Minute
hour_letter minute rest =
    if begins_letter rest then None
    else if length minute == 0 then Some (record { value = 0; length = 1; is_loose = true })
    else if length minute == 2 then Some (record { value = digits_value 10 minute; length = 3; is_loose = true })
    else None

-- the minute after an hour: with `:` 58, `.` 46, `H` 72 or `h` 104
abbrev pub minute_front : List ℕ → Option Minute
minute_front [] = None
minute_front (byte ∷ rest) =
    if byte == 58 then minute_of 58 (digits_of rest) (after_digits rest)
    else if byte == 46 then minute_of 46 (digits_of rest) (after_digits rest)
    else if byte == 72 then hour_letter (digits_of rest) (after_digits rest)
    else if byte == 104 then hour_letter (digits_of rest) (after_digits rest)
    else None

abbrev pub is_space : ℕ → Bool
is_space byte = byte == 32

-- a word after spaces or none, and how many bytes they take
abbrev pub word_after : List ℕ → List ℕ
word_after rest = take_while is_ascii_alphabetic (drop (prefix_len is_space rest) rest)

abbrev pub up_to_word : List ℕ → ℕ
up_to_word rest = prefix_len is_space rest + length (word_after rest)

-- a letter, small or large
abbrev pub is_letter : ℕ → ℕ → ℕ → Bool
is_letter small large byte = (byte == small) || (byte == large)

-- `am` and `pm`: a 97, 65; p 112, 80; m 109, 77
abbrev pub half_suffix : ℕ → ℕ → Suffix
half_suffix x y =
    if not (is_letter 109 77 y) then suffix.Nothing
    else if is_letter 97 65 x then suffix.Morning
    else if is_letter 112 80 x then suffix.Evening
    else suffix.Nothing

-- `Uhr`: u 117, 85; h 104, 72; r 114, 82
abbrev pub clock_suffix : ℕ → ℕ → ℕ → Suffix
clock_suffix x y z =
    if is_letter 117 85 x && (is_letter 104 72 y && is_letter 114 82 z) then suffix.Clock else suffix.Nothing

abbrev pub suffix_of : List ℕ → Suffix
suffix_of (x ∷ y ∷ []) = half_suffix x y
suffix_of (x ∷ y ∷ z ∷ []) = clock_suffix x y z
suffix_of w = suffix.Nothing

abbrev pub suffix_after : List ℕ → Suffix
suffix_after rest = suffix_of (word_after rest)

-- a time of so many bytes, without `Uhr` after it or with it
abbrev pub by_uhr : ℕ → ℕ → ℕ → Bool → List ℕ → Suffix → Front
by_uhr hour minute n is_loose rest suffix.Clock = found (token.Time hour minute) (n + up_to_word rest) true
by_uhr hour minute n is_loose rest s = found (token.Time hour minute) n is_loose

-- A time of half a day, with `am` or `pm` after it: twelve is read in two ways, and other hours are from 1 to 11.
abbrev pub half_day : ℕ → ℕ → ℕ → ℕ → List ℕ → Front
half_day noon hour minute n rest =
    if hour == 12 then Err fault.Ambiguous
    else if nat_le 1 hour && nat_lt hour 12
    then by_uhr (noon + hour) minute (n + up_to_word rest) true (drop (up_to_word rest) rest)
    (suffix_after (drop (up_to_word rest) rest))
    else Err fault.BadToken

-- a time of so many bytes, and what comes after it
abbrev pub clock_front : ℕ → ℕ → ℕ → Bool → List ℕ → Suffix → Front
clock_front hour minute n is_loose rest suffix.Morning = half_day 0 hour minute n rest
clock_front hour minute n is_loose rest suffix.Evening = half_day 12 hour minute n rest
clock_front hour minute n is_loose rest s = by_uhr hour minute n is_loose rest s

-- A number: one to four digits, and no colon with a digit after them.
abbrev pub number_front : List ℕ → List ℕ → Front
number_front digits rest =
    if nat_le (length digits) 4 && not (begins_part 58 rest)
    then found (token.Number (digits_value 10 digits) (length digits)) (length digits) false
    else Err fault.BadToken

-- One or two digits without a minute: an hour if `am` or `pm` comes after them, else a number.
abbrev pub hour_or_number : List ℕ → List ℕ → Suffix → Front
hour_or_number digits rest suffix.Morning = half_day 0 (digits_value 10 digits) 0 (length digits) rest
hour_or_number digits rest suffix.Evening = half_day 12 (digits_value 10 digits) 0 (length digits) rest
hour_or_number digits rest s = number_front digits rest

-- an hour is strictly written with two digits
abbrev pub is_loose_hour : Minute → List ℕ → Bool
is_loose_hour minute digits = minute.is_loose || not (length digits == 2)

abbrev pub few_digits : List ℕ → List ℕ → Option Minute → Front
few_digits digits rest None = hour_or_number digits rest (suffix_after rest)
few_digits digits rest (Some minute) =
    clock_front (digits_value 10 digits) minute.value (length digits + minute.length) (is_loose_hour minute digits)
    (drop minute.length rest) (suffix_after (drop minute.length rest))

-- The number or the time that begins with this longest run of digits and goes on with these bytes.
abbrev pub digits_front : List ℕ → List ℕ → Front
digits_front digits rest =
    if nat_le (length digits) 2 then few_digits digits rest (minute_front rest) else number_front digits rest
