-- Numbers, and times however they are written, in letters of lower case.
use Rattle.std.specs.Prelude.{ℕ, ◌+◌, ◌&&◌, ◌||◌, ◌==◌, not, nat_le, nat_lt, Bool, false, List, [], ◌∷◌, length, drop}
use Rattle.std.specs.Prelude.{Option, Some, None, if◌then◌else◌, codes}
use Rattle.std.specs.List.{prefix_len, take_while}
use Rattle.std.specs.Char.{is_ascii_alphabetic, is_ascii_digit}
use Rattle.std.specs.Str.Parse.{digits_value}
use Rattle.gtd_hours_loose_tokens.specs.declared.token.LooseKind.TheVariants.{Number, Time, Ambiguous}
use Rattle.gtd_hours_loose_tokens.specs.Signs.{Front, is_space}
use Rattle.gtd_hours_loose_tokens.specs.Words.{is_word}

abbrev pub digits_of : List ℕ → List ℕ
digits_of bytes = take_while is_ascii_digit bytes

abbrev pub after_digits : List ℕ → List ℕ
after_digits bytes = drop (prefix_len is_ascii_digit bytes) bytes

abbrev pub begins_digit : List ℕ → Bool
begins_digit [] = false
begins_digit (byte ∷ bytes) = is_ascii_digit byte

abbrev pub begins_letter : List ℕ → Bool
begins_letter [] = false
begins_letter (byte ∷ bytes) = is_ascii_alphabetic byte

-- The bytes begin with a sign and a digit.
abbrev pub begins_part : ℕ → List ℕ → Bool
begins_part sign [] = false
begins_part sign (byte ∷ bytes) = (byte == sign) && begins_digit bytes

-- A minute, and how many bytes it takes with the sign before it.
abbrev pub Minute : Type 0
Minute = ℕ × ℕ

-- `:30` or `.30`, behind its sign: two digits, behind which neither a digit nor this sign with a digit follows.
abbrev pub minute_of : ℕ → List ℕ → List ℕ → Option Minute
minute_of sign minute rest =
    if (length minute == 2) && not (begins_part sign rest) then Some (digits_value 10 minute, 3) else None

-- `h` or `h30`, behind the letter: two digits or none, behind which neither a digit nor a letter follows.
abbrev pub hour_letter : List ℕ → List ℕ → Option Minute
hour_letter minute rest =
    if begins_letter rest then None
    else if length minute == 0 then Some (0, 1)
    else if length minute == 2 then Some (digits_value 10 minute, 3)
    else None

-- behind the hour
abbrev pub minute_front : List ℕ → Option Minute
minute_front [] = None
minute_front (byte ∷ rest) =
    if byte == 58 then minute_of 58 (digits_of rest) (after_digits rest)
    else if byte == 46 then minute_of 46 (digits_of rest) (after_digits rest)
    else if byte == 104 then hour_letter (digits_of rest) (after_digits rest)
    else None

-- a word behind spaces or none, and how many bytes they take
abbrev pub word_behind : List ℕ → List ℕ
word_behind rest = take_while is_ascii_alphabetic (drop (prefix_len is_space rest) rest)

abbrev pub up_to_word : List ℕ → ℕ
up_to_word rest = prefix_len is_space rest + length (word_behind rest)

-- A time of so many bytes, with `Uhr` behind it or not.
abbrev pub with_uhr : ℕ → ℕ → ℕ → List ℕ → Front
with_uhr hour minute n rest =
    if is_word (word_behind rest) (codes "uhr") then (Time hour minute, n + up_to_word rest) else (Time hour minute, n)

-- A time of half a day, with `am` or `pm` behind it: twelve is refused, and other hours are from 1 to 11.
abbrev pub half_day : ℕ → ℕ → ℕ → ℕ → List ℕ → Option Front
half_day noon hour minute n rest =
    if hour == 12 then Some (Ambiguous, n)
    else if nat_le 1 hour && nat_lt hour 12
    then Some (with_uhr (noon + hour) minute (n + up_to_word rest) (drop (up_to_word rest) rest))
    else None

abbrev pub is_morning : List ℕ → Bool
is_morning rest = is_word (word_behind rest) (codes "am")

abbrev pub is_evening : List ℕ → Bool
is_evening rest = is_word (word_behind rest) (codes "pm")

-- A time of so many bytes, and what stands behind it.
abbrev pub clock_front : ℕ → ℕ → ℕ → List ℕ → Option Front
clock_front hour minute n rest =
    if is_morning rest then half_day 0 hour minute n rest
    else if is_evening rest then half_day 12 hour minute n rest
    else Some (with_uhr hour minute n rest)

-- A number: one to four digits, and no colon with a digit behind them.
abbrev pub number_front : List ℕ → List ℕ → Option Front
number_front digits rest =
    if nat_le (length digits) 4 && not (begins_part 58 rest)
    then Some (Number (digits_value 10 digits) (length digits), length digits)
    else None

-- One or two digits, behind which there is no minute: an hour if `am` or `pm` follows, else a number.
abbrev pub hour_or_number : List ℕ → List ℕ → Option Front
hour_or_number digits rest =
    if is_morning rest || is_evening rest then clock_front (digits_value 10 digits) 0 (length digits) rest
    else number_front digits rest

abbrev pub few_digits : List ℕ → List ℕ → Option Minute → Option Front
few_digits digits rest None = hour_or_number digits rest
few_digits digits rest (Some (minute, n)) =
    clock_front (digits_value 10 digits) minute (length digits + n) (drop n rest)

-- The number or the time that begins with this longest run of digits and goes on with these bytes, and its length.
abbrev pub digits_front : List ℕ → List ℕ → Option Front
digits_front digits rest =
    if nat_le (length digits) 2 then few_digits digits rest (minute_front rest) else number_front digits rest
