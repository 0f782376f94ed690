-- What is accepted where a fault is.
use Rattle.std.specs.Prelude.{◌++◌, ◌||◌, ◌==◌, ℕ, List, [], codes, if◌then◌else◌, Option, Some, None}
use Rattle.gtd_core.specs.declared.fault.Fault.{Fault}
use Rattle.gtd_core.specs.declared.fault.Fault.TheVariants as kind
use Rattle.gtd_records.specs.declared.fault.RecordFault.{RecordFault}
use Rattle.gtd_records.specs.declared.fault.RecordFault.TheVariants as fault

-- the fields of a row that every file has
abbrev pub accepted_count : List ℕ
accepted_count = codes "4 fields, with commas between them"

abbrev pub accepted_element : List ℕ
accepted_element = codes "1 to 10 digits"

abbrev pub accepted_direction : List ℕ
accepted_direction = codes "positive, negative or both"

abbrev pub accepted_types : List ℕ
accepted_types = codes "1 to 99, or 0 for every type; below the header vehicles also several, such as 11;12 or !1;2"

abbrev pub accepted_rows : List ℕ
accepted_rows = codes "at most 65536 rows"

abbrev pub accepted_bytes : List ℕ
accepted_bytes = codes "at most 16777216 bytes"

-- what a text of a domain may have where this fault is
abbrev pub accepted_text : Fault → Option (List ℕ)
accepted_text kind.BadToken = Some (codes "a letter with 1 to 6 digits, a space, or one of ( ) { } [ ] + * -")
accepted_text kind.Fuzzy = Some (codes "another field: fuzzy times are not read")
accepted_text kind.TooDeep = Some (codes "at most 128 brackets that are open at once")
accepted_text kind.TooMany = Some (codes "at most 128 basic domains")
accepted_text kind.Repeated = Some (codes "each letter once within ( ) or { }")
accepted_text kind.FieldRange = Some (codes "a number in the range of its letter, with its digits")
accepted_text kind.Negative = Some (codes "a duration without a sign")
accepted_text kind.Unexpected =
    Some (codes "(start){duration} or [..] at the beginning and after an operator, and + * - or ] after one of them")
accepted_text kind.Incomplete = Some (codes "(start){duration} in full, and a ] for each [")
accepted_text kind.TooLongDuration = Some (codes "a duration of at most 36600 days")
accepted_text kind.NoMemory = None

-- What a file may have where this fault is. The header that is expected is shown below the first line.
abbrev pub accepted : RecordFault → Option (List ℕ)
accepted (fault.FieldCount row) = Some accepted_count
accepted (fault.Element row) = Some accepted_element
accepted (fault.Direction row) = Some accepted_direction
accepted (fault.Vehicle row) = Some accepted_types
accepted (fault.Domain row why) = accepted_text why.kind
accepted fault.TooManyRows = Some accepted_rows
accepted fault.TooLarge = Some accepted_bytes
accepted why = None

-- the numbers of a field of a start with this letter
abbrev pub range_text : ℕ → List ℕ
range_text letter =
    if letter == 121 then codes "4 digits for a year, 0000 to 9999"
    else if letter == 77 then codes "1 to 12 for a month"
    else if letter == 119 then codes "1 to 53 for a week"
    else if letter == 102 || letter == 108
    then codes "2 digits for a weekday's place in the month: 1 to 5, and the weekday, 1 to 7"
    else if letter == 100 then codes "1 to 31 for a day of the month"
    else if letter == 116 then codes "1 to 7 for a weekday, from Sunday on"
    else if letter == 104 then codes "0 to 23 for an hour"
    else if letter == 109 then codes "0 to 59 for a minute"
    else if letter == 115 then codes "0 to 59 for a second"
    else codes "a number in the range of its letter, with its digits"

abbrev pub accepted_field : Fault → ℕ → Option (List ℕ)
accepted_field kind.FieldRange letter = Some (range_text letter)
accepted_field other letter = accepted_text other

-- the same where the fault is at this byte of a domain: for `FieldRange`, the range of the field with this letter
abbrev pub accepted_at : RecordFault → ℕ → Option (List ℕ)
accepted_at (fault.Domain row why) letter = accepted_field why.kind letter
accepted_at why letter = accepted why

-- its line, or nothing
abbrev pub expected_line : Option (List ℕ) → List ℕ
expected_line None = []
expected_line (Some text) = codes "    expected: " ++ (text ++ codes "\n")
