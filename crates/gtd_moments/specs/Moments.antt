-- The moments that people write, and the second that each stands for.
use Rattle.std.specs.Prelude.{◌≡◌, ◌++◌, ◌&&◌, ℕ, Bool, true, nat_eq, nat_lt, if◌then◌else◌, List, [], ◌∷◌, take}
use Rattle.std.specs.Prelude.{drop, length, slice_index, Option, Some, None, Result, Err, codes}
use Rattle.std.specs.List.{list_all}
use Rattle.std.specs.Char.{is_ascii_digit}
use Rattle.gtd_calendar.specs.Read.{stamp_in}
use Rattle.gtd_calendar.specs.declared.stamp.StampFault.{StampFault}
use Rattle.gtd_calendar.specs.declared.stamp.StampFault.TheVariants.{Shape}
use Rattle.gtd_core.specs.declared.second.Sec.{Sec}

-- What may follow the seconds of a clock: nothing, or a fraction: a point, and digits after it.
abbrev pub may_follow : List ℕ → Bool
may_follow [] = true
may_follow (mark ∷ digits) = nat_eq mark 46 && (nat_lt 0 (length digits) && list_all is_ascii_digit digits)

-- The seconds of a clock, `:ss`, from what follows `hh:mm`. If nothing does, they are `:00`; a fraction is dropped.
abbrev pub seconds_in : List ℕ → Option (List ℕ)
seconds_in [] = Some (codes ":00")
seconds_in (a ∷ b ∷ c ∷ rest) = if may_follow rest then Some (a ∷ b ∷ c ∷ []) else None
seconds_in other = None

-- `T`, where a space stands between the ten bytes of a date and the clock.
abbrev pub letter : ℕ → ℕ
letter byte = if nat_eq byte 32 then 84 else byte

abbrev pub with_letter : List ℕ → List ℕ
with_letter text = take 10 text ++ (letter (slice_index text 10) ∷ drop 11 text)

-- The answer for the text of a date and of a clock's hours and minutes, and for the seconds of that clock, if there are any.
abbrev pub read_parts : List ℕ → Option (List ℕ) → Result Sec StampFault
read_parts minutes None = Err Shape
read_parts minutes (Some seconds) = stamp_in (with_letter minutes ++ seconds)

-- The second that a text stands for, or its first fault: sixteen bytes to the minutes, and then the seconds.
abbrev pub moment_in : List ℕ → Result Sec StampFault
moment_in text = if nat_lt (length text) 16 then Err Shape else read_parts (take 16 text) (seconds_in (drop 16 text))

-- The one text is the other with a space in place of the byte after its date.
pub record IsSpaced (text spaced : List ℕ) : Type 0 where
  pub is : spaced ≡ take 10 text ++ (32 ∷ drop 11 text)

-- The one text is the other with a fraction after it, which may be nothing.
pub record HasFraction (text long : List ℕ) : Type 0 where
  pub fraction : List ℕ
  pub may_follow : may_follow fraction ≡ true
  pub is : long ≡ text ++ fraction

-- The one text is the other without its seconds, which are `:00`.
pub record IsOfMinutes (text short : List ℕ) : Type 0 where
  pub seconds : drop 16 text ≡ codes ":00"
  pub is : short ≡ take 16 text
