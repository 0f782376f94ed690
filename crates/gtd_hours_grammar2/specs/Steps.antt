-- What a token does in a state, and which classes of tokens lead on.
use Rattle.std.specs.Prelude.{ℕ, Bool, true, false, ◌==◌, if◌then◌else◌, Some, None, Result, Ok, Err}
use Rattle.gtd_hours_grammar2.specs.declared.class.Class.{Class}
use Rattle.gtd_hours_grammar2.specs.declared.class.Class.TheVariants as class
use Rattle.gtd_hours_grammar2.specs.declared.state.State.{State}
use Rattle.gtd_hours_grammar2.specs.declared.step.Cut.{Cut}
use Rattle.gtd_hours_grammar2.specs.declared.step.Cut.TheVariants as cut
use Rattle.gtd_hours_grammar2.specs.declared.step.Way.{Way}
use Rattle.gtd_hours_grammar2.specs.declared.step.Way.TheVariants as way
use Rattle.gtd_hours_grammar2.specs.declared.step.Wrong.{Wrong}
use Rattle.gtd_hours_grammar2.specs.declared.step.Wrong.TheVariants as wrong
use Rattle.gtd_hours_grammar2.specs.declared.step.Step.{Step}

abbrev pub Next : Type 0
Next = Result Step Wrong

abbrev pub go : Way → State → Next
go w s = Ok (record { first = None; second = None; way = w; to = s })

-- the token belongs to the part that is being read
abbrev pub push : State → Next
push s = go way.Push s

-- it is a sign between parts
abbrev pub skip : State → Next
skip s = go way.Skip s

-- it is a part by itself: a word such as `off`, or a comment
abbrev pub mark : State → Next
mark s = go way.Mark s

-- a loose form: the token is left out
abbrev pub dropped : State → Next
dropped s = go way.Dropped s

-- another one: a comma is missing before it, and the time before it is complete
abbrev pub missing : State → Next
missing s = Ok (record { first = Some cut.Time; second = None; way = way.Missing; to = s })

abbrev pub unexpected : Next
unexpected = Err wrong.Unexpected

-- the tokens before this one are a part
abbrev pub with_cut : Cut → Next → Next
with_cut k (Ok step) = Ok (record { first = Some k; second = step.first; way = step.way; to = step.to })
with_cut k (Err w) = Err w

abbrev pub when : Bool → Next → Next
when b x = if b then x else unexpected

-- ---- which classes lead on

abbrev pub code : Class → ℕ
code class.Year = 0
code class.Twenty = 1
code class.Number = 2
code class.Time = 3
code class.Month = 4
code class.Weekday = 5
code class.PublicHoliday = 6
code class.SchoolHoliday = 7
code class.Easter = 8
code class.Week = 9
code class.Event = 10
code class.Word = 11
code class.Day = 12
code class.Comment = 13
code class.Comma = 14
code class.Semicolon = 15
code class.Bars = 16
code class.Dash = 17
code class.Slash = 18
code class.Colon = 19
code class.Open = 20
code class.Close = 21
code class.Plus = 22
code class.Paren = 23
code class.Unparen = 24
code class.End = 25

abbrev pub is_number : Class → Bool
is_number class.Year = true
is_number class.Twenty = true
is_number class.Number = true
is_number c = false

-- a class, and what else
abbrev pub on : Class → Next → (Class → Next) → Class → Next
on k x rest c = if code k == code c then x else rest c

abbrev pub numbers : Next → (Class → Next) → Class → Next
numbers x rest c = if is_number c then x else rest c

abbrev pub nothing : Class → Next
nothing c = unexpected

-- one class alone
abbrev pub only : Class → State → Class → Next
only k s = on k (push s) nothing

abbrev pub number : State → Class → Next
number s = numbers (push s) nothing

-- after `[`: a number, or one from the end of the month
abbrev pub number_or_dash : State → State → Class → Next
number_or_dash s back = on class.Dash (push back) (number s)

-- the sign of an offset
abbrev pub sign : State → Class → Next
sign s = on class.Plus (push s) (on class.Dash (push s) nothing)

-- after the sign of an offset in days: the next weekday is not read
abbrev pub offset : State → Class → Next
offset s = on class.Weekday (Err wrong.Unsupported) (number s)
