-- What the tables of all languages have in common: what their words stand for, and what is written alike.
use Rattle.std.specs.Prelude.{List, [], ℕ, codes}
pub use Rattle.gtd_languages.specs.declared.word.Role.{Role}
pub use Rattle.gtd_languages.specs.declared.word.Role.TheVariants.{On, From, If}
pub use Rattle.gtd_languages.specs.declared.word.Form.{Form}
pub use Rattle.gtd_languages.specs.declared.word.Form.TheVariants.{Zero, One, EndsInOne, EndsInTwo, EndsInThree, Other}
pub use Rattle.gtd_languages.specs.declared.word.Unit.{Unit}
pub use Rattle.gtd_languages.specs.declared.word.Unit.TheVariants.{Years, Months, Weeks, Days, Hours, Minutes, Seconds}
pub use Rattle.gtd_languages.specs.declared.word.Fixed.{Fixed}
pub use Rattle.gtd_languages.specs.declared.word.Fixed.TheVariants.{EachDay, FromBeginning, OfEachMonth, EveryYear}
pub use Rattle.gtd_languages.specs.declared.word.Fixed.TheVariants.{WholeMinute, Sharp, AllDay, NextDay, Included}
pub use Rattle.gtd_languages.specs.declared.word.Counted.{Counted}
pub use Rattle.gtd_languages.specs.declared.word.Counted.TheVariants.{InWeek, YearAlone, OfYear, FromHour, FromMinute}
pub use Rattle.gtd_languages.specs.declared.word.Counted.TheVariants.{FromMinuteAnd, SecondOfEveryHour, FromSecond}
pub use Rattle.gtd_languages.specs.declared.word.Counted.TheVariants.{FromSecondOf, OfHour, AtMinute, AtSecond, EndHour}
pub use Rattle.gtd_languages.specs.declared.word.Counted.TheVariants.{EndMinute, EndSecond, DaysLater}
pub use Rattle.gtd_languages.specs.declared.word.Word.{Word}
pub use Rattle.gtd_languages.specs.declared.word.Word.TheVariants.{OfEach, For, And, Comma, UntilTime, UntilDay, UntilThe}
pub use Rattle.gtd_languages.specs.declared.word.Word.TheVariants.{UntilTheEnd, Or, OnlyIn, ExceptIn}

-- One text for each role.
abbrev pub by_role : Role → List ℕ → List ℕ → List ℕ → List ℕ
by_role On on from other = on
by_role From on from other = from
by_role If on from other = other

-- A text for 1, and one for all other numbers.
abbrev pub one_or : Form → List ℕ → List ℕ → List ℕ
one_or One one other = one
one_or form one other = other

-- What comes before a number of a time of day: `10:30:15`. Other numbers have nothing here.
abbrev pub time_lead : Counted → List ℕ
time_lead AtSecond = codes ":"
time_lead EndHour = codes " "
time_lead EndSecond = codes ":"
time_lead counted = []

-- What comes after it.
abbrev pub time_end : Counted → List ℕ
time_end FromHour = codes ":"
time_end OfHour = codes " "
time_end AtSecond = codes " "
time_end EndHour = codes ":"
time_end counted = []
