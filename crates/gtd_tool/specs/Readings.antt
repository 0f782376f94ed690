-- What the words of a command are read as.
use Rattle.std.specs.Prelude.{◌≡◌, ℕ, ℤ, nat_le, if◌then◌else◌, List, [], ◌∷◌, Option, Some, None, option_map, Ok}
use Rattle.gtd_core.specs.Trees.{Tree}
use Rattle.gtd_core.specs.Whole.{from_day, to_day}
use Rattle.gtd_core.specs.Horizons.{IsHorizon}
use Rattle.gtd_core.specs.Seconds.{day_of_second}
use Rattle.gtd_core.specs.declared.horizon.Horizon.{Horizon}
use Rattle.gtd_core.specs.declared.second.Sec.{Sec}
use Rattle.gtd_text.specs.Reading.{StandsFor, HasNoFault}
use Rattle.gtd_calendar.specs.Read.{date_in, stamp_in}
use Rattle.gtd_roads.specs.Columns.{direction_of, number_of}
use Rattle.gtd_roads.specs.Direction.{Direction}
use Rattle.gtd_tool.specs.Asked.{Asked, Text}

-- ---- what is read

-- What is read of a command's words: a word for a number, for a number that is handed on as the limit if it is above it,
-- for a direction, a domain, a moment or a date; and, by their words, the horizon up to a date from the day of a moment
-- or from another date.
pub data Part : Type 0 where
  NumberPart : (text : Text) → Part
  NumberUpToPart : (limit : ℕ) → (text : Text) → Part
  DirectionPart : (text : Text) → Part
  DomainPart : (text : Text) → Part
  MomentPart : (text : Text) → Part
  DatePart : (text : Text) → Part
  HorizonPart : (moment to : Text) → Part
  DaysPart : (from to : Text) → Part

-- What a part stands for. For the horizon from a moment's day, this is the day that it goes up to.
abbrev pub ValueOf : Part → Type 0
ValueOf (NumberPart text) = ℕ
ValueOf (NumberUpToPart limit text) = ℕ
ValueOf (DirectionPart text) = Direction
ValueOf (DomainPart text) = Tree
ValueOf (MomentPart text) = Sec
ValueOf (DatePart text) = ℤ
ValueOf (HorizonPart moment to) = ℤ
ValueOf (DaysPart from to) = Horizon

-- The text stands for a domain of this tree.
pub record IsDomain (text : Text) (domain : Tree) : Type 0 where
  pub stands : StandsFor text domain
  pub faultless : HasNoFault text

-- The words stand for a domain and a moment.
pub record AreDomainAndMoment (first second : Text) (domain : Tree) (moment : Sec) : Type 0 where
  pub domain_read : IsDomain first domain
  pub moment_read : stamp_in second ≡ Ok moment

-- The words stand for a moment and a day, and there is a horizon from the moment's own day up to it.
pub record IsHorizonTo (first second : Text) (to : ℤ) : Type 0 where
  pub moment : Sec
  pub moment_read : stamp_in first ≡ Ok moment
  pub date_read : date_in second ≡ Ok to
  pub horizon : IsHorizon (day_of_second moment.0) to

-- The words stand for the first day of the horizon and for the day after its last.
pub record IsHorizonOf (first second : Text) (horizon : Horizon) : Type 0 where
  pub from_read : date_in first ≡ Ok (from_day horizon)
  pub to_read : date_in second ≡ Ok (to_day horizon)

-- The number, or the limit if the number is above it.
abbrev pub at_most : ℕ → ℕ → ℕ
at_most limit n = if nat_le n limit then n else limit

-- The word is a number, which is handed on as this number: the limit, if it is above the limit.
abbrev pub IsNumberUpTo : ℕ → Text → ℕ → Type 0
IsNumberUpTo limit text n = option_map (at_most limit) (number_of text) ≡ Some n

-- The part stands for this.
abbrev pub IsValue : (part : Part) → ValueOf part → Type 0
IsValue (NumberPart text) n = number_of text ≡ Some n
IsValue (NumberUpToPart limit text) n = IsNumberUpTo limit text n
IsValue (DirectionPart text) direction = direction_of text ≡ Some direction
IsValue (DomainPart text) domain = IsDomain text domain
IsValue (MomentPart text) moment = stamp_in text ≡ Ok moment
IsValue (DatePart text) day = date_in text ≡ Ok day
IsValue (HorizonPart moment text) to = IsHorizonTo moment text to
IsValue (DaysPart from to) horizon = IsHorizonOf from to horizon

-- ---- what is asked

-- What is asked for, as a function of what the parts stand for.
abbrev pub Asks : List Part → Type 0
Asks [] = Asked
Asks (part ∷ rest) = ValueOf part → Asks rest

-- What is read of a command's words, in order, and what it asks for.
pub record Reading : Type 0 where
  pub parts : List Part
  pub asks : Asks parts

-- The parts are read, and ask for this.
abbrev pub IsRead : (parts : List Part) → Asks parts → Asked → Type 0
IsRead [] asks asked = asked ≡ asks
IsRead (part ∷ rest) asks asked = (value : ValueOf part) × IsValue part value × IsRead rest (asks value) asked

-- There is a reading, and it asks for this.
abbrev pub Gives : Option Reading → Asked → Type 0
Gives None asked = ⊥
Gives (Some reading) asked = IsRead reading.parts reading.asks asked
