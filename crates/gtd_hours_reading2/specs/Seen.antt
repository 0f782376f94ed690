-- What the values of the code are in the definitions, and why a call failed.
use Rattle.std.specs.Prelude.{◌≡◌, Result, Ok, Err}
use Rattle.gtd_hours_tokens2.specs.Tokens.{Lexed}
use Rattle.gtd_hours_text2.specs.declared.brackets.PartError.{PartError}
use Rattle.gtd_hours_text2.specs.declared.brackets.PartError.TheVariants as part
use Rattle.gtd_hours_reading2.specs.Reading.{RulesRead, TextRead, at_fault, fault_at}
use Rattle.gtd_hours_reading2.specs.declared.fault.HoursFaultKind.TheVariants as fault
use Rattle.gtd_hours_reading2.specs.declared.builder.RuleBuilder.{RuleBuilder}
use Rattle.gtd_hours_reading2.specs.declared.fault.HoursFault.{HoursFault}
use Rattle.gtd_hours_reading2.specs.declared.fault.ReadError.{ReadError}
use Rattle.gtd_hours_reading2.specs.declared.fault.ReadError.TheVariants.{NoMemory, Fault}
use Rattle.gtd_hours_reading2.specs.declared.run.TextHours.{TextHours}

abbrev pub built : RuleBuilder → RulesRead
built b = record {
  rules = b.rules;
  rule_places = b.rule_places.items;
  part_places = b.part_places.items;
  head = b.head;
  parts = b.parts.items;
  place = b.place;
  item = b.item.items;
  sign = b.sign;
  loose = b.loose.items;
}

abbrev pub seen : TextHours → TextRead
seen h = record {
  rules = h.rules;
  rule_places = h.rule_places.items;
  part_places = h.part_places.items;
  loose = h.loose.items;
}

-- Memory was refused, or this is the fault.
abbrev pub IsReadError : {A : Type 0} → ReadError → Result A HoursFault → Type 0
IsReadError NoMemory read = Unit {0}
IsReadError (Fault why) read = read ≡ Err why

-- a fault of tokens comes first, also where it is further on
abbrev pub or_tokens : HoursFault → Lexed → HoursFault
or_tokens why (Ok x) = why
or_tokens why (Err other) = fault_at other

abbrev pub part_error : PartError → ReadError
part_error part.NoMemory = NoMemory
part_error (part.Range offset) = Fault (at_fault fault.Range offset)
