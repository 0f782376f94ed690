-- A text with holidays as plain hours and holidays.
use Rattle.std.specs.Prelude.{ℕ, List, ◌≡◌, map, true}
use Rattle.gtd_hours_tokens.specs.Lexing.{AreTokens}
use Rattle.gtd_hours_tokens.specs.declared.token.Token.{Token}
use Rattle.gtd_hours_holiday_rules.specs.declared.parts.Part.{Part}
use Rattle.gtd_hours_holiday_rules.specs.declared.text.HolidayText.{HolidayText}
use Rattle.gtd_hours_holiday_rules.specs.Checked.{checked_text}
use Rattle.gtd_hours_items.specs.Comments.{are_whole}
use Rattle.gtd_hours_items.specs.Items.{AreItems}
use Rattle.gtd_hours_items.specs.declared.items.Item.{Item}
use Rattle.gtd_hours_holiday_rules.specs.Parts.{parts_of, told_of}
use Rattle.gtd_hours_holiday_rules.specs.Rules.{rules_of, said_by}
use Rattle.gtd_hours_holiday_rules.specs.WholeDays.{whole_days_of}

-- The items are those of the text, of its tokens with comments that end.
pub record AreItemsIn (text : List ℕ) (items : List Item) : Type 0 where
  pub tokens : List Token
  pub are : AreTokens text tokens
  pub whole : are_whole text tokens ≡ true
  pub made : AreItems text tokens items

-- The parts are those of such items.
pub record ArePartsIn (text : List ℕ) (parts : List Part) : Type 0 where
  pub items : List Item
  pub are : AreItemsIn text items
  pub is : parts ≡ parts_of items

-- The text with these parts is so: its checked text, its rules, how faults of the checked text are told, and which rules hold all
-- day.
pub record HasParts (text : List ℕ) (parts : List Part) (read : HolidayText) : Type 0 where
  pub checked : read.checked.items ≡ checked_text text parts
  pub rules : map said_by read.rules.items ≡ rules_of text parts
  pub told : read.told.items ≡ told_of parts
  pub whole_days : read.whole_days.items ≡ whole_days_of parts

-- The text with the parts of its items is so, where these are its tokens.
pub record HasItems (text : List ℕ) (tokens : List Token) (read : HolidayText) : Type 0 where
  pub items : List Item
  pub are : AreItems text tokens items
  pub has : HasParts text (parts_of items) read

-- The text, of these tokens, with comments that end, is so.
pub record IsHolidayText (text : List ℕ) (read : HolidayText) : Type 0 where
  pub tokens : List Token
  pub are : AreTokens text tokens
  pub whole : are_whole text tokens ≡ true
  pub has : HasItems text tokens read
