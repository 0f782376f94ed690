-- A comma in place of the semicolon before a rule: where that stands in a strict text, and what is written then. Rules, and
-- semicolons, are counted from 0.
use Rattle.std.specs.Prelude.{ℕ, ◌+◌, ◌-◌, ◌==◌, ◌&&◌, not, nat_lt, Bool, false, List, [], ◌∷◌, ◌++◌, length, codes}
use Rattle.std.specs.Prelude.{take, drop, slice_get, Option, Some, None, if◌then◌else◌}
use Rattle.std.specs.List.{prefix_len}
use Rattle.gtd_hours.specs.Written.{is_some_time}
use Rattle.gtd_hours.specs.declared.hours.Rule.{Rule}
pub use Rattle.gtd_hours_hidden.specs.Hides.{is_instead, is_open}
use Rattle.gtd_hours_loose.specs.Mending.{stretch}

-- ---- the semicolon

-- How many rules come after a semicolon.
abbrev pub count_instead : List Rule → ℕ
count_instead [] = 0
count_instead (rule ∷ rules) = if is_instead rule.link then 1 + count_instead rules else count_instead rules

-- A semicolon (59) outside of comments, which stand between quotes (34).
abbrev pub is_semicolon : Bool → ℕ → Bool
is_semicolon quoted byte = (byte == 59) && not quoted

abbrev pub quoted_behind : Bool → ℕ → Bool
quoted_behind quoted byte = if byte == 34 then not quoted else quoted

-- How many bytes stand before the semicolon with this number; all of them, if there is none.
abbrev pub before_semicolon : ℕ → Bool → List ℕ → ℕ
before_semicolon number quoted [] = 0
before_semicolon number quoted (byte ∷ rest) =
    if is_semicolon quoted byte
    then (if number == 0 then 0 else 1 + before_semicolon (number - 1) (quoted_behind quoted byte) rest)
    else 1 + before_semicolon number (quoted_behind quoted byte) rest

-- Where the semicolon before a rule stands: before it are those of the rules between the first and this one.
abbrev pub semicolon_of : List ℕ → List Rule → ℕ → ℕ
semicolon_of text rules k = before_semicolon (count_instead (take (k - 1) (drop 1 rules))) false text

abbrev pub is_space : ℕ → Bool
is_space byte = byte == 32

-- Where the rule behind a semicolon begins: with its first byte that is no space.
abbrev pub rule_place : List ℕ → ℕ → ℕ
rule_place text semicolon =
    if nat_lt semicolon (length text) then semicolon + 1 + prefix_len is_space (drop (semicolon + 1) text) else length text

-- ---- the comma

-- A comma would go on with the selectors of an open rule without times. Behind a word it does not.
abbrev pub word_of : Rule → List ℕ
word_of rule = if is_open rule.modifier && not (is_some_time rule.times.items) then codes " open" else []

abbrev pub word_if : Option Rule → List ℕ
word_if None = []
word_if (Some rule) = word_of rule

-- the word of the rule before this one
abbrev pub word_before : List Rule → ℕ → List ℕ
word_before rules k = word_if (slice_get rules (k - 1))

-- The text with a word and a comma in place of the semicolon that stands here.
abbrev pub with_comma : List ℕ → ℕ → List ℕ → List ℕ
with_comma text place word = stretch text 0 place ++ word ++ codes "," ++ stretch text (place + 1) (length text)
