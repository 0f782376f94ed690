-- Expressions with fixed dates that never have a second.
use Rattle.std.specs.Prelude.{ℕ, ◌+◌, ℤ, ⊤, IsTrue}
use Rattle.gtd_spans.specs.Normal.{Combined}
use Rattle.gtd_eval.specs.Membership.{InDomain}
use Rattle.gtd_difference.specs.declared.memory.Form.{Form}
use Rattle.gtd_difference.specs.declared.memory.Form.TheVariants.{Repeats, Holds, Join'}
use Rattle.gtd_difference.specs.declared.memory.Memory.{Memory}
use Rattle.gtd_difference.specs.declared.memory.Memory.TheVariants.{Empty, Seen'}

-- the second is in the expression
abbrev pub InForm : Form → ℤ → Type 0
InForm (Repeats domain) t = InDomain domain t
InForm (Holds holds) t = IsTrue holds
InForm (Join' op p left right) t = Combined op (InForm left t) (InForm right t)

-- no second ever is in the set
abbrev pub IsNever : (ℤ → Type 0) → Type 0
IsNever set = (t : ℤ) → set t → ⊥

-- the same of each of the expressions
abbrev pub AreNever : Memory → Type 0
AreNever Empty = ⊤
AreNever (Seen' p mark form rest) = IsNever (InForm form) × AreNever rest

abbrev pub form_size : Form → ℕ
form_size (Repeats domain) = 1
form_size (Holds holds) = 1
form_size (Join' op p left right) = 1 + form_size left + form_size right

abbrev pub memory_size : Memory → ℕ
memory_size Empty = 1
memory_size (Seen' p mark form rest) = 1 + memory_size rest
