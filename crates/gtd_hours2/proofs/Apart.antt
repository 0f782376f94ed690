-- No second is both open and said to be closed: no rule makes it both.
use Rattle.std.proofs.Common.{inl, inr, List, [], ◌∷◌, ℤ}
use Rattle.gtd_hours2.specs.declared.values.RuleLink.{RuleLink}
use Rattle.gtd_hours2.specs.declared.values.RuleLink.TheVariants.{Instead, Also, Fallback}
use Rattle.gtd_hours2.specs.declared.values.RuleWord.{RuleWord}
use Rattle.gtd_hours2.specs.declared.values.RuleWord.TheVariants as word
use Rattle.gtd_hours2.specs.Opening.{Given, IsClosedAfter, IsClosedBy, IsOpenAfter, IsOpenBy}
use Rattle.gtd_hours2.specs.Rules.{Rule, says}

step : (g : Given) → (w : RuleWord) → (l : RuleLink) → (r : Rule) → (O C : Type 0) → (s : ℤ) → (O → C → ⊥)
    → IsOpenBy g w l r O C s → IsClosedBy g w l r O C s → ⊥
step g word.Open Instead r O C s h (inl o) c = h o.0 c.0
step g word.Open Instead r O C s h (inr i) c = c.2 i
step g word.Open Also r O C s h (inl o) c = h o c.0
step g word.Open Also r O C s h (inr i) c = c.1 i
step g word.Open Fallback r O C s h (inl o) c = h o c
step g word.Open Fallback r O C s h (inr i) c = i.1 c
step g word.Off Instead r O C s h o (inl c) = h o.0 c
step g word.Off Instead r O C s h o (inr i) = o.1 i
step g word.Off Also r O C s h o (inl c) = h o.0 c
step g word.Off Also r O C s h o (inr i) = o.1 i
step g word.Off Fallback r O C s h o (inl c) = h o c
step g word.Off Fallback r O C s h o (inr i) = i.1 o
step g word.Unknown Instead r O C s h o c = h o c
step g word.Unknown Also r O C s h o c = h o c
step g word.Unknown Fallback r O C s h o c = h o c

pub apart : (g : Given) → (rules : List Rule) → (O C : Type 0) → (s : ℤ) → (O → C → ⊥)
    → IsOpenAfter g rules O C s → IsClosedAfter g rules O C s → ⊥
apart g [] O C s h o c = h o c
apart g (r ∷ rules) O C s h o c = apart g rules
    (IsOpenBy g (says r) r.head.link r O C s) (IsClosedBy g (says r) r.head.link r O C s) s
    (step g (says r) r.head.link r O C s h) o c
