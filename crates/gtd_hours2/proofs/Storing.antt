-- A rule that is added to stored rules is the last one: for `Rules::push`.
use Rattle.std.proofs.Common.{◌≡◌, ◌∙◌, refl, sym, arith, ℕ, ◌+◌, ◌-◌, ◌≤◌, List, [], ◌∷◌, ◌++◌, drop, length}
use Rattle.std.proofs.lemmas.List.{take_all, take-append-le, drop-append-le, length-drop}
use Rattle.gtd_hours2.specs.declared.rules.RuleEntry.{RuleEntry}
use Rattle.gtd_hours2.specs.declared.values.RuleHead.{RuleHead}
use Rattle.gtd_hours2.specs.declared.values.RulePart.{RulePart}
use Rattle.gtd_hours2.specs.Rules.{Rule}
use Rattle.gtd_hours2.specs.Stored.{counted, rules_of}

abbrev pub last_entry : RuleHead → List RulePart → RuleEntry
last_entry h ps = record { head = h; count = length ps }

abbrev pub last_rule : RuleHead → List RulePart → Rule
last_rule h ps = record { head = h; parts = ps }

fits : (a b n : ℕ) → a + b ≡ n → a ≤ n
fits a b n h = omega arith

left : (a b n : ℕ) → a + b ≡ n → b ≡ n - a
left a b n h = omega arith

pub counted_more : (es : List RuleEntry) → (e : RuleEntry) → counted (es ++ e ∷ []) ≡ counted es + e.count
counted_more [] e = omega arith
counted_more (x ∷ es) e = rw (counted_more es e) (omega arith)

pub stored : (es : List RuleEntry) → (parts ps : List RulePart) → (h : RuleHead) → counted es ≡ length parts
    → rules_of (parts ++ ps) (es ++ last_entry h ps ∷ []) ≡ rules_of parts es ++ last_rule h ps ∷ []
stored [] [] ps h is = rw (take_all (length ps) ps (omega arith)) refl
stored [] (x ∷ parts) ps h is = absurd (omega arith)
stored (e ∷ es) parts ps h is =
    rw (take-append-le e.count parts ps (fits e.count (counted es) (length parts) is))
    (rw (drop-append-le e.count parts ps (fits e.count (counted es) (length parts) is))
    (rw (stored es (drop e.count parts) ps h (left e.count (counted es) (length parts) is ∙ sym (length-drop e.count parts))) refl))
