-- The rules of a text, part by part.
use Rattle.std.proofs.Common.{◌≡◌, ◌∙◌, ◌<◌, ◌≤◌, ◌+◌, ◌&&◌, sym, subst, refl, inl, inr, arith, Bool, true, false, true≢false, ℕ}
use Rattle.std.proofs.Common.{List, [], ◌∷◌, ◌++◌, length, get_or, take}
use Rattle.std.proofs.lemmas.Bool.{ltb-true}
use Rattle.std.proofs.lemmas.List.{take_all, take_more}
use Rattle.std.proofs.lemmas.Str.{IsUtf8-from_ascii}
use Rattle.std.proofs.lemmas.Str.Ascii.{IsAscii-cons, IsAscii-nil}
use Rattle.std.specs.Prelude.{nat_lt, zero, suc}
use Rattle.std.specs.Str.{IsAscii, IsUtf8}
use Rattle.gtd_mistakes.specs.RuleNames.{name_of}
use Rattle.gtd_mistakes.specs.declared.rule.Rule.{Rule}
use Rattle.gtd_mistakes.specs.declared.rule.Rule.TheVariants as rule
use Rattle.gtdesk_words.specs.Text.{Text}
use Rattle.gtdesk_words.specs.Words.{AreRules, HasNoRule, IsNoRule}

-- ---- each name is text

abbrev are_small : List ℕ → Bool
are_small [] = true
are_small (byte ∷ bytes) = nat_lt byte 128 && are_small bytes

both : (x y : Bool) → (x && y) ≡ true → (x ≡ true) × (y ≡ true)
both true true e = (refl, refl)
both true false e = absurd (true≢false (sym e))
both false y e = absurd (true≢false (sym e))

small_are_ascii : (bytes : List ℕ) → are_small bytes ≡ true → IsAscii bytes
small_are_ascii [] e = IsAscii-nil
small_are_ascii (byte ∷ bytes) e =
    let h = both (nat_lt byte 128) (are_small bytes) e in
    IsAscii-cons byte bytes (ltb-true byte 128 h.0) (small_are_ascii bytes h.1)

names_are_small : (r : Rule) → are_small (name_of r) ≡ true
names_are_small rule.FirstOfMonth = refl
names_are_small rule.EachDayOfMonth = refl
names_are_small rule.EachDayOfYear = refl
names_are_small rule.EachHour = refl
names_are_small rule.SundayToThursday = refl
names_are_small rule.MondayAndFriday = refl
names_are_small rule.SundayAndMonday = refl
names_are_small rule.Minutes = refl
names_are_small rule.EndAsDuration = refl
names_are_small rule.EndPastMidnight = refl
names_are_small rule.DaysCutNights = refl
names_are_small rule.SeasonCutsNights = refl
names_are_small rule.WeekdayOnDate = refl
names_are_small rule.ProductFirst = refl
names_are_small rule.DaysOfYear = refl
names_are_small rule.ThirtyFirst = refl
names_are_small rule.NoSuchDay = refl
names_are_small rule.NeverHolds = refl
names_are_small rule.AlwaysHolds = refl
names_are_small rule.Past = refl
names_are_small rule.EndsSoon = refl
names_are_small rule.LoneCode = refl

pub names_are_text : (r : Rule) → IsUtf8 (name_of r)
names_are_text r = IsUtf8-from_ascii (name_of r) (small_are_ascii (name_of r) (names_are_small r))

-- ---- the parts of a text

one_more : (texts : List Text) (text : Text) (rules : List Rule) (rule : Rule) → AreRules texts rules → text ≡ name_of rule
    → AreRules (texts ++ text ∷ []) (rules ++ rule ∷ [])
one_more [] text [] rule are is = (is, tt)
one_more [] text (r ∷ rules) rule are is = absurd are
one_more (t ∷ texts) text [] rule are is = absurd are
one_more (t ∷ texts) text (r ∷ rules) rule are is = (are.0, one_more texts text rules rule are.1 is)

-- a part more, and its rule
pub rule_at : (parts : List Text) (i : ℕ) (part : Text) → (i < length parts) × (part ≡ get_or parts i part)
    → (rules : List Rule) (rule : Rule) → AreRules (take i parts) rules → part ≡ name_of rule
    → AreRules (take (i + 1) parts) (rules ++ rule ∷ [])
rule_at parts i part at rules rule are is =
    subst (λ (some : List Text). AreRules some (rules ++ rule ∷ [])) (sym (take_more parts i part at.0))
    (one_more (take i parts) (get_or parts i part) rules rule are (sym at.1 ∙ is))

-- a part that names no rule
pub no_rule_at : (parts : List Text) (i : ℕ) (part : Text) → (i < length parts) × (part ≡ get_or parts i part) → IsNoRule part
    → HasNoRule parts
no_rule_at [] i part at none = absurd (omega (arith, at.0))
no_rule_at (text ∷ parts) zero part at none = inl (subst IsNoRule at.1 none)
no_rule_at (text ∷ parts) (suc i) part at none = inr (no_rule_at parts i part (omega (arith, at.0), at.1) none)

pub all_rules : (parts : List Text) (i : ℕ) (rules : List Rule) → length parts ≤ i → AreRules (take i parts) rules
    → AreRules parts rules
all_rules parts i rules past are = subst (λ (some : List Text). AreRules some rules) (take_all _ _ past) are
