-- Plain rules that say the same as rules, one after another, are open at the same seconds.
use Rattle.std.proofs.Common.{◌≡◌, refl, sym, subst, ◌⊎◌, inl, inr, ◌↔◌, ℤ, List, [], ◌∷◌, ◌++◌, append_assoc}
use Rattle.std.specs.Prelude.{Option, Some, None}
use Rattle.std.proofs.lemmas.List.{append-nil}
use Rattle.gtd_hours.specs.Opening as plain
use Rattle.gtd_hours.specs.declared.hours.Link.{Link}
use Rattle.gtd_hours.specs.declared.hours.Modifier.{Modifier}
use Rattle.gtd_hours.specs.declared.hours.Modifier.TheVariants as modifier
use Rattle.gtd_hours.specs.declared.hours.Rule.{Rule as PlainRule}
use Rattle.gtd_hours2.specs.Opening.{Given, InSpans, IsClosedBy, IsOnMatch, IsOpenAfter, IsOpenBy}
use Rattle.gtd_hours2.specs.Rules.{Rule, says}
use Rattle.gtd_hours2.specs.declared.values.RuleLink.{RuleLink}
use Rattle.gtd_hours2.specs.declared.values.RuleLink.TheVariants as link
use Rattle.gtd_hours2.specs.declared.values.RuleWord.{RuleWord}
use Rattle.gtd_hours2.specs.declared.values.RuleWord.TheVariants as word
use Rattle.gtd_hours_plain2.specs.Lowered.{AreLowered, AreLoweredBy, IsLowered, IsWithRule, link_of, modifier_of}

-- ---- what holds alike

both : {A B C D : Type 0} → (A ↔ C) → (B ↔ D) → (A × B) ↔ (C × D)
both e f = (λ h. (e.0 h.0, f.0 h.1), λ h. (e.1 h.0, f.1 h.1))

one : {A B C D : Type 0} → (A ↔ C) → (B ↔ D) → (A ⊎ B) ↔ (C ⊎ D)
one e f = (
  λ h. elim h [ inl a ↦ inl (e.0 a) | inr b ↦ inr (f.0 b) ],
  λ h. elim h [ inl a ↦ inl (e.1 a) | inr b ↦ inr (f.1 b) ],
)

none : {A B : Type 0} → (A ↔ B) → (A → ⊥) ↔ (B → ⊥)
none e = (λ h b. h (e.1 b), λ h a. h (e.0 a))

neither : {A B C D E F : Type 0} → (A ↔ D) → (B ↔ E) → (C ↔ F) → (A × (B → ⊥) × (C → ⊥)) ↔ (D × (E → ⊥) × (F → ⊥))
neither e f h = (λ x. (e.0 x.0, (none f).0 x.1, (none h).0 x.2), λ x. (e.1 x.0, (none f).1 x.1, (none h).1 x.2))

-- ---- one rule

same_spans : (g : Given) (rule : Rule) (m : Modifier) (x : PlainRule) → IsLowered g rule m x → (s : ℤ)
    → InSpans g rule s ↔ plain.InSpans x.kinds.items x.times.items s
same_spans g rule m x is s = (
  λ h. (h.0, (is.kinds h.0).0 h.1, (is.times rule.head.leads h.0 s).0 h.2),
  λ h. (h.0, (is.kinds h.0).1 h.1, (is.times rule.head.leads h.0 s).1 h.2),
)

same_match : (g : Given) (rule : Rule) (m : Modifier) (x : PlainRule) → IsLowered g rule m x → (s : ℤ)
    → IsOnMatch g rule s ↔ plain.IsOnMatch x.kinds.items s
same_match g rule m x is s =
    (λ h. (h.0, h.1, (is.kinds h.0).0 h.2), λ h. (h.0, h.1, (is.kinds h.0).1 h.2))

-- it says something
abbrev Says : RuleWord → Modifier → Type 0
Says w m = modifier_of w ≡ Some m

open_by : (g : Given) (w : RuleWord) (l : RuleLink) (rule : Rule) (m : Modifier) (x : PlainRule) → IsLowered g rule m x
    → Says w m → (O C P D : Type 0) → (O ↔ P) → (C ↔ D) → (s : ℤ)
    → IsOpenBy g w l rule O C s ↔ plain.IsOpenBy m (link_of l) x P D s
open_by g word.Open link.Instead rule modifier.Open x is says O C P D o c s =
    one (both o (none (same_match g rule modifier.Open x is s))) (same_spans g rule modifier.Open x is s)
open_by g word.Open link.Also rule modifier.Open x is says O C P D o c s = one o (same_spans g rule modifier.Open x is s)
open_by g word.Open link.Fallback rule modifier.Open x is says O C P D o c s =
    one o (both (same_spans g rule modifier.Open x is s) (none c))
open_by g word.Open l rule modifier.Closed x is says O C P D o c s = absurd cc
open_by g word.Off link.Instead rule modifier.Closed x is says O C P D o c s =
    both o (none (same_spans g rule modifier.Closed x is s))
open_by g word.Off link.Also rule modifier.Closed x is says O C P D o c s =
    both o (none (same_spans g rule modifier.Closed x is s))
open_by g word.Off link.Fallback rule modifier.Closed x is says O C P D o c s = o
open_by g word.Off l rule modifier.Open x is says O C P D o c s = absurd cc
open_by g word.Unknown l rule m x is says O C P D o c s = absurd cc

closed_by : (g : Given) (w : RuleWord) (l : RuleLink) (rule : Rule) (m : Modifier) (x : PlainRule) → IsLowered g rule m x
    → Says w m → (O C P D : Type 0) → (O ↔ P) → (C ↔ D) → (s : ℤ)
    → IsClosedBy g w l rule O C s ↔ plain.IsClosedBy m (link_of l) x P D s
closed_by g word.Open link.Instead rule modifier.Open x is says O C P D o c s =
    neither c (same_match g rule modifier.Open x is s) (same_spans g rule modifier.Open x is s)
closed_by g word.Open link.Also rule modifier.Open x is says O C P D o c s =
    both c (none (same_spans g rule modifier.Open x is s))
closed_by g word.Open link.Fallback rule modifier.Open x is says O C P D o c s = c
closed_by g word.Open l rule modifier.Closed x is says O C P D o c s = absurd cc
closed_by g word.Off link.Instead rule modifier.Closed x is says O C P D o c s = one c (same_spans g rule modifier.Closed x is s)
closed_by g word.Off link.Also rule modifier.Closed x is says O C P D o c s = one c (same_spans g rule modifier.Closed x is s)
closed_by g word.Off link.Fallback rule modifier.Closed x is says O C P D o c s =
    one c (both (same_spans g rule modifier.Closed x is s) (none o))
closed_by g word.Off l rule modifier.Open x is says O C P D o c s = absurd cc
closed_by g word.Unknown l rule m x is says O C P D o c s = absurd cc

unknown_open : (g : Given) (w : RuleWord) (l : RuleLink) (rule : Rule) → modifier_of w ≡ None → (O C : Type 0) → (s : ℤ)
    → IsOpenBy g w l rule O C s ≡ O
unknown_open g word.Unknown l rule e O C s = refl
unknown_open g word.Open l rule e O C s = absurd cc
unknown_open g word.Off l rule e O C s = absurd cc

unknown_closed : (g : Given) (w : RuleWord) (l : RuleLink) (rule : Rule) → modifier_of w ≡ None → (O C : Type 0) → (s : ℤ)
    → IsClosedBy g w l rule O C s ≡ C
unknown_closed g word.Unknown l rule e O C s = refl
unknown_closed g word.Open l rule e O C s = absurd cc
unknown_closed g word.Off l rule e O C s = absurd cc

-- ---- rules one after another

-- Plain rules are open at the seconds at which rules are, whatever was open and closed alike before.
abbrev AreSame : Given → List Rule → Type 1
AreSame g rules = (made : List PlainRule) → AreLowered g rules made → (O C P D : Type 0) → (O ↔ P) → (C ↔ D) → (s : ℤ)
    → IsOpenAfter g rules O C s ↔ plain.IsOpenAfter made P D s

after_none : (g : Given) (rule : Rule) (rules : List Rule) → AreSame g rules → modifier_of (says rule) ≡ None
    → (made : List PlainRule) → AreLowered g rules made → (O C P D : Type 0) → (O ↔ P) → (C ↔ D) → (s : ℤ)
    → IsOpenAfter g (rule ∷ rules) O C s ↔ plain.IsOpenAfter made P D s
after_none g rule rules same e made are O C P D o c s =
    subst (λ (T : Type 0). IsOpenAfter g rules T (IsClosedBy g (says rule) rule.head.link rule O C s) s
    ↔ plain.IsOpenAfter made P D s) (sym (unknown_open g (says rule) rule.head.link rule e O C s))
    (subst (λ (T : Type 0). IsOpenAfter g rules O T s ↔ plain.IsOpenAfter made P D s)
    (sym (unknown_closed g (says rule) rule.head.link rule e O C s)) (same made are O C P D o c s))

after_some : (g : Given) (rule : Rule) (rules : List Rule) → AreSame g rules → (m : Modifier) → modifier_of (says rule) ≡ Some m
    → (x : PlainRule) → IsLowered g rule m x → (made : List PlainRule) → AreLowered g rules made → (O C P D : Type 0) → (O ↔ P)
    → (C ↔ D) → (s : ℤ) → IsOpenAfter g (rule ∷ rules) O C s ↔ plain.IsOpenAfter (x ∷ made) P D s
after_some g rule rules same m e x is made are O C P D o c s =
    let to = link_of rule.head.link in
    let Made : Modifier → Link → Type 0 = λ n l. IsOpenAfter g (rule ∷ rules) O C s
    ↔ plain.IsOpenAfter made (plain.IsOpenBy n l x P D s) (plain.IsClosedBy n l x P D s) s in
    subst (λ (l : Link). Made x.modifier l) (sym is.link)
    (subst (λ (n : Modifier). Made n to) (sym is.modifier)
    (same made are (IsOpenBy g (says rule) rule.head.link rule O C s) (IsClosedBy g (says rule) rule.head.link rule O C s)
    (plain.IsOpenBy m to x P D s) (plain.IsClosedBy m to x P D s)
    (open_by g (says rule) rule.head.link rule m x is e O C P D o c s)
    (closed_by g (says rule) rule.head.link rule m x is e O C P D o c s) s))

after_rule : (g : Given) (rule : Rule) (rules : List Rule) → AreSame g rules → (k : Option Modifier)
    → modifier_of (says rule) ≡ k → (made : List PlainRule) → AreLoweredBy g k rule made (AreLowered g rules)
    → (O C P D : Type 0) → (O ↔ P) → (C ↔ D) → (s : ℤ) → IsOpenAfter g (rule ∷ rules) O C s ↔ plain.IsOpenAfter made P D s
after_rule g rule rules same None e made are O C P D o c s = after_none g rule rules same e made are O C P D o c s
after_rule g rule rules same (Some m) e [] are O C P D o c s = absurd are
after_rule g rule rules same (Some m) e (x ∷ made) are O C P D o c s =
    after_some g rule rules same m e x are.0 made are.1 O C P D o c s

same_after : (g : Given) (rules : List Rule) → AreSame g rules
same_after g [] made are O C P D o c s = subst (λ (xs : List PlainRule). O ↔ plain.IsOpenAfter xs P D s) (sym are) o
same_after g (rule ∷ rules) made are O C P D o c s =
    after_rule g rule rules (same_after g rules) (modifier_of (says rule)) refl made are O C P D o c s

pub same_open : (g : Given) (rules : List Rule) (made : List PlainRule) → AreLowered g rules made → (s : ℤ)
    → IsOpenAfter g rules ⊥ ⊥ s ↔ plain.IsOpenAfter made ⊥ ⊥ s
same_open g rules made are s = same_after g rules made are ⊥ ⊥ ⊥ ⊥ (λ h. h, λ h. h) (λ h. h, λ h. h) s

-- ---- as the code goes

-- the plain rules so far, with those of the rules that are left, are all
abbrev pub AreJoined : Given → List Rule → List Rule → List PlainRule → Type 0
AreJoined g all rest made = (others : List PlainRule) → AreLowered g rest others → AreLowered g all (made ++ others)

pub joined_none : (g : Given) (all more : List Rule) (rule : Rule) (made : List PlainRule) → AreJoined g all (rule ∷ more) made
    → modifier_of (says rule) ≡ None → AreJoined g all more made
joined_none g all more rule made joins e others are =
    joins others (subst (λ (k : Option Modifier). AreLoweredBy g k rule others (AreLowered g more)) (sym e) are)

pub joined_more : (g : Given) (all more : List Rule) (rule : Rule) (m : Modifier) (made : List PlainRule) (x : PlainRule)
    → AreJoined g all (rule ∷ more) made → modifier_of (says rule) ≡ Some m → IsLowered g rule m x
    → AreJoined g all more (made ++ x ∷ [])
joined_more g all more rule m made x joins e is others are =
    subst (AreLowered g all) (sym (append_assoc made (x ∷ []) others)) (joins (x ∷ others)
    (subst (λ (k : Option Modifier). AreLoweredBy g k rule (x ∷ others) (AreLowered g more)) (sym e) (is, are)))

pub all_joined : (g : Given) (all rest : List Rule) (made : List PlainRule) → AreJoined g all rest made → rest ≡ []
    → AreLowered g all made
all_joined g all rest made joins e =
    subst (AreLowered g all) (append-nil made) (joins [] (subst (λ (r : List Rule). AreLowered g r []) (sym e) refl))

pub none_joined : (g : Given) (all rest : List Rule) (made : List PlainRule) → rest ≡ all → made ≡ []
    → AreJoined g all rest made
none_joined g all rest made same none others are =
    subst (λ (ms : List PlainRule). AreLowered g all (ms ++ others)) (sym none)
    (subst (λ (r : List Rule). AreLowered g r others) same are)

pub with_rule : (g : Given) (k : Option Modifier) (rule : Rule) (m : Modifier) (x : PlainRule) (old new : List PlainRule)
    → k ≡ Some m → IsLowered g rule m x → new ≡ old ++ x ∷ [] → IsWithRule g k rule old new
with_rule g k rule m x old new e is made =
    subst (λ (o : Option Modifier). IsWithRule g o rule old new) (sym e) (x, is, made)

joined_by : (g : Given) (all more : List Rule) (rule : Rule) (k : Option Modifier) (made new : List PlainRule)
    → modifier_of (says rule) ≡ k → AreJoined g all (rule ∷ more) made → IsWithRule g k rule made new
    → AreJoined g all more new
joined_by g all more rule None made new e joins w =
    subst (λ (ms : List PlainRule). AreJoined g all more ms) (sym w) (joined_none g all more rule made joins e)
joined_by g all more rule (Some m) made new e joins w =
    subst (λ (ms : List PlainRule). AreJoined g all more ms) (sym w.2) (joined_more g all more rule m made w.0 joins e w.1)

pub joined_with : (g : Given) (all more : List Rule) (rule : Rule) (made new : List PlainRule)
    → AreJoined g all (rule ∷ more) made → IsWithRule g (modifier_of (says rule)) rule made new → AreJoined g all more new
joined_with g all more rule made new joins w = joined_by g all more rule (modifier_of (says rule)) made new refl joins w
