-- Pieces are the same rules, whichever of them are taken, but for the room that their lists have.
use Rattle.std.proofs.Common.{◌≡◌, true, false, List, [], ◌∷◌, ◌++◌, refl, sym, ap, subst, ◌∙◌}
use Rattle.std.specs.List.{filter}
use Rattle.gtd_hours.specs.declared.hours.Link.{Link}
use Rattle.gtd_hours.specs.declared.hours.Rule.{Rule}
use Rattle.gtd_hours.specs.declared.hours.Selector.{Selector}
use Rattle.gtd_hours_parts.specs.declared.piece.Piece.{Piece}
use Rattle.gtd_hours_parts.specs.declared.piece.Piece.TheVariants as piece
use Rattle.gtd_hours_text.specs.Standing.{AreRules, IsRule, is_one_rule, kind_if, names_month_days, names_times, names_weekdays}
use Rattle.gtd_hours_text.specs.Standing.{names_weeks, names_years, selectors}
use Rattle.gtd_hours_text.specs.facts.SameSelectors.{one_selectors, one_times, one_weekdays}

pub record SameRule (one other : Rule) : Type 0 where
  pub kinds : selectors one.kinds.items ≡ selectors other.kinds.items
  pub times : one.times.items ≡ other.times.items
  pub modifier : one.modifier ≡ other.modifier
  pub link : one.link ≡ other.link

abbrev pub SameRules : List Rule → List Rule → Type 0
SameRules [] [] = Unit {0}
SameRules (x ∷ xs) (y ∷ ys) = SameRule x y × SameRules xs ys
SameRules xs ys = ⊥

same_kinds : (a b c d e f g h : List Selector) → a ≡ e → b ≡ f → c ≡ g → d ≡ h
    → kind_if a ++ kind_if b ++ kind_if c ++ kind_if d ≡ kind_if e ++ kind_if f ++ kind_if g ++ kind_if h
same_kinds a b c d e f g h p q r s = λ i. kind_if (p i) ++ kind_if (q i) ++ kind_if (r i) ++ kind_if (s i)

one_rule : (l : Link) (p : List Piece) (one other : Rule) → IsRule l p one → IsRule l p other → SameRule one other
one_rule l p one other h k = record {
  kinds = h.kinds ∙ same_kinds _ _ _ _ _ _ _ _
      (one_selectors (filter names_years p) h.years k.years h.are_years k.are_years)
      (one_selectors (filter names_month_days p) h.month_days k.month_days h.are_month_days k.are_month_days)
      (one_selectors (filter names_weeks p) h.weeks k.weeks h.are_weeks k.are_weeks)
      (one_weekdays (filter names_weekdays p) h.weekdays k.weekdays h.are_weekdays k.are_weekdays) ∙ sym k.kinds;
  times = one_times (filter names_times p) one.times.items other.times.items h.times k.times;
  modifier = h.modifier ∙ sym k.modifier;
  link = h.link ∙ sym k.link;
}

-- ---- where a rule ends

two_rules : (q : List Piece) (n : Link) (r : List Piece) → is_one_rule (q ++ piece.Rule n ∷ r) ≡ false
two_rules [] n r = refl
two_rules (piece.Rule l ∷ q) n r = refl
two_rules (x ∷ q) n r = two_rules q n r

no_split : (p q : List Piece) (n : Link) (r : List Piece) → is_one_rule p ≡ true → p ≡ q ++ piece.Rule n ∷ r → ⊥
no_split p q n r one e = let no : true ≡ false = sym one ∙ ap is_one_rule e ∙ two_rules q n r in absurd cc

not_first : (x : Piece) (q : List Piece) (n : Link) → is_one_rule (x ∷ q) ≡ true → x ≡ piece.Rule n → ⊥
not_first x q n one e = let no : true ≡ false = sym one ∙ ap (λ (o : Piece). is_one_rule (o ∷ q)) e in absurd cc

still_one : (x : Piece) (q : List Piece) → is_one_rule (x ∷ q) ≡ true → is_one_rule q ≡ true
still_one (piece.Rule l) q one = absurd cc
still_one x q one = one

record SameSplit (q r u v : List Piece) (n m : Link) : Type 0 where
  first : q ≡ u
  link : n ≡ m
  later : r ≡ v

one_split : (q r u v : List Piece) (n m : Link) → is_one_rule q ≡ true → is_one_rule u ≡ true
    → q ++ piece.Rule n ∷ r ≡ u ++ piece.Rule m ∷ v → SameSplit q r u v n m
one_split [] r [] v n m one too e = record { first = refl; link = cc; later = cc }
one_split [] r (y ∷ u) v n m one too e = let same : y ≡ piece.Rule n = cc in absurd (not_first y u n too same)
one_split (x ∷ q) r [] v n m one too e = let same : x ≡ piece.Rule m = cc in absurd (not_first x q m one same)
one_split (x ∷ q) r (y ∷ u) v n m one too e =
    let head : x ≡ y = cc in
    let tail : q ++ piece.Rule n ∷ r ≡ u ++ piece.Rule m ∷ v = cc in
    let rest = one_split q r u v n m (still_one x q one) (still_one y u too) tail in
    record { first = λ i. head i ∷ rest.first i; link = rest.link; later = rest.later }

-- ---- rules

same_lists : (xs ys us vs : List Rule) → xs ≡ us → ys ≡ vs → SameRules us vs → SameRules xs ys
same_lists xs ys us vs e f same =
    subst (λ (o : List Rule). SameRules o ys) (sym e) (subst (λ (o : List Rule). SameRules us o) (sym f) same)

pub one_rules : (l : Link) (p : List Piece) (xs ys : List Rule) → AreRules l p xs → AreRules l p ys → SameRules xs ys
one_rules l p xs ys (AreRules.last a b x c one is e) (AreRules.last d g y h too at f) =
    same_lists xs ys (x ∷ []) (y ∷ []) e f (one_rule l p x y is at, record {})
one_rules l p xs ys (AreRules.last a b x c one is e) (AreRules.another d n g u v y zs h split too at f go) =
    absurd (no_split p u n v one split)
one_rules l p xs ys (AreRules.another d n g u v y zs h split too at f go) (AreRules.last a b x c one is e) =
    absurd (no_split p u n v one split)
one_rules l p xs ys (AreRules.another a n b q r x zs c split one is e go)
    (AreRules.another d m g u v y ws h apart too at f rest) =
    let same = one_split q r u v n m one too (sym split ∙ apart) in
    let rule = one_rule l q x y is (subst (λ (o : List Piece). IsRule l o y) (sym same.first) at) in
    let after : AreRules n r ws = subst (λ (o : Link). AreRules o r ws) (sym same.link)
    (subst (λ (o : List Piece). AreRules m o ws) (sym same.later) rest) in
    same_lists xs ys (x ∷ zs) (y ∷ ws) e f (rule, one_rules n r zs ws go after)
