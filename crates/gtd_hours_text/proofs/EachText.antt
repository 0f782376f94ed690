-- Each text stands for some hours, or has a first fault.
use Rattle.std.proofs.Common.{Vec, Global, ◌≡◌, ◌∙◌, ℕ, zero, suc, ◌+◌, ◌*◌, ◌<◌, ◌≤◌, ◌⊎◌, inl, inr, true, List, []}
use Rattle.std.proofs.Common.{◌∷◌, ◌++◌, length, refl, sym, ap, subst, arith, length-append}
use Rattle.std.specs.List.{filter}
use Rattle.std.specs.Vec.{with_items}
use Rattle.std.proofs.lemmas.List.{with_items_is}
use Rattle.gtd_hours.specs.declared.hours.Hours.{Hours}
use Rattle.gtd_hours.specs.declared.hours.Kind.{Kind}
use Rattle.gtd_hours.specs.declared.hours.Link.{Link}
use Rattle.gtd_hours.specs.declared.hours.Link.TheVariants as link
use Rattle.gtd_hours.specs.declared.hours.Rule.{Rule}
use Rattle.gtd_hours.specs.declared.hours.Selector.{Selector}
use Rattle.gtd_hours.specs.declared.hours.TimeRange.{TimeRange}
use Rattle.gtd_hours_grammar.specs.Faults.{IsFirstFault, IsHoursText}
use Rattle.gtd_hours_parts.specs.SoundPieces.{ArePieces}
use Rattle.gtd_hours_grammar.specs.declared.fault.HoursFault.{HoursFault}
use Rattle.gtd_hours_parts.specs.declared.piece.Piece.{Piece}
use Rattle.gtd_hours_parts.specs.declared.piece.Piece.TheVariants as piece
use Rattle.gtd_hours_text.specs.Room.{HasRoom, HasVectors}
use Rattle.gtd_hours_text.specs.Standing.{AllTimes, AreRules, IsRule, StandsFor, is_closed, is_one_rule, kind_if, modifier_of}
use Rattle.gtd_hours_text.specs.Standing.{names_times, selectors}
use Rattle.gtd_hours_text.proofs.EachPiece.{all_month_days, all_times, all_weekdays, all_weeks, all_years}

-- ---- vectors

record Holds {X : Type 0} (xs : List X) : Type 0 where
  v : Vec X Global
  items : v.items ≡ xs

vector : {X : Type 0} (most : ℕ) → HasVectors X most → (xs : List X) → length xs ≤ most → Holds xs
vector most room xs le =
    let v = room (length xs) le in
    record { v = with_items v.0 xs; items = with_items_is v.0 xs (sym v.1) }

-- ---- kinds

record Kinds (ls : List (List Selector)) (most : ℕ) : Type 0 where
  kinds : List Kind
  are : selectors kinds ≡ ls
  few : length kinds ≤ most

one_kind : (most : ℕ) → HasVectors Selector most → (xs : List Selector) → length xs ≤ most → Kinds (kind_if xs) 1
one_kind most room [] le = record { kinds = []; are = refl; few = omega arith }
one_kind most room (x ∷ xs) le =
    let v = vector most room (x ∷ xs) le in
    record {
      kinds = record { selectors = v.v } ∷ [];
      are = ap (λ (l : List Selector). l ∷ []) v.items;
      few = omega arith;
    }

selectors_both : (a b : List Kind) → selectors (a ++ b) ≡ selectors a ++ selectors b
selectors_both [] b = refl
selectors_both (x ∷ a) b = ap (λ (l : List (List Selector)). x.selectors.items ∷ l) (selectors_both a b)

both_kinds : (xs ys : List (List Selector)) (m n : ℕ) → Kinds xs m → Kinds ys n → Kinds (xs ++ ys) (m + n)
both_kinds xs ys m n a b = record {
  kinds = a.kinds ++ b.kinds;
  are = selectors_both a.kinds b.kinds ∙ ap (λ (l : List (List Selector)). l ++ selectors b.kinds) a.are
      ∙ ap (λ (l : List (List Selector)). xs ++ l) b.are;
  few = (let x = a.few in let y = b.few in omega (arith, x, y, length-append a.kinds b.kinds));
}

four_kinds : (most : ℕ) → HasVectors Selector most → (a b c d : List Selector) → length a ≤ most → length b ≤ most
    → length c ≤ most → length d ≤ most → Kinds (kind_if a ++ kind_if b ++ kind_if c ++ kind_if d) 4
four_kinds most room a b c d le_a le_b le_c le_d =
    let one = one_kind most room a le_a in
    let two = both_kinds (kind_if a) (kind_if b) 1 1 one (one_kind most room b le_b) in
    let three = both_kinds (kind_if a ++ kind_if b) (kind_if c) 2 1 two (one_kind most room c le_c) in
    both_kinds (kind_if a ++ kind_if b ++ kind_if c) (kind_if d) 3 1 three (one_kind most room d le_d)

-- ---- a rule

record OneRule (l : Link) (p : List Piece) : Type 0 where
  rule : Rule
  is : IsRule l p rule

one_rule : (most : ℕ) → HasRoom most → (l : Link) (p : List Piece) → ArePieces p → 5 * length p + 4 ≤ most → OneRule l p
one_rule most room l p are le =
    let a = all_years p are in
    let b = all_month_days p are in
    let c = all_weeks p are in
    let d = all_weekdays p are in
    let t = all_times p are in
    let few_a = a.few in
    let few_b = b.few in
    let few_c = c.few in
    let few_d = d.few in
    let few_t = t.few in
    let kinds = four_kinds most room.selectors a.xs b.xs c.xs d.xs (omega (arith, le, few_a)) (omega (arith, le, few_b))
    (omega (arith, le, few_c)) (omega (arith, le, few_d)) in
    let few_kinds = kinds.few in
    let ks = vector most room.kinds kinds.kinds (omega (arith, le, few_kinds)) in
    let ts = vector most room.times t.xs (omega (arith, le, few_t)) in
    record {
      rule = record { link = l; kinds = ks.v; times = ts.v; modifier = modifier_of (is_closed p) };
      is = record {
        years = a.xs;
        month_days = b.xs;
        weeks = c.xs;
        weekdays = d.xs;
        are_years = a.are;
        are_month_days = b.are;
        are_weeks = c.are;
        are_weekdays = d.are;
        kinds = ap (λ (k : List Kind). selectors k) ks.items ∙ kinds.are;
        times = subst (λ (x : List TimeRange). AllTimes (filter names_times p) x) (sym ts.items) t.are;
        modifier = refl;
        link = refl;
      };
    }

-- ---- rules

-- pieces are one rule, or one and then others
data Parts (p : List Piece) : Type 0 where
  whole : is_one_rule p ≡ true → Parts p
  front : (q : List Piece) → (next : Link) → (r : List Piece) → p ≡ q ++ piece.Rule next ∷ r → is_one_rule q ≡ true → Parts p

parts_more : (x : Piece) (p : List Piece) → is_one_rule (x ∷ p) ≡ is_one_rule p
    → ((q : List Piece) → is_one_rule (x ∷ q) ≡ is_one_rule q) → Parts p → Parts (x ∷ p)
parts_more x p same always (Parts.whole e) = Parts.whole (same ∙ e)
parts_more x p same always (Parts.front q next r e one) =
    Parts.front (x ∷ q) next r (ap (λ (l : List Piece). x ∷ l) e) (always q ∙ one)

parts_of : (p : List Piece) → Parts p
parts_of [] = Parts.whole refl
parts_of (piece.Rule next ∷ p) = Parts.front [] next p refl refl
parts_of (x ∷ p) = parts_more x p refl (λ q. refl) (parts_of p)

pieces_left : (q r : List Piece) → ArePieces (q ++ r) → ArePieces q
pieces_left [] r are = record {}
pieces_left (x ∷ q) r are = (are.0, pieces_left q r are.1)

pieces_right : (q r : List Piece) → ArePieces (q ++ r) → ArePieces r
pieces_right [] r are = are
pieces_right (x ∷ q) r are = pieces_right q r are.1

record Rules (l : Link) (p : List Piece) : Type 0 where
  rules : List Rule
  are : AreRules l p rules
  few : length rules ≤ length p + 1

module _ (most : ℕ) (room : HasRoom most) where
  single : (l : Link) (p : List Piece) → ArePieces p → 5 * length p + 4 ≤ most → is_one_rule p ≡ true → Rules l p
  single l p are le one =
      let x = one_rule most room l p are le in
      record { rules = x.rule ∷ []; are = AreRules.last l p x.rule (x.rule ∷ []) one x.is refl; few = omega arith }

  -- the first rule, and those behind it
  first : (l : Link) (p q : List Piece) (next : Link) (r : List Piece) → ArePieces p → 5 * length p + 4 ≤ most
      → p ≡ q ++ piece.Rule next ∷ r → is_one_rule q ≡ true
      → (ArePieces r → length r < length p → Rules next r) → Rules l p
  first l p q next r are le e one others =
      let long = ap length e ∙ length-append q (piece.Rule next ∷ r) in
      let all = subst (λ (l : List Piece). ArePieces l) e are in
      let x = one_rule most room l q (pieces_left q (piece.Rule next ∷ r) all) (omega (arith, le, long)) in
      let more = others (pieces_right q (piece.Rule next ∷ r) all).1 (omega (arith, long)) in
      record {
        rules = x.rule ∷ more.rules;
        are = AreRules.another l next p q r x.rule more.rules (x.rule ∷ more.rules) e one x.is refl more.are;
        few = (let few = more.few in omega (arith, few, long));
      }

  by_parts : (l : Link) (p : List Piece) → ArePieces p → 5 * length p + 4 ≤ most
      → ((next : Link) (r : List Piece) → ArePieces r → length r < length p → Rules next r) → Parts p → Rules l p
  by_parts l p are le others (Parts.whole one) = single l p are le one
  by_parts l p are le others (Parts.front q next r e one) = first l p q next r are le e one (others next r)

  rules_of : (fuel : ℕ) (l : Link) (p : List Piece) → ArePieces p → 5 * length p + 4 ≤ most → length p ≤ fuel → Rules l p
  rules_of zero l p are le short =
      by_parts l p are le (λ next r sound less. absurd (omega (arith, less, short))) (parts_of p)
  rules_of (suc fuel) l p are le short =
      by_parts l p are le (λ next r sound less. rules_of fuel next r sound (omega (arith, le, less)) (omega (arith, less, short)))
      (parts_of p)

  hours_of : (text : List ℕ) (p : List Piece) → IsHoursText text p → ArePieces p → 5 * length p + 4 ≤ most
      → (hours : Hours) × StandsFor text hours
  hours_of text p is are le =
      let all = rules_of (length p) link.Instead p are le (omega arith) in
      let few = all.few in
      let v = vector most room.rules all.rules (omega (arith, le, few)) in (
        record { rules = v.v },
        record { p = p; is = is; rules = subst (λ (rs : List Rule). AreRules link.Instead p rs) (sym v.items) all.are },
      )

pub each_text : ((text : List ℕ) → ((p : List Piece) × IsHoursText text p) ⊎ ((bad : HoursFault) × IsFirstFault text bad))
    → ((text : List ℕ) (p : List Piece) → IsHoursText text p → ArePieces p)
    → ((text : List ℕ) (p : List Piece) → IsHoursText text p → length p ≤ 4 * length text)
    → (text : List ℕ) → HasRoom (20 * length text + 4)
    → ((hours : Hours) × StandsFor text hours) ⊎ ((bad : HoursFault) × IsFirstFault text bad)
each_text some in_range few text room = elim (some text) [
  | inl x ↦
      let short = few text x.0 x.1 in
      inl (hours_of (20 * length text + 4) room text x.0 x.1 (in_range text x.0 x.1) (omega (arith, short)))
  | inr bad ↦ inr bad
]
