-- One part more of a value, in a loop that goes over it.
use Rattle.std.proofs.Common.{◌≡◌, ◌∙◌, ap, sym, subst, refl, arith, ◌≤◌, ◌<◌, ◌+◌, ℕ, false, true, List, [], ◌∷◌, ◌++◌, length}
use Rattle.std.proofs.Common.{append_assoc, take, drop}
use Rattle.std.specs.Prelude.{Option, Some, None, is_some}
use Rattle.gtd_hours_options.specs.Readings.{HowRead}
use Rattle.gtd_conditional_means.specs.declared.meaning.MeansRow.{MeansRow}
use Rattle.gtd_conditional_values.specs.Pieces.{at_sign, front_spaces}
use Rattle.gtd_conditional_parts.specs.Cuts.{first_part, part_bytes}
use Rattle.gtd_conditional_parts.specs.Parts.{AreParts, IsPart, IsPartStop, IsPartsFault, IsPartsStop, LacksAt, here, last}
use Rattle.gtd_conditional_parts.specs.Parts.{lacks_here, lacks_later, later, more}
use Rattle.gtd_conditional_parts.specs.declared.said.Subject.{Subject}
use Rattle.gtd_conditional_parts.specs.declared.value.Part.{Part}
use Rattle.gtd_conditional_parts.specs.declared.value.UnreadValue.{UnreadValue}
use Rattle.gtd_conditional_parts.specs.declared.value.UnreadValue.TheVariants as stop
use Rattle.gtd_conditional_parts.specs.declared.value.ValueFault.{ValueFault}

-- there is a place, or none
pub some_of : (o : Option ℕ) → is_some o ≡ true → (at : ℕ) × (o ≡ Some at)
some_of None e = cc
some_of (Some at) e = (at, refl)

pub none_of : (o : Option ℕ) → is_some o ≡ false → o ≡ None
none_of None e = refl
none_of (Some at) e = cc

module _ (place : ℕ) (text : List ℕ) where
  -- the first part without `@` is the same from a place on as in all of the text
  abbrev pub FindsOn : ℕ → List ℕ → Type 0
  FindsOn at rest = (found : ℕ) → LacksAt at rest found → LacksAt place text found

  abbrev pub LeftOn : ℕ → List ℕ → Type 0
  LeftOn at rest = (found : ℕ) → LacksAt place text found → LacksAt at rest found

  module _ (at n : ℕ) (rest : List ℕ) (cut : n ≡ part_bytes rest) where
    first_has : (o : Option ℕ) → at_sign (take n rest) ≡ o → at_sign (first_part rest) ≡ o
    first_has o is = subst (λ (k : ℕ). at_sign (take k rest) ≡ o) cut is

    pub finds_here : (found : ℕ) → at_sign (take n rest) ≡ None → found ≡ at + front_spaces (take n rest) → FindsOn at rest
        → LacksAt place text found
    finds_here found none is finds =
        finds found
        (lacks_here at rest found (first_has None none) (is ∙ ap (λ (k : ℕ). at + front_spaces (take k rest)) cut))

    pub finds_more : (a : ℕ) → at_sign (take n rest) ≡ Some a → n + 1 ≤ length rest → FindsOn at rest → (ahead : List ℕ)
        → ahead ≡ drop (n + 1) rest → FindsOn (at + (n + 1)) ahead
    finds_more a has long finds ahead same = λ found g.
        let h = subst (λ (l : List ℕ). LacksAt (at + (n + 1)) l found) same g in
        let room : part_bytes rest + 1 ≤ length rest = omega (arith, cut, long) in
        let moved = subst (λ (k : ℕ). LacksAt (at + (k + 1)) (drop (k + 1) rest) found) cut h in
        finds found (lacks_later at rest found a (first_has (Some a) has) room moved)

    -- a part that has one is not the first without
    pub behind : (a found : ℕ) → at_sign (take n rest) ≡ Some a → LacksAt at rest found
        → (n + 1 ≤ length rest) × LacksAt (at + (n + 1)) (drop (n + 1) rest) found
    behind a found has (lacks_here place' text' found' none is) = let e = first_has (Some a) has in cc
    behind a found has (lacks_later place' text' found' b some long h) = (
      omega (arith, cut, long),
      subst (λ (k : ℕ). LacksAt (at + (k + 1)) (drop (k + 1) rest) found) (sym cut) h,
    )

    pub left_more : (a : ℕ) → at_sign (take n rest) ≡ Some a → LeftOn at rest → (ahead : List ℕ) → ahead ≡ drop (n + 1) rest
        → LeftOn (at + (n + 1)) ahead
    left_more a has left ahead same = λ found h.
        subst (λ (l : List ℕ). LacksAt (at + (n + 1)) l found) (sym same) (behind a found has (left found h)).1

    pub left_none : (a : ℕ) → at_sign (take n rest) ≡ Some a → length rest < n + 1 → LeftOn at rest → (found : ℕ)
        → LacksAt place text found → ⊥
    left_none a has short left = λ found h. let long = (behind a found has (left found h)).0 in omega (arith, long, short)

    pub have_more : (a : ℕ) → at_sign (take n rest) ≡ Some a → n + 1 ≤ length rest → ((found : ℕ) → LacksAt at rest found → ⊥)
        → (ahead : List ℕ) → ahead ≡ drop (n + 1) rest → (found : ℕ) → LacksAt (at + (n + 1)) ahead found → ⊥
    have_more a has long have ahead same = λ found g.
        let h = subst (λ (l : List ℕ). LacksAt (at + (n + 1)) l found) same g in
        let room : part_bytes rest + 1 ≤ length rest = omega (arith, cut, long) in
        let moved = subst (λ (k : ℕ). LacksAt (at + (k + 1)) (drop (k + 1) rest) found) cut h in
        have found (lacks_later at rest found a (first_has (Some a) has) room moved)

    pub have_here : ((found : ℕ) → LacksAt at rest found → ⊥) → at_sign (take n rest) ≡ None → ⊥
    have_here have none =
        have (at + front_spaces (first_part rest))
        (lacks_here at rest (at + front_spaces (first_part rest)) (first_has None none) refl)

module _ (subject : Subject) (how : HowRead) (rows : List MeansRow) (place : ℕ) (text : List ℕ) where
  -- the parts before a place, with those from there on, are all
  abbrev pub GoesOn : List Part → ℕ → List ℕ → Type 0
  GoesOn before at rest =
      (behind : List Part) → AreParts subject how rows at rest behind
      → AreParts subject how rows place text (before ++ behind)

  -- a fault from there on is the first
  abbrev pub FailsOn : ℕ → List ℕ → Type 0
  FailsOn at rest =
      (why : ValueFault) → IsPartsFault subject how rows at rest why → IsPartsFault subject how rows place text why

  pub goes_start : (before : List Part) → before ≡ [] → GoesOn before place text
  goes_start before e = λ behind h. subst (λ (xs : List Part). AreParts subject how rows place text (xs ++ behind)) (sym e) h

  module _ (at n : ℕ) (rest : List ℕ) (cut : n ≡ part_bytes rest) where
    first : (part : Part) → IsPart subject how rows at (take n rest) part
        → IsPart subject how rows at (first_part rest) part
    first part is = subst (λ (k : ℕ). IsPart subject how rows at (take k rest) part) cut is

    pub goes_more : (before after : List Part) (part : Part) → after ≡ before ++ part ∷ [] → n + 1 ≤ length rest
        → IsPart subject how rows at (take n rest) part → GoesOn before at rest → (left : List ℕ) → left ≡ drop (n + 1) rest
        → GoesOn after (at + (n + 1)) left
    goes_more before after part put long is goes left same_left = λ behind g.
        let h = subst (λ (l : List ℕ). AreParts subject how rows (at + (n + 1)) l behind) same_left g in
        let same = ap (λ (xs : List Part). xs ++ behind) put ∙ append_assoc before (part ∷ []) behind in
        let room : part_bytes rest + 1 ≤ length rest = omega (arith, cut, long) in
        let moved = subst (λ (k : ℕ). AreParts subject how rows (at + (k + 1)) (drop (k + 1) rest) behind) cut h in
        subst (λ (xs : List Part). AreParts subject how rows place text xs) (sym same)
        (goes (part ∷ behind) (more at rest part behind (part ∷ behind) room (first part is) moved refl))

    pub fails_more : (part : Part) → n + 1 ≤ length rest → IsPart subject how rows at (take n rest) part → FailsOn at rest
        → (left : List ℕ) → left ≡ drop (n + 1) rest → FailsOn (at + (n + 1)) left
    fails_more part long is fails left same_left = λ why g.
        let h = subst (λ (l : List ℕ). IsPartsFault subject how rows (at + (n + 1)) l why) same_left g in
        let room : part_bytes rest + 1 ≤ length rest = omega (arith, cut, long) in
        let moved = subst (λ (k : ℕ). IsPartsFault subject how rows (at + (k + 1)) (drop (k + 1) rest) why) cut h in
        fails why (later at rest why part room (first part is) moved)

    pub goes_last : (before after : List Part) (part : Part) → after ≡ before ++ part ∷ [] → length rest < n + 1
        → IsPart subject how rows at (take n rest) part → GoesOn before at rest → AreParts subject how rows place text after
    goes_last before after part put short is goes =
        let end : length rest < part_bytes rest + 1 = omega (arith, cut, short) in
        subst (λ (xs : List Part). AreParts subject how rows place text xs) (sym put)
        (goes (part ∷ []) (last at rest part (part ∷ []) end (first part is) refl))

    pub fails_here : (why : UnreadValue) → IsPartStop subject how rows at (take n rest) why → FailsOn at rest
        → IsPartsStop subject how rows place text why
    fails_here (stop.Fault why) is fails =
        fails why (here at rest why (subst (λ (k : ℕ). IsPartStop subject how rows at (take k rest) (stop.Fault why)) cut is))
    fails_here stop.NoMemory is fails = tt
