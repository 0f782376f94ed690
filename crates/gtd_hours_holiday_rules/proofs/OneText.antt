-- A text has one reading, and its checked text has its length.
use Rattle.std.proofs.Common.{◌≡◌, ◌∙◌, ℕ, zero, suc, ◌+◌, ◌-◌, List, [], ◌∷◌, ◌++◌, length, Option, Some, None, map, refl, sym}
use Rattle.std.proofs.Common.{Bool, true, false, ap, subst, inl, inr}
use Rattle.std.specs.Prelude.{◌&&◌, drop, set}
use Rattle.std.proofs.lemmas.Bool.{cases_order, false≢true}
use Rattle.std.proofs.Math.ListN.{length-set}
use Rattle.gtd_hours_tokens.specs.Lexing.{AreTokens, IsTokenFault, Reads}
use Rattle.gtd_hours_tokens.specs.facts.TokenForms.{begins_inside, is_language, no_space}
use Rattle.gtd_hours_tokens.specs.declared.token.Token.{Token}
use Rattle.gtd_hours_holiday_rules.specs.Checked.{checked_from, checked_text, first_or_space, form_of, form_place, put_over}
use Rattle.gtd_hours_holiday_rules.specs.Checked.{written_over}
use Rattle.gtd_hours_items.specs.Comments.{IsBadPlace, are_whole, is_whole}
use Rattle.gtd_hours_moving.specs.Moving.{IsMovingFront}
use Rattle.gtd_hours_moving.specs.declared.front.MovingFront.{MovingFront}
use Rattle.gtd_hours_items.specs.Fronts.{IsFrontAt, IsFrontIf, before_after, may_begin}
use Rattle.gtd_hours_items.specs.Items.{AreItems, AreItemsLeft, item_by, more_by}
use Rattle.gtd_hours_items.specs.declared.fronts.Before.{Before}
use Rattle.gtd_hours_items.specs.declared.items.Item.{Item}
use Rattle.gtd_hours_holiday_rules.specs.Parts.{parts_of, told_of}
use Rattle.gtd_hours_holiday_rules.specs.Reading.{HasParts, IsHolidayText}
use Rattle.gtd_hours_holiday_rules.specs.Rules.{rules_of, said_by}
use Rattle.gtd_hours_holiday_rules.specs.WholeDays.{whole_days_of}
use Rattle.gtd_hours_holiday_rules.specs.declared.parts.Part.{Part}
use Rattle.gtd_hours_holiday_rules.specs.declared.text.HolidayText.{HolidayText}
use Rattle.gtd_hours_items.proofs.TokenLemmas.{left_true, right_true}

length-put_over : (n : ℕ) (bytes : List ℕ) (place : ℕ) (form : List ℕ) → length (put_over n bytes place form) ≡ length bytes
length-put_over zero bytes place form = refl
length-put_over (suc n) bytes place form =
    length-put_over n (set bytes place (first_or_space form)) (place + 1) (drop 1 form)
    ∙ length-set bytes place (first_or_space form)

length-written_over : (bytes : List ℕ) (from to : ℕ) (form : Option (List ℕ))
    → length (written_over bytes from to form) ≡ length bytes
length-written_over bytes from to None = refl
length-written_over bytes from to (Some form) = length-put_over (to - from) bytes from form

length-checked_from : (text bytes : List ℕ) (parts : List Part) → length (checked_from text bytes parts) ≡ length bytes
length-checked_from text bytes [] = refl
length-checked_from text bytes (p ∷ parts) =
    length-checked_from text (written_over bytes (form_place p.role p.item) p.item.to (form_of text p.item p.role)) parts
    ∙ length-written_over bytes (form_place p.role p.item) p.item.to (form_of text p.item p.role)

pub same_length : (text : List ℕ) (parts : List Part) (read : HolidayText) → HasParts text parts read
    → length read.checked.items ≡ length text
same_length text parts read has = ap length has.checked ∙ length-checked_from text text parts

-- ---- one reading

module _ (one_front : (text : List ℕ) (tokens : List Token) (one other : Option MovingFront) → IsMovingFront text tokens one
    → IsMovingFront text tokens other → one ≡ other) where
  one_if : (c : Bool) (text : List ℕ) (ts : List Token) (x y : Option MovingFront) → IsFrontIf c text ts x → IsFrontIf c text ts y
      → x ≡ y
  one_if true text ts x y p q = one_front text ts x y p q
  one_if false text ts x y p q = p ∙ sym q

  one_at : (text : List ℕ) (b : Before) (ts : List Token) (x y : Option MovingFront) → IsFrontAt text b ts x
      → IsFrontAt text b ts y → x ≡ y
  one_at text b [] x y p q = p ∙ sym q
  one_at text b (t ∷ ts) x y p q = one_if (may_begin b t.kind) text (t ∷ ts) x y p q

  one_left : (n : ℕ) (b : Before) (text : List ℕ) (ts : List Token) (xs ys : List Item) → AreItemsLeft n b text ts xs
      → AreItemsLeft n b text ts ys → xs ≡ ys
  one_left n b text [] xs ys p q = p ∙ sym q
  one_left (suc n) b text (t ∷ ts) xs ys p q = one_left n b text ts xs ys p q
  one_left zero b text (t ∷ ts) xs ys (f, more, at, whole, left) (g, others, front, all, rest) =
      let same : f ≡ g = one_at text b (t ∷ ts) f g at front in
      let left' : AreItemsLeft (more_by text t ts g) (before_after b t.kind g) text ts more =
      subst (λ (x : Option MovingFront). AreItemsLeft (more_by text t ts x) (before_after b t.kind x) text ts more) same left
      in
      whole ∙ ap (λ (x : Option MovingFront). item_by text t ts x ∷ more) same
      ∙ ap (λ (later : List Item). item_by text t ts g ∷ later)
      (one_left (more_by text t ts g) (before_after b t.kind g) text ts more others left' rest)
      ∙ sym all

  pub one_items : (text : List ℕ) (ts : List Token) (xs ys : List Item) → AreItems text ts xs → AreItems text ts ys → xs ≡ ys
  one_items text ts xs ys p q = one_left 0 _ text ts xs ys p q

  module _ (one_list : (text : List ℕ) (one other : List Token) → AreTokens text one → AreTokens text other → one ≡ other) where
    same_items : (text : List ℕ) (a b : HolidayText) (p : IsHolidayText text a) (q : IsHolidayText text b)
        → p.has.items ≡ q.has.items
    same_items text a b p q =
        one_items text q.tokens p.has.items q.has.items
        (subst (λ (ts : List Token). AreItems text ts p.has.items) (one_list text p.tokens q.tokens p.are q.are) p.has.are)
        q.has.are

    pub one_checked : (text : List ℕ) (a b : HolidayText) → IsHolidayText text a → IsHolidayText text b
        → a.checked.items ≡ b.checked.items
    one_checked text a b p q =
        p.has.has.checked
        ∙ ap (λ (items : List Item). checked_text text (parts_of items)) (same_items text a b p q)
        ∙ sym q.has.has.checked

    pub one_rules : (text : List ℕ) (a b : HolidayText) → IsHolidayText text a → IsHolidayText text b
        → map said_by a.rules.items ≡ map said_by b.rules.items
    one_rules text a b p q =
        p.has.has.rules
        ∙ ap (λ (items : List Item). rules_of text (parts_of items)) (same_items text a b p q)
        ∙ sym q.has.has.rules

    pub one_told : (text : List ℕ) (a b : HolidayText) → IsHolidayText text a → IsHolidayText text b
        → a.told.items ≡ b.told.items
    one_told text a b p q =
        p.has.has.told
        ∙ ap (λ (items : List Item). told_of (parts_of items)) (same_items text a b p q)
        ∙ sym q.has.has.told

    pub one_whole_days : (text : List ℕ) (a b : HolidayText) → IsHolidayText text a → IsHolidayText text b
        → a.whole_days.items ≡ b.whole_days.items
    one_whole_days text a b p q =
        p.has.has.whole_days
        ∙ ap (λ (items : List Item). whole_days_of (parts_of items)) (same_items text a b p q)
        ∙ sym q.has.has.whole_days

-- ---- no bad place

both : (a b : Bool) → a ≡ true → b ≡ true → (a && b) ≡ true
both true b e f = f
both false b e f = absurd (false≢true e)

-- tokens that a whole text begins with are whole
whole_before : (text : List ℕ) (place : ℕ) (before tokens : List Token) (end : ℕ) → Reads text place before end
    → Reads text place tokens (length text) → are_whole text tokens ≡ true → are_whole text before ≡ true
whole_before text place [] tokens end h k whole = refl
whole_before text place (t ∷ before) [] end h k whole =
    absurd (no_space text t h.1 (k.1 t.from h.0.0 (begins_inside text t h.1)))
whole_before text place (t ∷ before) (u ∷ tokens) end h k whole = elim (cases_order t.from u.from) [
  | inl same ↦
      let one : t ≡ u = (is_language text).one_token t u h.1 k.1 same in
      both (is_whole text t) (are_whole text before)
      (subst (λ (x : Token). is_whole text x ≡ true) (sym one) (left_true (is_whole text u) (are_whole text tokens) whole))
      (whole_before text t.to before tokens end h.2
      (subst (λ (x : Token). Reads text x.to tokens (length text)) (sym one) k.2)
      (right_true (is_whole text u) (are_whole text tokens) whole))
  | inr (inl less) ↦ absurd (no_space text t h.1 (k.0.1 t.from h.0.0 less))
  | inr (inr more) ↦ absurd (no_space text u k.1 (h.0.1 u.from k.0.0 more))
]

last_whole : (text : List ℕ) (before : List Token) (comment : Token) → are_whole text (before ++ comment ∷ []) ≡ true
    → is_whole text comment ≡ true
last_whole text [] comment whole = left_true (is_whole text comment) true whole
last_whole text (t ∷ before) comment whole =
    last_whole text before comment (right_true (is_whole text t) (are_whole text (before ++ comment ∷ [])) whole)

module _ (divided : (text : List ℕ) (tokens : List Token) (place : ℕ) → AreTokens text tokens → IsTokenFault text place
    → ⊥) where
  pub no_fault : (text : List ℕ) (read : HolidayText) (place : ℕ) → IsHolidayText text read → IsBadPlace text place → ⊥
  no_fault text read place p (inl bad) = divided text p.tokens place p.are bad.fault
  no_fault text read place p (inr bad) =
      let whole = whole_before text 0 (bad.before ++ bad.comment ∷ []) p.tokens bad.comment.to bad.reads p.are p.whole in
      let other : false ≡ true = sym bad.broken ∙ last_whole text bad.before bad.comment whole in
      absurd (false≢true other)
