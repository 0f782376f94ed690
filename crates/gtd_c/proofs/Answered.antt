-- Answers to many questions: one more question is answered.
use Rattle.std.proofs.Common.{◌≡◌, ◌∙◌, refl, sym, ap, subst, ◌<◌, ◌≤◌, ◌+◌, ◌⊎◌, inl, inr, ℕ, Bool, true, false, List}
use Rattle.std.proofs.Common.{length, drop, arith}
use Rattle.std.specs.Prelude.{◌↔◌, IsTrue, slice_index_or, slice_set}
use Rattle.std.proofs.lemmas.Bool.{cases_lt}
use Rattle.std.proofs.lemmas.List.{drop-drop, drop-set-lt, get_or-set_other, get_or-set_same, length-set}
use Rattle.gtd_records.specs.facts.IndexFacts.{any_default}
use mir.Val.{bool_byte}
use Rattle.gtd_c.specs.Batches.{AreFirstAnswered}

-- below n + 1: below n, or n
up_to : (i n : ℕ) → i < n + 1 → (i < n) ⊎ (i ≡ n)
up_to i n lt = elim (cases_lt i n) [ inl below ↦ inl below | inr past ↦ inr (omega (arith, lt, past)) ]

-- what is answered of a question that holds
yes_byte : (b : Bool) → IsTrue b → bool_byte b ≡ 1
yes_byte true is = refl
yes_byte false is = absurd cc

-- what is answered of a question that does not hold
no_byte : (b : Bool) → (IsTrue b → ⊥) → bool_byte b ≡ 0
no_byte true isnt = absurd (isnt refl)
no_byte false isnt = refl

module _ {A : Type 0} (InRange Holds : A → Type 0) (questions : List A) (other asked : A) (n : ℕ) (old new : List ℕ) where
  -- The first n questions are answered, and the byte of the next one is set to whether it holds: so one more is answered.
  pub one_more : AreFirstAnswered InRange Holds questions other n old new → n < length questions → length questions ≤ length old
      → InRange (slice_index_or questions n asked) → (b : Bool) → (IsTrue b ↔ Holds (slice_index_or questions n asked))
      → AreFirstAnswered InRange Holds questions other (n + 1) old (slice_set new n (bool_byte b))
  one_more first here room in_range b whether =
      let byte = bool_byte b in
      let same = any_default questions n asked other here in
      let in_new : n < length new = omega (arith, here, room, first.long) in
      let kept : (i : ℕ) → i < n → slice_index_or (slice_set new n byte) i 0 ≡ slice_index_or new i 0
      = λ i below. get_or-set_other new n i byte 0 (λ is. omega (arith, below, is)) in
      let set_here : (i : ℕ) → i ≡ n → slice_index_or (slice_set new n byte) i 0 ≡ byte
      = λ i is. ap (λ (k : ℕ). slice_index_or (slice_set new n byte) k 0) is ∙ get_or-set_same new n byte 0 in_new in
      record {
        long = length-set new n byte ∙ first.long;
        few = omega (arith, here);
        in_range = λ i lt. elim (up_to i n lt) [
          | inl below ↦ first.in_range i below
          | inr is ↦ subst (λ (k : ℕ). InRange (slice_index_or questions k other)) (sym is) (subst InRange same in_range)
        ];
        held = λ i lt holds. elim (up_to i n lt) [
          | inl below ↦ kept i below ∙ first.held i below holds
          | inr is ↦ set_here i is ∙ yes_byte b (whether.1 (subst Holds (sym same)
              (subst (λ (k : ℕ). Holds (slice_index_or questions k other)) is holds)))
        ];
        not_held = λ i lt fails. elim (up_to i n lt) [
          | inl below ↦ kept i below ∙ first.not_held i below fails
          | inr is ↦ set_here i is ∙ no_byte b (λ yes. fails (subst (λ (k : ℕ). Holds (slice_index_or questions k other)) (sym is)
              (subst Holds same (whether.0 yes))))
        ];
        rest = drop-set-lt (n + 1) new n byte (omega arith) ∙ sym (drop-drop 1 n new) ∙ ap (drop 1) first.rest
            ∙ drop-drop 1 n old;
      }
