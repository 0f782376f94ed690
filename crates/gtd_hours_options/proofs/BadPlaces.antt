-- A text has one first place at most at which it is not whole tokens and spaces.
use Rattle.std.proofs.Common.{◌≡◌, ◌≢◌, ◌∙◌, sym, ap, subst, refl, inl, inr, ℕ, Bool, true, false, List, [], ◌∷◌, ◌++◌}
use Rattle.std.specs.Prelude.{◌&&◌, slice_index}
use Rattle.std.proofs.lemmas.Bool.{cases_order}
use Rattle.gtd_hours_tokens.specs.Lexing.{BeginsNoToken, IsTokenFault, Reads}
use Rattle.gtd_hours_tokens.specs.facts.TokenForms.{is_language, no_space}
use Rattle.gtd_hours_tokens.specs.declared.token.Token.{Token}
use Rattle.gtd_hours_items.specs.Comments.{IsBadPlace, are_whole, is_whole}
use Rattle.gtd_hours_items.proofs.TokenLemmas.{left_true, right_true}

not_both : (b : Bool) → b ≡ true → b ≡ false → ⊥
not_both b e f = cc

rest_broken : (b c : Bool) → b ≡ true → (b && c) ≡ false → c ≡ false
rest_broken true c e f = f
rest_broken false c e f = absurd cc

-- tokens up to a byte with which none begins are whole, and so are all that begin where they do
none_broken : (text : List ℕ) (place at : ℕ) (before others : List Token) (end : ℕ) → slice_index text at ≢ 32
    → BeginsNoToken text at → Reads text place before at → Reads text place others end → are_whole text before ≡ true
    → are_whole text others ≡ false → ⊥
none_broken text place at before [] end space none h k whole broken = not_both true refl broken
none_broken text place at [] (u ∷ others) end space none h k whole broken = elim (cases_order at u.from) [
  | inl same ↦ none u k.1 (sym same)
  | inr (inl less) ↦ space (k.0.1 at h.0 less)
  | inr (inr more) ↦ no_space text u k.1 (h.1 u.from k.0.0 more)
]
none_broken text place at (t ∷ before) (u ∷ others) end space none h k whole broken = elim (cases_order t.from u.from) [
  | inl same ↦
      let one : t ≡ u = (is_language text).one_token t u h.1 k.1 same in
      let first : is_whole text u ≡ true = subst (λ (x : Token). is_whole text x ≡ true) one
      (left_true (is_whole text t) (are_whole text before) whole) in
      none_broken text t.to at before others end space none h.2
      (subst (λ (x : Token). Reads text x.to others end) (sym one) k.2)
      (right_true (is_whole text t) (are_whole text before) whole)
      (rest_broken (is_whole text u) (are_whole text others) first broken)
  | inr (inl less) ↦ absurd (no_space text t h.1 (k.0.1 t.from h.0.0 less))
  | inr (inr more) ↦ absurd (no_space text u k.1 (h.0.1 u.from k.0.0 more))
]

last_broken : (text : List ℕ) (before : List Token) (comment : Token) → is_whole text comment ≡ false
    → are_whole text (before ++ comment ∷ []) ≡ false
last_broken text [] comment broken = ap (λ (b : Bool). b && true) broken
last_broken text (t ∷ before) comment broken = by_first (is_whole text t) (last_broken text before comment broken)
  where
    by_first : (b : Bool) → are_whole text (before ++ comment ∷ []) ≡ false
        → (b && are_whole text (before ++ comment ∷ [])) ≡ false
    by_first true rest = rest
    by_first false rest = refl

-- the first comment that is not whole is one
one_comment : (text : List ℕ) (place : ℕ) (before others : List Token) (one other : Token) (end stop : ℕ)
    → Reads text place (before ++ one ∷ []) end → Reads text place (others ++ other ∷ []) stop
    → are_whole text before ≡ true → are_whole text others ≡ true → is_whole text one ≡ false → is_whole text other ≡ false
    → one.from ≡ other.from
one_comment text place [] [] one other end stop h k p q a b = elim (cases_order one.from other.from) [
  | inl same ↦ same
  | inr (inl less) ↦ absurd (no_space text one h.1 (k.0.1 one.from h.0.0 less))
  | inr (inr more) ↦ absurd (no_space text other k.1 (h.0.1 other.from k.0.0 more))
]
one_comment text place [] (u ∷ others) one other end stop h k p q a b = elim (cases_order one.from u.from) [
  | inl same ↦
      let equal : one ≡ u = (is_language text).one_token one u h.1 k.1 same in
      absurd (not_both (is_whole text u) (left_true (is_whole text u) (are_whole text others) q)
      (subst (λ (x : Token). is_whole text x ≡ false) equal a))
  | inr (inl less) ↦ absurd (no_space text one h.1 (k.0.1 one.from h.0.0 less))
  | inr (inr more) ↦ absurd (no_space text u k.1 (h.0.1 u.from k.0.0 more))
]
one_comment text place (t ∷ before) [] one other end stop h k p q a b = elim (cases_order t.from other.from) [
  | inl same ↦
      let equal : t ≡ other = (is_language text).one_token t other h.1 k.1 same in
      absurd (not_both (is_whole text t) (left_true (is_whole text t) (are_whole text before) p)
      (subst (λ (x : Token). is_whole text x ≡ false) (sym equal) b))
  | inr (inl less) ↦ absurd (no_space text t h.1 (k.0.1 t.from h.0.0 less))
  | inr (inr more) ↦ absurd (no_space text other k.1 (h.0.1 other.from k.0.0 more))
]
one_comment text place (t ∷ before) (u ∷ others) one other end stop h k p q a b = elim (cases_order t.from u.from) [
  | inl same ↦
      let equal : t ≡ u = (is_language text).one_token t u h.1 k.1 same in
      one_comment text t.to before others one other end stop h.2
      (subst (λ (x : Token). Reads text x.to (others ++ other ∷ []) stop) (sym equal) k.2)
      (right_true (is_whole text t) (are_whole text before) p) (right_true (is_whole text u) (are_whole text others) q) a b
  | inr (inl less) ↦ absurd (no_space text t h.1 (k.0.1 t.from h.0.0 less))
  | inr (inr more) ↦ absurd (no_space text u k.1 (h.0.1 u.from k.0.0 more))
]

pub one_bad_place : ((text : List ℕ) (one other : ℕ) → IsTokenFault text one → IsTokenFault text other → one ≡ other)
    → (text : List ℕ) (one other : ℕ) → IsBadPlace text one → IsBadPlace text other → one ≡ other
one_bad_place one_token text one other (inl p) (inl q) = one_token text one other p.fault q.fault
one_bad_place one_token text one other (inl p) (inr q) =
    absurd (none_broken text 0 one p.fault.before (q.before ++ q.comment ∷ []) q.comment.to p.fault.no_space p.fault.no_token
    p.fault.reads q.reads p.whole (last_broken text q.before q.comment q.broken))
one_bad_place one_token text one other (inr p) (inl q) =
    absurd (none_broken text 0 other q.fault.before (p.before ++ p.comment ∷ []) p.comment.to q.fault.no_space q.fault.no_token
    q.fault.reads p.reads q.whole (last_broken text p.before p.comment p.broken))
one_bad_place one_token text one other (inr p) (inr q) =
    p.from
    ∙ one_comment text 0 p.before q.before p.comment q.comment p.comment.to q.comment.to p.reads q.reads p.whole q.whole
    p.broken q.broken
    ∙ sym q.from
