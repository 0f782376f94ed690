-- Steps of the loops over the bytes of a field.
use Rattle.std.proofs.Common.{◌≡◌, ◌∙◌, ap, refl, sym, arith, ℕ, ◌+◌, ◌<◌, ◌≤◌, true, false, List, [], ◌∷◌, ◌++◌}
use Rattle.std.proofs.Common.{drop, get_or, length, append_assoc}
use Rattle.std.proofs.lemmas.List.{append-nil, drop_all, drop_more, get_or-drop, length-drop}
use Rattle.gtd_mend.specs.Fields.{is_dash, or_else, with_hyphens}

-- a field of which nothing is left
pub kept : (rest field : List ℕ) → length rest ≡ 0 → field ≡ or_else rest field
kept [] field e = refl
kept (byte ∷ rest) field e = absurd (omega (arith, e))

-- a field of which something is left
pub cut : (rest field : List ℕ) → (length rest ≡ 0 → ⊥) → rest ≡ or_else rest field
cut [] field n = absurd (n refl)
cut (byte ∷ rest) field n = refl

-- three bytes that are a dash
dash_here : (a b c : ℕ) (rest : List ℕ) → is_dash a b c ≡ true → with_hyphens (a ∷ b ∷ c ∷ rest) ≡ 45 ∷ with_hyphens rest
unfolding with_hyphens
dash_here a b c rest is = rw is refl

pub dash : (text field : List ℕ) (at : ℕ) → at + 2 < length field
    → is_dash (get_or field at 0) (get_or field (at + 1) 0) (get_or field (at + 2) 0) ≡ true
    → text ++ with_hyphens (drop at field) ≡ with_hyphens field
    → (text ++ 45 ∷ []) ++ with_hyphens (drop (at + 3) field) ≡ with_hyphens field
dash text field at lt is so_far =
    let one : at + 1 + 1 ≡ at + 2 = omega arith in
    let two : at + 2 + 1 ≡ at + 3 = omega arith in
    let a = drop_more field at 0 (omega arith) in
    let b = drop_more field (at + 1) 0 (omega arith) in
    let c = drop_more field (at + 2) 0 (omega arith) in
    let all : drop at field ≡ get_or field at 0 ∷ get_or field (at + 1) 0 ∷ get_or field (at + 2) 0 ∷ drop (at + 3) field =
    a ∙ ap (λ (l : List ℕ). get_or field at 0 ∷ l) (b ∙ ap (λ (l : List ℕ). get_or field (at + 1) 0 ∷ l)
    (ap (λ (k : ℕ). drop k field) one ∙ c
    ∙ ap (λ (l : List ℕ). get_or field (at + 2) 0 ∷ l) (ap (λ (k : ℕ). drop k field) two))) in
    append_assoc text (45 ∷ []) (with_hyphens (drop (at + 3) field))
    ∙ ap (λ (l : List ℕ). text ++ l)
    (sym (ap with_hyphens all ∙ dash_here (get_or field at 0) (get_or field (at + 1) 0) (get_or field (at + 2) 0)
    (drop (at + 3) field) is))
    ∙ so_far

-- a byte that begins no dash
other_here : (a : ℕ) (rest : List ℕ) → (1 < length rest → is_dash a (get_or rest 0 0) (get_or rest 1 0) ≡ false)
    → with_hyphens (a ∷ rest) ≡ a ∷ with_hyphens rest
unfolding with_hyphens
other_here a [] un = refl
other_here a (b ∷ []) un = refl
other_here a (b ∷ c ∷ rest) un = rw (un (omega arith)) refl

pub other : (text field : List ℕ) (at : ℕ) → at < length field
    → (at + 2 < length field → is_dash (get_or field at 0) (get_or field (at + 1) 0) (get_or field (at + 2) 0) ≡ false)
    → text ++ with_hyphens (drop at field) ≡ with_hyphens field
    → (text ++ get_or field at 0 ∷ []) ++ with_hyphens (drop (at + 1) field) ≡ with_hyphens field
other text field at lt un so_far =
    let rest = drop (at + 1) field in
    let here = drop_more field at 0 lt in
    let size = length-drop (at + 1) field in
    let b : get_or rest 0 0 ≡ get_or field (at + 1) 0 =
    get_or-drop (at + 1) field 0 0 ∙ ap (λ (k : ℕ). get_or field k 0) (omega arith) in
    let c : get_or rest 1 0 ≡ get_or field (at + 2) 0 =
    get_or-drop (at + 1) field 1 0 ∙ ap (λ (k : ℕ). get_or field k 0) (omega arith) in
    append_assoc text (get_or field at 0 ∷ []) (with_hyphens rest)
    ∙ ap (λ (l : List ℕ). text ++ l)
    (sym (ap with_hyphens here ∙ other_here (get_or field at 0) rest
    (λ more. rw (b, c) (un (omega (arith, more, size))))))
    ∙ so_far

pub hyphens_end : (text field : List ℕ) (at : ℕ) → length field ≤ at
    → text ++ with_hyphens (drop at field) ≡ with_hyphens field → text ≡ with_hyphens field
unfolding with_hyphens
hyphens_end text field at le so_far = sym (append-nil text) ∙ rw (drop_all at field le) at so_far
