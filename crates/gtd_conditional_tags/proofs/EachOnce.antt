-- Numbers, each once, when one more comes.
use Rattle.std.proofs.Common.{◌≡◌, ◌∙◌, sym, ap, refl, arith, ◌<◌, ◌⊎◌, inl, inr, ℕ, Bool, true, false, ◌||◌, not}
use Rattle.std.proofs.Common.{List, [], ◌∷◌, ◌++◌, length, get_or, zero, suc, eq-eqb}
use Rattle.std.specs.Prelude.{◌==◌, filter}
use Rattle.std.specs.List.{list_any}
use Rattle.std.proofs.lemmas.Bool.{cases_eq, cases_Bool, eqb-false, ne_eqb, or_from, or_left, or_parts, or_right}
use Rattle.std.proofs.lemmas.List.{append-nil}
use Rattle.std.proofs.lemmas.List.Elements.{filter-append}
use Rattle.gtd_conditional_tags.specs.Groups.{each_once}

-- a number is among others
abbrev pub is_among : ℕ → List ℕ → Bool
is_among e xs = list_any (λ y. y == e) xs

-- the others of a list
abbrev without : ℕ → List ℕ → List ℕ
without x xs = filter (λ y. not (y == x)) xs

pub found_among : (xs : List ℕ) (p e : ℕ) → p < length xs → get_or xs p 0 ≡ e → is_among e xs ≡ true
found_among [] p e less is = absurd (omega arith)
found_among (x ∷ xs) zero e less is = or_left (x == e) (is_among e xs) (eq-eqb x e is)
found_among (x ∷ xs) (suc p) e less is = or_right (x == e) (is_among e xs) (found_among xs p e (omega arith) is)

pub none_among : (xs : List ℕ) (e : ℕ) → ((k : ℕ) → k < length xs → get_or xs k 0 ≡ e → ⊥) → is_among e xs ≡ false
none_among [] e none = refl
none_among (x ∷ xs) e none =
    or_from (x == e) (is_among e xs) (ne_eqb x e (λ (i : x ≡ e). none 0 (omega arith) i))
    (none_among xs e (λ (k : ℕ) (less : k < length xs) (i : get_or xs k 0 ≡ e). none (suc k) (omega arith) i))

-- leaving out another number changes nothing
other_step : (x e y : ℕ) (ys : List ℕ) → (x ≡ e → ⊥) → is_among e (without x ys) ≡ is_among e ys
    → (y ≡ x) ⊎ (y ≡ x → ⊥) → is_among e (without x (y ∷ ys)) ≡ is_among e (y ∷ ys)
other_step x e y ys apart rest (inl same) =
    let no : (y == e) ≡ false = ne_eqb y e (λ (i : y ≡ e). apart (sym same ∙ i)) in
    rw (eq-eqb y x same, no) rest
other_step x e y ys apart rest (inr other) = rw (ne_eqb y x other) (ap (λ (b : Bool). (y == e) || b) rest)

pub among_others : (x e : ℕ) (ys : List ℕ) → (x ≡ e → ⊥) → is_among e (without x ys) ≡ is_among e ys
among_others x e [] apart = refl
among_others x e (y ∷ ys) apart = other_step x e y ys apart (among_others x e ys apart) (cases_eq y x)

-- what is among the numbers is among them once
once_step : (x e : ℕ) (xs : List ℕ) → is_among e (each_once xs) ≡ is_among e xs → (x ≡ e) ⊎ (x ≡ e → ⊥)
    → is_among e (each_once (x ∷ xs)) ≡ is_among e (x ∷ xs)
once_step x e xs rest (inl same) =
    or_left (x == e) (is_among e (without x (each_once xs))) (eq-eqb x e same)
    ∙ sym (or_left (x == e) (is_among e xs) (eq-eqb x e same))
once_step x e xs rest (inr other) =
    ap (λ (b : Bool). (x == e) || b) (among_others x e (each_once xs) other ∙ rest)

pub among_once : (e : ℕ) (xs : List ℕ) → is_among e (each_once xs) ≡ is_among e xs
among_once e [] = refl
among_once e (x ∷ xs) = once_step x e xs (among_once e xs) (cases_eq x e)

-- one that is not among them comes last
pub once_more : (xs : List ℕ) (e : ℕ) → is_among e (each_once xs) ≡ false → each_once (xs ++ e ∷ []) ≡ each_once xs ++ e ∷ []
once_more [] e none = refl
once_more (x ∷ xs) e none =
    let parts = or_parts (x == e) (is_among e (without x (each_once xs))) none in
    let apart : x ≡ e → ⊥ = eqb-false x e parts.0 in
    let rest : is_among e (each_once xs) ≡ false = sym (among_others x e (each_once xs) apart) ∙ parts.1 in
    let kept : without x (e ∷ []) ≡ e ∷ [] = rw (ne_eqb e x (λ (i : e ≡ x). apart (sym i))) refl in
    ap (λ (l : List ℕ). x ∷ without x l) (once_more xs e rest)
    ∙ ap (λ (l : List ℕ). x ∷ l) (
    filter-append (λ (y : ℕ). not (y == x)) (each_once xs) (e ∷ [])
    ∙ ap (λ (l : List ℕ). without x (each_once xs) ++ l) kept
    )

-- and one that is changes nothing
left_out : (x e : ℕ) (xs : List ℕ) → x ≡ e → (is_among e (each_once xs) ≡ true → each_once (xs ++ e ∷ []) ≡ each_once xs)
    → (is_among e (each_once xs) ≡ true) ⊎ (is_among e (each_once xs) ≡ false)
    → without x (each_once (xs ++ e ∷ [])) ≡ without x (each_once xs)
left_out x e xs same again (inl some) = ap (without x) (again some)
left_out x e xs same again (inr none) =
    let gone : without x (e ∷ []) ≡ [] = rw (eq-eqb e x (sym same)) refl in
    ap (without x) (once_more xs e none) ∙ filter-append (λ (y : ℕ). not (y == x)) (each_once xs) (e ∷ [])
    ∙ ap (λ (l : List ℕ). without x (each_once xs) ++ l) gone ∙ append-nil (without x (each_once xs))

same_step : (x e : ℕ) (xs : List ℕ) → (is_among e (each_once xs) ≡ true → each_once (xs ++ e ∷ []) ≡ each_once xs)
    → is_among e (each_once (x ∷ xs)) ≡ true → (x ≡ e) ⊎ (x ≡ e → ⊥)
    → each_once ((x ∷ xs) ++ e ∷ []) ≡ each_once (x ∷ xs)
same_step x e xs again some (inl same) =
    ap (λ (l : List ℕ). x ∷ l) (left_out x e xs same again (cases_Bool (is_among e (each_once xs))))
same_step x e xs again some (inr other) =
    let here : (x == e) ≡ false = ne_eqb x e other in
    let rest : is_among e (without x (each_once xs)) ≡ true = rw here at some in
    ap (λ (l : List ℕ). x ∷ without x l) (again (sym (among_others x e (each_once xs) other) ∙ rest))

pub once_same : (xs : List ℕ) (e : ℕ) → is_among e (each_once xs) ≡ true → each_once (xs ++ e ∷ []) ≡ each_once xs
once_same [] e some = cc
once_same (x ∷ xs) e some = same_step x e xs (once_same xs e) some (cases_eq x e)
