-- A text of forms, one form after another.
use Rattle.std.proofs.Common.{◌≡◌, ℕ, ◌+◌, List, [], ◌∷◌, ◌++◌, length, refl}
use Rattle.std.proofs.Common.{sym, ap, subst}
use Rattle.std.proofs.Common.{◌∙◌, arith, append_assoc, length-append}
use Rattle.std.proofs.lemmas.List.{append-nil}
use Rattle.gtd_hours_moments.specs.declared.placed.Placed.{Placed}
use Rattle.gtd_hours_moments.specs.declared.placed.PlacedText.{PlacedText}
use Rattle.gtd_hours_moments.specs.Places.{Holds, Put, places_from, text_of}

text_more : (ps : List Put) (p : Put) → text_of (ps ++ p ∷ []) ≡ text_of ps ++ (p.form ++ 32 ∷ [])
text_more [] p = refl
text_more (x ∷ ps) p =
    ap (λ (l : List ℕ). x.form ++ 32 ∷ l) (text_more ps p) ∙ sym (append_assoc x.form (32 ∷ text_of ps) (p.form ++ 32 ∷ []))

abbrev pub placed_at : ℕ → Put → Placed
placed_at place p = record { from = p.from; start = place }

places_more : (place : ℕ) (ps : List Put) (p : Put)
    → places_from place (ps ++ p ∷ []) ≡ places_from place ps ++ placed_at (place + length (text_of ps)) p ∷ []
places_more place [] p = let e : place ≡ place + 0 = omega arith in ap (λ (n : ℕ). placed_at n p ∷ []) e
places_more place (x ∷ ps) p =
    let e : place + length x.form + 1 + length (text_of ps) ≡ place + length (x.form ++ 32 ∷ text_of ps) =
    omega (arith, length-append x.form (32 ∷ text_of ps)) in
    ap (λ (l : List Placed). placed_at place x ∷ l) (places_more (place + length x.form + 1) ps p)
    ∙ ap (λ (n : ℕ). placed_at place x ∷ (places_from (place + length x.form + 1) ps ++ placed_at n p ∷ [])) e

-- a form is put behind the others
pub holds_more : (old new : PlacedText) (ps : List Put) (p : Put) → Holds old ps
    → new.text.items ≡ old.text.items ++ (p.form ++ 32 ∷ [])
    → new.places.items ≡ old.places.items ++ placed_at (length old.text.items) p ∷ [] → Holds new (ps ++ p ∷ [])
holds_more old new ps p h t e = record {
  text = t ∙ ap (λ (l : List ℕ). l ++ (p.form ++ 32 ∷ [])) h.text ∙ sym (text_more ps p);
  places =
      let n : length old.text.items ≡ 0 + length (text_of ps) = ap length h.text ∙ omega arith in
      e ∙ ap (λ (l : List Placed). l ++ placed_at (length old.text.items) p ∷ []) h.places
      ∙ ap (λ (n : ℕ). places_from 0 ps ++ placed_at n p ∷ []) n
      ∙ sym (places_more 0 ps p);
}

-- and so it is where the text had the form, and then a space
pub form_ended : (old new : PlacedText) (ps : List Put) (p : Put) (text : List ℕ) (start : ℕ) → Holds old ps
    → text ≡ old.text.items ++ p.form → start ≡ length old.text.items → new.text.items ≡ text ++ 32 ∷ []
    → new.places.items ≡ old.places.items ++ placed_at start p ∷ [] → Holds new (ps ++ p ∷ [])
form_ended old new ps p text start h form begins space place =
    holds_more old new ps p h
    (space ∙ ap (λ (l : List ℕ). l ++ 32 ∷ []) form ∙ append_assoc old.text.items p.form (32 ∷ []))
    (place ∙ ap (λ (n : ℕ). old.places.items ++ placed_at n p ∷ []) begins)

-- nothing is put behind them
pub holds_same : (placed : PlacedText) (ps : List Put) → Holds placed ps → Holds placed (ps ++ [])
holds_same placed ps h = subst (Holds placed) (sym (append-nil ps)) h

-- ---- from left to right

-- The text holds what comes before the rest of all.
abbrev pub HoldsUpTo : PlacedText → List Put → List Put → Type 0
HoldsUpTo placed rest all = (done : List Put) × Holds placed done × (done ++ rest ≡ all)

pub held_more : (old new : PlacedText) (ps rest all : List Put) → HoldsUpTo old (ps ++ rest) all
    → ((done : List Put) → Holds old done → Holds new (done ++ ps)) → HoldsUpTo new rest all
held_more old new ps rest all h push = (h.0 ++ ps, push h.0 h.1, append_assoc h.0 ps rest ∙ h.2)

pub held_all : (placed : PlacedText) (rest all : List Put) → rest ≡ [] → HoldsUpTo placed rest all → Holds placed all
held_all placed rest all none h =
    subst (Holds placed) (sym (append-nil h.0) ∙ ap (λ (l : List Put). h.0 ++ l) (sym none) ∙ h.2) h.1
