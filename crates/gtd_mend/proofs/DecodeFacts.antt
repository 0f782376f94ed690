-- Steps of the loop over the bytes of UTF-16.
use Rattle.std.proofs.Common.{◌≡◌, ◌∙◌, ap, refl, sym, arith, ℕ, ◌+◌, ◌<◌, ◌≤◌, Bool, List, [], ◌∷◌, ◌++◌}
use Rattle.std.proofs.Common.{drop, get_or, length, append_assoc, Option, Some, None}
use Rattle.std.specs.Prelude.{option_map}
use Rattle.std.proofs.lemmas.List.{append-nil, drop_all, drop_more}
use Rattle.gtd_mend.specs.Decoding.{unit_of, units_of}

mapped : (units : List ℕ) (unit : ℕ) (o : Option (List ℕ))
    → option_map (λ (more : List ℕ). units ++ more) (option_map (λ (more : List ℕ). unit ∷ more) o)
    ≡ option_map (λ (more : List ℕ). (units ++ unit ∷ []) ++ more) o
mapped units unit None = refl
mapped units unit (Some more) = ap Some (sym (append_assoc units (unit ∷ []) more))

pub unit_more : (first : Bool) (units bytes : List ℕ) (at : ℕ) → at + 1 < length bytes
    → option_map (λ (more : List ℕ). units ++ more) (units_of first (drop at bytes)) ≡ units_of first bytes
    → option_map (λ (more : List ℕ). (units ++ unit_of first (get_or bytes at 0) (get_or bytes (at + 1) 0) ∷ []) ++ more)
    (units_of first (drop (at + 2) bytes)) ≡ units_of first bytes
unit_more first units bytes at lt so_far =
    let next : at + 1 + 1 ≡ at + 2 = omega arith in
    let a = drop_more bytes at 0 (omega arith) in
    let b = drop_more bytes (at + 1) 0 (omega arith) in
    let both : drop at bytes ≡ get_or bytes at 0 ∷ get_or bytes (at + 1) 0 ∷ drop (at + 2) bytes =
    a ∙ ap (λ (l : List ℕ). get_or bytes at 0 ∷ l) (b ∙ ap (λ (k : ℕ). get_or bytes (at + 1) 0 ∷ drop k bytes) next) in
    sym (mapped units (unit_of first (get_or bytes at 0) (get_or bytes (at + 1) 0)) (units_of first (drop (at + 2) bytes)))
    ∙ (rw both at so_far)

pub units_end : (first : Bool) (units bytes : List ℕ) (at : ℕ) → length bytes ≤ at
    → option_map (λ (more : List ℕ). units ++ more) (units_of first (drop at bytes)) ≡ units_of first bytes
    → ◌≡◌ {A = Option (List ℕ)} (Some units) (units_of first bytes)
units_end first units bytes at le so_far =
    ap Some (sym (append-nil units)) ∙ rw (drop_all at bytes le) at so_far

pub unit_left : (first : Bool) (units bytes : List ℕ) (at : ℕ) → at + 1 ≡ length bytes
    → option_map (λ (more : List ℕ). units ++ more) (units_of first (drop at bytes)) ≡ units_of first bytes
    → ◌≡◌ {A = Option (List ℕ)} None (units_of first bytes)
unit_left first units bytes at last so_far =
    let a = drop_more bytes at 0 (omega (arith, last)) in
    let none = drop_all (at + 1) bytes (omega (arith, last)) in
    rw (a, none) at so_far
