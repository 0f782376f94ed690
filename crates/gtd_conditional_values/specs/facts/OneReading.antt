-- A value has its parts in one way: a part ends before the first `;` at which nothing is open.
use Rattle.std.proofs.Common.{◌≡◌, ◌∙◌, sym, ap, subst, refl, arith, ◌+◌, ℕ, Bool, true, false, List, [], ◌∷◌, ◌++◌, length}
use Rattle.std.proofs.Common.{length-append, take, drop}
use Rattle.std.specs.Prelude.{if◌then◌else◌, Option, Some, None, option_map}
use Rattle.std.proofs.Math.Seq.{take-append_seam, drop-append_seam}
use Rattle.gtd_conditional_values.specs.Nesting.{is_free, is_too_many, nested, quoted, unnested}
use Rattle.gtd_conditional_values.specs.Parts.{AreParts, IsPart, is_separator, part_length}
use Rattle.gtd_conditional_values.specs.facts.FirstByte.{nests_here, nests_on, parts_here, parts_on}

-- nothing is open at the end of a text that fits
free_of : (free : Bool) → if◌then◌else◌ {A = Option ℕ} free None (Some 0) ≡ None → free ≡ true
free_of true e = refl
free_of false e = cc

none_of : (x : Option ℕ) → option_map (λ k. k + 1) x ≡ None → x ≡ None
none_of None e = refl
none_of (Some k) e = cc

ends : (comment : Bool) (depth : ℕ) (rest : List ℕ) → is_free comment depth ≡ true
    → part_length comment depth (59 ∷ rest) ≡ 0
ends comment depth rest free = parts_here comment depth 59 rest (rw free refl)

-- what stands behind a part and its `;` does not change where the part ends
step : (comment : Bool) (depth byte : ℕ) (part rest : List ℕ) (many separates : Bool) → is_too_many comment depth byte ≡ many
    → is_separator comment depth byte ≡ separates
    → (unnested (quoted comment byte) (nested comment depth byte) part ≡ None
    → part_length (quoted comment byte) (nested comment depth byte) part ≡ length part
    → part_length (quoted comment byte) (nested comment depth byte) (part ++ 59 ∷ rest) ≡ length part)
    → unnested comment depth (byte ∷ part) ≡ None → part_length comment depth (byte ∷ part) ≡ length (byte ∷ part)
    → part_length comment depth (byte ∷ (part ++ 59 ∷ rest)) ≡ length (byte ∷ part)
step comment depth byte part rest true separates m s ih nests whole =
    let e = sym (nests_here comment depth byte part m) ∙ nests in cc
step comment depth byte part rest false true m s ih nests whole =
    let e = sym (parts_here comment depth byte part s) ∙ whole in absurd (omega (arith, e))
step comment depth byte part rest false false m s ih nests whole =
    let n = none_of (unnested (quoted comment byte) (nested comment depth byte) part)
    (sym (nests_on comment depth byte part m) ∙ nests) in
    let e = sym (parts_on comment depth byte part s) ∙ whole in
    let w : part_length (quoted comment byte) (nested comment depth byte) part ≡ length part = omega (arith, e) in
    let more = ih n w in
    let here = parts_on comment depth byte (part ++ 59 ∷ rest) s in
    omega (arith, more, here)

part_ends : (comment : Bool) (depth : ℕ) (part rest : List ℕ) → unnested comment depth part ≡ None
    → part_length comment depth part ≡ length part → part_length comment depth (part ++ 59 ∷ rest) ≡ length part
part_ends comment depth [] rest nests whole = ends comment depth rest (free_of (is_free comment depth) nests)
part_ends comment depth (byte ∷ part) rest nests whole =
    step comment depth byte part rest (is_too_many comment depth byte) (is_separator comment depth byte) refl refl
    (part_ends (quoted comment byte) (nested comment depth byte) part rest) nests whole

-- the length of the first part of a value
first_length : (value part rest : List ℕ) → IsPart part → value ≡ part ++ 59 ∷ rest → part_length false 0 value ≡ length part
first_length value part rest is e = ap (part_length false 0) e ∙ part_ends false 0 part rest is.nests is.whole

-- a value of one part is none of more
never : (value part other rest : List ℕ) → IsPart part → value ≡ part → IsPart other → value ≡ other ++ 59 ∷ rest → ⊥
never value part other rest one e more f =
    let n = sym (first_length value other rest more f) ∙ ap (part_length false 0) e ∙ one.whole in
    let long = ap length (sym e ∙ f) ∙ length-append other (59 ∷ rest) in
    omega (arith, n, long)

-- two cuts after the first part are the same
same_part : (value part other rest more : List ℕ) → IsPart part → value ≡ part ++ 59 ∷ rest → IsPart other
    → value ≡ other ++ 59 ∷ more → (part ≡ other) × (rest ≡ more)
same_part value part other rest more one e two f =
    let n : length part ≡ length other = sym (first_length value part rest one e) ∙ first_length value other more two f in
    let p : part ≡ take (length part) value =
    sym (take-append_seam part (59 ∷ rest)) ∙ ap (take (length part)) (sym e) in
    let q : other ≡ take (length other) value =
    sym (take-append_seam other (59 ∷ more)) ∙ ap (take (length other)) (sym f) in
    let r : 59 ∷ rest ≡ drop (length part) value =
    sym (drop-append_seam part (59 ∷ rest)) ∙ ap (drop (length part)) (sym e) in
    let s : 59 ∷ more ≡ drop (length other) value =
    sym (drop-append_seam other (59 ∷ more)) ∙ ap (drop (length other)) (sym f) in
    let here : part ≡ other = p ∙ ap (λ (k : ℕ). take k value) n ∙ sym q in
    let behind : 59 ∷ rest ≡ 59 ∷ more = r ∙ ap (λ (k : ℕ). drop k value) n ∙ sym s in
    (here, cc)

pub one_cut : (value : List ℕ) (parts others : List (List ℕ)) → AreParts value parts → AreParts value others → parts ≡ others
one_cut value [] others a b = absurd a
one_cut value (p ∷ []) [] a b = absurd b
one_cut value (p ∷ []) (q ∷ []) a b = ap (λ (x : List ℕ). x ∷ []) (sym a.1 ∙ b.1)
one_cut value (p ∷ []) (q ∷ q2 ∷ qs) a b = absurd (never value p q b.0 a.0 a.1 b.1 b.2)
one_cut value (p ∷ p2 ∷ ps) [] a b = absurd b
one_cut value (p ∷ p2 ∷ ps) (q ∷ []) a b = absurd (never value q p a.0 b.0 b.1 a.1 a.2)
one_cut value (p ∷ p2 ∷ ps) (q ∷ q2 ∷ qs) a b =
    let same = same_part value p q a.0 b.0 a.1 a.2 b.1 b.2 in
    let rest = one_cut a.0 (p2 ∷ ps) (q2 ∷ qs) a.3 (subst (λ (r : List ℕ). AreParts r (q2 ∷ qs)) (sym same.1) b.3) in
    ap (λ (x : List ℕ). x ∷ p2 ∷ ps) same.0 ∙ ap (λ (xs : List (List ℕ)). q ∷ xs) rest
