-- What is gathered, as the output before another hands it on and gathers more.
use Rattle.std.proofs.Common.{◌≡◌, ◌∙◌, refl, sym, ap, arith, ℕ, ◌+◌, ◌-◌, ◌≤◌, List, [], ◌++◌, Option, length, take, drop}
use Rattle.std.proofs.Common.{take-append-drop, drop-drop, length-take, length-drop, length-append, append_assoc, append-nil, None, Some}
use Rattle.std.proofs.lemmas.List.{drop-append-le, drop-take, take_at}
use Rattle.std.proofs.KnownBytes.{append_known-moved, append_known-grown, Keeps-refl}
use Rattle.std.specs.Io.KnownBytes.{Appends, Keeps, append_known}
use Rattle.gtd_gathered.specs.Gathering.{between}

-- ---- handed on

-- the first bytes of a part of a buffer, and the rest of it
parted : (from until n k : ℕ) (bytes : List ℕ) → k + n ≡ until - from
    → between from until bytes ≡ take n (between from until bytes) ++ between (from + n) until bytes
parted from until n k bytes is =
    let all = between from until bytes in
    let left : until - (from + n) ≡ k = omega (arith, is) in
    let whole : n + k ≡ until - from = omega (arith, is) in
    let rest : drop n all ≡ between (from + n) until bytes =
    ap (λ (m : ℕ). drop n (take m (drop from bytes))) (sym whole) ∙ drop-take n k (drop from bytes)
    ∙ ap (take k) (drop-drop n from bytes) ∙ ap (λ (m : ℕ). take m (drop (from + n) bytes)) (sym left) in
    sym (take-append-drop n all) ∙ ap (λ (l : List ℕ). take n all ++ l) rest

-- what the other output took is the front of what was gathered
pub handed_on : (a b : Option (List ℕ)) (from until n : ℕ) (bytes : List ℕ) → n ≤ until - from
    → Appends a b (take n (between from until bytes))
    → Keeps (append_known a (between from until bytes)) (append_known b (between (from + n) until bytes))
handed_on a b from until n bytes few took =
    append_known-moved a b (take n (between from until bytes)) (between (from + n) until bytes) (between from until bytes) took
    (parted from until n (until - from - n) bytes (omega (arith, few)))

-- ---- gathered

-- bytes that were copied to the end of a part belong to it
pub grown : (from until n k : ℕ) (old new bytes rest : List ℕ) → from + k ≡ until → until ≤ length old → length bytes ≡ n
    → new ≡ take until old ++ (bytes ++ rest) → between from (until + n) new ≡ between from until old ++ bytes
grown from until n k old new bytes rest is room long e =
    let kept : drop from (take until old) ≡ take k (drop from old) =
    ap (λ (m : ℕ). drop from (take m old)) (sym is) ∙ drop-take from k old in
    let front : length (take until old) ≡ until = simp length-take (omega (arith, room)) in
    let all : drop from new ≡ take k (drop from old) ++ (bytes ++ rest) =
    ap (drop from) e ∙ drop-append-le from (take until old) (bytes ++ rest) (omega (arith, front, is))
    ∙ ap (λ (l : List ℕ). l ++ (bytes ++ rest)) kept in
    let before : until - from ≡ k = omega (arith, is) in
    let after : until + n - from ≡ k + n = omega (arith, is) in
    let count : length (take k (drop from old)) ≡ k = simp (length-take, length-drop) (omega (arith, room, is)) in
    let both : length (take k (drop from old) ++ bytes) ≡ k + n = simp length-append (omega (arith, count, long)) in
    rw (before, after, all, ← append_assoc (take k (drop from old)) bytes rest)
    (take_at (take k (drop from old) ++ bytes) rest (k + n) both)

-- what is gathered was taken
pub gathered : (a : Option (List ℕ)) (old new bytes : List ℕ) → new ≡ old ++ bytes
    → Appends (append_known a old) (append_known a new) bytes
gathered a old new bytes e = append_known-grown (append_known a old) a old new bytes (Keeps-refl (append_known a old)) e

-- where nothing is gathered, the other output took all
pub none_gathered : (a : Option (List ℕ)) → append_known a [] ≡ a
none_gathered None = refl
none_gathered (Some x) = ap (λ (l : List ℕ). Some l) (append-nil x)
