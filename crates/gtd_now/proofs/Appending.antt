-- What is appended in steps.
use Rattle.std.proofs.Common.{◌≡◌, ◌≢◌, ◌∙◌, refl, ap, arith, ℕ, zero, suc, ◌-◌, List, ◌∷◌, ◌++◌, append_assoc}
use Rattle.std.specs.Prelude.{OnOk, Result, Ok, Err}
use Rattle.gtd_now.specs.Table.{spaces}

-- what holds if it went well
pub on_ok : {T E : Type 0} (r : Result T E) (A B : Type 0) → (A → B) → OnOk r A → OnOk r B
on_ok (Ok x) A B f a = f a
on_ok (Err x) A B f a = tt

-- two lists, one after the other
pub both : {T : Type 0} (new mid old first second : List T) → mid ≡ old ++ first → new ≡ mid ++ second
    → new ≡ old ++ (first ++ second)
both {T} new mid old first second e h = h ∙ ap (λ (l : List T). l ++ second) e ∙ append_assoc old first second

-- and three
pub three : {T : Type 0} (t0 t1 t2 t3 : List T) (a b c : List T) → t1 ≡ t0 ++ a → t2 ≡ t1 ++ b → t3 ≡ t2 ++ c
    → t3 ≡ t0 ++ (a ++ (b ++ c))
three t0 t1 t2 t3 a b c e f h = both t3 t1 t0 a (b ++ c) e (both t3 t2 t1 b c f h)

pub spaces_more : (count : ℕ) → count ≢ 0 → spaces count ≡ 32 ∷ spaces (count - 1)
spaces_more zero h = absurd (h refl)
spaces_more (suc count) h =
    let e : count ≡ (suc count - 1) = omega arith in ap (λ (n : ℕ). 32 ∷ spaces n) e
