-- Buckets with one entry more.
use Rattle.std.proofs.Common.{◌≡◌, ◌∙◌, sym, ap, refl, subst, arith, cond, ◌<◌, ℕ, zero, suc, Bool, true, false}
use Rattle.std.proofs.Common.{List, [], ◌∷◌, ◌++◌, length, length-append}
use Rattle.std.specs.Prelude.{◌==◌, slice_index_or, slice_set}
use Rattle.std.proofs.lemmas.Bool.{cases_Bool, eqb-true}
use Rattle.std.proofs.lemmas.Bool.Decides.{nat_tests}
use Rattle.std.specs.List.{Contains}
use Rattle.std.specs.Global.{Vec}
use Rattle.gtd_repeats.specs.Buckets.{IsListed, entries_at, with_entry}
use Rattle.gtd_repeats.specs.declared.buckets.Entry.{Entry}
use Rattle.gtd_repeats.proofs.ListFacts.{push_last, push_other}

-- a list with one entry more has it, and those that it had
pub has_last : (xs : List Entry) (x : Entry) → Contains (xs ++ x ∷ []) x
has_last xs x = let l = length-append xs (x ∷ []) in (length xs, omega (arith, l), push_last xs x x)

pub has_still : (xs : List Entry) (x y : Entry) → Contains xs y → Contains (xs ++ x ∷ []) y
has_still xs x y h =
    let l = length-append xs (x ∷ []) in
    (h.0, (let lt = h.1 in omega (arith, l, lt)), push_other xs x y h.0 h.1 ∙ h.2)

-- the entries at a place
pub entries_is : (buckets : List (Vec Entry)) (at : ℕ) (d : Vec Entry) → at < length buckets
    → entries_at buckets at ≡ (slice_index_or buckets at d).items
entries_is [] at d h = absurd (omega (arith, h))
entries_is (v ∷ buckets) zero d h = refl
entries_is (v ∷ buckets) (suc at) d h = entries_is buckets at d (omega (arith, h))

entries_here : (buckets : List (Vec Entry)) (at : ℕ) (v : Vec Entry) → at < length buckets
    → entries_at (slice_set buckets at v) at ≡ v.items
entries_here [] at v h = absurd (omega (arith, h))
entries_here (w ∷ buckets) zero v h = refl
entries_here (w ∷ buckets) (suc at) v h = entries_here buckets at v (omega (arith, h))

entries_other : (buckets : List (Vec Entry)) (at place : ℕ) (v : Vec Entry) → (place ≡ at → ⊥)
    → entries_at (slice_set buckets at v) place ≡ entries_at buckets place
entries_other [] at place v n = refl
entries_other (w ∷ buckets) zero zero v n = absurd (n refl)
entries_other (w ∷ buckets) zero (suc place) v n = refl
entries_other (w ∷ buckets) (suc at) zero v n = refl
entries_other (w ∷ buckets) (suc at) (suc place) v n = entries_other buckets at place v (λ e. n (ap suc e))

-- buckets without entries, and one bucket more
pub none_more : (buckets : List (Vec Entry)) (v : Vec Entry) → ((place : ℕ) → entries_at buckets place ≡ []) → v.items ≡ []
    → (place : ℕ) → entries_at (buckets ++ v ∷ []) place ≡ []
none_more [] v none e zero = e
none_more [] v none e (suc place) = refl
none_more (w ∷ buckets) v none e zero = none 0
none_more (w ∷ buckets) v none e (suc place) = none_more buckets v (λ k. none (suc k)) e place

same_place : (a b : ℕ) → a ≡ b → (a == b) ≡ true
same_place a b e = grind (arith, nat_tests)

chosen : (b : Bool) (x y z : List Entry) → (b ≡ true → z ≡ x) → (b ≡ false → z ≡ y) → z ≡ cond b x y
chosen true x y z f g = f refl
chosen false x y z f g = g refl

-- the entries at each place, once there is one entry more
pub now_entries : (buckets : List (Vec Entry)) (at : ℕ) (before after : Vec Entry) (entry : Entry) → at < length buckets
    → before ≡ slice_index_or buckets at before → after.items ≡ before.items ++ entry ∷ []
    → (other : ℕ) → entries_at (slice_set buckets at after) other ≡ with_entry at entry other (entries_at buckets other)
now_entries buckets at before after entry inside here grown other =
    let old : before.items ≡ entries_at buckets at =
    ap (λ (w : Vec Entry). w.items) here ∙ sym (entries_is buckets at before inside) in
    chosen (other == at) (entries_at buckets other ++ entry ∷ []) (entries_at buckets other)
    (entries_at (slice_set buckets at after) other)
    (λ p.
    let e : other ≡ at = eqb-true other at p in
    ap (entries_at (slice_set buckets at after)) e ∙ entries_here buckets at after inside ∙ grown
    ∙ ap (λ (l : List Entry). l ++ entry ∷ []) (old ∙ ap (entries_at buckets) (sym e)))
    (λ q. entries_other buckets at other after (λ e.
    let t = same_place other at e in
    let no : true ≡ false = sym t ∙ q in absurd cc))

-- what is listed in buckets, once there is one entry more
module _ (old new : List (Vec Entry)) (at : ℕ) (entry : Entry)
    (added : (other : ℕ) → entries_at new other ≡ with_entry at entry other (entries_at old other)) where
  here : (b : Bool) (xs : List Entry) → b ≡ true → Contains (cond b (xs ++ entry ∷ []) xs) entry
  here true xs e = has_last xs entry
  here false xs e = let no : false ≡ true = e in absurd cc

  still : (b : Bool) (xs : List Entry) (x : Entry) → Contains xs x → Contains (cond b (xs ++ entry ∷ []) xs) x
  still true xs x h = has_still xs entry x h
  still false xs x h = h

  pub now_listed : (number row : ℕ) → entry ≡ record { number = number; row = row } → IsListed new at number row
  now_listed number row e =
      let x : Entry = record { number = number; row = row } in
      rw (added at) (subst (λ (y : Entry). Contains (with_entry at entry at (entries_at old at)) y) e
      (here (at == at) (entries_at old at) (same_place at at refl)))

  pub still_listed : (place number row : ℕ) → IsListed old place number row → IsListed new place number row
  still_listed place number row h =
      rw (added place) (still (place == at) (entries_at old place) (record { number = number; row = row }) h)
