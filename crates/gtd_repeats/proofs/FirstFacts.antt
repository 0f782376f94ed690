-- The first row that is like each, row by row.
use Rattle.std.proofs.Common.{◌≡◌, ◌∙◌, sym, ap, refl, subst, arith, ◌<◌, ◌+◌, ℕ, zero, suc}
use Rattle.std.proofs.Common.{List, [], ◌∷◌, ◌++◌, length, get_or}
use Rattle.std.specs.Prelude.{slice_index_or}
use Rattle.std.specs.List.{Contains}
use Rattle.std.specs.Global.{Vec}
use Rattle.gtd_repeats.specs.Buckets.{AreBuckets, IsListed, entries_at}
use Rattle.gtd_repeats.specs.Firsts.{AreFirsts, AreSoFar, IsFirst, IsLikeness, ShareNumbers}
use Rattle.gtd_repeats.specs.declared.buckets.Entry.{Entry}
use Rattle.gtd_repeats.proofs.ListFacts.{all_more, any_default, by_lt}

pub by_three : {P : Type 0} (a b : ℕ) → (a < b → P) → (b < a → P) → (a ≡ b → P) → P
by_three zero zero f g h = h refl
by_three zero (suc b) f g h = f (omega arith)
by_three (suc a) zero f g h = g (omega arith)
by_three (suc a) (suc b) f g h = by_three a b (λ l. f (omega arith)) (λ l. g (omega arith)) (λ e. h (ap suc e))

module _ (Alike : ℕ → ℕ → Type 0) (likeness : IsLikeness Alike) where
  -- like rows have the same first row
  pub same_first : (count : ℕ) (firsts : List ℕ) → AreFirsts Alike count firsts → (j k : ℕ) → j < count → k < count → Alike j k
      → get_or firsts j 0 ≡ get_or firsts k 0
  same_first count firsts are j k jin kin like =
      let a = are.each j jin in
      let b = are.each k kin in
      let m = get_or firsts j 0 in
      let n = get_or firsts k 0 in
      by_three {P = m ≡ n} m n
      (λ lt. absurd (b.least m lt (likeness.transitive m j k a.alike like)))
      (λ gt. absurd (a.least n gt (likeness.transitive n k j b.alike (likeness.symmetric j k like))))
      (λ e. e)

module _ (Alike : ℕ → ℕ → Type 0) (likeness : IsLikeness Alike) (numbers indices firsts : List ℕ) (buckets : List (Vec Entry)) where
  abbrev pub IsFound : ℕ → ℕ → Type 0
  IsFound row first = IsFirst Alike row first × IsListed buckets (get_or indices first 0) (get_or numbers first 0) first

  -- the first row that is like an earlier one is that of a row that is like the earlier one
  pub joined : AreSoFar Alike numbers indices firsts buckets → (row j : ℕ) → row ≡ length firsts → j < length firsts → Alike j row
      → IsFound row (get_or firsts j 0)
  joined so_far row j next early alike =
      let h = so_far.each j early in (
        record {
          not_later = let le = h.not_later in omega (arith, le, next, early);
          alike = likeness.transitive (get_or firsts j 0) j row h.alike alike;
          least = λ k before like. h.least k before (likeness.transitive k row j like (likeness.symmetric j row alike));
        },
        so_far.kept j early,
      )

  -- a row that is like none that its number finds is the first
  pub alone : AreSoFar Alike numbers indices firsts buckets → ShareNumbers Alike numbers → AreBuckets numbers indices
      → (row number bucket : ℕ) (entries : List Entry) → row < length numbers
      → row ≡ length firsts → get_or numbers row 0 ≡ number → get_or indices row 0 ≡ bucket → entries ≡ entries_at buckets bucket
      → ((j : ℕ) → Contains entries (record { number = number; row = j }) → j < length firsts → Alike j row → ⊥)
      → Alike row row → IsFirst Alike row row
  alone so_far shared placed row number bucket entries inside next is at listed none self = record {
    not_later = omega arith;
    alike = self;
    least = λ k before like.
        let early : k < length firsts = omega (arith, next, before) in
        let m = get_or firsts k 0 in
        let h = so_far.each k early in
        let like_row : Alike m row = likeness.transitive m k row h.alike like in
        let same : get_or numbers m 0 ≡ number = shared m row like_row ∙ is in
        let le = h.not_later in
        let there = placed.same m row (omega (arith, le, early, next, inside)) inside (same ∙ sym is) ∙ at in
        let found = subst (λ (p : ℕ). IsListed buckets p number m) there
        (subst (λ (n : ℕ). IsListed buckets (get_or indices m 0) n m) same (so_far.kept k early)) in
        none m (subst (λ (xs : List Entry). Contains xs (record { number = number; row = m })) (sym listed) found)
        (omega (arith, le, early)) like_row;
  }

  -- more buckets keep what was found
  pub later : (more : List (Vec Entry))
      → ((bucket number row : ℕ) → IsListed buckets bucket number row → IsListed more bucket number row)
      → AreSoFar Alike numbers indices firsts buckets → AreSoFar Alike numbers indices firsts more
  later more keeps so_far = record {
    each = so_far.each;
    kept = λ row early. keeps (get_or indices (get_or firsts row 0) 0) (get_or numbers (get_or firsts row 0) 0)
        (get_or firsts row 0) (so_far.kept row early);
  }

  -- with the first row that is like the next
  pub so_far_more : (first row : ℕ) → row ≡ length firsts → IsFound row first → AreSoFar Alike numbers indices firsts buckets
      → AreSoFar Alike numbers indices (firsts ++ first ∷ []) buckets
  so_far_more first row next is so_far =
      let all = all_more IsFound firsts first row next is (λ k early. (so_far.each k early, so_far.kept k early)) in
      record { each = λ k early. (all k early).0; kept = λ k early. (all k early).1 }

-- ---- the entries of a bucket, one after the other

module _ (Alike : ℕ → ℕ → Type 0) (number row few : ℕ) (entries : List Entry) where
  -- none of the first entries, so many, has the number and a row that is alike
  abbrev pub NoneIn : ℕ → Type 0
  NoneIn count = (k j : ℕ) → k < count
      → ◌≡◌ {A = Entry} (slice_index_or entries k (record { number = number; row = j })) (record { number = number; row = j })
      → j < few → Alike j row → ⊥

  pub none_first : NoneIn 0
  none_first k j before is early like = omega (arith, before)

  pub none_more : (i : ℕ) (d : Entry) → i < length entries
      → ((slice_index_or entries i d).number ≡ number → (slice_index_or entries i d).row < few
      → Alike (slice_index_or entries i d).row row → ⊥)
      → NoneIn i → NoneIn (i + 1)
  none_more i d inside here so_far k j before is early like =
      let x : Entry = record { number = number; row = j } in
      by_lt {P = ⊥} k i (λ lt. so_far k j lt is early like) (λ ge.
      let at : k ≡ i = omega (arith, before, ge) in
      let same : slice_index_or entries i d ≡ x =
      any_default entries i d x inside ∙ ap (λ (n : ℕ). slice_index_or entries n x) (sym at) ∙ is in
      let named : (slice_index_or entries i d).number ≡ number = ap (λ (e : Entry). e.number) same in
      let placed : (slice_index_or entries i d).row ≡ j = ap (λ (e : Entry). e.row) same in
      here named (rw placed early) (rw placed like))

  pub none_at_all : NoneIn (length entries) → (j : ℕ) → Contains entries (record { number = number; row = j }) → j < few
      → Alike j row → ⊥
  none_at_all none j h early like = none h.0 j h.1 h.2 early like
