-- A stable sort by modes leaves what the tags of each key say.
use Rattle.std.proofs.Common.{◌≡◌, ◌∙◌, ap, refl, sym, subst, ℕ, ◌<◌, ◌⊎◌, inl, inr, Bool, true, false, not, ◌&&◌, ◌==◌}
use Rattle.std.proofs.Common.{List, [], ◌∷◌, ◌++◌, length, if◌then◌else◌, arith, Option, Some, None, Bor, zero, suc}
use Rattle.std.specs.Fn.{Called, ComputesKey, Mut}
use Rattle.std.specs.List.{Contains, filter}
use Rattle.std.specs.Prelude.{slice_index_or}
use Rattle.std.proofs.lemmas.List.Sorted.{Contains-permutation, IsPermutation-sym}
use Rattle.std.specs.List.Sorted.{IsPermutation, IsStableByKey, ties}
use Rattle.std.specs.Ordering.{is_lt, nat_cmp}
use Rattle.std.proofs.lemmas.Bool.{cases_Bool}
use Rattle.std.proofs.lemmas.Bool.Decides.{nat_tests}
use Rattle.std.proofs.lemmas.Fn.{always_returns_same}
use Rattle.gtd_conditional_means.specs.declared.meaning.MeansRow.{MeansRow}
use Rattle.gtd_conditional_parts.specs.declared.said.Subject.{Subject}
use Rattle.gtd_conditional_steps.specs.Hours.{NeedTooMany, PartsNeedTooMany}
use Rattle.gtd_conditional_steps.specs.Modes.{KeysSayTheSame}
use Rattle.gtd_conditional_steps.specs.Sayings.{Saying, is_of_key, mode_types, said_before, said_by, said_by_types}
use Rattle.gtd_conditional_steps.specs.Sayings.{said_by_key, said_by_parts}
use Rattle.gtd_rows.specs.declared.direction.Direction.{Direction}
use Rattle.gtd_conditional_steps.specs.declared.tag.Tag.{Tag}
use Rattle.gtd_rows.specs.declared.vehicles.Vehicles.{Vehicles}

-- a tag whose mode is neither before another nor after it has that mode
abbrev before : Tag → Tag → Bool
before x y = is_lt (nat_cmp x.mode y.mode)

tied : (m n : ℕ) → (n == m) ≡ true → (not (is_lt (nat_cmp m n)) && not (is_lt (nat_cmp n m))) ≡ true
tied m n same = grind (arith, nat_tests)

not_tied : (m n : ℕ) → (not (is_lt (nat_cmp m n)) && not (is_lt (nat_cmp n m))) ≡ false → (n == m) ≡ false
not_tied m n no' = by_test (n == m) refl where
  by_test : (b : Bool) → (n == m) ≡ b → b ≡ false
  by_test true e = let t = tied m n e in cc
  by_test false e = refl

other_mode : (mode : ℕ) (way : Option Direction) (conditional : Bool) (tag : Tag) → (tag.mode == mode) ≡ false
    → is_of_key mode way conditional tag ≡ false
other_mode mode way conditional tag differ = rw differ refl

module _ (types : Vehicles) (way : Option Direction) (conditional : Bool) (x : Tag) where
  -- what the tags of a mode say is said by those that tie with a tag of it
  kept : (tags : List Tag) → said_by_key types x.mode way conditional tags
      ≡ said_by_key types x.mode way conditional (filter (ties before x) tags)
  kept [] = refl
  kept (tag ∷ tags) = by_test (kept tags) (cases_Bool (ties before x tag)) where
    by_test : said_by_key types x.mode way conditional tags
        ≡ said_by_key types x.mode way conditional (filter (ties before x) tags)
        → (ties before x tag ≡ true) ⊎ (ties before x tag ≡ false)
        → said_by_key types x.mode way conditional (tag ∷ tags)
        ≡ said_by_key types x.mode way conditional (filter (ties before x) (tag ∷ tags))
    by_test later (inl yes') =
        rw yes'
        (ap (λ l. (if is_of_key x.mode way conditional tag then said_by_parts types tag.value.parts.items else []) ++ l) later)
    by_test later (inr no') = rw (no', other_mode x.mode way conditional tag (not_tied x.mode tag.mode no')) later

  kept_alike : (xs ys : List Tag) → IsStableByKey (λ (t : Tag). t.mode) nat_cmp xs ys
      → said_by_key types x.mode way conditional ys ≡ said_by_key types x.mode way conditional xs
  kept_alike xs ys stable =
      kept ys ∙ ap (said_by_key types x.mode way conditional) (stable x) ∙ sym (kept xs)

-- the tag, if it were of another mode
abbrev of_mode : ℕ → Tag → Tag
of_mode n tag = record { mode = n; direction = tag.direction; conditional = tag.conditional; value = tag.value }

say_same : (xs ys : List Tag) → IsStableByKey (λ (t : Tag). t.mode) nat_cmp xs ys → KeysSayTheSame ys xs
say_same [] [] stable types mode way conditional = refl
say_same (x ∷ xs) ys stable types mode way conditional = kept_alike types way conditional (of_mode mode x) (x ∷ xs) ys stable
say_same [] (y ∷ ys) stable types mode way conditional = kept_alike types way conditional (of_mode mode y) [] (y ∷ ys) stable

pub sorted_say_same : {F : Type 0} {g : Mut F (Bor Tag × Unit {0}) ℕ} {f : F} (xs ys : List Tag)
    → ((key : Tag → ℕ) → ComputesKey g key f → IsStableByKey key nat_cmp xs ys)
    → ((a : Bor Tag × Unit {0}) (r : ℕ) (f' : F) → Called g f a r f' → (r ≡ a.0.now.mode) × (f' ≡ f)) → KeysSayTheSame ys xs
sorted_say_same {g = g} {f = f} xs ys stable h =
    say_same xs ys (stable (λ (t : Tag). t.mode) (always_returns_same g (λ a r. r ≡ a.0.now.mode) f h))

-- ---- all that tags say, and what they need

said-before-same : (n : ℕ) (subject : Subject) (rows : List MeansRow) (way : Direction) (one other : List Tag)
    → KeysSayTheSame one other → said_before n subject rows way one ≡ said_before n subject rows way other
said-before-same zero subject rows way one other same = refl
said-before-same (suc n) subject rows way one other same =
    rw (said-before-same n subject rows way one other same)
    (ap (λ (l : List Saying). said_before n subject rows way other ++ l)
    (of_types (mode_types subject rows n) n way one other same)) where
      of_types : (types : Option Vehicles) (n : ℕ) (way : Direction) (one other : List Tag) → KeysSayTheSame one other
          → said_by_types types n way one ≡ said_by_types types n way other
      of_types None n way one other same = refl
      of_types (Some types) n way one other same =
          rw (same types n None false, same types n None true, same types n (Some way) false, same types n (Some way) true) refl

pub said_same : (subject : Subject) (rows : List MeansRow) (way : Direction) (one other : List Tag) → KeysSayTheSame one other
    → said_by subject rows way one ≡ said_by subject rows way other
said_same subject rows way one other same = said-before-same (length rows) subject rows way one other same

some_tag : (tags : List Tag) → NeedTooMany tags → (tag : Tag) × Contains tags tag × PartsNeedTooMany tag.value.parts.items
some_tag [] h = absurd h
some_tag (tag ∷ tags) (inl h) = (tag, (0, omega arith, refl), h)
some_tag (tag ∷ tags) (inr h) =
    let later = some_tag tags h in
    let less = later.1.1 in
    (later.0, (suc later.1.0, omega (arith, less), later.1.2), later.2)

of_tag : (tags : List Tag) (tag : Tag) (k : ℕ) → k < length tags → slice_index_or tags k tag ≡ tag
    → PartsNeedTooMany tag.value.parts.items → NeedTooMany tags
of_tag [] tag k less is h = absurd (omega (arith, less))
of_tag (first ∷ tags) tag zero less is h = inl (subst (λ (t : Tag). PartsNeedTooMany t.value.parts.items) (sym is) h)
of_tag (first ∷ tags) tag (suc k) less is h = inr (of_tag tags tag k (omega (arith, less)) is h)

pub many_moved : (one other : List Tag) → IsPermutation one other → NeedTooMany other → NeedTooMany one
many_moved one other moved h =
    let some = some_tag other h in
    let there = Contains-permutation other one some.0 (IsPermutation-sym one other moved) some.1 in
    of_tag one some.0 there.0 there.1 there.2 some.2
