-- For each row of a file, the first one that is like it.
use Rattle.std.specs.Prelude.{◌≡◌, ◌<◌, ◌≤◌, ℕ, List, length, get_or}
use Rattle.std.specs.Global.{Vec}
use Rattle.gtd_repeats.specs.Buckets.{IsListed}
use Rattle.gtd_repeats.specs.declared.buckets.Entry.{Entry}

module _ (Alike : ℕ → ℕ → Type 0) where
  -- the first row that is like this one, which may be itself; both are counted from 0
  pub record IsFirst (row first : ℕ) : Type 0 where
    pub not_later : first ≤ row
    pub alike : Alike first row
    pub least : (k : ℕ) → k < first → Alike k row → ⊥

  -- of so many rows, the first that is like each
  pub record AreFirsts (count : ℕ) (firsts : List ℕ) : Type 0 where
    pub many : length firsts ≡ count
    pub each : (row : ℕ) → row < count → IsFirst row (get_or firsts row 0)

  -- rows that are like one row are like each other
  pub record IsLikeness : Type 0 where
    pub symmetric : (j k : ℕ) → Alike j k → Alike k j
    pub transitive : (i j k : ℕ) → Alike i j → Alike j k → Alike i k

  -- like rows have the same number
  abbrev pub ShareNumbers : List ℕ → Type 0
  ShareNumbers numbers = (j k : ℕ) → Alike j k → get_or numbers j 0 ≡ get_or numbers k 0

  -- Of the rows so far, the first that is like each; and each of these stands in its bucket, with its number.
  pub record AreSoFar (numbers indices firsts : List ℕ) (buckets : List (Vec Entry)) : Type 0 where
    pub each : (row : ℕ) → row < length firsts → IsFirst row (get_or firsts row 0)
    pub kept : (row : ℕ) → row < length firsts
        → IsListed buckets (get_or indices (get_or firsts row 0) 0) (get_or numbers (get_or firsts row 0) 0) (get_or firsts row 0)
