-- Rows in buckets, each with a number that like rows share. Rows with the same number are in the same bucket.
use Rattle.std.specs.Prelude.{◌≡◌, ◌<◌, ◌==◌, ◌++◌, ℕ, zero, suc, List, [], ◌∷◌, Some, length, get_or, if◌then◌else◌}
use Rattle.std.specs.BTreeMap.{BTreeMap, get}
use Rattle.std.specs.List.{Contains}
use Rattle.std.specs.Global.{Vec}
use Rattle.std.specs.Ordering.{nat_cmp}
use Rattle.gtd_repeats.specs.declared.buckets.Entry.{Entry}

-- each number has a bucket, counted from 0 and below how many numbers there are; the same numbers have the same one
pub record AreBuckets (numbers buckets : List ℕ) : Type 0 where
  pub many : length buckets ≡ length numbers
  pub inside : (k : ℕ) → k < length numbers → get_or buckets k 0 < length numbers
  pub same : (j k : ℕ) → j < length numbers → k < length numbers → get_or numbers j 0 ≡ get_or numbers k 0
      → get_or buckets j 0 ≡ get_or buckets k 0

-- all buckets that the map knows are below this one
abbrev pub AreBelow : BTreeMap ℕ ℕ → ℕ → Type 0
AreBelow known next = (n b : ℕ) → get nat_cmp known n ≡ Some b → b < next

-- the entries of a bucket
abbrev pub entries_at : List (Vec Entry) → ℕ → List Entry
entries_at [] bucket = []
entries_at (entries ∷ buckets) zero = entries.items
entries_at (entries ∷ buckets) (suc bucket) = entries_at buckets bucket

-- the bucket has the row with its number
abbrev pub IsListed : List (Vec Entry) → ℕ → ℕ → ℕ → Type 0
IsListed buckets bucket number row = Contains (entries_at buckets bucket) (record { number = number; row = row })

-- the entries of another bucket, or of the same, once there is one entry more in a bucket
abbrev pub with_entry : ℕ → Entry → ℕ → List Entry → List Entry
with_entry bucket entry other entries = if other == bucket then entries ++ entry ∷ [] else entries
