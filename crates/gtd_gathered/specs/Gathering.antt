-- What an output has gathered that another has not taken yet.
use Rattle.std.specs.Prelude.{ℕ, ◌-◌, Bool, false, List, [], ◌∷◌, take, drop}

-- the bytes of a buffer from one offset up to another
abbrev pub between : ℕ → ℕ → List ℕ → List ℕ
between from until bytes = take (until - from) (drop from bytes)

-- what is gathered has not come to its end, whether the output that will take it has or not
abbrev pub ended_after : List ℕ → Bool → Bool
ended_after [] ended = ended
ended_after (byte ∷ bytes) ended = false
