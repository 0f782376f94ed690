-- What a writer has taken of the bytes that it was handed.
use Rattle.std.specs.Prelude.{◌≡◌, ◌++◌, ℕ, List, Option}
use Rattle.std.specs.Borrow.{Bor}
use Rattle.std.specs.List.{flat_map}
use Rattle.std.specs.Io.KnownBytes.{Appends}

-- The writer's known bytes grew by all of the bytes before the rest.
pub record TakesBefore (old new : Option (List ℕ)) (bytes rest : List ℕ) : Type 0 where
  pub part : List ℕ
  pub before : bytes ≡ part ++ rest
  pub taken : Appends old new part

-- The writer's known bytes grew by a first part of the bytes, which may be none or all of them.
pub record AppendsPart (old new : Option (List ℕ)) (bytes : List ℕ) : Type 0 where
  pub rest : List ℕ
  pub takes : TakesBefore old new bytes rest

-- The texts, one after the other.
abbrev pub joined : List (Bor (List ℕ)) → List ℕ
joined texts = flat_map (λ text. text.now) texts
