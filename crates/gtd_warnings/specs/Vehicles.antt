-- Vehicle types for which some row closes something.
use Rattle.std.specs.Prelude.{ℕ, List}
use Rattle.std.specs.List.{Any}
use Rattle.gtd_records.specs.Closing.{Restriction}
use Rattle.gtd_rows.specs.Serving.{Serves}

-- some restriction is for the type: it names it, or every type, or all but others
abbrev pub IsForSome : List Restriction → ℕ → Type 0
IsForSome found vehicle = Any (λ (r : Restriction). Serves r.vehicles vehicle) found
