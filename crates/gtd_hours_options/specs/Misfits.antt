-- The tokens of a text that cannot stand where they do. In the checked text `PH` stands for them, which is a holiday here. So
-- the first of them is a fault, unless a fault of the text itself stands before it.
use Rattle.std.specs.Prelude.{ℕ, nat_lt, ◌||◌, Bool, true, false, List, [], ◌∷◌, Option, Some, None, if◌then◌else◌}
use Rattle.gtd_hours_grammar.specs.declared.fault.FaultKind.{FaultKind}
use Rattle.gtd_hours_grammar.specs.declared.fault.FaultKind.TheVariants as kind
use Rattle.gtd_hours_moments.specs.declared.told.Told.{Told}
use Rattle.gtd_hours_known.specs.declared.fault.KnownFault.{KnownFault}
use Rattle.gtd_hours_known.specs.declared.fault.KnownFault.TheVariants as fault

-- such a token, as a fault
abbrev pub misfit : Told → KnownFault
misfit token = fault.Hours (record { kind = token.kind; place = token.place })

-- the first of these tokens, as a fault
abbrev pub first_misfit : List Told → Option KnownFault
first_misfit [] = None
first_misfit (token ∷ tokens) = Some (misfit token)

-- a byte with which no token begins, or a comment that is not whole
abbrev pub is_bad_token : FaultKind → Bool
is_bad_token kind.BadToken = true
is_bad_token k = false

-- it is a fault of the text itself that comes first: one of its tokens, or one that stands before a place
abbrev pub is_before : KnownFault → ℕ → Bool
is_before (fault.Hours bad) place = is_bad_token bad.kind || nat_lt bad.place place
is_before (fault.Ambiguous at) place = nat_lt at place
is_before bad place = false

-- the first of a fault and of these tokens
abbrev pub with_misfits : List Told → KnownFault → KnownFault
with_misfits [] bad = bad
with_misfits (token ∷ tokens) bad = if is_before bad token.place then bad else misfit token
