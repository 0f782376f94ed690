-- The tokens of a text from left to right, with what becomes of each.
use Rattle.std.specs.Prelude.{ℕ, Bool, true, false, List, [], ◌∷◌, ◌++◌, Option, Some, None}
use Rattle.gtd_hours_times.specs.declared.behind.Behind.{Behind}
use Rattle.gtd_hours_times.specs.declared.behind.Behind.TheVariants as behind
use Rattle.gtd_hours_times.specs.declared.behind.Step.{Step}
use Rattle.gtd_hours_times.specs.declared.behind.Written.{Written}
use Rattle.gtd_hours_times.specs.declared.behind.Written.TheVariants as written
use Rattle.gtd_hours_times.specs.declared.moment.TimeForm.{TimeForm}
use Rattle.gtd_hours_times.specs.declared.times.TimeToken.{TimeToken}
use Rattle.gtd_hours_times.specs.Steps.{step_of}
use Rattle.gtd_hours_moments.specs.declared.parts.Part.{Part}
use Rattle.gtd_hours_moments.specs.declared.told.Told.{Told}

-- a form of times has begun, and is not whole
abbrev pub goes_on : Behind → Bool
goes_on behind.Free = false
goes_on behind.Whole = false
goes_on b = true

abbrev pub part_of : TimeToken → Step → Part
part_of token step = record {
  from = token.from;
  to = token.to;
  written = step.written;
  whole = step.whole;
  goes_on = goes_on step.behind;
}

-- What becomes of these tokens, behind others.
abbrev pub parts_from : Behind → List TimeToken → List Part
parts_from b [] = []
parts_from b (token ∷ later) =
    part_of token (step_of b token later) ∷ parts_from (step_of b token later).behind later

abbrev pub parts_of : List TimeToken → List Part
parts_of tokens = parts_from behind.Free tokens

-- ---- the forms of times, from left to right

abbrev pub whole_of : Option TimeForm → List TimeForm
whole_of None = []
whole_of (Some form) = form ∷ []

abbrev pub forms_of : List Part → List TimeForm
forms_of [] = []
forms_of (p ∷ ps) = whole_of p.whole ++ forms_of ps

-- ---- the tokens that cannot stand where they do

abbrev pub told_at : ℕ → Written → List Told
told_at place (written.Misfit k) = record { place = place; kind = k } ∷ []
told_at place w = []

abbrev pub told_of : List Part → List Told
told_of [] = []
told_of (p ∷ ps) = told_at p.from p.written ++ told_of ps

-- ---- whether a form breaks off at the end

abbrev pub last_goes_on : Bool → List Part → Bool
last_goes_on b [] = b
last_goes_on b (p ∷ ps) = last_goes_on p.goes_on ps

abbrev pub breaks_off : List Part → Bool
breaks_off parts = last_goes_on false parts
