-- Texts that the machine accepts or refuses, computed by their classes.
use Rattle.std.specs.Prelude.{[], ◌∷◌}
use Rattle.std.proofs.Common.{◌≡◌, refl}
use Rattle.gtd_hours_grammar2.specs.declared.class.Class.TheVariants as class
use Rattle.gtd_hours_grammar2.specs.declared.state.State.TheVariants as state
use Rattle.gtd_hours_grammar2.specs.declared.state.DateState.TheVariants as date
use Rattle.gtd_hours_grammar2.specs.declared.step.Wrong.TheVariants as wrong
use Rattle.gtd_hours_grammar2.specs.Machine.{accepted}
use Rattle.gtd_hours_grammar2.specs.Endings.{IsText, IsFirstFault}

-- `2023+ 2029 easter -5 days off`
years_and_easter : IsText (class.Year ∷ class.Plus ∷ class.Year ∷ class.Easter ∷ class.Dash ∷ class.Number ∷ class.Day
    ∷ class.Word ∷ class.End ∷ [])
years_and_easter = refl

-- `2032+ 2028 Mar Su[1]-Oct Su[1]`
years_and_range : IsText (class.Year ∷ class.Plus ∷ class.Year ∷ class.Month ∷ class.Weekday ∷ class.Open ∷ class.Number
    ∷ class.Close ∷ class.Dash ∷ class.Month ∷ class.Weekday ∷ class.Open ∷ class.Number ∷ class.Close ∷ class.End ∷ [])
years_and_range = refl

-- `2030 2031 2026 easter`: the third year cannot come
three_years : IsFirstFault (class.Year ∷ class.Year ∷ []) class.Year wrong.Unexpected
three_years = record { s = state.Date date.Year; goes = refl; stops = refl }

-- after `2030 2031`, a month or `easter` is accepted
after_two_years : accepted (state.Date date.Year) ≡ class.Month ∷ class.Easter ∷ []
after_two_years = refl

-- `(sunset+01:00)`
point_of_the_sun : IsText (class.Paren ∷ class.Event ∷ class.Plus ∷ class.Time ∷ class.Unparen ∷ class.End ∷ [])
point_of_the_sun = refl
