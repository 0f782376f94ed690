-- How the years of a rule are written, of which some have no last one: `2024,2025/2`.
use Rattle.std.specs.Prelude.{ℕ, ◌||◌, ◌++◌, Bool, false, List, [], ◌∷◌, codes, decimal, drop, if◌then◌else◌}
use Rattle.gtd_hours.specs.Written.{kind_text}
use Rattle.gtd_hours.specs.declared.hours.Selector.{Selector}
use Rattle.gtd_hours.specs.declared.hours.Selector.TheVariants as selector
use Rattle.gtd_hours.specs.declared.hours.Years.{Years}
use Rattle.gtd_hours_known.specs.Until.{first_mark}
use Rattle.gtd_hours_writing.specs.Joining.{listed}

-- one of these has no last one
abbrev pub some_mark : List Bool → Bool
some_mark [] = false
some_mark (mark ∷ marks) = mark || some_mark marks

-- `2025/2`
abbrev pub every_text : Years → List ℕ
every_text x = decimal x.first ++ codes "/" ++ decimal x.step

abbrev pub marked_text : Selector → List ℕ
marked_text (selector.Years x) = every_text x
marked_text x = kind_text false (x ∷ [])

-- A selector with this mark is written without a last year.
abbrev pub year_text : Bool → Selector → List ℕ
year_text mark x = if mark then marked_text x else kind_text false (x ∷ [])

-- A list with these years behind it.
abbrev pub with_list : List ℕ → List Bool → List Selector → List ℕ
with_list text marks [] = text
with_list text marks (x ∷ xs) = with_list (listed text (year_text (first_mark marks) x)) (drop 1 marks) xs

-- All years, before other selectors or by themselves.
abbrev pub years_text : Bool → List Bool → List Selector → List ℕ
years_text follows marks years = if some_mark marks then with_list [] marks years else kind_text follows years
