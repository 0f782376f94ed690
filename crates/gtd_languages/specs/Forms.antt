-- Numbers, as far as words after them differ.
use Rattle.std.specs.Prelude.{ℕ, ◌/◌, ◌%◌, ◌==◌, if◌then◌else◌}
use Rattle.gtd_languages.specs.declared.word.Form.{Form}
use Rattle.gtd_languages.specs.declared.word.Form.TheVariants.{Zero, One, EndsInOne, EndsInTwo, EndsInThree, Other}

-- What a number is, as far as words after it differ.
unfoldable pub form_of : ℕ → Form
form_of n =
    if n == 0 then Zero
    else (if n == 1 then One
    else (if n / 10 == 1 then Other
    else (if n % 10 == 1 then EndsInOne
    else (if n % 10 == 2 then EndsInTwo else (if n % 10 == 3 then EndsInThree else Other)))))
