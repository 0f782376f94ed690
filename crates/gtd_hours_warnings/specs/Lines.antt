-- Warnings in words.
use Rattle.std.specs.Prelude.{ℕ, ◌==◌, List, [], ◌∷◌, ◌++◌, codes, decimal, if◌then◌else◌}
use Rattle.gtd_hours_warnings.specs.declared.warnings.Warning.{Warning}
use Rattle.gtd_hours_warnings.specs.declared.warnings.WarningKind.{WarningKind}
use Rattle.gtd_hours_warnings.specs.declared.warnings.WarningKind.TheVariants.{Loose, Hides, KnownYears, Remark, NotKnown}
use Rattle.gtd_hours_warnings.specs.declared.warnings.WarningKind.TheVariants.{WholeDay}

abbrev pub kind_name : WarningKind → List ℕ
kind_name Loose = codes "Loose"
kind_name Hides = codes "Hides"
kind_name KnownYears = codes "KnownYears"
kind_name Remark = codes "Remark"
kind_name NotKnown = codes "NotKnown"
kind_name WholeDay = codes "WholeDay"

-- What a warning says of a form: a space is named, and of an empty one nothing is said.
abbrev pub form_label : List ℕ → List ℕ
form_label [] = []
form_label (byte ∷ bytes) = if byte == 32 then codes ": a space" else codes ": " ++ byte ∷ bytes

abbrev pub warning_text : Warning → List ℕ
warning_text w = kind_name w.kind ++ codes " at " ++ decimal w.place ++ form_label w.form.items

-- The warnings, one in a line behind these bytes.
abbrev pub warning_lines : List ℕ → List Warning → List ℕ
warning_lines before [] = []
warning_lines before (w ∷ ws) = before ++ warning_text w ++ codes "\n" ++ warning_lines before ws
