-- The checked text: plain hours, whose first fault is the text's. A moment stands there as a time, and a form as a range.
use Rattle.std.specs.Prelude.{ℕ, List, [], ◌∷◌, ◌++◌, codes}
use Rattle.gtd_hours_times.specs.declared.behind.Written.{Written}
use Rattle.gtd_hours_times.specs.declared.behind.Written.TheVariants as written
use Rattle.gtd_hours_times.specs.Tokens.{stretch}
use Rattle.gtd_hours_moments.specs.declared.parts.Part.{Part}
use Rattle.gtd_hours_moments.specs.Places.{Put}

-- What stands for a token with these bytes. `PH` is nowhere in plain hours.
abbrev pub form_of : Written → List ℕ → List ℕ
form_of written.Kept bytes = bytes
form_of written.Time bytes = bytes
form_of written.TimeToMidnight bytes = bytes ++ codes "-24:00"
form_of written.LastMinute bytes = codes "47:59"
form_of written.First bytes = codes "23:59"
form_of written.FirstToMidnight bytes = codes "23:59-24:00"
form_of written.Last bytes = codes "12:00"
form_of written.ToMidnight bytes = codes "-24:00"
form_of written.Dash bytes = codes "-"
form_of written.Comma bytes = codes ","
form_of written.Nothing bytes = []
form_of (written.Misfit k) bytes = codes "PH"

abbrev pub checked_at : List ℕ → Part → Put
checked_at text p = record { from = p.from; form = form_of p.written (stretch text p.from p.to) }

abbrev pub checked_puts : List ℕ → List Part → List Put
checked_puts text [] = []
checked_puts text (p ∷ ps) = checked_at text p ∷ checked_puts text ps
