-- Texts by their lines: what a text by elements is, what an output took of lines, and how that is counted. A line has its
-- end: the LF is its last byte.
use Rattle.std.specs.Prelude.{◌≡◌, ◌≤◌, ◌+◌, ◌++◌, ℕ, List, [], ◌∷◌, length, take, flat_map, Option, Result, Ok, Err, codes}
use Rattle.std.specs.Io.KnownBytes.{Appends}
use Rattle.gtd_report.specs.declared.fault.RunFault.{RunFault}
use Rattle.gtd_report.specs.declared.fault.RunFault.TheVariants as fault
use Rattle.gtd_report.specs.declared.output.Progress.{Progress}
use Rattle.gtd_report.specs.declared.output.ShortPut.{ShortPut}
use Rattle.gtd_report.specs.declared.output.Stop.{Stop}
use Rattle.gtd_report.specs.declared.output.Stop.TheVariants.{Output, Memory}
use Rattle.gtd_records.specs.Closing.{AreElements, Restriction}
use Rattle.gtd_rows.specs.declared.direction.Direction.{Direction}
use Rattle.gtd_rows.specs.declared.direction.Direction.TheVariants.{Positive, Negative}

-- the word for a direction
abbrev pub direction_word : Direction → List ℕ
direction_word Positive = codes "positive"
direction_word Negative = codes "negative"

-- the text of lines, one after the other
abbrev pub text_of : List (List ℕ) → List ℕ
text_of lines = flat_map (λ line. line) lines

-- The lines of an element: those that it has in the positive direction, and then those in the negative one.
pub record AreElementLines (AreLines : Direction → List (List ℕ) → Type 0) (lines : List (List ℕ)) : Type 0 where
  pub positive : List (List ℕ)
  pub negative : List (List ℕ)
  pub are_positive : AreLines Positive positive
  pub are_negative : AreLines Negative negative
  pub both : lines ≡ positive ++ negative

-- the lines of the elements, in their order
abbrev pub AreLinesOf : (ℕ → Direction → List (List ℕ) → Type 0) → List ℕ → List (List ℕ) → Type 0
AreLinesOf AreLines [] lines = lines ≡ []
AreLinesOf AreLines (element ∷ elements) lines =
    (first : List (List ℕ)) × (rest : List (List ℕ))
    × AreElementLines (AreLines element) first × AreLinesOf AreLines elements rest × (lines ≡ first ++ rest)

-- A text by elements: a header, and the lines of each element that the restrictions name, in ascending order.
pub record IsByElement (found : List Restriction) (header : List ℕ) (AreLines : ℕ → Direction → List (List ℕ) → Type 0)
    (lines : List (List ℕ)) : Type 0 where
  pub elements : List ℕ
  pub named : AreElements found elements
  pub rest : List (List ℕ)
  pub each : AreLinesOf AreLines elements rest
  pub whole : lines ≡ header ∷ rest

-- there is at most one text of this kind
abbrev pub IsOne : (List (List ℕ) → Type 0) → Type 0
IsOne IsText = (a b : List (List ℕ)) → IsText a → IsText b → a ≡ b

-- for each element there is at most one text in each direction
abbrev pub IsOneEach : (ℕ → Direction → List (List ℕ) → Type 0) → Type 0
IsOneEach AreLines = (element : ℕ) (direction : Direction) → IsOne (AreLines element direction)

-- as many lines as the longest horizon has seconds: no element has more in a direction
abbrev pub most_direction_lines : ℕ
most_direction_lines = 12_622_867_200

-- and no more bytes
abbrev pub most_direction_bytes : ℕ
most_direction_bytes = 1_009_829_376_000

-- no line and no byte
abbrev pub nothing_put : Progress
nothing_put = record { lines = 0; written = 0 }

-- one more line, or the bytes that were taken of it
abbrev pub after_line : {T : Type 0} → Result T ShortPut → Progress → List ℕ → Progress
after_line (Ok done) old line = record { lines = old.lines + 1; written = old.written + length line }
after_line (Err short) old line = record { lines = old.lines; written = old.written + short.taken }

-- one more failure exactly if not all of a line was taken
abbrev pub failures_after_line : {T : Type 0} → Result T ShortPut → ℕ → ℕ
failures_after_line (Ok done) count = count
failures_after_line (Err short) count = count + 1

-- one more failure exactly if the output stopped the putting
abbrev pub failures_after_stop : {T : Type 0} → Result T Stop → ℕ → ℕ
failures_after_stop (Ok done) count = count
failures_after_stop (Err Output) count = count + 1
failures_after_stop (Err Memory) count = count

-- The output took the lines and they were counted; or it took some first bytes of them, and those were counted.
abbrev pub Puts : Result (Unit {0}) Stop → Option (List ℕ) → Option (List ℕ) → Progress → Progress → List (List ℕ) → Type 0
Puts (Ok done) old new before after lines =
    Appends old new (text_of lines)
    × (after ≡ record { lines = before.lines + length lines; written = before.written + length (text_of lines) })
Puts (Err stop) old new before after lines =
    (n : ℕ) × (n ≤ length (text_of lines)) × Appends old new (take n (text_of lines)) × (after.written ≡ before.written + n)

-- Some text of this kind was put whole; or, of every text of this kind, some first bytes.
abbrev pub PutsText : (List (List ℕ) → Type 0) → Result (Unit {0}) Stop → Option (List ℕ) → Option (List ℕ)
    → Progress → Progress → Type 0
PutsText IsText (Ok done) old new before after =
    (lines : List (List ℕ)) × IsText lines × Puts (Ok done) old new before after lines
PutsText IsText (Err stop) old new before after =
    (lines : List (List ℕ)) → IsText lines → Puts (Err stop) old new before after lines

-- the answer of a run that put its text, or that stopped
abbrev pub answer_of : Result (Unit {0}) Stop → Progress → Result ℕ RunFault
answer_of (Ok done) progress = Ok progress.lines
answer_of (Err Output) progress = Err (fault.WriteFault progress.written)
answer_of (Err Memory) progress = Err (fault.NoMemory progress.written)
