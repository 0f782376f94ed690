-- What a run that translates a file of tags did, by its answer.
use Rattle.std.specs.Prelude.{◌≡◌, ◌≢◌, ◌⊎◌, ◌<◌, ◌≤◌, ℕ, ◌+◌, List, [], ◌++◌, length, string_bytes, Option, IfSome, Result, Ok, Err, ⊤}
use Rattle.std.specs.Io.KnownBytes.{Appends, Keeps}
use Rattle.gtd_core.specs.Limits.{most_rows}
use Rattle.gtd_hours_options.specs.Readings.{HowRead}
use Rattle.gtd_conditional_elements.specs.File.{AreOfFile}
use Rattle.gtd_conditional_elements.specs.declared.fault.ConditionsFault.{ConditionsFault}
use Rattle.gtd_conditional_elements.specs.declared.found.ElementRow.{ElementRow}
use Rattle.gtd_conditional_faults.specs.Listing.{AreLines}
use Rattle.gtd_conditional_means.specs.Table.{IsTable}
use Rattle.gtd_conditional_means.specs.declared.fault.MeansFault.{MeansFault}
use Rattle.gtd_conditional_means.specs.declared.meaning.MeansRow.{MeansRow}
use Rattle.gtd_migrate.specs.Migrated.{migrated}
use Rattle.gtd_records.specs.Closing.{Restriction}
use Rattle.gtd_report.specs.Putting.{text_of}
use Rattle.gtd_report.specs.Run.{TookFirst}
use Rattle.gtd_report.specs.declared.output.Progress.{Progress}
use Rattle.gtd_report.specs.declared.output.Stop.{Stop}
use Rattle.gtd_report.specs.declared.output.Stop.TheVariants.{Output, Memory}
use Rattle.gtd_conditional_file.specs.Lists.{of_means, of_tags}
use Rattle.gtd_conditional_file.specs.Records.{AreRestrictions}
use Rattle.gtd_conditional_file.specs.declared.converted.Converted.{Converted}
use Rattle.gtd_conditional_file.specs.declared.paths.Paths.{Paths}
use Rattle.gtd_conditional_file.specs.declared.unconverted.Unconverted.{Unconverted}
use Rattle.gtd_conditional_file.specs.declared.unconverted.Unconverted.TheVariants as why

-- the paths of the file of tags and of the table of means
pub record TwoPaths : Type 0 where
  pub tags : List ℕ
  pub means : List ℕ

abbrev pub paths_of : Paths → TwoPaths
paths_of paths = record { tags = paths.tags.now; means = paths.means.now }

-- ---- what two files stand for, if hours in values are read so

-- The bytes are a table of means, and by it a file of tags without a fault, which stands for these rows of its elements.
pub record AreRowsOf (how : HowRead) (means tags : List ℕ) (rows : List ElementRow) : Type 0 where
  pub table : List MeansRow
  pub read : IsTable means (Ok table)
  pub file : AreOfFile how table tags rows []

-- The text lists all faults of a table of means, which are at least one.
pub record IsMeansList (path means text : List ℕ) : Type 0 where
  pub faults : List MeansFault
  pub all : IsTable means (Err faults)
  pub lines : AreLines path means (of_means faults) text

-- The bytes are a table of means, and the text lists all faults of a file of tags by it, which are at least one.
pub record IsTagsList (how : HowRead) (path means tags text : List ℕ) : Type 0 where
  pub table : List MeansRow
  pub read : IsTable means (Ok table)
  pub rows : List ElementRow
  pub faults : List ConditionsFault
  pub file : AreOfFile how table tags rows faults
  pub some : faults ≢ []
  pub lines : AreLines path tags (of_tags faults) text

-- The files stand for so many rows, which are more than a record file may have.
pub record HaveTooManyRows (how : HowRead) (means tags : List ℕ) (count : ℕ) : Type 0 where
  pub rows : List ElementRow
  pub files : AreRowsOf how means tags rows
  pub counted : count ≡ length rows
  pub many : most_rows < count

-- ---- what the output took

-- The output took the record file of the rows that the files stand for, which are not too many for one; it has so many lines.
pub record PutsRecords (how : HowRead) (means tags : List ℕ) (old new : Option (List ℕ)) (count : ℕ) : Type 0 where
  pub rows : List ElementRow
  pub found : List Restriction
  pub files : AreRowsOf how means tags rows
  pub few : length rows ≤ most_rows
  pub restrictions : AreRestrictions rows found
  pub taken : Appends old new (text_of (migrated found))
  pub counted : count ≡ length (migrated found)

-- The output took the first n bytes of the header line and the lines of first ones of these rows, which are not too many.
pub record TookFirstRecords (how : HowRead) (means tags : List ℕ) (old new : Option (List ℕ)) (n : ℕ) : Type 0 where
  pub first : List ElementRow
  pub rest : List ElementRow
  pub found : List Restriction
  pub files : AreRowsOf how means tags (first ++ rest)
  pub few : length (first ++ rest) ≤ most_rows
  pub restrictions : AreRestrictions first found
  pub took : TookFirst old new n (text_of (migrated found))

-- both inputs tell their bytes, and these are so
abbrev pub IfBoth : Option (List ℕ) → Option (List ℕ) → (List ℕ → List ℕ → Type 0) → Type 0
IfBoth table file P = IfSome table (λ means. IfSome file (λ tags. P means tags))

-- What the output took, by the answer; and, if the inputs tell their bytes, what these are.
abbrev pub HasConverted : HowRead → TwoPaths → Option (List ℕ) → Option (List ℕ) → Option (List ℕ) → Option (List ℕ)
    → Result ℕ Unconverted → Type 0
HasConverted how paths table file old new (Ok count) =
    IfBoth table file (λ means tags. PutsRecords how means tags old new count)
HasConverted how paths table file old new (Err (why.Faults text)) =
    Keeps old new × IfSome table (λ means. IsMeansList paths.means means (string_bytes text)
    ⊎ IfSome file (λ tags. IsTagsList how paths.tags means tags (string_bytes text)))
HasConverted how paths table file old new (Err (why.TooManyRows count)) =
    Keeps old new × IfBoth table file (λ means tags. HaveTooManyRows how means tags count)
HasConverted how paths table file old new (Err why.MeansReadFault) = Keeps old new
HasConverted how paths table file old new (Err why.MeansEndless) = Keeps old new
HasConverted how paths table file old new (Err why.TagsReadFault) = Keeps old new
HasConverted how paths table file old new (Err why.TagsEndless) = Keeps old new
HasConverted how paths table file old new (Err (why.WriteFault n)) =
    IfBoth table file (λ means tags. TookFirstRecords how means tags old new n)
HasConverted how paths table file old new (Err (why.NoMemory n)) =
    ((n ≡ 0) × Keeps old new) ⊎ IfBoth table file (λ means tags. TookFirstRecords how means tags old new n)

-- ---- which answers there are, and the failures that they count

-- the number of lines that is answered, or why there is none
abbrev pub lines_of : Result Converted Unconverted → Result ℕ Unconverted
lines_of (Ok done) = Ok done.lines
lines_of (Err why) = Err why

-- the answer of a run that put its text, or that stopped
abbrev pub answer_of : Result (Unit {0}) Stop → Progress → Result ℕ Unconverted
answer_of (Ok done) progress = Ok progress.lines
answer_of (Err Output) progress = Err (why.WriteFault progress.written)
answer_of (Err Memory) progress = Err (why.NoMemory progress.written)

-- the answer of a run that has read the table of means, and of one that has read both files
abbrev pub IsTagsStop : Unconverted → Type 0
IsTagsStop why.MeansReadFault = ⊥
IsTagsStop why.MeansEndless = ⊥
IsTagsStop answer = ⊤

abbrev pub IsPutStop : Unconverted → Type 0
IsPutStop why.MeansReadFault = ⊥
IsPutStop why.MeansEndless = ⊥
IsPutStop why.TagsReadFault = ⊥
IsPutStop why.TagsEndless = ⊥
IsPutStop answer = ⊤

-- one more failure of an input exactly if the answer is that it failed
abbrev pub failures_after_means : {T : Type 0} → Result T Unconverted → ℕ → ℕ
failures_after_means (Err why.MeansReadFault) count = count + 1
failures_after_means _ count = count

abbrev pub failures_after_tags : {T : Type 0} → Result T Unconverted → ℕ → ℕ
failures_after_tags (Err why.TagsReadFault) count = count + 1
failures_after_tags _ count = count

-- and of the output
abbrev pub failures_after_putting : {T : Type 0} → Result T Unconverted → ℕ → ℕ
failures_after_putting (Err (why.WriteFault n)) count = count + 1
failures_after_putting _ count = count
