-- What a run over two files did, by its answer.
use Rattle.std.proofs.Common.{◌≡◌, ◌∙◌, ◌<◌, ◌≤◌, ◌+◌, ap, refl, sym, subst, arith, inl, inr, ℕ, List, [], ◌∷◌, ◌++◌, length}
use Rattle.std.proofs.Common.{Option, Some, None}
use Rattle.std.specs.Prelude.{◌⊎◌, IfSome, Result, Ok, Err, string_bytes}
use Rattle.std.proofs.lemmas.List.Sorted.{IsNonDecreasingBy-short, IsPermutation-refl}
use Rattle.std.proofs.KnownBytes.{Keeps-refl}
use Rattle.gtd_core.specs.Limits.{most_file_bytes, most_rows}
use Rattle.gtd_migrate.specs.Migrated.{migrated}
use Rattle.gtd_report.specs.Putting.{Puts, nothing_put, text_of}
use Rattle.gtd_report.specs.Run.{TookFirst}
use Rattle.gtd_report.specs.declared.output.Progress.{Progress}
use Rattle.gtd_report.specs.declared.output.Stop.{Stop}
use Rattle.gtd_report.specs.declared.output.Stop.TheVariants.{Output, Memory}
use Rattle.gtd_hours_options.specs.Readings.{HowRead}
use Rattle.gtd_conditional_elements.specs.Faults.{row_number}
use Rattle.gtd_conditional_elements.specs.File.{AreOfFile}
use Rattle.gtd_conditional_elements.specs.declared.fault.ConditionsFault.TheVariants as fault
use Rattle.gtd_conditional_elements.specs.declared.found.ElementRow.{ElementRow}
use Rattle.gtd_conditional_faults.specs.Listing.{AreLines}
use Rattle.gtd_conditional_means.specs.Table.{IsTable}
use Rattle.gtd_conditional_means.specs.declared.fault.MeansFault.TheVariants as means
use Rattle.gtd_conditional_means.specs.declared.meaning.MeansRow.{MeansRow}
use Rattle.gtd_conditional_tags.specs.declared.fault.TagsFault.TheVariants as row
use Rattle.gtd_conditional_file.specs.Lists.{IsRefusal, of_means, of_tags}
use Rattle.gtd_conditional_file.specs.Records.{PutsRows}
use Rattle.gtd_conditional_file.specs.Run.{AreRowsOf, HasConverted, IsMeansList, IsTagsList, TookFirstRecords}
use Rattle.gtd_conditional_file.specs.Run.{TwoPaths, answer_of}
use Rattle.gtd_conditional_file.specs.declared.unconverted.Unconverted.{Unconverted}
use Rattle.gtd_conditional_file.specs.declared.unconverted.Unconverted.TheVariants as why

-- counted from nothing
none_before : (n : ℕ) → 0 + n ≡ n
none_before n = omega arith

took_first : (x : Stop) (a b : Option (List ℕ)) (q : Progress) (lines : List (List ℕ)) → Puts (Err x) a b nothing_put q lines
    → TookFirst a b q.written (text_of lines)
took_first x a b q lines puts =
    let is : puts.0 ≡ q.written = (let e = puts.3 in omega arith) in
    let few = puts.1 in
    (omega arith, rw is at puts.2)

stopped : (how : HowRead) (x : Stop) (means tags : List ℕ) (old new : Option (List ℕ)) (q : Progress) (rows : List ElementRow)
    → AreRowsOf how means tags rows → length rows ≤ most_rows → PutsRows migrated (Err x) old new nothing_put q rows
    → TookFirstRecords how means tags old new q.written
stopped how x means tags old new q rows files few put = record {
  first = put.0;
  rest = put.1;
  found = put.2;
  files = subst (AreRowsOf how means tags) put.3 files;
  few = subst (λ (all : List ElementRow). length all ≤ most_rows) put.3 few;
  restrictions = put.4;
  took = took_first x old new q (migrated put.2) put.5;
}

-- what a run did with files without a fault
pub has_converted : (how : HowRead) (r : Result (Unit {0}) Stop) (paths : TwoPaths) (means tags : List ℕ)
    (old new : Option (List ℕ))
    (q : Progress) (rows : List ElementRow)
    → AreRowsOf how means tags rows → length rows ≤ most_rows → PutsRows migrated r old new nothing_put q rows
    → HasConverted how paths (Some means) (Some tags) old new (answer_of r q)
has_converted how (Ok x) paths means tags old new q rows files few put = record {
  rows = rows;
  found = put.0;
  files = files;
  few = few;
  restrictions = put.1;
  taken = put.2.0;
  counted = ap (λ (t : Progress). t.lines) put.2.1 ∙ none_before (length (migrated put.0));
}
has_converted how (Err Output) paths means tags old new q rows files few put =
    stopped how Output means tags old new q rows files few put
has_converted how (Err Memory) paths means tags old new q rows files few put =
    inr (stopped how Memory means tags old new q rows files few put)

-- what a run did with files that stand for too many rows
pub too_many : (how : HowRead) (paths : TwoPaths) (means tags : List ℕ) (taken : Option (List ℕ)) (n : ℕ) (rows : List ElementRow)
    → AreRowsOf how means tags rows → n ≡ length rows → most_rows < n
    → HasConverted how paths (Some means) (Some tags) taken taken (Err (why.TooManyRows n))
too_many how paths means tags taken n rows files counted many =
    (Keeps-refl taken, record { rows = rows; files = files; counted = counted; many = many })

-- ---- what an input told

-- if the input of the tags tells its bytes, these were read
pub tags_told : (how : HowRead) (paths : TwoPaths) (table bytes : List ℕ) (file old new : Option (List ℕ))
    (r : Result ℕ Unconverted)
    → IfSome file (λ all. bytes ≡ all) → HasConverted how paths (Some table) (Some bytes) old new r
    → HasConverted how paths (Some table) file old new r
tags_told how paths table bytes (Some all) old new r same has =
    subst (λ (b : List ℕ). HasConverted how paths (Some table) (Some b) old new r) same has
tags_told how paths table bytes None old new (Ok count) same has = tt
tags_told how paths table bytes None old new (Err (why.Faults text)) same has = (has.0, inr tt)
tags_told how paths table bytes None old new (Err (why.TooManyRows n)) same has = (has.0, tt)
tags_told how paths table bytes None old new (Err why.MeansReadFault) same has = has
tags_told how paths table bytes None old new (Err why.MeansEndless) same has = has
tags_told how paths table bytes None old new (Err why.TagsReadFault) same has = has
tags_told how paths table bytes None old new (Err why.TagsEndless) same has = has
tags_told how paths table bytes None old new (Err (why.WriteFault n)) same has = tt
tags_told how paths table bytes None old new (Err (why.NoMemory n)) same (inl nothing) = inl nothing
tags_told how paths table bytes None old new (Err (why.NoMemory n)) same (inr some) = inr tt

-- ---- files that are too large: neither their line nor what is shown below it is taken from the bytes

large_file : (how : HowRead) (means : List MeansRow) (bytes : List ℕ) → most_file_bytes < length bytes
    → AreOfFile how means bytes [] (fault.Row row.TooLarge ∷ [])
large_file how means bytes more = record {
  tags = [];
  of_rows = row.TooLarge ∷ [];
  file = inr (more, refl, refl);
  sound = [];
  of_values = [];
  values = (refl, refl);
  groups = [];
  grouped = record { order = refl; items = λ k d h. absurd (omega arith) };
  of_elements = [];
  each = (refl, refl);
  listed = record {
    all = IsPermutation-refl _;
    sorted = IsNonDecreasingBy-short row_number (fault.Row row.TooLarge ∷ []) (omega arith);
  };
}

some_fault : {F : Type 0} (x : F) → x ∷ [] ≡ [] → ⊥
some_fault x e = cc

large_tags_list : (how : HowRead) (path table : List ℕ) (rows : List MeansRow) (text : List ℕ) (file : Option (List ℕ))
    → IsTable table (Ok rows) → IfSome file (λ all. most_file_bytes < length all)
    → AreLines path [] (of_tags (fault.Row row.TooLarge ∷ [])) text → IfSome file (λ tags. IsTagsList how path table tags text)
large_tags_list how path table rows text None read more lines = tt
large_tags_list how path table rows text (Some tags) read more lines = record {
  table = rows;
  read = read;
  rows = [];
  faults = fault.Row row.TooLarge ∷ [];
  file = large_file how rows tags more;
  some = some_fault (fault.Row row.TooLarge);
  lines = lines;
}

pub large_tags : (how : HowRead) (paths : TwoPaths) (path table : List ℕ) (rows : List MeansRow) (file taken : Option (List ℕ))
    (answer : Unconverted) → paths.tags ≡ path → IsTable table (Ok rows) → IfSome file (λ all. most_file_bytes < length all)
    → IsRefusal path [] (of_tags (fault.Row row.TooLarge ∷ [])) answer
    → HasConverted how paths (Some table) file taken taken (Err answer)
large_tags how paths path table rows file taken (why.Faults text) same read more list = (
  Keeps-refl taken,
  inr (large_tags_list how paths.tags table rows (string_bytes text) file read more
      (subst (λ (p : List ℕ). AreLines p [] (of_tags (fault.Row row.TooLarge ∷ [])) (string_bytes text)) (sym same) list)),
)
large_tags how paths path table rows file taken (why.TooManyRows n) same read more list = absurd list
large_tags how paths path table rows file taken why.MeansReadFault same read more list = absurd list
large_tags how paths path table rows file taken why.MeansEndless same read more list = absurd list
large_tags how paths path table rows file taken why.TagsReadFault same read more list = absurd list
large_tags how paths path table rows file taken why.TagsEndless same read more list = absurd list
large_tags how paths path table rows file taken (why.WriteFault n) same read more list = absurd list
large_tags how paths path table rows file taken (why.NoMemory n) same read more list = inl (list, Keeps-refl taken)

large_means_list : (how : HowRead) (paths : TwoPaths) (text : List ℕ) (table file : Option (List ℕ))
    → IfSome table (λ all. most_file_bytes < length all)
    → AreLines paths.means [] (of_means (means.TooLarge ∷ [])) text
    → IfSome table (λ bytes. IsMeansList paths.means bytes text
    ⊎ IfSome file (λ tags. IsTagsList how paths.tags bytes tags text))
large_means_list how paths text None file more lines = tt
large_means_list how paths text (Some bytes) file more lines = inl (record {
  faults = means.TooLarge ∷ [];
  all = ([], inr (more, refl, refl), some_fault means.TooLarge);
  lines = lines;
})

pub large_means : (how : HowRead) (paths : TwoPaths) (table file taken : Option (List ℕ)) (answer : Unconverted)
    → IfSome table (λ all. most_file_bytes < length all) → IsRefusal paths.means [] (of_means (means.TooLarge ∷ [])) answer
    → HasConverted how paths table file taken taken (Err answer)
large_means how paths table file taken (why.Faults text) more list =
    (Keeps-refl taken, large_means_list how paths (string_bytes text) table file more list)
large_means how paths table file taken (why.TooManyRows n) more list = absurd list
large_means how paths table file taken why.MeansReadFault more list = absurd list
large_means how paths table file taken why.MeansEndless more list = absurd list
large_means how paths table file taken why.TagsReadFault more list = absurd list
large_means how paths table file taken why.TagsEndless more list = absurd list
large_means how paths table file taken (why.WriteFault n) more list = absurd list
large_means how paths table file taken (why.NoMemory n) more list = inl (list, Keeps-refl taken)
