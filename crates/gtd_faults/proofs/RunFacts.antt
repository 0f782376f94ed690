-- What the output took, if a text is the list of a file.
use Rattle.std.proofs.Common.{◌<◌, inr, refl, ℕ, List, [], ◌∷◌, length}
use Rattle.std.proofs.Common.{Option, Some, None, append-nil, sym}
use Rattle.std.specs.Prelude.{IfSome, Result, Ok, Err}
use Rattle.gtd_core.specs.Limits.{most_file_bytes}
use Rattle.gtd_records.specs.declared.fault.RecordFault.TheVariants as records
use Rattle.gtd_warnings.specs.declared.file.Asked.{Asked}
use Rattle.gtd_faults.specs.Doubts.{AreDoubts}
use Rattle.gtd_faults.specs.Listing.{AreLines, IsList, IsWarned}
use Rattle.gtd_faults.specs.Run.{HasListed, HasPut}
use Rattle.gtd_faults.specs.declared.list_fault.ListFault.{ListFault}
use Rattle.gtd_faults.specs.declared.list_fault.ListFault.TheVariants as fault

pub listed : (path bytes text : List ℕ) (asked : Option Asked) (number : ℕ) (old new : Option (List ℕ))
    (result : Result ℕ ListFault) → IsList path bytes asked number text
    → HasPut text number old new result → HasListed path asked bytes old new result
listed path bytes text asked number old new (Ok count) is put = (text, rw (put.0) is, put.1)
listed path bytes text asked number old new (Err fault.WriteFault) is put = (text, number, is, put)
listed path bytes text asked number old new (Err fault.ReadFault) is put = put
listed path bytes text asked number old new (Err fault.Endless) is put = put
listed path bytes text asked number old new (Err fault.NoMemory) is put = put

no_doubts : (path bytes : List ℕ) (asked : Asked) → most_file_bytes < length bytes → AreDoubts path asked bytes []
no_doubts path bytes asked more = record {
  told = [];
  all_told = inr (more, refl);
  first = [];
  told_lines = refl;
  lone = [];
  all_lone = inr (inr more, refl);
  last = [];
  lone_lines = refl;
  whole = refl;
}

unwarned : (asked : Option Asked) (path bytes : List ℕ) → most_file_bytes < length bytes → IsWarned asked path bytes []
unwarned (Some asked) path bytes more = no_doubts path bytes asked more
unwarned None path bytes more = refl

-- the list of a file that is too large: neither its line nor what is shown below it is taken from the bytes
pub large_list : (path bytes text : List ℕ) (asked : Option Asked) → most_file_bytes < length bytes
    → AreLines path [] (records.TooLarge ∷ []) text → IsList path bytes asked 1 text
large_list path bytes text asked more lines = record {
  faults = records.TooLarge ∷ [];
  all = inr (more, refl);
  counted = refl;
  first = text;
  lines = lines;
  last = [];
  warned = unwarned asked path bytes more;
  whole = sym (append-nil text);
}

pub large_listed : (path : List ℕ) (file old new : Option (List ℕ)) (asked : Option Asked) (result : Result ℕ ListFault)
    → IfSome file (λ all. most_file_bytes < length all)
    → ((bytes : List ℕ) (asked : Option Asked) → most_file_bytes < length bytes → HasListed path asked bytes old new result)
    → IfSome file (λ bytes. HasListed path asked bytes old new result)
large_listed path None old new asked result more listed = tt
large_listed path (Some bytes) old new asked result more listed = listed bytes asked more
