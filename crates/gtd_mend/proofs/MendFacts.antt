-- What is put of a file, from what is decided of it.
use Rattle.std.proofs.Common.{◌≡◌, ◌≢◌, ◌∙◌, ap, refl, sym, arith, ℕ, Bool, true, false, List, [], ◌∷◌, ◌==◌, length}
use Rattle.std.proofs.Common.{Option, Some, None}
use Rattle.std.specs.Bool.{MatchBool}
use Rattle.std.specs.Prelude.{Ok, Err, Result}
use Rattle.csv.specs.Machine.{Read, next_record}
use Rattle.csv.specs.declared.parser.State.{State}
use Rattle.csv.specs.declared.parser.State.TheVariants.{StartRecord}
use Rattle.gtd_records.specs.Closing.{Restriction}
use Rattle.gtd_rows.specs.Columns.{Fields}
use Rattle.gtd_records.specs.Faults.{AreFileFaults}
use Rattle.gtd_records.specs.File.{IsFile, header}
use Rattle.gtd_records.specs.declared.fault.RecordFault.{RecordFault}
use Rattle.gtd_rows.specs.declared.vehicles.Version.{Version}
use Rattle.gtd_report.specs.Putting.{text_of}
use Rattle.gtd_mend.specs.Answer.{Gives}
use Rattle.gtd_mend.specs.Fields.{mended_row}
use Rattle.gtd_mend.specs.Mended.{HasHeader, IsAccepted, IsMended, IsSame}
use Rattle.gtd_mend.specs.Reading.{IsNextRow, separated_by}
use Rattle.gtd_mend.specs.Run.{HasMended, HasPut}
use Rattle.gtd_mend.specs.declared.fault.MendFault.{MendFault}
use Rattle.gtd_mend.specs.declared.fault.MendFault.TheVariants as fault
use Rattle.gtd_mend.specs.declared.mend.Answer.{Answer}
use Rattle.gtd_mend.specs.declared.mend.Answer.TheVariants as answer
use Rattle.gtd_mend.specs.declared.separator.Separator.{Separator}
use Rattle.gtd_mend.specs.declared.separator.Separator.TheVariants.{Comma, Semicolon, Tab}

-- ---- whether a file is accepted

both : (found : List Restriction) (why : RecordFault)
    → ◌≡◌ {A = Result (List Restriction) RecordFault} (Ok found) (Err why) → ⊥
both found why e = cc

pub decided : (bytes : List ℕ) (faults : List RecordFault) (none : Bool) → none ≡ (length faults == 0)
    → AreFileFaults bytes faults
    → (AreFileFaults bytes [] → IsAccepted bytes)
    → ((why : RecordFault) (rest : List RecordFault) → AreFileFaults bytes (why ∷ rest) → IsFile bytes (Err why))
    → ((a b : Result (List Restriction) RecordFault) → IsFile bytes a → IsFile bytes b → a ≡ b)
    → MatchBool none (IsAccepted bytes) (IsAccepted bytes → ⊥)
decided bytes [] true e are accepted first one = accepted are
decided bytes [] false e are accepted first one = absurd cc
decided bytes (why ∷ faults) true e are accepted first one = absurd (grind (arith, e))
decided bytes (why ∷ faults) false e are accepted first one = λ is.
    both is.0 why (one (Ok is.0) (Err why) is.1 (first why faults are))

-- ---- whether a text has a header

abbrev fields_read : Option Read → Fields
fields_read None = []
fields_read (Some read) = read.0

pub same_fields : (a b : Fields) (s t : State) (x y : List ℕ) → ◌≡◌ {A = Option Read} (Some (a, s, x)) (Some (b, t, y)) → a ≡ b
same_fields a b s t x y e = ap fields_read e

pub read_apart : (a : Fields) (s : State) (x : List ℕ) → ◌≡◌ {A = Option Read} None (Some (a, s, x)) → ⊥
read_apart a s x e = cc

pub no_row_no_header : (separator : Separator) (text : List ℕ)
    → next_record (separated_by separator) StartRecord [] [] text ≡ None → HasHeader separator text → ⊥
no_row_no_header separator text none has = read_apart has.fields has.state has.rest (sym none ∙ has.read)

pub header_decided : (separator : Separator) (text : List ℕ) (fields mended : Fields) (taken rest : List ℕ) (is : Bool)
    → IsNextRow (separated_by separator) text fields taken rest → mended ≡ mended_row true fields
    → MatchBool is ((v : Version) × (mended ≡ header v)) ((v : Version) → mended ≢ header v)
    → MatchBool is (HasHeader separator text) (HasHeader separator text → ⊥)
header_decided separator text fields mended taken rest true next e found = record {
  version = found.0;
  fields = fields;
  state = next.state;
  rest = rest;
  read = next.read;
  is_header = sym e ∙ found.1;
}
header_decided separator text fields mended taken rest false next e never = λ has.
    let same : has.fields ≡ fields =
    same_fields has.fields fields has.state next.state has.rest rest (sym has.read ∙ next.read) in
    never has.version (e ∙ ap (mended_row true) (sym same) ∙ has.is_header)

pub none_of : (text : List ℕ) → (HasHeader Comma text → ⊥) → (HasHeader Semicolon text → ⊥) → (HasHeader Tab text → ⊥)
    → (separator : Separator) → HasHeader separator text → ⊥
none_of text a b c Comma has = a has
none_of text a b c Semicolon has = b has
none_of text a b c Tab has = c has

-- ---- what is put

pub as_it_is : (bytes : List ℕ) → IsSame bytes bytes []
as_it_is bytes = record { same = refl; none = refl }

pub gives_weaker : (bytes : List ℕ) (P Q : List ℕ → List (List ℕ) → Type 0) (given : Answer)
    → ((mended : List ℕ) (lines : List (List ℕ)) → P mended lines → Q mended lines) → Gives bytes P given → Gives bytes Q given
gives_weaker bytes P Q answer.Same more is = more bytes [] is
gives_weaker bytes P Q (answer.Mended mended text count) more is = (is.0, more mended.items is.0 is.1, is.2, is.3)

-- a mended file that was put, and its lines
pub has_mended : (path bytes mended text : List ℕ) (lines : List (List ℕ)) (count : ℕ) (old new before after : Option (List ℕ))
    (result : Result ℕ MendFault) → IsMended path bytes mended lines → text ≡ text_of lines → count ≡ length lines
    → HasPut mended text count old new before after result → HasMended path bytes old new before after result
has_mended path bytes mended text lines count old new before after (Ok number) is e n put = record {
  mended = mended;
  lines = lines;
  is_mended = is;
  holds = (put.0 ∙ n, put.1, rw e at put.2);
}
has_mended path bytes mended text lines count old new before after (Err fault.WriteFault) is e n put = record {
  mended = mended;
  lines = lines;
  is_mended = is;
  holds = put;
}
has_mended path bytes mended text lines count old new before after (Err fault.ListingFault) is e n put = record {
  mended = mended;
  lines = lines;
  is_mended = is;
  holds = (put.0, rw e at put.1);
}
has_mended path bytes mended text lines count old new before after (Err fault.ReadFault) is e n put = absurd put
has_mended path bytes mended text lines count old new before after (Err fault.TooLarge) is e n put = absurd put
has_mended path bytes mended text lines count old new before after (Err fault.Endless) is e n put = absurd put
has_mended path bytes mended text lines count old new before after (Err fault.NoMemory) is e n put = absurd put
