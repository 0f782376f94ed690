-- The rows of questions that were read so far, and what the next one makes of them.
use Rattle.std.proofs.Common.{◌≡◌, ◌≢◌, ◌<◌, ◌≤◌, ◌+◌, ◌⊎◌, inl, inr, refl, subst, arith, ℕ, true, List, [], ◌∷◌, ◌++◌, length}
use Rattle.std.proofs.Common.{Option, Some, None}
use Rattle.std.specs.Prelude.{IfSome, Result, Ok, Err, MatchResult}
use Rattle.std.specs.List.{All}
use Rattle.csv.specs.Reading.{default_config, records, strip_bom}
use Rattle.csv.specs.declared.reader.Reader.{Reader}
use Rattle.gtd_core.specs.Seconds.{IsMomentSecond}
use Rattle.gtd_rows.specs.Table.{HasLeft, TakesFirst}
use Rattle.gtd_rows.specs.Columns.{Fields}
use Rattle.gtd_rows.specs.facts.RowsRead.{IsListing, RowsRead, all_read, none_read, row_left, row_read}
use Rattle.gtd_ask.specs.Questions.{AreQuestions, AreRows, IsFile, IsFirstFault, IsOfFile, IsTable, most_questions, question_of}
use Rattle.gtd_ask.specs.declared.fault.QuestionFault.{QuestionFault}
use Rattle.gtd_ask.specs.declared.fault.QuestionFault.TheVariants as fault
use Rattle.gtd_ask.specs.declared.question.Question.{Question}

questions_listed : IsListing (λ (q : Question) (rest : List Question). q ∷ rest)
    (λ (k : ℕ) (row : Fields) (q : Question). question_of k row ≡ Ok q) AreQuestions
questions_listed = record {
  joins = λ q rest more. refl;
  none = λ k found. ((λ e. e), (λ e. e));
  more = λ k row rows found. ((λ each. each), (λ each. each));
}

-- the rows are those that were read as these questions, and those that the reader has left; the next has this number
abbrev pub SoFar : {R : Type 0} → (R → Option (List ℕ)) → Reader R → List Fields → List Question → ℕ → Type 0
SoFar rem reader rows found number = RowsRead AreQuestions rem reader rows found number

module _ {R : Type 0} (rem : R → Option (List ℕ)) (old : Reader R) (rows : List Fields) where
  pub at_start : HasLeft rem old rows → SoFar rem old rows [] 1
  at_start has = none_read _ _ _ questions_listed rem old rows has

  pub after_row : (new : Reader R) (found : List Question) (number : ℕ) (fields : Fields) (last : Question)
      → SoFar rem old rows found number → TakesFirst rem old new true fields → question_of number fields ≡ Ok last
      → SoFar rem new rows (found ++ last ∷ []) (number + 1)
  after_row new found number fields last far takes is =
      row_read _ _ _ questions_listed rem old new rows found number fields last far takes is

  pub at_end : (found : List Question) (number : ℕ) → SoFar rem old rows found number → number ≤ most_questions + 1
      → ((left : List Fields) → HasLeft rem old left → left ≡ []) → AreRows rows (Ok found)
  at_end found number far few none =
      let all = all_read AreQuestions rem old rows found number far none in (omega (arith, all.0, few), all.1)

  -- the next row is at fault, and none before it
  stops : (new : Reader R) (found : List Question) (number : ℕ) (fields : Fields) (why : QuestionFault)
      (far : SoFar rem old rows found number) → number ≤ most_questions + 1 → TakesFirst rem old new true fields
      → ((length far.before ≡ most_questions) × (why ≡ fault.TooManyRows))
      ⊎ ((length far.before < most_questions) × (question_of (length far.before + 1) fields ≡ Err why)) → IsFirstFault rows why
  stops new found number fields why far few takes cause =
      let left = row_left AreQuestions rem old rows found number far new fields takes in
      let count = far.count in
      record {
        before = far.before;
        row = fields;
        after = left.0;
        split = left.1;
        questions = found;
        sound = far.each;
        few = omega arith;
        fault = cause;
      }

  pub at_fault : (new : Reader R) (found : List Question) (number : ℕ) (fields : Fields) (why : QuestionFault)
      → SoFar rem old rows found number → number ≤ most_questions → TakesFirst rem old new true fields
      → question_of number fields ≡ Err why → IsFirstFault rows why
  at_fault new found number fields why far few takes is =
      let count = far.count in
      stops new found number fields why far (omega arith) takes (inr (omega arith, rw count is))

  pub too_many : (new : Reader R) (found : List Question) (fields : Fields)
      → SoFar rem old rows found (most_questions + 1) → TakesFirst rem old new true fields → IsFirstFault rows fault.TooManyRows
  too_many new found fields far takes =
      let count = far.count in
      stops new found (most_questions + 1) fields fault.TooManyRows far (omega arith) takes (inl (omega arith, refl))

-- ---- from the text of a file to its bytes

not_memory : (why : QuestionFault) → IsOfFile why → why ≢ fault.NoMemory
not_memory why of = λ e. subst IsOfFile e of

pub of_table : {T : Type 0} (items : T → List Question) (bytes : List ℕ) (told : Option (List ℕ)) (r : Result T QuestionFault)
    → length bytes ≤ 134217728 → IfSome told (λ all. bytes ≡ all)
    → MatchResult r (λ found. IsTable (records default_config (strip_bom bytes)) (Ok (items found)))
    (λ why. why ≢ fault.NoMemory → IsTable (records default_config (strip_bom bytes)) (Err why))
    → MatchResult r (λ found. IfSome told (λ all. IsFile all (Ok (items found))))
    (λ why. IsOfFile why → IfSome told (λ all. IsFile all (Err why)))
of_table items bytes None (Ok found) few is t = tt
of_table items bytes None (Err why) few is t = λ of. tt
of_table items bytes (Some all) (Ok found) few is t = subst (λ b. IsFile b (Ok (items found))) is (inl (few, t))
of_table items bytes (Some all) (Err why) few is t = λ of. subst (λ b. IsFile b (Err why)) is (inl (few, t (not_memory why of)))

-- no question is out of range among none
pub none_in : All (λ (q : Question). IsMomentSecond q.second.0) []
none_in = λ k d lt. absurd (omega (arith, lt))
