-- What holds of the answer of a run over questions and records, by that of the run over the records.
use Rattle.std.proofs.Common.{◌≡◌, ap, refl, subst, ℕ, List, Option, Some, None, Bool}
use Rattle.std.specs.Prelude.{IfSome, IsErrOf, IsTrue, OnOk, Result, Ok, Err, ⊤}
use Rattle.std.proofs.KnownBytes.{Keeps-refl}
use Rattle.gtd_records.specs.Closing.{Restriction}
use Rattle.gtd_report.specs.Run.{AcceptedFilesArePut, HasRun, PutsWhole, RefusedFilesPutNothing}
use Rattle.gtd_report.specs.Run as report
use Rattle.gtd_report.specs.declared.fault.RunFault.{RunFault}
use Rattle.gtd_report.specs.declared.fault.RunFault.TheVariants as run
use Rattle.gtd_report.specs.facts.RunFacts.{risen}
use Rattle.gtd_ask.specs.Answers.{IsText}
use Rattle.gtd_ask.specs.Questions.{IsFile, IsOfFile}
use Rattle.gtd_ask.specs.Run.{HadMemoryAndInput, HasAnswered, HasRunAfter, HeadlineOf, KeepsRefused, PutsAnswers, answer_for}
use Rattle.gtd_ask.specs.Run.{failures_after_asking, failures_after_questions, failures_after_read, failures_after_write}
use Rattle.gtd_ask.specs.declared.fault.AskFault.TheVariants as fault
use Rattle.gtd_ask.specs.declared.fault.QuestionFault.{QuestionFault}
use Rattle.gtd_ask.specs.declared.fault.QuestionFault.TheVariants as question
use Rattle.gtd_ask.specs.declared.question.Question.{Question}
use Rattle.gtd_ask.proofs.OneReading.{one_file}

ok_or_err : (x : List Question) (why : QuestionFault) → ◌≡◌ {A = Result (List Question) QuestionFault} (Ok x) (Err why) → ⊥
ok_or_err x why e = cc

same_asked : (x y : List Question) → ◌≡◌ {A = Result (List Question) QuestionFault} (Ok x) (Ok y) → x ≡ y
same_asked x y e = cc

same_fault : (x y : QuestionFault) → ◌≡◌ {A = Result (List Question) QuestionFault} (Err x) (Err y) → x ≡ y
same_fault x y e = cc

apart : (bytes : List ℕ) (x : List Question) (why : QuestionFault) → IsFile bytes (Ok x) → IsFile bytes (Err why) → ⊥
apart bytes x why p q = ok_or_err x why (one_file bytes (Ok x) (Err why) p q)

had_run : (r : Result ℕ RunFault) → HadMemoryAndInput (answer_for r) → report.HadMemoryAndInput r
had_run (Ok count) had = tt
had_run (Err why) had = had

-- a fault of the questions for which no device failed, and for which there was memory and input, is of the file
of_file : (why : QuestionFault) (n : ℕ) → failures_after_questions {T = List Question} (Err why) n ≡ n
    → HadMemoryAndInput (Err (fault.Questions why)) → IsOfFile why
of_file question.ReadFault n read had = absurd (risen n read)
of_file question.Endless n read had = absurd had
of_file question.NoMemory n read had = absurd had
of_file question.TooLarge n read had = tt
of_file question.Header n read had = tt
of_file (question.FieldCount row) n read had = tt
of_file (question.Element row) n read had = tt
of_file (question.Direction row) n read had = tt
of_file (question.Vehicle row) n read had = tt
of_file (question.Moment row why) n read had = tt
of_file question.TooManyRows n read had = tt

module _ (asked : List Question) where
  abbrev IsTextOf : List Restriction → List (List ℕ) → Type 0
  IsTextOf found lines = IsText found asked lines

  whole : (found : List Restriction) (before after : Option (List ℕ)) (r : Result ℕ RunFault)
      → PutsWhole (IsTextOf found) before after r → PutsAnswers asked found before after (answer_for r)
  whole found before after r puts =
      record { lines = puts.lines; is_text = puts.is_text; taken = puts.taken; count = ap answer_for puts.count }

  -- the headline, of questions that are read
  pub headline_run : (questions told before after : Option (List ℕ)) (r : Result ℕ RunFault)
      → IfSome questions (λ bytes. IsFile bytes (Ok asked))
      → AcceptedFilesArePut (λ found. ⊤) IsTextOf told before after r → RefusedFilesPutNothing told before after r
      → HeadlineOf questions told before after (answer_for r)
  headline_run None told before after r file accepted refused = tt
  headline_run (Some a) None before after r file accepted refused = tt
  headline_run (Some a) (Some b) before after r file accepted refused = record {
    accepted = λ had other found fa fb.
        subst (λ (x : List Question). PutsAnswers x found before after (answer_for r))
        (same_asked asked other (one_file a (Ok asked) (Ok other) file fa))
        (whole found before after r (accepted (had_run r had) found fb tt));
    questions_refused = λ had why fa. absurd (apart a asked why file fa);
    records_refused = λ had other why fa fb. let x = refused (had_run r had) why fb in (ap answer_for x.0, x.1);
  }

  after_run : (questions told before after : Option (List ℕ)) (r : Result ℕ RunFault)
      → IfSome questions (λ bytes. IsFile bytes (Ok asked)) → HasRun (λ found. ⊤) IsTextOf told before after r
      → IfSome questions (λ bytes. HasRunAfter bytes told before after r)
  after_run None told before after r file ran = tt
  after_run (Some a) told before after r file ran = record { asked = asked; file = file; ran = ran }

  -- what the output took
  pub answered_run : (questions told before after : Option (List ℕ)) (r : Result ℕ RunFault)
      → IfSome questions (λ bytes. IsFile bytes (Ok asked)) → HasRun (λ found. ⊤) IsTextOf told before after r
      → HasAnswered questions told before after (answer_for r)
  answered_run questions told before after (Ok count) file ran = after_run questions told before after (Ok count) file ran
  answered_run questions told before after (Err why) file ran = after_run questions told before after (Err why) file ran

  -- nothing is put for records that are refused
  pub kept_run : (told before after : Option (List ℕ)) (r : Result ℕ RunFault) → HasRun (λ found. ⊤) IsTextOf told before after r
      → KeepsRefused before after (answer_for r)
  kept_run told before after (Ok count) ran = tt
  kept_run told before after (Err run.VehicleRange) ran = tt
  kept_run told before after (Err run.YearRange) ran = tt
  kept_run told before after (Err (run.Records why)) ran = ran.0
  kept_run told before after (Err run.NoElement) ran = tt
  kept_run told before after (Err (run.WriteFault n)) ran = tt
  kept_run told before after (Err (run.NoMemory n)) ran = tt

-- the headline, of questions that are not read
pub headline_none : (questions told taken : Option (List ℕ)) (why : QuestionFault) (n : ℕ)
    → failures_after_questions {T = List Question} (Err why) n ≡ n
    → (IsOfFile why → IfSome questions (λ bytes. IsFile bytes (Err why)))
    → HeadlineOf questions told taken taken (Err (fault.Questions why))
headline_none None told taken why n read file = tt
headline_none (Some a) None taken why n read file = tt
headline_none (Some a) (Some b) taken why n read file = record {
  accepted = λ had asked found fa fb. absurd (apart a asked why fa (file (of_file why n read had)));
  questions_refused = λ had other fa. (
    ap (λ (w : QuestionFault). Err (fault.Questions w))
        (same_fault why other (one_file a (Err why) (Err other) (file (of_file why n read had)) fa)),
    Keeps-refl taken,
  );
  records_refused = λ had asked other fa fb. absurd (apart a asked why fa (file (of_file why n read had)));
}

-- ---- the answer

pub is_err : (r : Result ℕ RunFault) (why : RunFault) → IsErrOf (answer_for r) (fault.Run why) → IsErrOf r why
is_err (Ok count) why e = cc
is_err (Err other) why e = cc

pub not_asked : (r : Result ℕ RunFault) (why : QuestionFault) → IsErrOf (answer_for r) (fault.Questions why) → ⊥
not_asked (Ok count) why e = cc
not_asked (Err other) why e = cc

pub ended_run : (r : Result ℕ RunFault) (ended : Bool) → OnOk r (IsTrue ended) → OnOk (answer_for r) (IsTrue ended)
ended_run (Ok count) ended h = h
ended_run (Err why) ended h = tt

pub asking_run : (r : Result ℕ RunFault) (n : ℕ) → failures_after_asking (answer_for r) n ≡ n
asking_run (Ok count) n = refl
asking_run (Err why) n = refl

pub read_run : (r : Result ℕ RunFault) (n : ℕ) → failures_after_read (answer_for r) n ≡ report.failures_after_read r n
read_run (Ok count) n = refl
read_run (Err why) n = refl

pub write_run : (r : Result ℕ RunFault) (n : ℕ) → failures_after_write (answer_for r) n ≡ report.failures_after_write r n
write_run (Ok count) n = refl
write_run (Err why) n = refl
