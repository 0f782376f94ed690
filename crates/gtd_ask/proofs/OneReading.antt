-- The bytes of a file are read in one way.
use Rattle.std.proofs.Common.{◌≡◌, ◌∙◌, ◌≤◌, ◌<◌, ◌+◌, ◌⊎◌, inl, inr, ap, refl, sym, subst, arith, ℕ, true, false, add-zero}
use Rattle.std.proofs.Common.{List, [], ◌∷◌, ◌++◌, length}
use Rattle.std.specs.Prelude.{nat_lt, if◌then◌else◌, Result, Ok, Err}
use Rattle.std.proofs.lemmas.Bool.Decides.{nat_tests}
use Rattle.csv.specs.Reading.{default_config, records, strip_bom}
use Rattle.gtd_rows.specs.Columns.{Fields}
use Rattle.gtd_ask.specs.Questions.{AreQuestions, AreRows, IsFile, IsTable, header, most_questions}
use Rattle.gtd_ask.specs.Questions.{question_of}
use Rattle.gtd_ask.specs.declared.fault.QuestionFault.{QuestionFault}
use Rattle.gtd_ask.specs.declared.fault.QuestionFault.TheVariants as fault
use Rattle.gtd_ask.specs.declared.question.Question.{Question}

abbrev Answer : Type 0
Answer = Result (List Question) QuestionFault

-- a question and those after it
and_rest : Result Question QuestionFault → Answer → Answer
and_rest (Ok q) (Ok rest) = Ok (q ∷ rest)
and_rest (Ok q) (Err why) = Err why
and_rest (Err why) rest = Err why

-- what rows stand for, of which the first has this number
meaning : ℕ → List Fields → Answer
meaning number [] = Ok []
meaning number (row ∷ rows) =
    if nat_lt most_questions number then Err fault.TooManyRows else and_rest (question_of number row) (meaning (number + 1) rows)

meaning_ok : (k : ℕ) (rows : List Fields) (qs : List Question) → k + length rows ≤ most_questions + 1 → AreQuestions k rows qs
    → meaning k rows ≡ Ok qs
unfolding meaning and_rest
meaning_ok k [] qs few are = ap Ok (sym are)
meaning_ok k (row ∷ rows) qs few are =
    let low : nat_lt most_questions k ≡ false = grind (arith, nat_tests) in
    let rest = meaning_ok (k + 1) rows are.1 (omega arith) are.3 in
    rw (low, are.2, rest) (ap Ok (sym are.4))

meaning_err : (k : ℕ) (before : List Fields) (row : Fields) (after : List Fields) (qs : List Question) (why : QuestionFault)
    → AreQuestions k before qs → k + length before ≤ most_questions + 1
    → ((k + length before ≡ most_questions + 1) × (why ≡ fault.TooManyRows))
    ⊎ ((k + length before ≤ most_questions) × (question_of (k + length before) row ≡ Err why))
    → meaning k (before ++ row ∷ after) ≡ Err why
unfolding meaning and_rest
meaning_err k [] row after qs why are few (inl p) =
    let high : nat_lt most_questions k ≡ true = (let e = p.0 in grind (arith, nat_tests)) in
    rw high (ap Err (sym p.1))
meaning_err k [] row after qs why are few (inr p) =
    let low : nat_lt most_questions k ≡ false = (let e = p.0 in grind (arith, nat_tests)) in
    let is : question_of k row ≡ Err why = rw (add-zero k) at p.1 in
    rw (low, is) refl
meaning_err k (b ∷ before) row after qs why are few cause =
    let low : nat_lt most_questions k ≡ false = grind (arith, nat_tests) in
    let same : k + length (b ∷ before) ≡ k + 1 + length before = omega arith in
    let rest = meaning_err (k + 1) before row after are.1 why are.3 (omega arith) (rw same at cause) in
    rw (low, are.2, rest) refl

one_rows : (rows : List Fields) (a : Answer) → AreRows rows a → meaning 1 rows ≡ a
one_rows rows (Ok qs) are = let few = are.0 in meaning_ok 1 rows qs (omega arith) are.1
one_rows rows (Err why) are =
    subst (λ (r : List Fields). meaning 1 r ≡ Err why) (sym are.split)
    (meaning_err 1 are.before are.row are.after are.questions why are.sound (let f = are.few in omega arith) (cause are.fault))
  where
    cause : ((length are.before ≡ most_questions) × (why ≡ fault.TooManyRows))
        ⊎ ((length are.before < most_questions) × (question_of (length are.before + 1) are.row ≡ Err why))
        → ((1 + length are.before ≡ most_questions + 1) × (why ≡ fault.TooManyRows))
        ⊎ ((1 + length are.before ≤ most_questions) × (question_of (1 + length are.before) are.row ≡ Err why))
    cause (inl p) = inl ((let e = p.0 in omega arith), p.1)
    cause (inr p) =
        let turn : length are.before + 1 ≡ 1 + length are.before = omega arith in
        inr ((let e = p.0 in omega arith), rw turn at p.1)

same_rows : (a b : List Fields) → header ∷ a ≡ header ∷ b → a ≡ b
same_rows a b e = cc

one_table : (text : List Fields) (a b : Answer) → IsTable text a → IsTable text b → a ≡ b
one_table text a b (inl p) (inl q) =
    let rows = same_rows p.0 q.0 (sym p.1 ∙ q.1) in
    sym (one_rows p.0 a p.2) ∙ ap (meaning 1) rows ∙ one_rows q.0 b q.2
one_table text a b (inl p) (inr q) = absurd (q.0 p.0 p.1)
one_table text a b (inr p) (inl q) = absurd (p.0 q.0 q.1)
one_table text a b (inr p) (inr q) = p.1 ∙ sym q.1

-- the bytes have one answer
pub one_file : (bytes : List ℕ) (a b : Answer) → IsFile bytes a → IsFile bytes b → a ≡ b
one_file bytes a b (inl p) (inl q) = one_table (records default_config (strip_bom bytes)) a b p.1 q.1
one_file bytes a b (inl p) (inr q) = absurd (let m = p.0 in let n = q.0 in omega arith)
one_file bytes a b (inr p) (inl q) = absurd (let m = p.0 in let n = q.0 in omega arith)
one_file bytes a b (inr p) (inr q) = p.1 ∙ sym q.1
