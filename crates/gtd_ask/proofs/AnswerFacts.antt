-- Questions have one text of answers.
use Rattle.std.proofs.Common.{◌≡◌, ◌∙◌, ◌<◌, ◌+◌, sym, ap, ap₂, refl, subst, ℕ, drop}
use Rattle.std.proofs.Common.{List, [], ◌∷◌, ◌++◌, get_or, length, add-one, Option}
use Rattle.std.specs.Prelude.{ℤ, pos, ◌*ℤ◌, MatchOption, Ok, Err}
use Rattle.std.proofs.Math.Seq.{drop-cons, drop-length}
use Rattle.gtd_core.specs.Seconds.{day_of_second}
use Rattle.gtd_states.specs.facts.OneState.{one_change, one_last, one_truth}
use Rattle.gtd_records.specs.Closing.{IsOpen, Restriction}
use Rattle.gtd_report.specs.Putting.{IsOne, PutsText}
use Rattle.gtd_report.specs.declared.output.Progress.{Progress}
use Rattle.gtd_report.specs.declared.output.Stop.{Stop}
use Rattle.gtd_report.specs.facts.PutFacts.{puts_none}
use Rattle.gtd_report.specs.facts.TextFacts.{CarriesText, Then, texts_as, texts_cut, texts_then}
use Rattle.gtd_spans.specs.Change.{IsNextChange, NeverChanges}
use Rattle.gtd_ask.specs.Answers.{AreAnswers, IsAnswer, IsText, answer_line, header_line}
use Rattle.gtd_ask.specs.Putting.{IsOnly}
use Rattle.gtd_ask.specs.declared.question.Question.{Question}

-- ---- one line

module _ (found : List Restriction) where
  pub one_answer : (q : Question) (a b : List ℕ) → IsAnswer found q a → IsAnswer found q b → a ≡ b
  one_answer q a b x y =
      let set = IsOpen found q.element q.direction q.vehicle in
      let s = q.second.0 in
      let state = one_truth (set s) x.is_open y.is_open x.state y.state in
      let last = one_last (day_of_second s) x.last y.last x.ends y.ends in
      let change = one_change set s (x.last *ℤ pos 86400) x.change y.change x.until
      (subst (λ (l : ℤ). MatchOption y.change (NeverChanges set s (l *ℤ pos 86400))
      (λ c. IsNextChange set s (l *ℤ pos 86400) c)) (sym last) y.until) in
      x.whole ∙ ap₂ (answer_line q) state change ∙ sym y.whole

  pub one_only : (q : Question) → IsOne (IsOnly (IsAnswer found q))
  one_only q a b x y = x.2 ∙ ap (λ (l : List ℕ). l ∷ []) (one_answer q x.0 y.0 x.1 y.1) ∙ sym y.2

  pub one_answers : (questions : List Question) → IsOne (AreAnswers found questions)
  one_answers [] a b x y = x ∙ sym y
  one_answers (q ∷ questions) a b x y =
      x.4 ∙ ap₂ (λ (l : List ℕ) (ls : List (List ℕ)). l ∷ ls) (one_answer q x.0 y.0 x.2 y.2)
      (one_answers questions x.1 y.1 x.3 y.3) ∙ sym y.4

  pub one_text : (questions : List Question) → IsOne (IsText found questions)
  one_text questions a b x y =
      x.whole ∙ ap (λ (ls : List (List ℕ)). header_line ∷ ls) (one_answers questions x.rest y.rest x.each y.each) ∙ sym y.whole

  -- ---- the first line, and then the others

  pub first_then : (q : Question) (questions : List Question) (lines : List (List ℕ))
      → Then (IsOnly (IsAnswer found q)) (AreAnswers found questions) lines → AreAnswers found (q ∷ questions) lines
  first_then q questions lines are =
      (are.2.0, are.1, are.2.1, are.3, are.4 ∙ ap (λ (ls : List (List ℕ)). ls ++ are.1) are.2.2)

  pub then_first : (q : Question) (questions : List Question) (lines : List (List ℕ))
      → AreAnswers found (q ∷ questions) lines → Then (IsOnly (IsAnswer found q)) (AreAnswers found questions) lines
  then_first q questions lines are = (are.0 ∷ [], are.1, (are.0, are.2, refl), are.3, are.4)

  pub header_then : (questions : List Question) (lines : List (List ℕ))
      → Then (IsOnly (λ line. line ≡ header_line)) (AreAnswers found questions) lines → IsText found questions lines
  header_then questions lines are = record {
    rest = are.1;
    each = are.3;
    whole = are.4 ∙ ap (λ (ls : List (List ℕ)). ls ++ are.1) (are.2.2 ∙ ap (λ (l : List ℕ). l ∷ []) are.2.1);
  }

  pub then_header : (questions : List Question) (lines : List (List ℕ))
      → IsText found questions lines → Then (IsOnly (λ line. line ≡ header_line)) (AreAnswers found questions) lines
  then_header questions lines is = (header_line ∷ [], is.rest, (header_line, refl, refl), is.each, is.whole)

pub one_header : IsOne (IsOnly (λ line. line ≡ header_line))
one_header a b x y = x.2 ∙ ap (λ (l : List ℕ). l ∷ []) (x.1 ∙ sym y.1) ∙ sym y.2

-- ---- line by line

module _ (found : List Restriction) (questions : List Question) (i : ℕ) (a b : Option (List ℕ)) (p q : Progress)
    (carries : CarriesText (AreAnswers found questions) a p (AreAnswers found (drop i questions)) b q) where
  module _ (here : i < length questions) (e : Question) (d : Option (List ℕ)) (t : Progress) where
    next : drop i questions ≡ get_or questions i e ∷ drop (i + 1) questions
    next = drop-cons questions i e here ∙ ap (λ (n : ℕ). get_or questions i e ∷ drop n questions) (sym (add-one i))

    -- one line more
    pub one_more : PutsText (IsOnly (IsAnswer found (get_or questions i e))) (Ok tt) b d q t
        → CarriesText (AreAnswers found questions) a p (AreAnswers found (drop (i + 1) questions)) d t
    one_more put = λ r c s then. carries r c s
        (subst (λ (l : List Question). PutsText (AreAnswers found l) r b c q s) (sym next)
        (texts_as (Then (IsOnly (IsAnswer found (get_or questions i e))) (AreAnswers found (drop (i + 1) questions)))
        (AreAnswers found (get_or questions i e ∷ drop (i + 1) questions)) r b c q s
        (first_then found (get_or questions i e) (drop (i + 1) questions))
        (then_first found (get_or questions i e) (drop (i + 1) questions))
        (texts_then (IsOnly (IsAnswer found (get_or questions i e))) (AreAnswers found (drop (i + 1) questions)) r b d c q t s
        (one_only found (get_or questions i e)) put then)))

    -- the putting stopped within the next
    pub stopped : (x : Stop) → PutsText (IsOnly (IsAnswer found (get_or questions i e))) (Err x) b d q t
        → PutsText (AreAnswers found questions) (Err x) a d p t
    stopped x put = carries (Err x) d t
        (subst (λ (l : List Question). PutsText (AreAnswers found l) (Err x) b d q t) (sym next)
        (texts_as (Then (IsOnly (IsAnswer found (get_or questions i e))) (AreAnswers found (drop (i + 1) questions)))
        (AreAnswers found (get_or questions i e ∷ drop (i + 1) questions)) (Err x) b d q t
        (first_then found (get_or questions i e) (drop (i + 1) questions))
        (then_first found (get_or questions i e) (drop (i + 1) questions))
        (texts_cut (IsOnly (IsAnswer found (get_or questions i e))) (AreAnswers found (drop (i + 1) questions)) x b d q t put)))

  -- none is left
  pub none_left : i ≡ length questions → PutsText (AreAnswers found questions) (Ok tt) a b p q
  none_left end =
      let left : drop i questions ≡ [] = ap (λ (n : ℕ). drop n questions) end ∙ drop-length questions in
      carries (Ok tt) b q (subst (λ (l : List Question). PutsText (AreAnswers found l) (Ok tt) b b q q) (sym left)
      ([], refl, puts_none b q))
