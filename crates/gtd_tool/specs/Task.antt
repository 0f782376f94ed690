-- What is to be done for a command.
use Rattle.std.specs.Prelude.{⊤, ℕ, List, Option, Some, None}
use Rattle.gtd_roads.specs.Closing.{Restriction}
use Rattle.gtd_roads.specs.Subject.{Subject}
use Rattle.gtd_tool.specs.Asked.{Text}

-- What is to be done: the file that is read, if there is one; the answer, without its line end; whether what is printed
-- takes memory, or is found by what takes memory; whether all later changes of a domain that gives a year are asked for;
-- what a report of the file is asked about, and the lines of its text.
pub record Task : Type 1 where
  pub file : Option Text
  pub is_answer : List ℕ → Type 0
  pub takes_memory : Type 0
  pub asks_past_years : Type 0
  pub subject : Subject
  pub is_text : List Restriction → List (List ℕ) → Type 0

-- To print an answer that meets the condition.
abbrev pub answered : (List ℕ → Type 0) → Task
answered is = record {
  file = None;
  is_answer = is;
  takes_memory = ⊤;
  asks_past_years = ⊥;
  subject = record { vehicle = None; year = None; element = None };
  is_text = λ found lines. ⊥;
}

-- To print a text of the file that meets the condition.
abbrev pub reported : Text → Subject → (List Restriction → List (List ℕ) → Type 0) → Task
reported path subject is = record (answered (λ answer. ⊥)) { file = Some path; subject = subject; is_text = is }
