-- Many questions at once.
use Rattle.std.specs.Prelude.{◌≡◌, ◌≤◌, ◌<◌, ◌⊎◌, ℕ, List, length, drop, slice_index, slice_index_or}
use Rattle.gtd_handles.specs.Answers.{gtd_range, gtd_short, gtd_yes}

module _ {A : Type 0} (InRange Holds : A → Type 0) (questions : List A) where
  -- the question at this place; past the end, which is never asked for, the other one
  abbrev pub question_at : A → ℕ → A
  question_at other i = slice_index_or questions i other

  -- The first questions have their answers, 1 if it holds and 0 if not, and the other answers are as they were.
  pub record AreFirstAnswered (other : A) (count : ℕ) (old new : List ℕ) : Type 0 where
    pub long : length new ≡ length old
    pub few : count ≤ length questions
    pub in_range : (i : ℕ) → i < count → InRange (question_at other i)
    pub held : (i : ℕ) → i < count → Holds (question_at other i) → slice_index new i ≡ 1
    pub not_held : (i : ℕ) → i < count → (Holds (question_at other i) → ⊥) → slice_index new i ≡ 0
    pub rest : drop count new ≡ drop count old

  -- All are answered; or those before the first that is out of range; or none, for too little room.
  pub record AreAnswered (other : A) (answer : ℕ) (old new : List ℕ) (done_old done_new : ℕ) : Type 0 where
    pub short : (answer ≡ gtd_short) → (length old < length questions) × (new ≡ old) × (done_new ≡ done_old)
    pub answered : ((answer ≡ gtd_short) → ⊥) → AreFirstAnswered other done_new old new
    pub all : (answer ≡ gtd_yes) → done_new ≡ length questions
    pub range : (answer ≡ gtd_range) → (done_new < length questions) × (InRange (question_at other done_new) → ⊥)
    pub answers : (answer ≡ gtd_yes) ⊎ ((answer ≡ gtd_range) ⊎ (answer ≡ gtd_short))
