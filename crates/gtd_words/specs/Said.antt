-- When the words of a basic domain say an end.
use Rattle.std.specs.Prelude.{◌≡◌, ℕ, List, ◌++◌}
use Rattle.gtd_ends.specs.Ends.{IsEnd}
use Rattle.gtd_ends.specs.declared.end.End.{End}
use Rattle.gtd_phrases.specs.declared.phrase.Language.{Language}
use Rattle.gtd_words.specs.Untils.{until_words}

-- The words of a basic domain say this end: they close with it.
pub record SayEnd (language : Language) (words : List ℕ) (end : End) : Type 0 where
  pub is_end : IsEnd end
  pub before : List ℕ
  pub whole : words ≡ before ++ until_words language end

-- They say some end.
abbrev pub SayAnEnd : Language → List ℕ → Type 0
SayAnEnd language words = (end : End) × SayEnd language words end
