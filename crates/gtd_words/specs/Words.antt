-- The words of an expression in a language, as a list of bytes: a line for each basic domain.
--
-- The parts of a chain of operators stand below one another, and each line after the first says what is done with all the
-- lines above it. A part in brackets has a heading, and stands below it, indented by four columns.
use Rattle.std.specs.Prelude.{ℕ, zero, suc, ◌||◌, List, [], ◌++◌, Option, Some, None, codes}
use Rattle.gtd_core.specs.declared.start.StartParts.{StartParts}
use Rattle.gtd_core.specs.declared.duration.DurationParts.{DurationParts}
use Rattle.gtd_core.specs.declared.domain.Op.{Op}
use Rattle.gtd_core.specs.declared.domain.Op.TheVariants.{Union, Meet, Minus}
use Rattle.gtd_core.specs.Trees.{Tree, Single, Joined}
use Rattle.gtd_ends.specs.Anchors.{has_clock}
use Rattle.gtd_ends.specs.Endings.{is_all_day}
use Rattle.gtd_phrases.specs.Pieces.{text}
use Rattle.gtd_phrases.specs.Tables.{word_in}
use Rattle.gtd_phrases.specs.declared.phrase.Language.{Language}
use Rattle.gtd_phrases.specs.declared.phrase.Language.TheVariants.{English}
use Rattle.gtd_phrases.specs.declared.phrase.Piece.{Piece}
use Rattle.gtd_languages.specs.declared.word.Word.{Word}
use Rattle.gtd_languages.specs.declared.word.Word.TheVariants.{ExceptIn, OnlyIn, Or}
use Rattle.gtd_words.specs.Starts.{start_pieces}
use Rattle.gtd_words.specs.Untils.{rest_pieces}

-- A basic domain: its start, and its end or its duration.
unfoldable pub basic_pieces : StartParts → DurationParts → List Piece
basic_pieces start duration =
    start_pieces (has_clock start || is_all_day start duration) start ++ rest_pieces start duration

abbrev pub basic_words : Language → StartParts → DurationParts → List ℕ
basic_words language start duration = text language (basic_pieces start duration)

-- What is done with all the lines above: the seconds of these too, only those in these, only those not in these.
abbrev pub op_word : Op → Word
op_word Union = Or
op_word Meet = OnlyIn
op_word Minus = ExceptIn

abbrev pub op_words : Language → Op → List ℕ
op_words language op = word_in language (op_word op)

-- Four columns for each bracket.
abbrev pub indent : ℕ → List ℕ
indent zero = []
indent (suc depth) = codes "    " ++ indent depth

-- The first line of a part says nothing of the lines above.
abbrev pub lead_words : Language → Option Op → List ℕ
lead_words language None = []
lead_words language (Some op) = op_words language op ++ codes " "

-- The lines of an expression at a depth, with what is done with the lines above.
abbrev pub lines : Language → ℕ → Option Op → Tree → List ℕ
lines language depth lead (Single start duration) =
    indent depth ++ lead_words language lead ++ basic_words language start duration ++ codes "\n"
lines language depth None (Joined op left right) =
    lines language depth None left ++ lines language depth (Some op) right
lines language depth (Some before) (Joined op left right) =
    indent depth ++ op_words language before ++ codes "\n" ++ lines language (suc depth) None left
    ++ lines language (suc depth) (Some op) right

-- The words of a domain's expression in a language, and those in English.
abbrev pub words_in : Language → Tree → List ℕ
words_in language tree = lines language 0 None tree

abbrev pub words : Tree → List ℕ
words tree = words_in English tree
