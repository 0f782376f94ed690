use Rattle.std.proofs.Common.{List, [], ◌∷◌, map, string_bytes}
use Rattle.std.specs.Prelude.{String}
use Rattle.std.proofs.lemmas.Str.{IsUtf8-string_bytes}
use Rattle.clap.specs.Simple.{app_of}
use Rattle.gtd_tool.proofs.ClapWords.{AreTexts, words_found, words_refused}
use Rattle.gtd_tool.proofs.arguments.parse.Goals as goal

-- the words are texts
texts_of : {Z : Type 0} (words : List (String Z)) → AreTexts (map string_bytes words)
texts_of [] = tt
texts_of (word ∷ rest) = (IsUtf8-string_bytes word, texts_of rest)

pub returns-in-Ok-try_get_matches_from-clause-found : goal.returns-in-Ok-try_get_matches_from-clause-found
returns-in-Ok-try_get_matches_from-clause-found c =
    words_found (app_of c.in-Ok.program) c.in-Ok.ensures (map string_bytes c.args.words.now) (texts_of c.args.words.now)
    c.in-Ok-try_get_matches_from.matches c.in-Ok-try_get_matches_from.ensures.kinds c.in-Ok-try_get_matches_from.ensures.matches

pub returns-in-Err-clause-refused : goal.returns-in-Err-clause-refused
returns-in-Err-clause-refused c =
    words_refused (app_of c.in-Ok.program) c.in-Ok.ensures (map string_bytes c.args.words.now) (texts_of c.args.words.now)
    c.in-Err.error c.in-Err.ensures.kinds c.usage_refusal.result c.usage_refusal.ensures
