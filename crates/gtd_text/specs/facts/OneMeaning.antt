-- A text stands for at most one expression.
use Rattle.std.proofs.Common.{◌≡◌, ℕ, List, length, Some, sym, ap, ◌∙◌}
use Rattle.gtd_core.specs.Trees.{Tree}
use Rattle.gtd_text.specs.Building.{build, at_front}
use Rattle.gtd_text.specs.Lexing.{kinds}
use Rattle.gtd_text.specs.Reading.{StandsFor}
use Rattle.gtd_text.specs.facts.Builds.{builds_whole}
use Rattle.gtd_text.specs.facts.LexingForms.{tokens_in_parts}
use Rattle.gtd_scan.specs.facts.OneReading.{one_list}
use Rattle.gtd_text.specs.facts.Unique.{is_language}

pub one_meaning : (text : List ℕ) (e f : Tree) → StandsFor text e → StandsFor text f → e ≡ f
one_meaning text e f h k =
    let same = one_list (is_language text) 0 h.tokens k.tokens (length text) (tokens_in_parts text h.tokens h.read)
    (tokens_in_parts text k.tokens k.read) in
    let both : Some e ≡ Some f = sym (builds_whole (kinds h.tokens) e h.stand) ∙ ap (λ l. build at_front (kinds l)) same
    ∙ builds_whole (kinds k.tokens) f k.stand in
    cc
