-- An expression that a text without a fault stands for can be printed.
use Rattle.std.proofs.Common.{◌≡◌, ℕ, ◌≤◌, List, length, Option, Some, None, refl, subst, inr}
use Rattle.gtd_core.specs.declared.fault.TextFault.{TextFault}
use Rattle.gtd_core.specs.Trees.{Tree, AreValid, leaf_count}
use Rattle.gtd_text.specs.declared.token.Token.{Token}
use Rattle.gtd_text.specs.Found.{fault_of_tokens}
use Rattle.gtd_text.specs.ComputedLexing.{AreTokens}
use Rattle.gtd_text.specs.Reading.{HasNoFault, StandsFor}
use Rattle.gtd_text.specs.facts.LexingForms.{tokens_in_parts, tokens_of_parts}
use Rattle.gtd_text.specs.facts.OneMeaning.{one_meaning}
use Rattle.gtd_text.specs.facts.ReadingLaws.{readable}
use Rattle.gtd_text.specs.facts.Phases.{found_first}

-- its numbers are in their ranges, and there are few enough basic domains
pub record IsPrintableTree (tree : Tree) : Type 0 where
  pub valid : AreValid tree
  pub few : leaf_count tree ≤ 128

tokens_fit : (text : List ℕ) (tokens : List Token) → AreTokens text tokens → HasNoFault text
    → fault_of_tokens (length text) tokens ≡ None
tokens_fit text tokens are none = by_fault (fault_of_tokens (length text) tokens) refl
  where
    by_fault : (o : Option TextFault) → fault_of_tokens (length text) tokens ≡ o → fault_of_tokens (length text) tokens ≡ None
    by_fault None e = e
    by_fault (Some fault) e =
        absurd (none fault (inr (tokens, tokens_of_parts text tokens are, found_first (length text) tokens fault e)))

pub read_is_printable : (text : List ℕ) (tree : Tree) → StandsFor text tree → HasNoFault text → IsPrintableTree tree
read_is_printable text tree stands none =
    let read = tokens_in_parts text stands.tokens stands.read in
    let r = readable text stands.tokens (length text) read (tokens_fit text stands.tokens read none) in
    let also : StandsFor text r.tree = record { tokens = stands.tokens; read = stands.read; stand = r.stand } in
    let same = one_meaning text r.tree tree also stands in
    subst IsPrintableTree same (record { valid = r.valid; few = r.few })
