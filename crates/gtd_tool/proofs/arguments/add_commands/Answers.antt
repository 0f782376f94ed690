use Rattle.std.proofs.Common.{◌≡◌, ◌∙◌, ◌+◌, ◌++◌, ◌<◌, ℕ, List, [], ◌∷◌, ap, refl, sym, take, get_or, length}
use Rattle.std.specs.Borrow.{Bor}
use Rattle.std.proofs.lemmas.List.{take_more}
use Rattle.clap.specs.Simple.{App, with_subcommand}
use Rattle.gtd_tool.specs.Asked.{texts}
use Rattle.gtd_tool.specs.ClapCommand.{leaf_given, with_commands}
use Rattle.gtd_tool.proofs.arguments.add_commands.Goals as goal

-- one name more is one command more
one_more : (app : App) (names : List (Bor (List ℕ))) (name : Bor (List ℕ))
    → with_commands app (texts (names ++ name ∷ [])) ≡ with_subcommand (with_commands app (texts names)) (leaf_given name.now)
one_more app [] name = refl
one_more app (first ∷ rest) name = one_more (with_subcommand app (leaf_given first.now)) rest name

added : (app before after : App) (names : List (Bor (List ℕ))) (i : ℕ) (d : Bor (List ℕ)) → i < length names
    → before ≡ with_commands app (texts (take i names))
    → after ≡ with_subcommand before (leaf_given (get_or names i d).now)
    → after ≡ with_commands app (texts (take (i + 1) names))
added app before after names i d within so step =
    step ∙ ap (λ (a : App). with_subcommand a (leaf_given (get_or names i d).now)) so
    ∙ sym (one_more app (take i names) (get_or names i d))
    ∙ ap (λ (some : List (Bor (List ℕ))). with_commands app (texts some)) (sym (take_more names i d within))

pub loop-name-preserved : goal.loop-name-preserved
loop-name-preserved c =
    added _ _ _ c.args.names.now c.loop-name.name-index _ c.loop-name-test.true c.loop-name.invariant c.in_ok-program.ensures
