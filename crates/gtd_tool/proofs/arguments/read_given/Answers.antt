-- The name and the words that `clap` hands back are those given, so each command reads its own words.
use Rattle.std.proofs.Common.{◌≡◌, ◌∙◌, refl, sym, ap, ap₂, List, [], ◌∷◌, Option, Some, None, is_some, true≢false, map, subst}
use Rattle.std.proofs.Common.{option_map}
use Rattle.std.specs.Prelude.{Box, unwrap_or, option_and_then}
use Rattle.std.specs.Borrow.{Bor}
use Rattle.std.specs.Box.{box_value}
use Rattle.clap.specs.Walk.{Row, all_of, rows_of}
use Rattle.clap.specs.Simple.{subcommand_rows, subcommand_rows_of}
use Rattle.clap.specs.Matches.{found_of, subcommand_name_of}
use Rattle.clap.specs.declared.parser.matches.ArgMatches.{ArgMatches}
use Rattle.clap.specs.declared.parser.matches.ArgMatches.TheViews.{out-ArgMatches, out-SubCommand}
use Rattle.clap.specs.declared.parser.matches.SubCommand.{SubCommand}
use Rattle.clap.proofs.WalkLemmas.{raw_values-rows}
use Rattle.gtd_tool.specs.CommandLines.{reading_in}
use Rattle.gtd_tool.specs.Commands.{reading_named}
use Rattle.gtd_tool.specs.Plans.{IsReadTo}
use Rattle.gtd_tool.specs.Readings.{Reading}
use Rattle.gtd_tool.specs.Asked.{Text, texts}
use Rattle.gtd_tool.specs.ClapCommand.{found_words, id}
use Rattle.gtd_tool.proofs.arguments.read_given.Goals as goal

module _ {Z : Type 0} where
  name_and_rows : (o : Option (Box SubCommand Z)) → option_map (λ b. (out-SubCommand (box_value b)).name.now) o
      ≡ option_map (λ p. p.0) (subcommand_rows o)
  name_and_rows None = refl
  name_and_rows (Some b) = refl

name_found : (m : ArgMatches) (name : Text) (rows : List Row) → subcommand_rows_of m ≡ Some (name, rows) → subcommand_name_of m
    ≡ Some name
name_found m name rows e = name_and_rows (out-ArgMatches m).subcommand
    ∙ ap (λ (o : Option (Text × List Row)). option_map (λ p. p.0) o) e

inner : {X : Type 0} (x y : X) → Some x ≡ Some y → x ≡ y
inner x y e = ap (λ (o : Option _). unwrap_or o x) e

texts_of : List (Bor Text) → List Text
texts_of = map (λ w. w.now)

words_found : (r : Option (Bor (List (Bor Text)))) (d : Bor (List (Bor Text))) (words : List Text)
    → option_map (λ s. map (λ w. w.now) s.now) r ≡ found_words words
    → map (λ w. w.now) d.now ≡ [] → map (λ w. w.now) (unwrap_or r d).now ≡ words
words_found None d [] e none = none
words_found None d (v ∷ vs) e none = absurd (true≢false (sym (ap is_some e)))
words_found (Some s) d [] e none = absurd (true≢false (ap is_some e))
words_found (Some s) d (v ∷ vs) e none = inner _ _ e

pub returns : goal.returns
returns c words given =
    let name : c.in_ok-name.name.now ≡ given.0.0 = inner _ _
    (c.in_ok-name.ensures.name ∙ name_found c.args.matches.now given.0.0 given.1 given.3) in
    let rows : rows_of (found_of c.in_ok-name.given.now) ≡ given.1 =
    inner _ _ (c.in_ok-name.ensures.rows ∙ ap (λ (o : Option (Text × List Row)). option_map (λ p. p.1) o) given.3) in
    let strs = c.get_strs.ensures ∙ raw_values-rows (found_of c.in_ok-name.given.now) id ∙ ap (all_of id) rows ∙ given.4 in
    let texts_are = words_found c.get_strs.result _ given.0.1 strs refl in
    let arg = ap (λ (s : Bor (List (Bor Text))). map (λ w. w.now) s.now) c.unwrap_or-words.ensures in
    let same : reading_named c.in_ok-name.name.now (texts c.unwrap_or-words.result.now) ≡ reading_in words =
    ap₂ (λ (a : Text) (b : List Text). reading_named a b) name (arg ∙ texts_are)
    ∙ ap (option_and_then (λ (p : Text × List Text). reading_named p.0 p.1)) (sym given.2) in
    subst (λ (reading : Option Reading). IsReadTo reading c.read_command.result) same c.read_command.ensures.read
