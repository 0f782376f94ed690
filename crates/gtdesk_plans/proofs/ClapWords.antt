-- What `clap` makes of a command line of `gtdesk`.
use Rattle.std.proofs.Common.{◌≡◌, ◌∙◌, refl, sym, ap, ap₂, subst, true, true≢false, List, [], Option, Some, None}
use Rattle.std.proofs.Common.{is_some, option_map}
use Rattle.std.specs.Prelude.{Box, Result, Ok, Err, IfOk, IfErr, unwrap_or}
use Rattle.std.specs.Box.{box_value}
use Rattle.clap.specs.Walk.{Row}
use Rattle.clap.specs.Simple.{App, HasMatchesOf, is_simple, subcommand_of, subcommand_rows, subcommand_rows_of}
use Rattle.clap.specs.Kinds.{FailsBy, HasKind}
use Rattle.clap.specs.Faults.{fault_of, is_simple_and_free}
use Rattle.clap.specs.Matches.{subcommand_name_of}
use Rattle.clap.specs.declared.error.Error.{Error}
use Rattle.clap.specs.declared.parser.matches.ArgMatches.{ArgMatches}
use Rattle.clap.specs.declared.parser.matches.ArgMatches.TheViews.{out-ArgMatches, out-SubCommand}
use Rattle.clap.specs.declared.parser.matches.SubCommand.{SubCommand}
use Rattle.gtdesk_plans.specs.Arguments.{Text}
use Rattle.gtdesk_plans.specs.CommandLine.{HasWords, desk_app}

desk_is_simple : is_simple desk_app ≡ true
desk_is_simple = refl

desk_is_free : is_simple_and_free desk_app ≡ true
desk_is_free = refl

-- ---- a subcommand's name and rows

module _ {Z : Type 0} where
  name_and_rows : (o : Option (Box SubCommand Z)) → option_map (λ b. (out-SubCommand (box_value b)).name.now) o
      ≡ option_map (λ p. p.0) (subcommand_rows o)
  name_and_rows None = refl
  name_and_rows (Some b) = refl

inner : {X : Type 0} (x y : X) → Some x ≡ Some y → x ≡ y
inner x y e = ap (λ (o : Option _). unwrap_or o x) e

pair_of : (o : Option (Text × List Row)) (name : Text) (rows : List Row) → Some name ≡ option_map (λ p. p.0) o
    → Some rows ≡ option_map (λ p. p.1) o → o ≡ Some (name, rows)
pair_of None name rows e f = absurd (true≢false (ap is_some e))
pair_of (Some p) name rows e f =
    ap₂ (λ (a : Text) (b : List Row). Some (a, b)) (sym (inner name p.0 e)) (sym (inner rows p.1 f))

none_of : (o : Option (Text × List Row)) → None ≡ option_map (λ p. p.0) o → o ≡ None
none_of None e = refl
none_of (Some p) e = absurd (true≢false (sym (ap is_some e)))

pub entered : (m : ArgMatches) (name : Text) (rows : List Row) → Some name ≡ subcommand_name_of m
    → Some rows ≡ option_map (λ p. p.1) (subcommand_rows (out-ArgMatches m).subcommand)
    → subcommand_rows_of m ≡ Some (name, rows)
entered m name rows e f =
    pair_of (subcommand_rows_of m) name rows (e ∙ name_and_rows (out-ArgMatches m).subcommand) f

pub not_entered : (m : ArgMatches) → None ≡ subcommand_name_of m → subcommand_rows_of m ≡ None
not_entered m e = none_of (subcommand_rows_of m) (e ∙ name_and_rows (out-ArgMatches m).subcommand)

-- ---- what a parse answers

pub words_found : (a : App) → a ≡ desk_app → (words : List Text) (r : Result ArgMatches Error)
    → (is_simple_and_free a ≡ true → FailsBy (fault_of a words) r) → IfOk r (HasMatchesOf a words)
    → IfOk r (HasWords words)
words_found a e words (Ok m) k h = record {
  faultless = subst (λ (x : App). fault_of x words ≡ []) e (k (ap is_simple_and_free e ∙ desk_is_free));
  entered = (h (ap is_simple e ∙ desk_is_simple)).1 ∙ ap (λ (x : App). subcommand_of x words) e;
}
words_found a e words (Err x) k h = tt

pub words_refused : (a : App) → a ≡ desk_app → (words : List Text) (r : Result ArgMatches Error)
    → (is_simple_and_free a ≡ true → FailsBy (fault_of a words) r) → IfErr r (HasKind (fault_of desk_app words))
words_refused a e words (Ok m) k = tt
words_refused a e words (Err x) k =
    subst (λ (y : App). HasKind (fault_of y words) x) e (k (ap is_simple_and_free e ∙ desk_is_free))
