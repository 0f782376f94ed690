use Rattle.std.proofs.Common.{◌≡◌, ◌&&◌, ◌∙◌, Bool, true, false, not, refl, sym, ap, ap₂, subst, true≢false}
use Rattle.std.proofs.lemmas.Result.{IfOk-weaker}
use Rattle.clap.specs.Simple.{App, Shape, app_of, with_subcommand}
use Rattle.clap.specs.declared.builder.command.Command.{Command}
use Rattle.clap.specs.declared.builder.command.Command.TheViews.{out-Command}
use Rattle.gtdesk_plans.specs.Arguments.{Builds}
use Rattle.gtdesk_plans.proofs.command_line.add_command.Goals as goal

third : (a b g rest : Bool) → (a && (b && (not g && rest))) ≡ true → g ≡ false
third a b false rest e = refl
third true true true rest e = absurd (true≢false (sym e))
third true false true rest e = absurd (true≢false (sym e))
third false b true rest e = absurd (true≢false (sym e))

-- a plain command has no argument that its subcommands share
local : (command : Command) → (app_of command).top.is_plain ≡ true → (out-Command command).has_globals ≡ false
local command e = third _ _ _ _ e

pub returns : goal.returns
returns c = λ app sub before command plain.
    let program : app_of c.in_ok-program.program ≡ app = subst (Builds app) c.in_ok-program.was before in
    let built : app_of c.in_ok-command.command ≡ sub = subst (Builds sub) c.in_ok-command.was command in
    IfOk-weaker c.subcommand.result _ _ (λ r h.
    h.shape (local c.in_ok-command.command (ap (λ (a : App). a.top.is_plain) built ∙ plain))
    ∙ ap₂ (λ (a : App) (s : Shape). with_subcommand a s) program (ap (λ (a : App). a.top) built)) c.subcommand.ensures
