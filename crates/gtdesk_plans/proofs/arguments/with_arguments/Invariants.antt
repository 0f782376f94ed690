-- At each turn the command has the rules of the arguments passed so far, in their order.
use Rattle.std.proofs.Common.{◌≡◌, map, take}
use Rattle.clap.specs.Simple.{app_of}
use Rattle.gtdesk_plans.specs.Arguments.{rule, with_rules}
use Rattle.gtdesk_plans.proofs.arguments.with_arguments.Given as goal

abbrev pub invariant-loop-argument : goal.invariant-loop-argument
invariant-loop-argument l =
    app_of l.command ≡ with_rules (app_of l.initial.command) (map rule (take l.argument-index l.arguments))
