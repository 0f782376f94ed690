-- Command after command is added, and in the end the program has all of them, as the definition lists them.
use Rattle.std.proofs.Common.{refl}
use Rattle.gtdesk_plans.proofs.command_line.gtdesk.Goals as goal

pub returns : goal.returns
returns c =
    let now = c.add_command-program.ensures _ _ c.without_commands-program.ensures c.command.ensures refl in
    let faults = c.add_command-program-2.ensures _ _ now c.command-2.ensures refl in
    let words = c.add_command-program-3.ensures _ _ faults c.command-3.ensures refl in
    let hours = c.add_command-program-4.ensures _ _ words c.command-4.ensures refl in
    let same = c.add_command-program-5.ensures _ _ hours c.command-5.ensures refl in
    let diff = c.add_command-program-6.ensures _ _ same c.command-6.ensures refl in
    let ask = c.add_command-program-7.ensures _ _ diff c.command-7.ensures refl in
    let records = c.add_command-program-8.ensures _ _ ask c.command-8.ensures refl in
    let conditions = c.add_command-program-9.ensures _ _ records c.command-9.ensures refl in
    let mend = c.add_command-program-10.ensures _ _ conditions c.command-10.ensures refl in
    let picture = c.add_command-program-11.ensures _ _ mend c.command-11.ensures refl in
    c.add_command.ensures _ _ picture c.domain_command.ensures refl
