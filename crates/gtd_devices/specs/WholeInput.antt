-- What reading an input whole may answer.
use Rattle.std.specs.Prelude.{ℕ, ◌+◌, Result, Ok, Err}
use Rattle.gtd_devices.specs.declared.whole.InputFault.{InputFault}
use Rattle.gtd_devices.specs.declared.whole.InputFault.TheVariants.{ReadFault, TooLarge, Endless, NoMemory}

-- one more failure exactly if the answer is that the input failed
abbrev pub failures_after_whole : {T : Type 0} → Result T InputFault → ℕ → ℕ
failures_after_whole (Ok bytes) count = count
failures_after_whole (Err ReadFault) count = count + 1
failures_after_whole (Err TooLarge) count = count
failures_after_whole (Err Endless) count = count
failures_after_whole (Err NoMemory) count = count
