-- A failure of a device is told by the run of `conditions`, and by the command.
use Rattle.std.proofs.Common.{◌≡◌, refl, ℕ}
use Rattle.std.specs.Prelude.{Result, Ok, Err}
use Rattle.gtd_conditional_file.specs.Run as runs
use Rattle.gtd_conditional_file.specs.Run.{lines_of}
use Rattle.gtd_conditional_file.specs.declared.converted.Converted.{Converted}
use Rattle.gtd_conditional_file.specs.declared.unconverted.Unconverted.{Unconverted}
use Rattle.gtd_conditional_file.specs.declared.unconverted.Unconverted.TheVariants as run
use Rattle.gtdesk_tool.specs.Conditions.{conditions_outcome, failures_after_means}
use Rattle.gtdesk_tool.specs.Running.{failures_after_read, failures_after_write}

pub conditions_tags : (answer : Result Converted Unconverted) (n : ℕ)
    → runs.failures_after_tags answer n ≡ failures_after_read (conditions_outcome (lines_of answer)) n
conditions_tags (Ok done) n = refl
conditions_tags (Err (run.Faults list)) n = refl
conditions_tags (Err (run.TooManyRows rows)) n = refl
conditions_tags (Err run.MeansReadFault) n = refl
conditions_tags (Err run.MeansEndless) n = refl
conditions_tags (Err run.TagsReadFault) n = refl
conditions_tags (Err run.TagsEndless) n = refl
conditions_tags (Err (run.WriteFault written)) n = refl
conditions_tags (Err (run.NoMemory written)) n = refl

pub conditions_means : (answer : Result Converted Unconverted) (n : ℕ)
    → runs.failures_after_means answer n ≡ failures_after_means (conditions_outcome (lines_of answer)) n
conditions_means (Ok done) n = refl
conditions_means (Err (run.Faults list)) n = refl
conditions_means (Err (run.TooManyRows rows)) n = refl
conditions_means (Err run.MeansReadFault) n = refl
conditions_means (Err run.MeansEndless) n = refl
conditions_means (Err run.TagsReadFault) n = refl
conditions_means (Err run.TagsEndless) n = refl
conditions_means (Err (run.WriteFault written)) n = refl
conditions_means (Err (run.NoMemory written)) n = refl

pub conditions_write : (answer : Result Converted Unconverted) (n : ℕ)
    → runs.failures_after_putting answer n ≡ failures_after_write (conditions_outcome (lines_of answer)) n
conditions_write (Ok done) n = refl
conditions_write (Err (run.Faults list)) n = refl
conditions_write (Err (run.TooManyRows rows)) n = refl
conditions_write (Err run.MeansReadFault) n = refl
conditions_write (Err run.MeansEndless) n = refl
conditions_write (Err run.TagsReadFault) n = refl
conditions_write (Err run.TagsEndless) n = refl
conditions_write (Err (run.WriteFault written)) n = refl
conditions_write (Err (run.NoMemory written)) n = refl
