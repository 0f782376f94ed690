-- A failure of a device is told by the run that mends a file, and by the command.
use Rattle.std.proofs.Common.{◌≡◌, refl, ℕ}
use Rattle.std.specs.Prelude.{Result, Ok, Err}
use Rattle.gtd_mend.specs.Run as run
use Rattle.gtd_mend.specs.declared.fault.MendFault.{MendFault}
use Rattle.gtd_mend.specs.declared.fault.MendFault.TheVariants as mend
use Rattle.gtdesk_tool.specs.Mended.{mended_outcome}
use Rattle.gtdesk_tool.specs.Running.{failures_after_read, failures_after_write}

pub mended_reads : (answer : Result ℕ MendFault) (n : ℕ)
    → run.failures_after_reading answer n ≡ failures_after_read (mended_outcome answer) n
mended_reads (Ok changes) n = refl
mended_reads (Err mend.ReadFault) n = refl
mended_reads (Err mend.TooLarge) n = refl
mended_reads (Err mend.Endless) n = refl
mended_reads (Err mend.NoMemory) n = refl
mended_reads (Err mend.WriteFault) n = refl
mended_reads (Err mend.ListingFault) n = refl

pub mended_writes : (answer : Result ℕ MendFault) (n : ℕ)
    → run.failures_after_writing answer n ≡ failures_after_write (mended_outcome answer) n
mended_writes (Ok changes) n = refl
mended_writes (Err mend.ReadFault) n = refl
mended_writes (Err mend.TooLarge) n = refl
mended_writes (Err mend.Endless) n = refl
mended_writes (Err mend.NoMemory) n = refl
mended_writes (Err mend.WriteFault) n = refl
mended_writes (Err mend.ListingFault) n = refl
