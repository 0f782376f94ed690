-- What a handle stands for, and the records that several handles share.
use Rattle.std.specs.Prelude.{List, Option}
use Rattle.gtd_records.specs.Closing.{Restriction}
use Rattle.gtd_handles.specs.declared.handle.Handle.{Handle}
use Rattle.gtd_handles.specs.declared.handle.Thing.{Thing}
use Rattle.gtd_handles.specs.declared.shared_records.SharedRecords.{SharedRecords}

-- what the handle stands for
abbrev pub thing_of : Handle → Option Thing
thing_of handle = handle.loose.value

-- the records that are shared
abbrev pub records_of : SharedRecords → List Restriction
records_of shared = shared.records.value
