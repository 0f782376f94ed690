-- Lemmas on handles of the library: what may go to another thread, and the machine values behind a handle.
pub mod Sent
pub mod Values
pub mod Shut
