-- Lemmas on mending a file: cutting it into rows, decoding and mending their fields, and writing them anew.
mod CutFacts
mod DecodeFacts
mod FieldFacts
mod MendFacts
mod PrintFacts
mod RowsFacts
mod SoundFacts
mod TableFacts
mod TrimFacts
