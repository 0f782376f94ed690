-- Lemmas on spans of time, on what rules say, and on the number of basic domains.
pub mod CostLemmas
pub mod SaidLemmas
pub mod SpanLemmas
