-- Lemmas on rows that say what others say: likenesses and their numbers, first rows, spans, and the lines of findings.
mod AlikeFacts
mod AnswerFacts
mod BucketFacts
mod EarlyFacts
mod FindingFacts
mod FinerFacts
mod FirstFacts
mod KinFacts
mod LineFacts
mod ListFacts
mod NumberFacts
mod SpanFacts
mod TextFacts
mod WithoutFacts
