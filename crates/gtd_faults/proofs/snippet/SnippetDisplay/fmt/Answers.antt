-- Below a fault for its header or its whole row stands the text of just that case.
use Rattle.gtd_faults.proofs.snippet.SnippetDisplay.fmt.Goals as goal

pub returns-in-Header-clause-writes : goal.returns-in-Header-clause-writes
returns-in-Header-clause-writes g c = λ plain ok. rw c.in-Header.is (c.write-in-Header.ensures.writes plain ok)

pub returns-in-Row-clause-writes : goal.returns-in-Row-clause-writes
returns-in-Row-clause-writes g c = λ plain ok. rw c.in-Row.is (c.write-in-Row.ensures.writes plain ok)
