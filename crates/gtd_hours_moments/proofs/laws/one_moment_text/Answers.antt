-- A text is one list of tokens, of which all else is computed.
use Rattle.gtd_hours_moments.proofs.OneText as proof
use Rattle.gtd_hours_moments.proofs.laws.one_moment_text.Goals as goal

pub returns-clause-checked : goal.returns-clause-checked
returns-clause-checked c = proof.one_checked c.one_reading.ensures.tokens

pub returns-clause-places : goal.returns-clause-places
returns-clause-places c = proof.one_places c.one_reading.ensures.tokens

pub returns-clause-told : goal.returns-clause-told
returns-clause-told c = proof.one_told c.one_reading.ensures.tokens

pub returns-clause-forms : goal.returns-clause-forms
returns-clause-forms c = proof.one_forms c.one_reading.ensures.tokens

pub returns-clause-breaks : goal.returns-clause-breaks
returns-clause-breaks c = proof.one_end c.one_reading.ensures.tokens

pub returns-clause-plain : goal.returns-clause-plain
returns-clause-plain c = proof.one_plain c.one_reading.ensures.tokens
