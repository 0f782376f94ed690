-- A migrated file can be cut at any line: each row is one line, and either part stands for its restrictions.
use Rattle.gtd_migrate.proofs.CutFacts.{parts_are_files, plain_lines, text_in_parts}
use Rattle.gtd_migrate.proofs.laws.migrated_in_parts.Goals as goal

pub returns : goal.returns
returns c = record { lines = plain_lines; text = text_in_parts; parts = parts_are_files }
