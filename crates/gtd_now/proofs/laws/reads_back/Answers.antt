-- The line of an entry reads, by the grammar of JSON, as the one value that was written.
use Rattle.gtd_now.proofs.ReadBack.{read_back}
use Rattle.gtd_now.proofs.laws.reads_back.Goals as goal

pub returns : goal.returns
returns c = record { value = read_back }
