-- Few years are those up to 2799 that are at most 128.
use Rattle.gtd_hours_items.proofs.ManyLemmas as proof
use Rattle.gtd_hours_items.proofs.laws.many_or_few.Goals as goal

pub returns : goal.returns
returns c = record { many = proof.many_or_few }
