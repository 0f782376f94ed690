-- The first rows of each element are in the buckets at which they are looked up.
use Rattle.gtd_repeats.proofs.findings.findings_of.Goals as goal

pub findings_by-requires-clause-kin : goal.findings_by-requires-clause-kin
findings_by-requires-clause-kin c = λ row inside.
    let kin = rw c.as_slice-2.ensures.value at c.in_ok-kin.ensures.kin in
    rw (c.as_slice-8.ensures.value, c.as_slice-9.ensures.value) (kin row inside)
