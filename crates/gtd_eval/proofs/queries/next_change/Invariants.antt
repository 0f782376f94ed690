use Rattle.std.specs.Prelude.{◌<ℤ◌, ◌≤ℤ◌, ◌≡◌}
use Rattle.gtd_core.specs.Parts.{domain_tree}
use Rattle.gtd_core.specs.Whole.{whole}
use Rattle.gtd_eval.specs.Asked.{EndAt, HaveCome, asked_tree}
use Rattle.gtd_eval.specs.Membership.{InDomain}
use Rattle.gtd_spans.specs.Change.{NeverChanges}
use Rattle.gtd_eval.proofs.queries.next_change.Given as goal

-- nothing changes so far
abbrev pub invariant-loop : goal.invariant-loop
invariant-loop l = record {
  tree : asked_tree l.stays ≡ domain_tree l.domain;
  come : HaveCome l.at.0 l.stays;
  end : EndAt (whole l.horizon).until l.stays;
  later : l.second.0 <ℤ l.at.0;
  within : l.at.0 ≤ℤ (whole l.horizon).until;
  never : NeverChanges (InDomain l.domain) l.second.0 l.at.0;
}
