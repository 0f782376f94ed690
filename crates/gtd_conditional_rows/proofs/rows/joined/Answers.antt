-- The rows of both directions, one after the other.
use Rattle.gtd_conditional_rows.proofs.rows.joined.Goals as goal

pub returns : goal.returns
returns c = record {
  forward = c.in_ok-rows.rows.items;
  backward = c.in_ok-backward.backward.items;
  forward_groups = c.in_ok-rows.ensures.groups;
  backward_groups = c.in_ok-backward.ensures.groups;
  forward_closed = rw c.as_slice.ensures.value at c.in_ok-rows.ensures.closed;
  backward_closed = c.in_ok-backward.ensures.closed;
  are = c.in_ok-put_unlisted.ensures;
}
