-- The hours that were found are open at the seconds of the domain, and their text with its end is the line.
use Rattle.std.specs.Prelude.{◌≡◌, Some}
use Rattle.gtdesk_tool.proofs.domain_hours.hours_line.Goals as goal

pub returns-in-Ok-clause-line : goal.returns-in-Ok-clause-line
returns-in-Ok-clause-line c =
    let found : c.in-Ok-Some.field-0 ≡ Some c.in-Ok-Some.hours = c.in-Ok-Some.field-0-is in
    record {
      hours = c.in-Ok-Some.hours;
      written = c.in-Ok.ensures.exact;
      stands = c.printed_hours_read_back.ensures.written c.in-Ok-Some.hours (rw found at c.in-Ok-Some.ensures.writable);
      same = rw found at c.in-Ok-Some.ensures.same;
    }
