-- Empty lists, and not closed: this is the draft of no pieces.
use Rattle.std.proofs.Common.{[], refl}
use Rattle.gtd_hours_text.specs.Standing.{AllSelectors}
use Rattle.gtd_hours_text.proofs.DraftLemmas.{no_times, no_weekdays}
use Rattle.gtd_hours_text.proofs.draft.new_draft.Goals as goal

pub returns-clause-empty : goal.returns-clause-empty
returns-clause-empty c = record {
  years = AllSelectors.none [] c.new.result.items refl c.new.ensures.items;
  month_days = AllSelectors.none [] c.new-2.result.items refl c.new-2.ensures.items;
  weeks = AllSelectors.none [] c.new-3.result.items refl c.new-3.ensures.items;
  weekdays = no_weekdays c.new-4.result.items c.new-5.result.items c.new-4.ensures.items c.new-5.ensures.items;
  times = no_times c.new-6.result.items c.new-6.ensures.items;
  closed = refl;
  one = refl;
}
