-- The list goes by days and, within a day, by seconds; what is in it begins there, and what begins there is in it.
use Rattle.gtd_core.specs.Parts.{start_parts}
use Rattle.gtd_core.specs.Whole.{to_day}
use Rattle.gtd_recur.specs.Work.{window, window_begin}
use Rattle.gtd_recur.proofs.AscendingLemmas.{window-ascending}
use Rattle.gtd_recur.proofs.ExactLemmas.{has-window}
use Rattle.gtd_recur.proofs.GivenLemmas.{window-order}
use Rattle.gtd_recur.proofs.HorizonLemmas.{starts_of-begins, begins-window}
use Rattle.gtd_recur.proofs.laws.starts_of_a_window.Goals as goal

pub returns-clause-order : goal.returns-clause-order
returns-clause-order c = λ d h. window-ascending (start_parts d.start) (window_begin d h) (to_day h)

pub returns-clause-members : goal.returns-clause-members
returns-clause-members c = λ d h b. (
  λ has. let on = has-window (start_parts d.start) (window_begin d h) (to_day h) b (window-order d h) has in
      (starts_of-begins (start_parts d.start) (window d h) b has, on.0, on.1),
  λ k. begins-window (start_parts d.start) (window_begin d h) (to_day h) b k.0 k.1 k.2,
)
