use Rattle.std.proofs.Common.{◌≡◌, ◌∙◌, sym, ap, refl, subst, arith, ◌<◌, ◌+◌, ℕ, List, ◌∷◌, [], drop, get_or, length, Option}
use Rattle.std.proofs.Common.{add-one}
use Rattle.std.specs.Prelude.{Ok, Err}
use Rattle.std.proofs.Math.Seq.{drop-cons, drop-length}
use Rattle.std.proofs.lemmas.Result.{err_from_is_err_and}
use Rattle.gtd_rows.specs.declared.direction.Direction.{Direction}
use Rattle.gtd_report.specs.facts.ElementFacts.{one_element_lines}
use Rattle.gtd_report.specs.facts.PutFacts.{puts_none}
use Rattle.gtd_report.specs.facts.TextFacts.{CarriesText, texts_cut, texts_then}
use Rattle.gtd_report.specs.Putting.{AreElementLines, AreLinesOf, IsOneEach, PutsText}
use Rattle.gtd_report.specs.declared.output.Progress.{Progress}
use Rattle.gtd_report.specs.declared.output.Stop.{Stop}
use Rattle.gtd_schedule.proofs.ScheduleFacts.{one_lines}
use Rattle.gtd_schedule.specs.Schedule.{AreLines}
use Rattle.gtd_schedule.specs.declared.elements.ScheduleText.{ScheduleText}
use Rattle.gtd_schedule.proofs.text.put_elements.Goals as goal

module _ (each : ℕ → Direction → List (List ℕ) → Type 0) (elements : List ℕ) (i : ℕ) (a b : Option (List ℕ)) (p q : Progress)
    (carries : CarriesText (AreLinesOf each elements) a p (AreLinesOf each (drop i elements)) b q) where
  module _ (here : i < length elements) (d : Option (List ℕ)) (t : Progress) where
    next : drop i elements ≡ get_or elements i 0 ∷ drop (i + 1) elements
    next = drop-cons elements i 0 here ∙ ap (λ (n : ℕ). get_or elements i 0 ∷ drop n elements) (sym (add-one i))

    -- one element more
    one_more : IsOneEach each → PutsText (AreElementLines (each (get_or elements i 0))) (Ok tt) b d q t
        → CarriesText (AreLinesOf each elements) a p (AreLinesOf each (drop (i + 1) elements)) d t
    one_more one put = λ r c s then. carries r c s
        (subst (λ (l : List ℕ). PutsText (AreLinesOf each l) r b c q s) (sym next)
        (texts_then (AreElementLines (each (get_or elements i 0))) (AreLinesOf each (drop (i + 1) elements)) r b d c q t s
        (one_element_lines each one (get_or elements i 0)) put then))

    -- the putting stopped within the next
    stopped : (x : Stop) → PutsText (AreElementLines (each (get_or elements i 0))) (Err x) b d q t
        → PutsText (AreLinesOf each elements) (Err x) a d p t
    stopped x put = carries (Err x) d t
        (subst (λ (l : List ℕ). PutsText (AreLinesOf each l) (Err x) b d q t) (sym next)
        (texts_cut (AreElementLines (each (get_or elements i 0))) (AreLinesOf each (drop (i + 1) elements)) x b d q t put))

  -- no element is left
  none_left : i ≡ length elements → PutsText (AreLinesOf each elements) (Ok tt) a b p q
  none_left end =
      let left : drop i elements ≡ [] = ap (λ (n : ℕ). drop n elements) end ∙ drop-length elements in
      carries (Ok tt) b q (subst (λ (l : List ℕ). PutsText (AreLinesOf each l) (Ok tt) b b q q) (sym left)
      ([], refl, puts_none b q))

-- the lines that an element has in a direction
abbrev lines_of : ScheduleText → ℕ → Direction → List (List ℕ) → Type 0
lines_of text = AreLines text.found.now text.lines.now.schedule.vehicle text.lines.now.schedule.horizon

pub loop-element-init : goal.loop-element-init
loop-element-init g c = record {
  carries = λ r d s puts. puts;
  right = c.requires.right;
  written = omega (arith, c.requires.written);
  lines = omega (arith, c.requires.lines);
  failures = refl;
}

pub put_element-requires-clause-written : goal.put_element-requires-clause-written
put_element-requires-clause-written g c =
    let w = c.loop-element.invariant.written in
    let few = c.requires.few in
    omega arith

pub put_element-requires-clause-lines : goal.put_element-requires-clause-lines
put_element-requires-clause-lines g c =
    let l = c.loop-element.invariant.lines in
    let few = c.requires.few in
    omega arith

pub returns-in_err-put_element-clause-puts : goal.returns-in_err-put_element-clause-puts
returns-in_err-put_element-clause-puts g c =
    let p = err_from_is_err_and c.from_residual.result c.from_residual.ensures.1 in
    let taken = g.O.Output.taken in
    rw (p.1) (stopped (lines_of c.args.text) c.args.elements.now
    c.loop-element.element-index (taken c.args.output.now) (taken c.loop-element.output) c.args.printer.now.progress
    c.loop-element.printer.progress c.loop-element.invariant.carries (omega arith) (taken c.put_element.new.output)
    c.put_element.new.printer.progress p.0 c.in_err-put_element.ensures.puts)

pub loop-element-preserved : goal.loop-element-preserved
loop-element-preserved g c =
    let i = c.loop-element.invariant in
    let put = c.in_ok-put_element.ensures in
    let near = put.near in
    let w = i.written in
    let l = i.lines in
    let taken = g.O.Output.taken in
    record {
      carries = one_more (lines_of c.args.text) c.args.elements.now
          c.loop-element.element-index (taken c.args.output.now) (taken c.loop-element.output) c.args.printer.now.progress
          c.loop-element.printer.progress i.carries (omega arith) (taken c.put_element.new.output)
          c.put_element.new.printer.progress
          (one_lines c.args.text.found.now c.args.text.lines.now.schedule.vehicle c.args.text.lines.now.schedule.horizon)
          put.puts;
      right = put.right;
      written = omega arith;
      lines = omega arith;
      failures = put.failures ∙ i.failures;
    }

pub returns-clause-puts : goal.returns-clause-puts
returns-clause-puts g c =
    none_left (lines_of c.args.text) c.args.elements.now c.loop-element.element-index
    (g.O.Output.taken c.args.output.now) (g.O.Output.taken c.loop-element.output) c.args.printer.now.progress
    c.loop-element.printer.progress
    c.loop-element.invariant.carries (omega arith)
