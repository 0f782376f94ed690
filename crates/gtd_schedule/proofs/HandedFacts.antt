-- What was put as spans were handed on is the lines of them all, or a first part of these.
use Rattle.std.proofs.Common.{◌≡◌, ◌∙◌, ◌≤◌, ◌+◌, ◌*◌, ◌<◌, ◌^◌, ap, refl, arith, ℕ, List, [], ◌∷◌, length, map, Option, inl, inr}
use Rattle.std.specs.Prelude.{Bool, Ok}
use Rattle.std.proofs.lemmas.List.{length-map}
use Rattle.gtd_core.specs.Seconds.{Interval}
use Rattle.gtd_eval.specs.Taking.{HandsOn}
use Rattle.gtd_rows.specs.declared.direction.Direction.{Direction}
use Rattle.gtd_report.specs.Putting.{Puts, failures_after_stop}
use Rattle.gtd_report.specs.declared.output.Progress.{Progress}
use Rattle.gtd_report.specs.declared.output.Stop.TheVariants.{Output}
use Rattle.gtd_report.specs.facts.PutFacts.{puts_cut, puts_none, puts_then}
use Rattle.gtd_schedule.specs.Handed.{PutsSpan, line_of, progress_of, put_result}
use Rattle.gtd_schedule.specs.Lines.{span_line}
use Rattle.gtd_schedule.specs.declared.elements.SpanLine.{SpanLine}
use Rattle.gtd_schedule.specs.facts.LineFacts.{length-lines}

-- the lines of two texts of the same element, direction and vehicle type are the same
same_lines : (one other : SpanLine) (spans : List Interval) → other.at ≡ one.at → other.vehicle ≡ one.vehicle
    → map (line_of other) spans ≡ map (line_of one) spans
same_lines one other spans at vehicle = rw (at, vehicle) refl

module _ {E : Type 0} (taken : E → Option (List ℕ)) (failures : E → ℕ) where
  pub handed_puts : (spans : List Interval) (o : E) (l : SpanLine) (left : List Interval) (p : E) (m : SpanLine) (all : Bool)
      → HandsOn (λ o l x p m whole. PutsSpan (taken o) (failures o) l x (taken p) (failures p) m whole) spans o l left p m all
      → Puts (put_result all) (taken o) (taken p) (progress_of l) (progress_of m) (map (line_of l) spans)
      × (failures p ≡ failures_after_stop (put_result all) (failures o))
  handed_puts [] o l left p m all h = rw (h.1, h.2, h.3) (puts_none (taken o) (progress_of l), refl)
  handed_puts (x ∷ xs) o l left p m all (inl h) =
      rw h.2 (
        puts_cut Output (taken o) (taken p) (progress_of l) (progress_of m) (line_of l x ∷ []) (map (line_of l) xs) h.0.put,
        h.0.failures,
      )
  handed_puts (x ∷ xs) o l left p m all (inr (next, more, first, h)) =
      let then = handed_puts xs next more left p m all h in
      let same = same_lines l more xs first.at first.vehicle in (
        puts_then (put_result all) (taken o) (taken next) (taken p) (progress_of l) (progress_of more) (progress_of m) (line_of l x ∷ [])
            (map (line_of l) xs) first.put (rw same at then.0),
        then.1 ∙ ap (failures_after_stop (put_result all)) first.failures,
      )

-- what was put of so many lines
pub lines_near : (e : ℕ) (d : Direction) (v : ℕ) (spans : List Interval) (old new : Option (List ℕ)) (p q : Progress)
    → e < 2 ^ 64 → v < 256 → Puts (Ok tt) old new p q (map (span_line e d v) spans)
    → (q.written ≤ p.written + 80 * length spans) × (q.lines ≤ p.lines + length spans)
lines_near e d v spans old new p q small type puts =
    let few = length-lines e d v spans small type in
    let count = length-map spans (span_line e d v) in
    let written = ap (λ (s : Progress). s.written) puts.1 in
    let lines = ap (λ (s : Progress). s.lines) puts.1 in
    (omega arith, omega arith)
