-- The line is the head and the two moments of the span, so that what is put is its line, or a first part of that.
use Rattle.std.proofs.Common.{◌≡◌, ◌∙◌, ap, refl, arith, ◌<◌, ◌≤◌, ◌+◌, ℕ, List, [], ◌∷◌, ◌++◌, length, take, drop, sym, subst}
use Rattle.std.proofs.Common.{length-append}
use Rattle.std.specs.Prelude.{Ok, Err}
use Rattle.std.proofs.Math.Seq.{drop-append_seam}
use Rattle.std.proofs.lemmas.List.{take_at, length-take-le}
use Rattle.gtd_core.specs.Seconds.{Interval}
use Rattle.gtd_report.specs.declared.output.Stop.TheVariants.{Output}
use Rattle.gtd_report.specs.facts.PutFacts.{one_put, one_short}
use Rattle.gtd_schedule.specs.Handed.{IsReady, line_of, progress_of}
use Rattle.gtd_schedule.specs.Lines.{span_text}
use Rattle.gtd_schedule.specs.Moments.{AreMoments}
use Rattle.gtd_schedule.specs.declared.elements.SpanLine.{SpanLine}
use Rattle.gtd_schedule.specs.declared.line.ShownSpan.{ShownSpan}
use Rattle.gtd_schedule.specs.facts.LineFacts.{length-put_line, line_parts}
use Rattle.gtd_schedule.proofs.elements.SpanLineSpanTaker.take.Goals as goal

-- what is written is the line of the span
written_line : (n : ℕ) (l : SpanLine) (x : Interval) (spans : List Interval) (now : List ℕ) → IsReady n l spans
    → now ≡ take l.head l.line.items ++ span_text x → now ≡ line_of l x
written_line n l x spans now ready is =
    is ∙ ap (λ (h : List ℕ). h ++ span_text x) ready.head ∙ line_parts l.at.element l.at.direction l.vehicle x

-- the front of the line stays its head, and the rest is what was written
same_head : (head line rest : List ℕ) (n : ℕ) → length head ≡ n → line ≡ head ++ rest → (n ≤ length line) × (take n line ≡ head)
same_head head line rest n long is =
    let count = ap length is ∙ length-append head rest in (omega arith, ap (take n) is ∙ take_at head rest n long)

moments_after : (shown : ShownSpan) (head line rest : List ℕ) (n : ℕ) → length head ≡ n → line ≡ head ++ rest
    → AreMoments shown rest → AreMoments shown (drop n line)
moments_after shown head line rest n long is are =
    let same : drop n line ≡ rest = rw (is, ← long) (drop-append_seam head rest) in
    subst (λ (l : List ℕ). AreMoments shown l) (sym same) are

-- a line has its LF
some_bytes : (front : List ℕ) → 0 < length (front ++ 10 ∷ [])
some_bytes front = let count = length-append front (10 ∷ []) in omega arith

pub overflow_add-self : goal.overflow_add-self
overflow_add-self g c =
    let ready = c.requires.ready.1 in
    let l = c.args.self.now in
    let is = c.as_slice-line.ensures.value ∙ written_line _ l c.args.span _ _ ready c.write_span.ensures.line in
    let short : length c.as_slice-line.result.now ≤ 80 =
    rw is (length-put_line l.at.element l.at.direction l.vehicle c.args.span ready.element ready.type) in
    let room = ready.written in
    omega arith

pub overflow_add-self-in-Err : goal.overflow_add-self-in-Err
overflow_add-self-in-Err g c =
    let ready = c.requires.ready.1 in
    let l = c.args.self.now in
    let is = c.as_slice-line.ensures.value ∙ written_line _ l c.args.span _ _ ready c.write_span.ensures.line in
    let short : length c.as_slice-line.result.now ≤ 80 =
    rw is (length-put_line l.at.element l.at.direction l.vehicle c.args.span ready.element ready.type) in
    let room = ready.written in
    let taken = c.in-Err.ensures.some.0 in
    omega arith

pub returns-in-Ok-clause-takes : goal.returns-in-Ok-clause-takes
returns-in-Ok-clause-takes g c =
    let l = c.args.self.now in
    let is = c.as_slice-line.ensures.value ∙ written_line _ l c.args.span _ _ c.requires.ready.1 c.write_span.ensures.line in
    let put = c.in-Ok.ensures in record {
      put = one_put (line_of l c.args.span) (g.O.Output.taken c.args.output.now) (g.O.Output.taken c.put_bytes.new.output)
          (progress_of l) record { lines = l.lines + 1; written = l.written + length c.as_slice-line.result.now }
          (rw is at put.all) (ap (λ (n : List ℕ). record { lines = l.lines + 1; written = l.written + length n }) is);
      failures = put.failures;
      at = refl;
      vehicle = refl;
    }

pub returns-in-Ok-clause-ready : goal.returns-in-Ok-clause-ready
returns-in-Ok-clause-ready g c = λ t more ready.
    let l = c.args.self.now in
    let is = c.as_slice-line.ensures.value ∙ written_line _ l c.args.span _ _ ready c.write_span.ensures.line in
    let short : length c.as_slice-line.result.now ≤ 80 =
    rw is (length-put_line l.at.element l.at.direction l.vehicle c.args.span ready.element ready.type) in
    let long = length-take-le l.head l.line.items ready.room in
    let front = take l.head l.line.items in
    let kept = same_head front c.write_span.new.line.items (span_text c.args.span) l.head long c.write_span.ensures.line in
    let written = ready.written in
    let lines = ready.lines in
    record {
      countable = rw c.in-Ok.ensures.failures ready.countable;
      element = ready.element;
      type = ready.type;
      shown = ready.shown.2;
      written = omega arith;
      lines = omega arith;
      room = kept.0;
      head = kept.1 ∙ ready.head;
      moments = moments_after c.write_span.new.shown front c.write_span.new.line.items (span_text c.args.span) l.head long
          c.write_span.ensures.line c.write_span.ensures.shown;
    }

pub returns-in-Err-clause-takes : goal.returns-in-Err-clause-takes
returns-in-Err-clause-takes g c =
    let l = c.args.self.now in
    let is = c.as_slice-line.ensures.value ∙ written_line _ l c.args.span _ _ c.requires.ready.1 c.write_span.ensures.line in
    let put = c.in-Err.ensures in record {
      put = one_short Output (line_of l c.args.span) c.in-Err.short.taken (g.O.Output.taken c.args.output.now)
          (g.O.Output.taken c.put_bytes.new.output) (progress_of l)
          record { lines = l.lines; written = l.written + c.in-Err.short.taken } (rw is at put.some.0) (rw is at put.some.1) refl;
      failures = put.failures;
      at = refl;
      vehicle = refl;
    }
