-- The lines of spans: how long they are, and the parts that they are written in.
use Rattle.std.proofs.Common.{◌≡◌, ◌<◌, ◌≤◌, ◌+◌, ◌*◌, ◌^◌, refl, arith, map, ℕ, List, [], ◌∷◌, ◌++◌, length, length-append}
use Rattle.std.proofs.Common.{append_assoc}
use Rattle.std.specs.Prelude.{decimal}
use Rattle.std.proofs.lemmas.Fmt.{length-decimal-le}
use Rattle.gtd_core.specs.Seconds.{Interval}
use Rattle.gtd_rows.specs.declared.direction.Direction.{Direction}
use Rattle.gtd_rows.specs.declared.direction.Direction.TheVariants.{Positive, Negative}
use Rattle.gtd_report.specs.Putting.{text_of, direction_word}
use Rattle.gtd_schedule.specs.Lines.{line_head, span_line, span_text}

length-word : (d : Direction) → length (direction_word d) ≤ 8
length-word Positive = omega arith
length-word Negative = omega arith

length-span_text : (span : Interval) → length (span_text span) ≡ 40
length-span_text span = refl

module _ (element : ℕ) (direction : Direction) (vehicle : ℕ) where
  -- a line is its head and the rest
  pub line_parts : (span : Interval) → line_head element direction vehicle ++ span_text span
      ≡ span_line element direction vehicle span
  line_parts span = simp append_assoc

  -- a head is short
  pub length-head : (k l : ℕ) → length (decimal element) ≤ k → length (decimal vehicle) ≤ l
      → length (line_head element direction vehicle) ≤ k + l + 11
  length-head k l short type =
      let word = length-word direction in
      simp length-append (omega arith)

  -- so is a line
  pub length-line : (k l : ℕ) (span : Interval) → length (decimal element) ≤ k → length (decimal vehicle) ≤ l
      → length (span_line element direction vehicle span) ≤ k + l + 51
  length-line k l span short type =
      let head = length-head k l short type in
      let all = length-append (line_head element direction vehicle) (span_text span) in
      let rest = length-span_text span in
      rw (← line_parts span) (omega arith)

  pub length-put_line : (span : Interval) → element < 2 ^ 64 → vehicle < 256
      → length (span_line element direction vehicle span) ≤ 80
  length-put_line span small type =
      let d = length-decimal-le 20 element (omega arith) (omega arith) small in
      let v = length-decimal-le 3 vehicle (omega arith) (omega arith) (omega arith) in
      let l = length-line 20 3 span d v in
      omega arith

  pub length-lines : (spans : List Interval) → element < 2 ^ 64 → vehicle < 256
      → length (text_of (map (span_line element direction vehicle) spans)) ≤ 80 * length spans
  length-lines [] small type = omega arith
  length-lines (s ∷ spans) small type =
      let l = length-put_line s small type in
      let r = length-lines spans small type in
      let a = length-append (span_line element direction vehicle s) (text_of (map (span_line element direction vehicle) spans)) in
      omega arith
