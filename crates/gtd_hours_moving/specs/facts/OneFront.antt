-- What tokens begin with is one range, or one fault.
use Rattle.std.proofs.Common.{◌≡◌, refl, sym, ap, ◌∙◌, ℕ, List, Option, Some, None, Result, Ok, Err}
use Rattle.std.proofs.lemmas.Bool.{false≢true}
use Rattle.gtd_hours_grammar.specs.declared.fault.HoursFault.{HoursFault}
use Rattle.gtd_hours_tokens.specs.declared.token.Token.{Token}
use Rattle.gtd_hours_moving.specs.Moving.{IsFrontOf, IsMovingFront, IsReadFront}
use Rattle.gtd_hours_moving.specs.Reading.{range_front}
use Rattle.gtd_hours_moving.specs.declared.front.MovingFront.{MovingFront}
use Rattle.gtd_hours_moving.specs.declared.front.MovingFront.TheVariants as front
use Rattle.gtd_hours_moving.specs.declared.read.ReadRange.{ReadRange}
use Rattle.gtd_hours.specs.declared.hours.Selector.{Selector}
use Rattle.gtd_hours_days.specs.declared.easter_range.EasterRange.{EasterRange}
use Rattle.gtd_hours_ranges.specs.declared.days.RangeDays.TheVariants as days
use Rattle.gtd_hours_ranges.specs.facts.SameDays.{one_days}

same_always : (x y : Selector) → days.Always x ≡ days.Always y → x ≡ y
same_always x y e = cc

same_easter : (x y : EasterRange) → days.Easter x ≡ days.Easter y → x ≡ y
same_easter x y e = cc

two_kinds : (x : Selector) (y : EasterRange) → days.Always x ≡ days.Easter y → ⊥
two_kinds x y e = cc

one_of : (read : ReadRange) (x y : MovingFront) → IsFrontOf read x → IsFrontOf read y → x ≡ y
one_of read (front.Range x tokens to) (front.Range y more there) h k =
    let same = same_always x y (one_days read.range (days.Always x) (days.Always y) h.0 k.0) in
    let count = h.1 ∙ sym k.1 in
    let end = h.2 ∙ sym k.2 in
    λ i. front.Range (same i) (count i) (end i)
one_of read (front.Easter x place tokens to) (front.Easter y at more there) h k =
    let same = same_easter x y (one_days read.range (days.Easter x) (days.Easter y) h.0 k.0) in
    let begin = h.1 ∙ sym k.1 in
    let count = h.2 ∙ sym k.2 in
    let end = h.3 ∙ sym k.3 in
    λ i. front.Easter (same i) (begin i) (count i) (end i)
one_of read (front.Range x tokens to) (front.Easter y at more there) h k =
    absurd (two_kinds x y (one_days read.range (days.Always x) (days.Easter y) h.0 k.0))
one_of read (front.Easter x at tokens to) (front.Range y more there) h k =
    absurd (two_kinds y x (one_days read.range (days.Always y) (days.Easter x) k.0 h.0))
one_of read (front.Range x tokens to) (front.Fault bad) h k = absurd (k.0 (days.Always x) h.0)
one_of read (front.Easter x place tokens to) (front.Fault bad) h k = absurd (k.0 (days.Easter x) h.0)
one_of read (front.Fault bad) (front.Range x tokens to) h k = absurd (h.0 (days.Always x) k.0)
one_of read (front.Fault bad) (front.Easter x place tokens to) h k = absurd (h.0 (days.Easter x) k.0)
one_of read (front.Fault bad) (front.Fault other) h k = ap front.Fault (h.1 ∙ sym k.1)

one_read : (read : Result ReadRange HoursFault) (x y : MovingFront) → IsReadFront read x → IsReadFront read y → x ≡ y
one_read (Ok read) x y h k = one_of read x y h k
one_read (Err bad) x y h k = h ∙ sym k

pub one_front : (text : List ℕ) (tokens : List Token) (one other : Option MovingFront) → IsMovingFront text tokens one
    → IsMovingFront text tokens other → one ≡ other
one_front text tokens None None h k = refl
one_front text tokens None (Some y) h k = absurd (false≢true (sym h ∙ k.0))
one_front text tokens (Some x) None h k = absurd (false≢true (sym k ∙ h.0))
one_front text tokens (Some x) (Some y) h k = ap Some (one_read (range_front text tokens) x y h.1 k.1)
