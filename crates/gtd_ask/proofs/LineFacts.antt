-- What a line of an answer says, and how long it is.
use Rattle.std.proofs.Common.{◌≡◌, ◌∙◌, sym, ap, refl, arith, ◌<◌, ◌≤◌, ◌↔◌, inl, inr, ℕ, Bool, true, false, true≢false}
use Rattle.std.proofs.Common.{List, [], ◌∷◌, ◌++◌, length, length-append, Option, Some, None}
use Rattle.std.specs.Prelude.{ℤ, pos, ◌+ℤ◌, ◌*ℤ◌, ◌<ℤ◌, ⊤, IsTrue, MatchOption, OnOk, Result, Ok, Err, not}
use Rattle.std.proofs.lemmas.Int.{ints}
use Rattle.gtd_calendar.specs.Calendar.{IsCalendarDay}
use Rattle.gtd_calendar.specs.Clock.{second_of_day}
use Rattle.gtd_calendar.specs.Stamp.{stamp_text}
use Rattle.gtd_calendar.specs.facts.ClockLemmas.{second-parts}
use Rattle.gtd_core.specs.Seconds.{day_of_second, IsHorizonSecond, IsMomentSecond}
use Rattle.gtd_core.specs.declared.second.Sec.{Sec}
use Rattle.gtd_states.specs.Lines.{change_text, state_word}
use Rattle.gtd_states.specs.States.{IsLookEnd, second_of}
use Rattle.gtd_records.specs.Closing.{Restriction}
use Rattle.gtd_spans.specs.Change.{IsNextChange, NeverChanges}
use Rattle.gtd_ask.specs.Answers.{IsAnswer, answer_line}
use Rattle.gtd_ask.specs.Group.{group_of}
use Rattle.gtd_ask.specs.Known.{IsGroupOpen, IsKnown}
use Rattle.gtd_ask.specs.declared.held.Known.{Known}
use Rattle.gtd_ask.specs.declared.question.Question.{Question}

pub on_ok : {T E : Type 0} (r : Result T E) (A B : Type 0) → (A → B) → OnOk r A → OnOk r B
on_ok (Ok x) A B f a = f a
on_ok (Err x) A B f a = tt

-- ---- the days

pub in_horizon : (s : ℤ) → IsMomentSecond s → IsHorizonSecond s
in_horizon s range = (range.0, omega (arith, ints, range.1))

moment_day : (s n : ℤ) (k : ℕ) → IsHorizonSecond s → s ≡ pos 86400 *ℤ n +ℤ pos k → k < 86400 → IsCalendarDay n
moment_day s n k range is clock = (omega (arith, ints, range.0, is, clock), omega (arith, ints, range.1, is, clock))

pub day_shown : (s : ℤ) → IsHorizonSecond s → IsCalendarDay (day_of_second s)
day_shown s range = let parts = second-parts s in moment_day s (day_of_second s) (second_of_day s) range parts.0 parts.1

late_day : (s last day : ℤ) (t : ℤ) → IsHorizonSecond s → IsLookEnd day last
    → s <ℤ t → t <ℤ (last *ℤ pos 86400) → IsHorizonSecond t
late_day s last day t range (inl e) later early = (omega (arith, ints, range.0, later), omega (arith, ints, early, e.1))
late_day s last day t range (inr e) later early = (omega (arith, ints, range.0, later), omega (arith, ints, early, e.0))

pub change_day : (set : ℤ → Type 0) (s last : ℤ) (o : Option Sec) → IsHorizonSecond s → IsLookEnd (day_of_second s) last
    → MatchOption o (NeverChanges set s (last *ℤ pos 86400)) (λ c. IsNextChange set s (last *ℤ pos 86400) c.0)
    → MatchOption o ⊤ (λ c. IsCalendarDay (day_of_second c.0))
change_day set s last None range end h = tt
change_day set s last (Some c) range end h =
    day_shown c.0 (late_day s last (day_of_second s) c.0 range end h.later h.within)

-- ---- what it says

pub turned : (b : Bool) (A : Type 0) → IsTrue b ↔ A → IsTrue (not b) ↔ (A → ⊥)
turned true A is = ((λ e. absurd (true≢false (sym e))), (λ h. absurd (h (is.0 refl))))
turned false A is = ((λ e a. true≢false (sym (is.1 a))), (λ h. refl))

same_change : (A : Type 0) (B : ℤ → Type 0) (o : Option Sec) → MatchOption o A (λ c. B c.0) → MatchOption (second_of o) A B
same_change A B None h = h
same_change A B (Some c) h = h

pub line_is : (found : List Restriction) (q : Question) (line : List ℕ) (k : Known)
    → IsKnown found (group_of q) q.second.0 k → line ≡ answer_line q k.is_open (second_of k.change) → IsAnswer found q line
line_is found q line k known is = record {
  is_open = k.is_open;
  state = known.state;
  last = known.last;
  ends = known.ends;
  change = second_of k.change;
  until = same_change (NeverChanges (IsGroupOpen found (group_of q)) q.second.0 (known.last *ℤ pos 86400))
      (λ c. IsNextChange (IsGroupOpen found (group_of q)) q.second.0 (known.last *ℤ pos 86400) c) k.change known.until;
  whole = is;
}

-- ---- how long it is

length-state : (b : Bool) → length (state_word b) ≤ 6
length-state true = omega arith
length-state false = omega arith

length-stamp : (t : ℤ) → length (stamp_text t) ≡ 19
length-stamp t = refl

length-change : (o : Option ℤ) → length (change_text o) ≤ 19
length-change None = omega arith
length-change (Some t) = let l = length-stamp t in omega arith

-- a line, made part by part
pub short_line : (t : ℤ) (b : Bool) (o : Option ℤ) (one two three four : List ℕ) → length one ≤ 34
    → two ≡ one ++ (stamp_text t ++ (44 ∷ []))
    → three ≡ two ++ (state_word b ++ (44 ∷ [])) → four ≡ three ++ (change_text o ++ (10 ∷ [])) → length four ≤ 100
short_line t b o one two three four head f g h =
    let l2 = ap length f ∙ length-append one (stamp_text t ++ (44 ∷ [])) in
    let s2 = length-append (stamp_text t) (44 ∷ []) in
    let m = length-stamp t in
    let l3 = ap length g ∙ length-append two (state_word b ++ (44 ∷ [])) in
    let s3 = length-append (state_word b) (44 ∷ []) in
    let w = length-state b in
    let l4 = ap length h ∙ length-append three (change_text o ++ (10 ∷ [])) in
    let s4 = length-append (change_text o) (10 ∷ []) in
    let c = length-change o in
    omega (arith, head, l2, s2, m, l3, s3, w, l4, s4, c)
