-- An element has at most one state.
use Rattle.std.proofs.Common.{◌≡◌, sym, ap, refl, subst, arith, inl, inr, ◌↔◌, ℕ, Bool, true, false, List}
use Rattle.std.proofs.Common.{Option, Some, None}
use Rattle.std.specs.Prelude.{ℤ, pos, ◌*ℤ◌, IsTrue, MatchOption}
use Rattle.std.proofs.lemmas.Int.{ints, by_lt_z}
use Rattle.gtd_core.specs.Seconds.{day_of_second}
use Rattle.gtd_records.specs.Closing.{IsOpen, Restriction}
use Rattle.gtd_rows.specs.declared.direction.Direction.{Direction}
use Rattle.gtd_report.specs.facts.SomeClosingRows.{one_rows}
use Rattle.gtd_spans.specs.Change.{IsNextChange, NeverChanges}
use Rattle.gtd_states.specs.States.{IsLookEnd, IsState, State}

pub one_truth : (A : Type 0) (a b : Bool) → IsTrue a ↔ A → IsTrue b ↔ A → a ≡ b
one_truth A true true p q = refl
one_truth A true false p q = absurd (let h = q.1 (p.0 refl) in cc)
one_truth A false true p q = absurd (let h = p.1 (q.0 refl) in cc)
one_truth A false false p q = refl

pub one_last : (day a b : ℤ) → IsLookEnd day a → IsLookEnd day b → a ≡ b
one_last day a b (inl p) (inl q) = omega (arith, ints, p.0, q.0)
one_last day a b (inl p) (inr q) = absurd (omega (arith, ints, p.0, p.1, q.1))
one_last day a b (inr p) (inl q) = absurd (omega (arith, ints, q.0, q.1, p.1))
one_last day a b (inr p) (inr q) = omega (arith, ints, p.0, q.0)

pub one_change : (set : ℤ → Type 0) (s until : ℤ) (a b : Option ℤ)
    → MatchOption a (NeverChanges set s until) (λ c. IsNextChange set s until c)
    → MatchOption b (NeverChanges set s until) (λ c. IsNextChange set s until c) → a ≡ b
one_change set s until None None p q = refl
one_change set s until None (Some d) p q = absurd (q.differs (p d q.later q.within))
one_change set s until (Some c) None p q = absurd (p.differs (q c p.later p.within))
one_change set s until (Some c) (Some d) p q =
    by_lt_z c d
    (λ lt. absurd (p.differs (q.least c p.later lt)))
    (λ ge. by_lt_z d c
    (λ lt. absurd (q.differs (p.least d q.later lt)))
    (λ le. let e : c ≡ d = omega (arith, ints, ge, le) in ap (λ (x : ℤ). Some x) e))

abbrev state_with : Bool → Option ℤ → List ℕ → State
state_with is_open change rows = record { is_open = is_open; change = change; rows = rows }

-- states are equal if their parts are
same_parts : (a b : Bool) (c d : Option ℤ) (e f : List ℕ) → a ≡ b → c ≡ d → e ≡ f
    → state_with a c e ≡ state_with b d f
same_parts a b c d e f p q r = rw (p, q, r) refl

pub one_state : (found : List Restriction) (element : ℕ) (direction : Direction) (vehicle : ℕ) (second : ℤ) (a b : State)
    → IsState found element direction vehicle second a → IsState found element direction vehicle second b → a ≡ b
one_state found element direction vehicle second a b p q =
    let set = IsOpen found element direction vehicle in
    let last = one_last (day_of_second second) p.last q.last p.ends q.ends in
    same_parts a.is_open b.is_open a.change b.change a.rows b.rows
    (one_truth (set second) a.is_open b.is_open p.opens q.opens)
    (one_change set second (p.last *ℤ pos 86400) a.change b.change p.until
    (subst (λ (l : ℤ). MatchOption b.change (NeverChanges set second (l *ℤ pos 86400))
    (λ c. IsNextChange set second (l *ℤ pos 86400) c)) (sym last) q.until))
    (one_rows found element direction vehicle second a.rows b.rows p.closing q.closing)
