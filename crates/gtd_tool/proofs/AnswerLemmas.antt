-- What is printed of a domain.
use Rattle.std.proofs.Common.{◌≡◌, ◌∙◌, inl, inr, ℕ, List, ◌++◌, codes, Option, Some, None, sym, ap, subst, arith}
use Rattle.std.proofs.Common.{append_assoc, ◌<◌}
use Rattle.std.specs.Prelude.{Result, Ok, Err, OnOk, OnErr, IfErr, IfSome, MatchOption, ◌↔◌, ℤ, pos, ◌+ℤ◌, ◌-ℤ◌, ◌*ℤ◌, ◌≤ℤ◌}
use Rattle.std.specs.Prelude.{◌<ℤ◌}
use Rattle.std.specs.Io.KnownBytes.{Appends}
use Rattle.std.proofs.lemmas.Int.{ints, by_lt_z}
use Rattle.gtd_core.specs.Trees.{Tree}
use Rattle.gtd_core.specs.declared.second.Sec.{Sec}
use Rattle.gtd_calendar.specs.Calendar.{IsCalendarDay}
use Rattle.gtd_core.specs.Seconds.{IsMomentSecond, day_of_second, IsHorizonSecond}
use Rattle.gtd_calendar.specs.Clock.{second_of_day}
use Rattle.gtd_calendar.specs.Stamp.{stamp_text}
use Rattle.gtd_calendar.specs.facts.ClockLemmas.{second-parts}
use Rattle.gtd_spans.specs.Change.{NeverChanges, IsNextChange, SameAt}
use Rattle.gtd_eval.specs.Ever.{NeverChangesAfter, IsFirstChange, cycle}
use Rattle.gtd_eval.specs.Membership.{InTree, SomeGivesYear}
use Rattle.gtd_eval.specs.facts.Repeats.{tree-repeats, first-of-next}
use Rattle.gtd_tool.specs.Asked.{Asked, Check, Canon, At, Next, Ever, Schedule, Year, Migrate}
use Rattle.gtd_tool.specs.Answers.{IsChange, IsChangeOr, IsState}
use Rattle.gtd_tool.specs.Printed.{AppendsLine, AppendsPartOfLine, IsAnswer}
use Rattle.gtd_tool.specs.CutShort.{IsCutShort}
use Rattle.gtd_tool.specs.Writing.{AppendsPart}
use Rattle.gtd_tool.proofs.WritingLemmas.{part_none}
use Rattle.gtd_tool.specs.declared.refusal.Refusal.{Refusal}
use Rattle.gtd_tool.specs.declared.refusal.Refusal.TheVariants as refusal

-- ---- one answer

one_state : (d : Tree) (t : ℤ) (a b : List ℕ) → IsState d t a → IsState d t b → a ≡ b
one_state d t a b (inl p) (inl q) = p.1 ∙ sym q.1
one_state d t a b (inl p) (inr q) = absurd (q.0 p.0)
one_state d t a b (inr p) (inl q) = absurd (p.0 q.0)
one_state d t a b (inr p) (inr q) = p.1 ∙ sym q.1

one_change_at : (d : Tree) (t : ℤ) (a b : List ℕ) → IsChange d t a → IsChange d t b → a ≡ b
one_change_at d t a b (x, p, is) (y, q, is2) =
    is ∙ ap (λ (s : List ℕ). stamp_text t ++ (codes " " ++ s)) (one_state d t x y p q) ∙ sym is2

one_change : (d : Tree) (t u : ℤ) (a b : List ℕ) → t ≡ u → IsChange d t a → IsChange d u b → a ≡ b
one_change d t u a b e p q = one_change_at d u a b (subst (λ (x : ℤ). IsChange d x a) e p) q

between : (c d : ℤ) → c ≤ℤ d → d ≤ℤ c → c ≡ d
between c d a b = omega (arith, ints, a, b)

one_first : (set : ℤ → Type 0) (s c d : ℤ) → IsFirstChange set s c → IsFirstChange set s d → c ≡ d
one_first set s c d p q =
    by_lt_z c d (λ lt. absurd (p.differs (q.least c p.later lt)))
    (λ ge. by_lt_z d c (λ lt. absurd (q.differs (p.least d q.later lt))) (λ le. between c d le ge))

pub one_answer : (asked : Asked) (a b : List ℕ) → IsAnswer asked a → IsAnswer asked b → a ≡ b
one_answer (Check d) a b p q = p ∙ sym q
one_answer (Canon d) a b p q = p ∙ sym q
one_answer (At d m) a b p q = one_state d m.0 a b p q
one_answer (Next d m to) a b (inl (t, p, x)) (inl (u, q, y)) =
    one_change d t u a b (one_first (InTree d) m.0 t u (first-of-next (InTree d) m.0 (to *ℤ pos 86400) t p)
    (first-of-next (InTree d) m.0 (to *ℤ pos 86400) u q)) x y
one_answer (Next d m to) a b (inl (t, p, x)) (inr q) = absurd (p.differs (q.0 t p.later p.within))
one_answer (Next d m to) a b (inr p) (inl (u, q, y)) = absurd (q.differs (p.0 u q.later q.within))
one_answer (Next d m to) a b (inr p) (inr q) = p.1 ∙ sym q.1
one_answer (Ever d m) a b (inl (t, p, x)) (inl (u, q, y)) = one_change d t u a b (one_first (InTree d) m.0 t u p q) x y
one_answer (Ever d m) a b (inl (t, p, x)) (inr q) = absurd (p.differs (q.0 t p.later))
one_answer (Ever d m) a b (inr p) (inl (u, q, y)) = absurd (q.differs (p.0 u q.later))
one_answer (Ever d m) a b (inr p) (inr q) = p.1 ∙ sym q.1
one_answer (Schedule file h v) a b p q = absurd p
one_answer (Year file e d v y) a b p q = absurd p
one_answer (Migrate file) a b p q = absurd p

-- ---- ranges

day_in : (t n : ℤ) (k : ℕ) → IsHorizonSecond t → t ≡ pos 86400 *ℤ n +ℤ pos k → k < 86400 → IsCalendarDay n
day_in t n k h e low = (omega (arith, ints, h.0, e, low), omega (arith, ints, h.1, e))

pub calendar_day : (t : ℤ) → IsHorizonSecond t → IsCalendarDay (day_of_second t)
calendar_day t h = let parts = second-parts t in day_in t (day_of_second t) (second_of_day t) h parts.0 parts.1

-- a set that repeats changes within one cycle, if ever
first_within : (set : ℤ → Type 0) → ((t : ℤ) → set t ↔ set (t +ℤ cycle)) → (s c : ℤ) → IsFirstChange set s c → c ≤ℤ (s +ℤ cycle)
first_within set repeats s c h = by_lt_z (s +ℤ cycle) c (λ lt. absurd (h.differs (same lt))) (λ le. le)
  where
    same : (s +ℤ cycle) <ℤ c → SameAt set s c
    same lt =
        let near = h.least (c -ℤ cycle) (omega (arith, ints, lt)) (omega (arith, ints)) in
        let far = repeats (c -ℤ cycle) in
        let e : (c -ℤ cycle) +ℤ cycle ≡ c = omega (arith, ints) in
        ((λ x. subst set e (far.0 (near.0 x))), (λ x. near.1 (far.1 (subst set (sym e) x))))

moment_later : (s c : ℤ) → IsMomentSecond s → s <ℤ c → c ≤ℤ (s +ℤ cycle) → IsHorizonSecond c
moment_later s c m lt le = (omega (arith, ints, m.0, lt), omega (arith, ints, m.1, le))

pub ever_in_range : (d : Tree) (s : ℤ) (o : Option Sec) → IsMomentSecond s → (SomeGivesYear d → ⊥)
    → MatchOption o (NeverChangesAfter (InTree d) s) (λ c. IsFirstChange (InTree d) s c.0) → IfSome o (λ c. IsHorizonSecond c.0)
ever_in_range d s None m none h = tt
ever_in_range d s (Some c) m none h =
    moment_later s c.0 m h.later (first_within (InTree d) (λ t. tree-repeats d t none) s c.0 h)

-- ---- lines

pub on_ok : {A E : Type 0} (r : Result A E) (P Q : Type 0) → (P → Q) → OnOk r P → OnOk r Q
on_ok (Ok x) P Q f h = f h
on_ok (Err e) P Q f h = tt

pub on_err : {A E : Type 0} (r : Result A E) (P Q : Type 0) → (P → Q) → OnErr r P → OnErr r Q
on_err (Ok x) P Q f h = tt
on_err (Err e) P Q f h = f h

same_line : (stamp state : List ℕ) → (stamp ++ (codes " " ++ state)) ++ codes "\n" ≡ stamp ++ (codes " " ++ (state ++ codes "\n"))
same_line stamp state = append_assoc stamp (codes " " ++ state) (codes "\n")

is_change : (d : Tree) (t : ℤ) (stamp state : List ℕ) → stamp ≡ stamp_text t → IsState d t state
    → IsChange d t (stamp ++ (codes " " ++ state))
is_change d t stamp state e h = (state, h, ap (λ (s : List ℕ). s ++ (codes " " ++ state)) e)

pub change_line : (d : Tree) (t : ℤ) (stamp state : List ℕ) (old new : Option (List ℕ)) → stamp ≡ stamp_text t → IsState d t state
    → Appends old new (stamp ++ (codes " " ++ (state ++ codes "\n"))) → AppendsLine (IsChange d t) old new
change_line d t stamp state old new e h all =
    (stamp ++ (codes " " ++ state), is_change d t stamp state e h, subst (Appends old new) (sym (same_line stamp state)) all)

pub change_part : (d : Tree) (t : ℤ) (stamp state : List ℕ) (old new : Option (List ℕ)) → stamp ≡ stamp_text t → IsState d t state
    → AppendsPart old new (stamp ++ (codes " " ++ (state ++ codes "\n"))) → AppendsPartOfLine (IsChange d t) old new
change_part d t stamp state old new e h part =
    (stamp ++ (codes " " ++ state), is_change d t stamp state e h, subst (AppendsPart old new) (sym (same_line stamp state)) part)

next_is : (d : Tree) (m : Sec) (to : ℤ) (o : Option Sec) (answer : List ℕ)
    → MatchOption o (NeverChanges (InTree d) m.0 (to *ℤ pos 86400)) (λ c. IsNextChange (InTree d) m.0 (to *ℤ pos 86400) c.0)
    → IsChangeOr (codes "none") d o answer → IsAnswer (Next d m to) answer
next_is d m to None answer h is = inr (h, is)
next_is d m to (Some c) answer h is = inl (c.0, h, is)

pub next_line : (d : Tree) (m : Sec) (to : ℤ) (o : Option Sec) (old new : Option (List ℕ))
    → MatchOption o (NeverChanges (InTree d) m.0 (to *ℤ pos 86400)) (λ c. IsNextChange (InTree d) m.0 (to *ℤ pos 86400) c.0)
    → AppendsLine (IsChangeOr (codes "none") d o) old new → AppendsLine (IsAnswer (Next d m to)) old new
next_line d m to o old new h (answer, is, all) = (answer, next_is d m to o answer h is, all)

pub next_part : (d : Tree) (m : Sec) (to : ℤ) (o : Option Sec) (old new : Option (List ℕ))
    → MatchOption o (NeverChanges (InTree d) m.0 (to *ℤ pos 86400)) (λ c. IsNextChange (InTree d) m.0 (to *ℤ pos 86400) c.0)
    → AppendsPartOfLine (IsChangeOr (codes "none") d o) old new → AppendsPartOfLine (IsAnswer (Next d m to)) old new
next_part d m to o old new h (answer, is, part) = (answer, next_is d m to o answer h is, part)

ever_is : (d : Tree) (m : Sec) (o : Option Sec) (answer : List ℕ)
    → MatchOption o (NeverChangesAfter (InTree d) m.0) (λ c. IsFirstChange (InTree d) m.0 c.0)
    → IsChangeOr (codes "never") d o answer → IsAnswer (Ever d m) answer
ever_is d m None answer h is = inr (h, is)
ever_is d m (Some c) answer h is = inl (c.0, h, is)

pub ever_line : (d : Tree) (m : Sec) (o : Option Sec) (old new : Option (List ℕ))
    → MatchOption o (NeverChangesAfter (InTree d) m.0) (λ c. IsFirstChange (InTree d) m.0 c.0)
    → AppendsLine (IsChangeOr (codes "never") d o) old new → AppendsLine (IsAnswer (Ever d m)) old new
ever_line d m o old new h (answer, is, all) = (answer, ever_is d m o answer h is, all)

pub ever_part : (d : Tree) (m : Sec) (o : Option Sec) (old new : Option (List ℕ))
    → MatchOption o (NeverChangesAfter (InTree d) m.0) (λ c. IsFirstChange (InTree d) m.0 c.0)
    → AppendsPartOfLine (IsChangeOr (codes "never") d o) old new → AppendsPartOfLine (IsAnswer (Ever d m)) old new
ever_part d m o old new h (answer, is, part) = (answer, ever_is d m o answer h is, part)

pub stop_of_write : {A : Type 0} (asked : Asked) (old new : Option (List ℕ)) (unwritten : Type 0) (r : Result A Refusal)
    → OnErr r (AppendsPartOfLine (IsAnswer asked) old new) → IfErr r (λ e. e ≡ refusal.Write)
    → IfErr r (IsCutShort asked old new unwritten)
stop_of_write asked old new unwritten (Ok x) part is = tt
stop_of_write asked old new unwritten (Err e) part is = subst (IsCutShort asked old new unwritten) (sym is) part

-- whichever answer it is, the writer has taken a first part of its line
pub part_of_any : {A X : Type 0} (asked : Asked) (known : X → Option (List ℕ)) (old new : X) (r : Result A Refusal)
    → IfErr r (IsCutShort asked (known old) (known new) (new ≡ old))
    → OnErr r ((answer : List ℕ) → IsAnswer asked answer → AppendsPart (known old) (known new) (answer ++ codes "\n"))
part_of_any asked known old new (Ok x) h = tt
part_of_any asked known old new (Err refusal.Write) h = λ answer is.
    subst (λ (a : List ℕ). AppendsPart (known old) (known new) (a ++ codes "\n")) (one_answer asked h.0 answer h.1 is) h.2
part_of_any asked known old new (Err refusal.Memory) h = λ answer is.
    subst (λ (x : _). AppendsPart (known old) (known x) (answer ++ codes "\n")) (sym h.0)
    (part_none (known old) (answer ++ codes "\n"))
part_of_any asked known old new (Err refusal.HasYear) h = λ answer is.
    subst (λ (x : _). AppendsPart (known old) (known x) (answer ++ codes "\n")) (sym h.0)
    (part_none (known old) (answer ++ codes "\n"))
part_of_any asked known old new (Err refusal.Usage) h = absurd h
part_of_any asked known old new (Err (refusal.Text f)) h = absurd h
part_of_any asked known old new (Err (refusal.Moment f)) h = absurd h
part_of_any asked known old new (Err (refusal.Date f)) h = absurd h
part_of_any asked known old new (Err (refusal.Horizon f)) h = absurd h
part_of_any asked known old new (Err refusal.VehicleRange) h = absurd h
part_of_any asked known old new (Err refusal.YearRange) h = absurd h
part_of_any asked known old new (Err refusal.NoElement) h = absurd h
part_of_any asked known old new (Err (refusal.Records f)) h = absurd h
part_of_any asked known old new (Err refusal.Open) h = absurd h
