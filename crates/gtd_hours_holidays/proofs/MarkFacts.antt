-- Marks that are set, and the days that they stand for.
use Rattle.std.proofs.Common.{◌≡◌, ◌∙◌, sym, refl, subst, arith, ◌<◌, ◌≤◌, ◌⊎◌, inl, inr, ◌↔◌, ℕ, Bool, true, false}
use Rattle.std.proofs.Common.{List, length, get_or, ◌+◌, ℤ, pos, ◌+ℤ◌, ◌-ℤ◌, ◌≤ℤ◌, ◌<ℤ◌, unsigned_abs}
use Rattle.std.proofs.lemmas.Bool.{cases_lt, cases_order}
use Rattle.std.proofs.lemmas.Int.{by_lt_z}
use Rattle.std.proofs.lemmas.List.{get_or-set_same, get_or-set_other}
use Rattle.std.proofs.Math.ListN.{set}
use Rattle.gtd_calendar.specs.Calendar.{IsCalendarDay}
use Rattle.gtd_calendar.specs.facts.Signed.{signed_arith, one_part}
use Rattle.gtd_hours_holidays.specs.Days.{AreAll, AreNone, IsFirst, IsFirstWithout, IsIn}
use Rattle.gtd_hours_holidays.specs.Marks.{AreMarked, IsFirstMark}
use Rattle.gtd_hours_holidays.specs.declared.days.Days.{Days}

-- ---- marks

pub none_marked : (xs : List Bool) (first : ℕ) → AreMarked xs xs first first
none_marked xs first k = (inl, back)
  where
    back : (get_or xs k false ≡ true) ⊎ ((first ≤ k) × (k < first)) → get_or xs k false ≡ true
    back (inl h) = h
    back (inr h) = let a = h.0 in let b = h.1 in absurd (omega (arith, a, b))

-- a mark that is not the one that was made says what it did
other_mark : (old now : List Bool) (first at k : ℕ) → AreMarked old now first at → (k < at + 1 → k < at)
    → get_or (set now at true) k false ≡ get_or now k false
    → (get_or (set now at true) k false ≡ true) ↔ ((get_or old k false ≡ true) ⊎ ((first ≤ k) × (k < at + 1)))
other_mark old now first at k are less same =
    ((λ h. wider ((are k).0 (sym same ∙ h))), (λ h. same ∙ (are k).1 (closer h)))
  where
    wider : (get_or old k false ≡ true) ⊎ ((first ≤ k) × (k < at))
        → (get_or old k false ≡ true) ⊎ ((first ≤ k) × (k < at + 1))
    wider (inl h) = inl h
    wider (inr h) = inr (h.0, (let lt = h.1 in omega (arith, lt)))

    closer : (get_or old k false ≡ true) ⊎ ((first ≤ k) × (k < at + 1))
        → (get_or old k false ≡ true) ⊎ ((first ≤ k) × (k < at))
    closer (inl h) = inl h
    closer (inr h) = inr (h.0, less h.1)

pub marked_more : (old now : List Bool) (first at : ℕ) → AreMarked old now first at → first ≤ at → at < length now
    → AreMarked old (set now at true) first (at + 1)
marked_more old now first at are from inside k = elim (cases_order k at) [
  | inl e ↦ (
    (λ h. inr (omega (arith, e, from), omega (arith, e))),
    (λ h. rw e (get_or-set_same now at true false inside)),
  )
  | inr (inl lt) ↦ other_mark old now first at k are (λ h. lt)
      (get_or-set_other now at k true false (λ e. absurd (omega (arith, e, lt))))
  | inr (inr gt) ↦ other_mark old now first at k are (λ h. absurd (omega (arith, h, gt)))
      (get_or-set_other now at k true false (λ e. absurd (omega (arith, e, gt))))
]

-- all are made
pub marked_all : (old now : List Bool) (first until at : ℕ) → AreMarked old now first at → until ≤ at
    → (first < until → at ≤ until) → (until ≤ first → at ≡ first) → AreMarked old now first until
marked_all old now first until at are done short empty = elim (cases_lt first until) [
  | inl some ↦ (let e : at ≡ until = (let h = short some in omega (arith, done, h)) in subst (AreMarked old now first) e are)
  | inr none ↦ (λ k. ((λ h. only k none ((are k).0 h)), (λ h. (are k).1 (apart k none h))))
]
  where
    only : (k : ℕ) → until ≤ first → (get_or old k false ≡ true) ⊎ ((first ≤ k) × (k < at))
        → (get_or old k false ≡ true) ⊎ ((first ≤ k) × (k < until))
    only k none (inl h) = inl h
    only k none (inr h) =
        let e = empty none in
        let a = h.0 in
        let b = h.1 in
        absurd (omega (arith, e, a, b))

    apart : (k : ℕ) → until ≤ first → (get_or old k false ≡ true) ⊎ ((first ≤ k) × (k < until))
        → (get_or old k false ≡ true) ⊎ ((first ≤ k) × (k < at))
    apart k none (inl h) = inl h
    apart k none (inr h) = let a = h.0 in let b = h.1 in absurd (omega (arith, none, a, b))

-- ---- days

-- a day from one on is so many days after it
after : (a n : ℤ) → a ≤ℤ n → (k : ℕ) × (n ≡ a +ℤ pos k)
after a n h = (unsigned_abs (n -ℤ a), (let p = one_part (n -ℤ a) in omega (arith, signed_arith, h, p)))

same_place : (a : ℤ) (i k : ℕ) → a +ℤ pos i ≡ a +ℤ pos k → i ≡ k
same_place a i k h = omega (arith, signed_arith, h)

-- the mark of a day says whether it is in the set
pub at_place : (days : Days) (p : ℕ) (n : ℤ) → IsCalendarDay n → n ≡ days.first +ℤ pos p
    → (get_or days.marks.items p false ≡ true) ↔ IsIn days n
at_place days p n day e = (
  (λ h. (day, p, e, h)),
  (λ h. let same : h.1 ≡ p = same_place days.first h.1 p (sym h.2 ∙ e) in
      subst (λ (k : ℕ). get_or days.marks.items k false ≡ true) same h.3),
)

-- a day before the first one is not in the set
pub not_before : (days : Days) (n : ℤ) → n <ℤ days.first → IsIn days n → ⊥
not_before days n lt h = apart days.first n h.1 h.2 lt
  where
    apart : (a n : ℤ) (k : ℕ) → n ≡ a +ℤ pos k → n <ℤ a → ⊥
    apart a n k e lt = omega (arith, signed_arith, e, lt)

-- the day is marked, where marks count from a first day
abbrev pub IsMarkedDay : ℤ → List Bool → ℤ → Type 0
IsMarkedDay base marks n = IsCalendarDay n × (k : ℕ) × (n ≡ base +ℤ pos k) × (get_or marks k false ≡ true)

-- the days from one to another are added
module _ (base : ℤ) (old grown new : List Bool) (p q : ℕ) (first last : ℤ) (first_in : IsCalendarDay first)
    (last_in : IsCalendarDay last) (begun : base ≤ℤ first)
    (same : (k : ℕ) → get_or grown k false ≡ get_or old k false)
    (are : AreMarked grown new p (q + 1)) (from : first ≡ base +ℤ pos p) (to : last ≡ base +ℤ pos q) where
  there : (n : ℤ) (day : IsCalendarDay n) (k : ℕ) → n ≡ base +ℤ pos k
      → (get_or grown k false ≡ true) ⊎ ((p ≤ k) × (k < q + 1)) → IsMarkedDay base old n ⊎ ((first ≤ℤ n) × (n ≤ℤ last))
  there n day k e (inl h) = inl (day, k, e, sym (same k) ∙ h)
  there n day k e (inr h) =
      let a = h.0 in
      let b = h.1 in
      inr (omega (arith, signed_arith, from, e, a), omega (arith, signed_arith, to, e, b))

  back : (n : ℤ) → IsMarkedDay base old n ⊎ ((first ≤ℤ n) × (n ≤ℤ last)) → IsMarkedDay base new n
  back n (inl h) = (h.0, h.1, h.2, (are h.1).1 (inl (same h.1 ∙ h.3)))
  back n (inr h) =
      let a = h.0 in
      let b = h.1 in
      let low = first_in.0 in
      let high = last_in.1 in
      let k = after base n (omega (arith, signed_arith, begun, a)) in
      let e = k.1 in (
        (omega (arith, signed_arith, low, a), omega (arith, signed_arith, high, b)),
        k.0,
        e,
        (are k.0).1 (inr (omega (arith, signed_arith, from, e, a), omega (arith, signed_arith, to, e, b))),
      )

  pub days_added : (n : ℤ) → IsMarkedDay base new n ↔ (IsMarkedDay base old n ⊎ ((first ≤ℤ n) × (n ≤ℤ last)))
  days_added n = ((λ h. there n h.0 h.1 h.2 ((are h.1).0 h.3)), back n)

-- ---- the first day in a set, or not in it

not_both : (b : Bool) → b ≡ false → b ≡ true → ⊥
not_both b e f = cc

one_of_both : (b : Bool) → (b ≡ false → ⊥) → b ≡ true
one_of_both true h = refl
one_of_both false h = absurd (h refl)

-- the days before the first one are not looked at
module _ (days : Days) (from begin to : ℤ)
    (low : (from ≤ℤ begin) × (days.first ≤ℤ begin) × ((begin ≡ from) ⊎ (begin ≡ days.first))) where
  pub begin_in : IsCalendarDay from → IsCalendarDay begin
  begin_in from_in = elim (low.2) [ inl e ↦ rw e from_in | inr e ↦ rw e days.first_in ]

  none_earlier : (n : ℤ) → from ≤ℤ n → n <ℤ begin → IsIn days n → ⊥
  none_earlier n above lt h = elim (low.2) [
    | inl e ↦ omega (arith, signed_arith, e, above, lt)
    | inr e ↦ not_before days n (omega (arith, signed_arith, e, lt)) h
  ]

  pub none_after : AreNone (IsIn days) begin to → AreNone (IsIn days) from to
  none_after none n above below h =
      by_lt_z n begin (λ lt. none_earlier n above lt h) (λ ge. none n ge below h)

  pub first_after : (day : ℤ) → IsFirst (IsIn days) begin to day → IsFirst (IsIn days) from to day
  first_after day f = let p = low.0 in let q = f.after in record {
    after = omega (arith, signed_arith, p, q);
    before = f.before;
    holds = f.holds;
    earlier = λ n above lt h. by_lt_z n begin (λ less. none_earlier n above less h) (λ ge. f.earlier n ge lt h);
  }

module _ (days : Days) (p q : ℕ) (from to : ℤ) (from_in : IsCalendarDay from) (to_in : IsCalendarDay to)
    (begins : from ≡ days.first +ℤ pos p) (ends : to ≡ days.first +ℤ pos q) where
  -- the place of a day between them
  placed : (n : ℤ) → from ≤ℤ n → n ≤ℤ to
      → (k : ℕ) × IsCalendarDay n × (n ≡ days.first +ℤ pos k) × (p ≤ k) × (k < q + 1)
  placed n low high =
      let first = from_in.0 in
      let last = to_in.1 in
      let k = after days.first n (omega (arith, signed_arith, begins, low)) in
      let e = k.1 in (
        k.0,
        (omega (arith, signed_arith, first, low), omega (arith, signed_arith, last, high)),
        e,
        omega (arith, signed_arith, begins, e, low),
        omega (arith, signed_arith, ends, e, high),
      )

  pub none_in : ((k : ℕ) → p ≤ k → k < q + 1 → get_or days.marks.items k false ≡ true → ⊥) → AreNone (IsIn days) from to
  none_in none n low high is =
      let k = placed n low high in none k.0 k.3 k.4 ((at_place days k.0 n k.1 k.2).1 is)

  pub all_in : ((k : ℕ) → p ≤ k → k < q + 1 → get_or days.marks.items k false ≡ false → ⊥) → AreAll (IsIn days) from to
  all_in all n low high =
      let k = placed n low high in
      (at_place days k.0 n k.1 k.2).0 (one_of_both (get_or days.marks.items k.0 false) (all k.0 k.3 k.4))

  module _ (at : ℕ) (day : ℤ) (is : day ≡ days.first +ℤ pos at) (day_in : IsCalendarDay day) where
    -- a day before that one
    earlier : (n : ℤ) → from ≤ℤ n → n <ℤ day → at < q + 1
        → (k : ℕ) × IsCalendarDay n × (n ≡ days.first +ℤ pos k) × (p ≤ k) × (k < at)
    earlier n low high before =
        let k = placed n low (omega (arith, signed_arith, is, ends, before, high)) in
        let e = k.2 in
        (k.0, k.1, e, k.3, omega (arith, signed_arith, is, e, high))

    pub first_in : IsFirstMark days.marks.items p (q + 1) true at → IsFirst (IsIn days) from to day
    first_in f = let low = f.after in let high = f.before in record {
      after = omega (arith, signed_arith, begins, is, low);
      before = omega (arith, signed_arith, ends, is, high);
      holds = (at_place days at day day_in is).0 f.here;
      earlier = λ n below lt in_set.
          let k = earlier n below lt high in f.earlier k.0 k.3 k.4 ((at_place days k.0 n k.1 k.2).1 in_set);
    }

    pub first_missing : IsFirstMark days.marks.items p (q + 1) false at → IsFirstWithout (IsIn days) from to day
    first_missing f = let low = f.after in let high = f.before in record {
      after = omega (arith, signed_arith, begins, is, low);
      before = omega (arith, signed_arith, ends, is, high);
      fails = λ in_set. not_both (get_or days.marks.items at false) f.here ((at_place days at day day_in is).1 in_set);
      earlier = λ n below lt.
          let k = earlier n below lt high in
          (at_place days k.0 n k.1 k.2).0 (one_of_both (get_or days.marks.items k.0 false) (f.earlier k.0 k.3 k.4));
    }
