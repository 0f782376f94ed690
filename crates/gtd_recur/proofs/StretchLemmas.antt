-- The runs that the stretches of starts make.
use Rattle.std.proofs.Common.{◌≡◌, ◌⊎◌, ◌↔◌, is_gt, int_cmp, true, false, List, [], ◌∷◌, Option, Some, None, ap, ◌∙◌, inl}
use Rattle.std.proofs.Common.{inr, arith, ℤ, ◌-ℤ◌, ◌<ℤ◌, ◌≤ℤ◌, ◌&&◌, unsigned_abs}
use Rattle.std.specs.Prelude.{int_le, int_lt, MatchOption}
use Rattle.std.specs.Bool.{Decides}
use Rattle.std.proofs.lemmas.Int.{ints, by_lt_z}
use Rattle.gtd_calendar.specs.facts.Signed.{signed_arith}
use Rattle.gtd_core.specs.declared.duration.DurationParts.{DurationParts}
use Rattle.gtd_core.specs.declared.domain.Op.TheVariants.{Union}
use Rattle.gtd_core.specs.Seconds.{Interval}
use Rattle.gtd_calendar.specs.ComputedEnds.{stop}
use Rattle.gtd_spans.specs.Normal.{Holds, AllBeginAfter, IsNormal}
use Rattle.gtd_spans.specs.facts.Combining.{combined-decides}
use Rattle.gtd_spans.specs.facts.Exists.{normal_list-holds}
use Rattle.gtd_spans.specs.facts.OneList.{one-list}
use Rattle.gtd_recur.specs.Ascending.{AllAfter}
use Rattle.gtd_recur.specs.Stretches.{HeldBy, held_by, runs_between, IsCut, IsRun, IsLater, IsEarlier}
use Rattle.gtd_recur.specs.facts.StretchFacts.{runs_between-normal}
use Rattle.gtd_recur.specs.facts.StartsLemmas.{later_by}

stretch-decides : (b e t : ℤ) → Decides (int_le b t && int_lt t e) ((b ≤ℤ t) × (t <ℤ e))
stretch-decides b e t = grind (arith, ints)

pub held_by-decides : (p : DurationParts) (bs : List ℤ) (t : ℤ) → Decides (held_by p bs t) (HeldBy p bs t)
held_by-decides p [] t = ((λ h. let b : false ≡ true = h in cc), (λ h. absurd h))
held_by-decides p (b ∷ bs) t = combined-decides Union _ _ _ _ (stretch-decides b (stop p b) t) (held_by-decides p bs t)

pub runs_between-holds : (p : DurationParts) (bs : List ℤ) (from until t : ℤ) → from ≤ℤ until
    → Holds (runs_between p bs from until) t ↔ ((from ≤ℤ t) × (t <ℤ until) × HeldBy p bs t)
unfolding runs_between
runs_between-holds p bs from until t le =
    let d = held_by-decides p bs t in
    let i = normal_list-holds (held_by p bs) from (unsigned_abs (until -ℤ from)) t in
    let e = later_by from until le in
    ((λ h. ((i.0 h).0, rw (← e) at (i.0 h).1, d.0 (i.0 h).2)), (λ h. i.1 (h.0, rw (← e) h.1, d.1 h.2)))

-- no stretch holds a second up to which none begins
pub held-after : (p : DurationParts) (b t : ℤ) (bs : List ℤ) → AllAfter b bs → HeldBy p bs t → b <ℤ t
held-after p b t [] a h = absurd h
held-after p b t (x ∷ xs) a h = elim h [ inl w ↦ omega (arith, signed_arith, a.0, w.0) | inr r ↦ held-after p b t xs a.1 r ]

begin-after : (u : ℤ) (xs : List Interval) → IsNormal xs → ((t : ℤ) → Holds xs t → u <ℤ t) → AllBeginAfter u xs
begin-after u [] n h = tt
begin-after u (x ∷ xs) n h = (h x.from (inl (omega (arith, signed_arith), n.0)), begin-after u xs n.2 (λ t k. h t (inr k)))

-- a run that is in the horizon comes first
pub run-first : (p : DurationParts) (before after : List ℤ) (from until first end : ℤ) (x : Interval) → from ≤ℤ until
    → IsRun p before after first end → AllAfter end after
    → IsCut from until first end (Some x) → runs_between p before from until ≡ x ∷ runs_between p after from until
run-first p before after from until first end x le run a cut =
    let rest = runs_between-normal p after from until in
    let gap = begin-after x.until (runs_between p after from until) rest (λ t h.
    let late = held-after p end t after a ((runs_between-holds p after from until t le).0 h).2 in
    omega (arith, signed_arith, late, cut.2)) in
    one-list _ _ (runs_between-normal p before from until) (cut.0, gap, rest) (λ t.
    let i = runs_between-holds p before from until t le in
    let j = runs_between-holds p after from until t le in
    let held = run.held t in
    let within = cut.1 t in (
      (λ h. let k = i.0 h in elim (held.0 k.2) [ inl w ↦ inl (within.1 (w.0, w.1, k.0, k.1)) | inr r ↦ inr (j.1 (k.0, k.1, r)) ]),
      (λ h. elim h [
        | inl w ↦ let k = within.0 w in i.1 (k.2, k.3, held.1 (inl (k.0, k.1)))
        | inr r ↦ let k = j.0 r in
            i.1 (k.0, k.1, held.1 (inr k.2))
      ]),
    ))

-- one that is not leaves the others
pub run-none : (p : DurationParts) (before after : List ℤ) (from until first end : ℤ) → from ≤ℤ until
    → IsRun p before after first end
    → IsCut from until first end None → runs_between p before from until ≡ runs_between p after from until
run-none p before after from until first end le run cut =
    one-list _ _ (runs_between-normal p before from until) (runs_between-normal p after from until) (λ t.
    let i = runs_between-holds p before from until t le in
    let j = runs_between-holds p after from until t le in
    let held = run.held t in (
      (λ h. let k = i.0 h in elim (held.0 k.2) [ inl w ↦ absurd (cut t w.0 w.1 k.0 k.1) | inr r ↦ j.1 (k.0, k.1, r) ]),
      (λ h. let k = j.0 h in i.1 (k.0, k.1, held.1 (inr k.2))),
    ))

-- no starts make no run
pub runs-nil : (p : DurationParts) (from until : ℤ) → from ≤ℤ until → runs_between p [] from until ≡ []
runs-nil p from until le = one-list _ [] (runs_between-normal p [] from until) tt
    (λ t. ((λ h. ((runs_between-holds p [] from until t le).0 h).2), (λ h. absurd h)))

-- a run of one start
pub run-begun : (p : DurationParts) (first end : ℤ) (left : List ℤ) → first ≤ℤ end → end ≡ stop p first
    → IsRun p (first ∷ left) left first end
run-begun p first end left order e = record { order = order; held = λ t. rw e ((λ h. h), (λ h. h)) }

-- a run that goes on over the next start, which it reaches
pub run-longer : (p : DurationParts) (before left : List ℤ) (first end start next : ℤ) → IsRun p before (start ∷ left) first end
    → first ≤ℤ start → start ≤ℤ end
    → end ≤ℤ next → stop p start ≤ℤ next → ((next ≡ end) ⊎ (next ≡ stop p start)) → IsRun p before left first next
run-longer p before left first end start next run begun reached later ends one = record {
  order = omega (arith, signed_arith);
  held = λ t. let held = run.held t in (
    (λ h. elim (held.0 h) [
      | inl w ↦ inl (w.0, omega (arith, signed_arith, w.1))
      | inr r ↦ elim r [ inl w ↦ inl (omega (arith, signed_arith, w.0), omega (arith, signed_arith, w.1)) | inr k ↦ inr k ]
    ]),
    (λ h. elim h [
      | inl w ↦ by_lt_z t end (λ lt. held.1 (inl (w.0, lt))) (λ ge. elim one [
        | inl e ↦ absurd (omega (arith, signed_arith, e, w.1))
        | inr e ↦ held.1 (inr (inl (omega (arith, signed_arith), rw (← e) w.1)))
      ])
      | inr k ↦ held.1 (inr (inr k))
    ]),
  );
}

pub cut-is : (from until first end f u : ℤ) (o : Option Interval) → IsLater first from f → IsEarlier end until u
    → MatchOption o (u ≤ℤ f) (λ x. (f <ℤ u) × (x ≡ record { from = f; until = u })) → IsCut from until first end o
cut-is from until first end f u None l e m = λ t a b c d. elim (l.2) [
  | inl p ↦ elim (e.2) [ inl q ↦ absurd (omega (arith, signed_arith, p, q)) | inr q ↦ absurd (omega (arith, signed_arith, p, q)) ]
  | inr p ↦ elim (e.2) [ inl q ↦ absurd (omega (arith, signed_arith, p, q)) | inr q ↦ absurd (omega (arith, signed_arith, p, q)) ]
]
cut-is from until first end f u (Some x) l e m =
    let p : x.from ≡ f = ap (λ (i : Interval). i.from) m.1 in
    let q : x.until ≡ u = ap (λ (i : Interval). i.until) m.1 in
    let lt = m.0 in (
      omega (arith, signed_arith, p, q, lt),
      (λ t. (
        (λ w. (
          omega (arith, signed_arith, p, w.0, l.0),
          omega (arith, signed_arith, q, w.1, e.0),
          omega (arith, signed_arith, p, w.0, l.1),
          omega (arith, signed_arith, q, w.1, e.1),
        )),
        (λ h. (
          elim (l.2) [ inl k ↦ omega (arith, signed_arith, p, k, h.0) | inr k ↦ omega (arith, signed_arith, p, k, h.2) ],
          elim (e.2) [ inl k ↦ omega (arith, signed_arith, q, k, h.1) | inr k ↦ omega (arith, signed_arith, q, k, h.3) ],
        )),
      )),
      omega (arith, signed_arith, q, e.0),
      elim (e.2) [ inl k ↦ inl (q ∙ k) | inr k ↦ inr (q ∙ k) ],
      elim (l.2) [ inl k ↦ inl (p ∙ k) | inr k ↦ inr (p ∙ k) ],
    )

pub gt-is : (a b : ℤ) → is_gt (int_cmp a b) ≡ true → b <ℤ a
gt-is a b h = first_of (grind (arith, ints), omega (arith, signed_arith, h))

pub le-is : (a b : ℤ) → is_gt (int_cmp a b) ≡ false → a ≤ℤ b
le-is a b h = first_of (grind (arith, ints), omega (arith, signed_arith, h))
