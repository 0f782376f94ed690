-- The longest period so far is one after which each record passed repeats, and so does what they close together.
use Rattle.std.proofs.Common.{◌≡◌, ◌∙◌, ◌+◌, ◌<◌, ◌≤◌, sym, ap, subst, arith, rules, ℕ}
use Rattle.std.specs.Prelude.{slice_index_or}
use Rattle.gtd_eval.specs.Periods.{RepeatsFrom}
use Rattle.gtd_eval.specs.facts.PeriodFacts.{from-longer}
use Rattle.gtd_records.specs.Closing.{Concerns, HoldsAt, Restriction}
use Rattle.gtd_places.specs.declared.place.RowPlace.{RowPlace}
use Rattle.gtd_records.proofs.PeriodFacts.{all_repeat, so-far-longer}
use Rattle.gtd_records.specs.facts.IndexFacts.{any_default, by_le, one_record}
use Rattle.gtd_records.proofs.FoundPlaces.{nowhere, places_kept}
use Rattle.gtd_records.proofs.index.Records.period.Goals as goal
use Rattle.gtd_records.proofs.index.Records.period.Goals.{then-concerns+in_ok-period, else-concerns}

pub index-restriction-requires : goal.index-restriction-requires
index-restriction-requires c =
    let part = places_kept _ _ _ _ c.self.view_is c.places_of_element-place-items.ensures.places in
    omega (arith, (part.sound _ nowhere c.loop-place-test.true).0)

pub returns : goal.returns
returns c =
    let part = places_kept _ _ _ _ c.self.view_is c.places_of_element-place-items.ensures.places in
    record {
      repeats = rw (sym c.self.view_is) (all_repeat _ _ _ _ _ _ _ c.loop-place.invariant
          (λ row r within stands names. let at = part.all row r within stands names in (at.0, omega (arith, at.1), at.2)));
    }

pub loop-place-preserved : goal.loop-place-preserved
loop-place-preserved c =
    let i = c.loop-place.place-index in
    let rows = c.self.inside.rows.items in
    let part = c.places_of_element-place-items.result.now in
    let s = c.index-restriction.result.now in
    let kept = places_kept _ _ _ _ c.self.view_is c.places_of_element-place-items.ensures.places in
    let p = kept.sound i nowhere c.loop-place-test.true in
    let old = c.loop-place.invariant in
    let own : (k : ℕ) (d : RowPlace) (r : Restriction) → k < i + 1 → i ≤ k
    → slice_index_or rows (slice_index_or part k d).row r ≡ r → r ≡ s =
    λ k d r lt ge is.
    let e : k ≡ i = omega arith in
    let at = ap (λ (n : ℕ). slice_index_or part n d) e ∙ any_default part i d nowhere c.loop-place-test.true in
    one_record rows _ r s p.0 (subst (λ (q : RowPlace). slice_index_or rows q.row r ≡ r) at is) c.index-restriction.ensures in
    elim c.if-concerns.branch [
      | then-concerns+in_ok-period w ↦
          rw w.longest-is (λ k d r lt is name concerns.
          by_le {P = RepeatsFrom w.longer-longest.result (HoldsAt r.domain)} i k
          (λ ge. subst (λ (x : Restriction). RepeatsFrom w.longer-longest.result (HoldsAt x.domain)) (sym (own k d r lt ge is))
          (from-longer w.in_ok-period.period w.longer-longest.result (HoldsAt s.domain) w.longer-longest.ensures.second
          w.in_ok-period.ensures.repeats))
          (λ less. so-far-longer c.loop-place.longest w.longer-longest.result rows part c.args.element c.args.direction
          c.args.vehicle i
          w.longer-longest.ensures.first old k d r less is name concerns))
      | else-concerns w ↦
          rw w.longest-is (λ k d r lt is name concerns.
          by_le {P = RepeatsFrom c.loop-place.longest (HoldsAt r.domain)} i k
          (λ ge. let does = subst (λ (x : Restriction). Concerns c.args.direction c.args.vehicle x)
          (own k d r lt ge is) concerns in
          let on = w.if-concerns.ensures.1 does in absurd (search (rules, on)))
          (λ less. old k d r less is name concerns))
    ]
