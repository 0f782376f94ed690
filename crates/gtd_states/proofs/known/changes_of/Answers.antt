-- At each turn the change of each element passed is right: that of the first one that is open at the same seconds, or its own.
use Rattle.std.proofs.Common.{◌≡◌, ◌∙◌, ◌<◌, ap, refl, sym, subst, arith, ℕ, List, [], ◌∷◌, get_or, length, length-append, None}
use Rattle.std.specs.Prelude.{slice_index_or}
use Rattle.gtd_alike.specs.Alike.{AreOpenAlike, asked_at}
use Rattle.gtd_rows.specs.declared.direction.DirectedElement.{DirectedElement}
use Rattle.gtd_rows.specs.declared.direction.Direction.TheVariants.{Positive}
use Rattle.gtd_records.specs.facts.IndexFacts.{any_default}
use Rattle.gtd_states.proofs.ListFacts.{each_more}
use Rattle.gtd_states.specs.Known.{AreRight, IsRightChange}
use Rattle.gtd_states.specs.declared.known.KnownChange.{KnownChange}
use Rattle.gtd_states.proofs.known.changes_of.Goals as goal

abbrev nobody : KnownChange
nobody = record { at = record { element = 0; direction = Positive }; change = None }

pub change_by-requires-clause-right : goal.change_by-requires-clause-right
change_by-requires-clause-right c =
    subst (λ (l : List KnownChange). AreRight c.args.found.now c.args.vehicle c.args.second.0 l) (sym c.as_slice.ensures.value)
    c.loop-place.invariant.right

pub change_by-requires-clause-alike : goal.change_by-requires-clause-alike
change_by-requires-clause-alike c = λ d lt.
    let found = c.args.found.now in
    let vehicle = c.args.vehicle in
    let asked = c.args.asked.now in
    let place = c.loop-place.place in
    let known = c.loop-place.known.items in
    let firsts = c.in_ok-firsts.firsts.items in
    let first = c.index.result.now in
    let are = c.in_ok-firsts.ensures.alike in
    let value = c.as_slice.ensures.value in
    let at = asked_at asked place in
    let inside : first < length known = subst (λ (l : List KnownChange). first < length l) value lt in
    let within : place < length firsts = (let m = are.many in let here = c.loop-place-test.true in omega (arith, m, here)) in
    let is : first ≡ get_or firsts place 0 = c.index.ensures ∙ any_default firsts place first 0 within in
    let its : (slice_index_or known first d).at ≡ asked_at asked first =
    ap (λ (x : KnownChange). x.at) (any_default known first d nobody inside) ∙ c.loop-place.invariant.each first inside in
    subst (λ (l : List KnownChange). AreOpenAlike found vehicle (slice_index_or l first d).at at) (sym value)
    (subst (λ (x : DirectedElement). AreOpenAlike found vehicle x at) (sym its)
    (subst (λ (n : ℕ). AreOpenAlike found vehicle (asked_at asked n) at) (sym is) (are.alike place c.loop-place-test.true)))

pub loop-place-preserved : goal.loop-place-preserved
loop-place-preserved c =
    let found = c.args.found.now in
    let vehicle = c.args.vehicle in
    let second = c.args.second.0 in
    let asked = c.args.asked.now in
    let place = c.loop-place.place in
    let known = c.loop-place.known.items in
    let inv = c.loop-place.invariant in
    let one : KnownChange = record { at = asked_at asked place; change = c.in_ok-change.change } in
    let l = length-append known (one ∷ []) in
    record {
      many = rw c.in_ok-push.ensures.items (omega (arith, l, inv.many));
      right = rw c.in_ok-push.ensures.items (λ k d lt.
          each_more (λ (i : ℕ) (x : KnownChange). IsRightChange found vehicle second x.at x.change) known one d (length known)
          refl
          c.in_ok-change.ensures.right (λ i less. inv.right i d less) k lt);
      each = rw c.in_ok-push.ensures.items
          (each_more (λ (i : ℕ) (x : KnownChange). x.at ≡ asked_at asked i) known one nobody place inv.many refl inv.each);
    }
