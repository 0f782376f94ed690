use Rattle.std.proofs.Common.{◌≡◌, sym, subst, arith, zero-add, inl, inr, ◌+◌, List, ◌∷◌}
use Rattle.std.specs.Prelude.{ℤ, pos, ◌-ℤ◌, ◌≤ℤ◌}
use Rattle.std.proofs.lemmas.Int.{ints}
use Rattle.gtd_core.specs.Seconds.{Interval, Within}
use Rattle.gtd_core.specs.Whole.{whole}
use Rattle.gtd_core.specs.declared.horizon.Horizon.{Horizon}
use Rattle.gtd_spans.specs.Normal.{Holds, IsNormal}
use Rattle.gtd_changes.proofs.SummaryFacts.{few_counted, none_left, one_more, regroup, some_left}
use Rattle.gtd_changes.specs.Summary.{HasSeconds}
use Rattle.gtd_changes.proofs.summary.seconds_of.Goals as goal

-- a span whose seconds lie in a horizon begins and ends in it
first_inside : (horizon : Horizon) (x : Interval) (xs all : List Interval) → all ≡ x ∷ xs → IsNormal all
    → ((t : ℤ) → Holds all t → Within (whole horizon) t)
    → ((whole horizon).from ≤ℤ x.from) × (x.until ≤ℤ (whole horizon).until)
first_inside horizon x xs all is normal inside =
    let n = subst IsNormal is normal in
    let begins = inside x.from (subst (λ (l : List Interval). Holds l x.from) (sym is) (inl (omega (arith, ints), n.0))) in
    let last = inside (x.until -ℤ pos 1) (subst (λ (l : List Interval). Holds l (x.until -ℤ pos 1)) (sym is)
    (inl (omega (arith, ints, n.0), omega (arith, ints)))) in
    (begins.0, omega (arith, ints, last.1))

later_inside : (horizon : Horizon) (x : Interval) (xs all : List Interval) → all ≡ x ∷ xs
    → ((t : ℤ) → Holds all t → Within (whole horizon) t) → (t : ℤ) → Holds xs t → Within (whole horizon) t
later_inside horizon x xs all is inside t h =
    inside t (subst (λ (l : List Interval). Holds l t) (sym is) (inr h))

pub loop-span-init : goal.loop-span-init
loop-span-init g c = record {
  inside = c.requires.inside;
  counted = λ more h. subst (HasSeconds c.args.horizon (Holds (g.S.SpanSource.rest c.args.source.now))) (sym (zero-add more)) h;
}

pub length_of-count-requires : goal.length_of-count-requires
length_of-count-requires g c =
    let rest = g.S.SpanSource.rest in
    let f = first_inside c.args.horizon c.in-Some.span (rest c.next.new.self) (rest c.loop-span.source) c.in-Some.ensures.takes
    (g.met.S.SpanSource.is_normal c.loop-span.source) c.loop-span.invariant.inside in
    record { begins = f.0; ends = f.1 }

-- what was counted, and the span's seconds, with any that are left
pub overflow_add-count : goal.overflow_add-count
overflow_add-count g c =
    let rest = g.S.SpanSource.rest in
    let all = rest c.loop-span.source in
    let normal = g.met.S.SpanSource.is_normal c.loop-span.source in
    let f = first_inside c.args.horizon c.in-Some.span (rest c.next.new.self) all c.in-Some.ensures.takes normal
    c.loop-span.invariant.inside in
    let n = c.length_of-count.result in
    let more = some_left c.args.horizon (rest c.next.new.self) in
    let few = few_counted c.args.horizon (Holds (rest c.args.source.now)) (c.loop-span.count + (n + more.0))
    (c.loop-span.invariant.counted (n + more.0)
    (one_more c.args.horizon c.in-Some.span (rest c.next.new.self) all n more.0 c.in-Some.ensures.takes normal f.0 f.1
    c.length_of-count.ensures.length more.1)) in
    omega (arith, few)

pub loop-span-preserved : goal.loop-span-preserved
loop-span-preserved g c =
    let rest = g.S.SpanSource.rest in
    let all = rest c.loop-span.source in
    let normal = g.met.S.SpanSource.is_normal c.loop-span.source in
    let f = first_inside c.args.horizon c.in-Some.span (rest c.next.new.self) all c.in-Some.ensures.takes normal
    c.loop-span.invariant.inside in
    let n = c.length_of-count.result in
    record {
      inside = later_inside c.args.horizon c.in-Some.span (rest c.next.new.self) all c.in-Some.ensures.takes
          c.loop-span.invariant.inside;
      counted = λ more h.
          regroup c.args.horizon (Holds (rest c.args.source.now)) c.loop-span.count n more
          (c.loop-span.invariant.counted (n + more)
          (one_more c.args.horizon c.in-Some.span (rest c.next.new.self) all n more c.in-Some.ensures.takes normal f.0 f.1
          c.length_of-count.ensures.length h));
    }

pub returns : goal.returns
returns g c = record {
  counted = subst (HasSeconds c.args.horizon (Holds (g.S.SpanSource.rest c.args.source.now))) (omega arith)
      (c.loop-span.invariant.counted 0 (none_left c.args.horizon _ c.in_default.ensures.takes.0));
}
