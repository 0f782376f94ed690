-- The codes read so far are those of the items passed; an item that is no code leaves the whole list without any.
use Rattle.std.proofs.Common.{rules, tests, ◌∙◌, ◌==◌, sym, refl, length, arith}
use Rattle.std.proofs.lemmas.List.{length_push}
use Rattle.std.proofs.lemmas.Iterator.Consumers.{YieldsList-turn, YieldsList-end}
use Rattle.std.proofs.lemmas.Iterator.Splits.{YieldsList-from_slice_split}
use Rattle.gtd_rows.specs.Columns.{items_of}
use Rattle.gtd_rows.proofs.ListFacts.{all_codes, no_code, one_more}
use Rattle.gtd_rows.proofs.vehicles.read_codes.Goals as goal

pub returns-in_default : goal.returns-in_default
returns-in_default c =
    let same = c.into_iter-item-iterator.ensures.into_iter_gives in
    let all = YieldsList-from_slice_split _ (λ b. b == 59) c.args.text.now (rw same c.split-item-items.ensures.rest)
    (rw same c.split-item-items.ensures.done) refl (λ x r q k. search (rules, tests)) in
    let t = YieldsList-turn all c.loop-item.yielded _ c.loop-item.yielded_by _ _ c.in-Some.item c.in-Some.is
    c.next.ensures.steps in
    sym (no_code (items_of c.args.text.now) (length c.loop-item.yielded) c.in-Some.item.now t c.loop-item.codes.items
    c.loop-item.invariant.codes (sym c.read_type.ensures.value ∙ c.in_default.is))

pub loop-item-preserved : goal.loop-item-preserved
loop-item-preserved c =
    let same = c.into_iter-item-iterator.ensures.into_iter_gives in
    let all = YieldsList-from_slice_split _ (λ b. b == 59) c.args.text.now (rw same c.split-item-items.ensures.rest)
    (rw same c.split-item-items.ensures.done) refl (λ x r q k. search (rules, tests)) in
    let t = YieldsList-turn all c.loop-item.yielded _ c.loop-item.yielded_by _ _ c.in-Some.item c.in-Some.is
    c.next.ensures.steps in
    let more = one_more (items_of c.args.text.now) (length c.loop-item.yielded) c.in-Some.item.now t c.loop-item.codes.items
    c.loop-item.invariant.codes c.in-Some-read_type.code (sym c.read_type.ensures.value ∙ c.in-Some-read_type.is) in
    record {
      next = search rules;
      finite = tt;
      codes = rw (c.in_ok-push.ensures.items, length_push c.loop-item.yielded c.in-Some.item) more;
    }

pub returns : goal.returns
returns c =
    let same = c.into_iter-item-iterator.ensures.into_iter_gives in
    let all = YieldsList-from_slice_split _ (λ b. b == 59) c.args.text.now (rw same c.split-item-items.ensures.rest)
    (rw same c.split-item-items.ensures.done) refl (λ x r q k. search (rules, tests)) in
    let t = YieldsList-end all c.loop-item.yielded _ c.loop-item.yielded_by _ _ c.in-None.is c.next.ensures.steps in
    sym (all_codes (items_of c.args.text.now) (length c.loop-item.yielded) c.loop-item.codes.items
    (omega (arith, t.1)) c.loop-item.invariant.codes)
