-- At each turn one byte more is written over.
use Rattle.std.proofs.Common.{◌≡◌, ◌∙◌, ℕ, suc, ◌+◌, ◌-◌, ◌<◌, List, drop, set, ap, sym, arith}
use Rattle.gtd_hours_holiday_rules.specs.Checked.{first_or_space, put_over}
use Rattle.gtd_hours_holiday_rules.proofs.checked.put_over.Goals as goal

one_more : (to place : ℕ) (bytes form : List ℕ) → place < to
    → put_over (to - place) bytes place form
    ≡ put_over (to - (place + 1)) (set bytes place (first_or_space form)) (place + 1) (drop 1 form)
one_more to place bytes form less =
    let e : to - place ≡ suc (to - (place + 1)) = omega arith in
    ap (λ (n : ℕ). put_over n bytes place form) e

pub loop-place-preserved : goal.loop-place-preserved
loop-place-preserved c =
    let to = c.args.to in
    let place = c.loop-place.place in
    let form = c.loop-place.rest.now in
    let byte : c.put_byte.new.bytes ≡ set c.loop-place.bytes place (first_or_space form) =
    c.put_byte.ensures ∙ ap (λ (b : ℕ). set c.loop-place.bytes place b) c.first_or_space.ensures in
    ap (λ (l : List ℕ). put_over (to - (place + 1)) l (place + 1) c.behind_first-rest.result.now) byte
    ∙ ap (λ (l : List ℕ). put_over (to - (place + 1)) (set c.loop-place.bytes place (first_or_space form)) (place + 1) l)
    c.behind_first-rest.ensures
    ∙ sym (one_more to place c.loop-place.bytes form c.loop-place-test.true)
    ∙ c.loop-place.invariant
