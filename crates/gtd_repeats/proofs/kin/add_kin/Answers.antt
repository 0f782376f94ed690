-- With the next row, or without it if there are 64 before it, the entries are still the first rows of each element.
use Rattle.std.proofs.Common.{◌≡◌, ◌∙◌, ◌<◌, ◌≤◌, ap, arith, List}
use Rattle.std.proofs.lemmas.Result.{IfOk-weaker}
use Rattle.std.specs.Global.{Vec}
use Rattle.gtd_repeats.specs.Buckets.{entries_at}
use Rattle.gtd_repeats.specs.Kin.{entries_with}
use Rattle.gtd_repeats.specs.declared.buckets.Entry.{Entry}
use Rattle.gtd_repeats.proofs.EarlyFacts.{kin_more, kin_stay}
use Rattle.gtd_repeats.proofs.kin.add_kin.Goals as goal

pub returns-then-count_of-ge-MOST_KIN-clause-kin : goal.returns-then-count_of-ge-MOST_KIN-clause-kin
returns-then-count_of-ge-MOST_KIN-clause-kin c = λ rows indices inside named placed at are.
    let number = c.args.entry.number in
    let old = c.args.kin.now.items in
    let value : c.count_of.result ≡ entries_with (entries_at old c.args.bucket) number =
    c.count_of.ensures.value
    ∙ ap (λ (l : List Entry). entries_with l number) (c.entries_of-entries.ensures.entries
    ∙ ap (λ (b : List (Vec Entry)). entries_at b c.args.bucket) c.as_slice.ensures.value) in
    let most = c.if-count_of-ge-MOST_KIN.true in
    kin_stay rows indices c.args.entry old c.args.bucket inside named placed at are (omega (arith, value, most))

pub returns-clause-kin : goal.returns-clause-kin
returns-clause-kin c =
    let number = c.args.entry.number in
    let old = c.args.kin.now.items in
    let value : c.count_of.result ≡ entries_with (entries_at old c.args.bucket) number =
    c.count_of.ensures.value
    ∙ ap (λ (l : List Entry). entries_with l number) (c.entries_of-entries.ensures.entries
    ∙ ap (λ (b : List (Vec Entry)). entries_at b c.args.bucket) c.as_slice.ensures.value) in
    let fewer = c.if-count_of-ge-MOST_KIN.false in
    IfOk-weaker c.add_entry.result _ _ (λ done changed rows indices inside named placed at are.
    kin_more rows indices c.args.entry old c.args.bucket inside named placed at are c.add_entry.new.buckets.items (omega (arith, value, fewer)) changed)
    c.add_entry.ensures.added
