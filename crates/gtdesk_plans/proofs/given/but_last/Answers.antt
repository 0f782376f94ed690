-- Taking the texts of the words, and then all but the last of these, gives the same as the other way round.
use Rattle.std.proofs.Common.{◌∙◌, sym, ap, map, ℕ, ◌-◌, length, take, List, Bor}
use Rattle.std.proofs.lemmas.List.{length-map, take-map}
use Rattle.gtdesk_plans.proofs.given.but_last.Goals as goal

pub returns : goal.returns
returns c =
    let text = λ (t : Bor (List ℕ)). t.now in
    rw (c.saturating_sub.ensures)
    (sym (take-map text (length c.args.words.now - c.args.count) c.args.words.now)
    ∙ ap (λ (n : ℕ). take (n - c.args.count) (map text c.args.words.now)) (sym (length-map c.args.words.now text)))
