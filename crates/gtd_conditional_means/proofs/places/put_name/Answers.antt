-- The key has the bytes of the name.
use Rattle.std.proofs.Common.{◌∙◌, ap, List, ℕ, cond, rules}
use Rattle.std.specs.Prelude.{Some}
use Rattle.std.specs.Str.{bytes_eq}
use Rattle.gtd_conditional_means.specs.Places.{place_in}
use Rattle.gtd_conditional_means.proofs.PlaceFacts.{put}
use Rattle.gtd_conditional_means.proofs.places.put_name.Goals as goal

pub returns : goal.returns
returns c = λ other.
    put c.in_ok-key.key c.args.places.now c.insert.new.self c.args.place c.in_ok-insert.ensures.updates other
    ∙ ap (λ (name : List ℕ). cond (bytes_eq name other) (Some c.args.place) (place_in c.args.places.now other)) (search rules)
