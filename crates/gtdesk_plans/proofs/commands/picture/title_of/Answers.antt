use Rattle.std.proofs.Common.{◌≡◌, ◌∙◌, ℕ, List, ◌++◌, append_assoc}
use Rattle.std.specs.Prelude.{codes, string_bytes}
use Rattle.std.proofs.lemmas.Result.{IfOk-weaker}
use Rattle.clap.specs.Matches.{found_of}
use Rattle.clap.specs.Walk.{rows_of}
use Rattle.gtdesk_plans.specs.Commands.Picture.{title_of}
use Rattle.gtdesk_plans.proofs.commands.picture.title_of.Goals as goal

-- eleven texts, appended from the right and from the left
grouped : (a b c d e f g h i j k : List ℕ) → a ++ (b ++ (c ++ (d ++ (e ++ (f ++ (g ++ (h ++ (i ++ (j ++ k)))))))))
    ≡ a ++ b ++ c ++ d ++ e ++ f ++ g ++ h ++ i ++ j ++ k
grouped a b c d e f g h i j k = simp append_assoc

same_title : (e d v y f a b c g h : List ℕ) → e ≡ a → d ≡ b → v ≡ c → y ≡ g → f ≡ h
    → codes "Element " ++ (e ++ (codes ", " ++ (d ++ (codes ", vehicle type " ++ (v ++ (codes ", " ++ (y ++ (codes " (" ++ (f
    ++ codes ")")))))))))
    ≡ codes "Element " ++ a ++ codes ", " ++ b ++ codes ", vehicle type " ++ c ++ codes ", " ++ g ++ codes " (" ++ h ++ codes ")"
same_title e d v y f a b c g h p q r s t =
    rw (p, q, r, s, t) (grouped (codes "Element ") a (codes ", ") b (codes ", vehicle type ") c (codes ", ") g (codes " (") h
    (codes ")"))

pub returns : goal.returns
returns c =
    let rows = rows_of (found_of c.args.given.now) in
    let e = c.text-element.result.now in
    let d = c.text-direction.result.now in
    let v = c.text-vehicle.result.now in
    let y = c.text-year.result.now in
    let f = c.text-file.result.now in
    IfOk-weaker c.format.result
    (λ title. string_bytes title ≡ codes "Element " ++ (e ++ (codes ", " ++ (d ++ (codes ", vehicle type " ++ (v ++ (codes ", "
    ++ (y ++ (codes " (" ++ (f ++ codes ")"))))))))))
    (λ title. string_bytes title ≡ title_of rows)
    (λ title p. p ∙ same_title e d v y f _ _ _ _ _ c.text-element.ensures c.text-direction.ensures c.text-vehicle.ensures
    c.text-year.ensures c.text-file.ensures)
    c.format.ensures.ok
