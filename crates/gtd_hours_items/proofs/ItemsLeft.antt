-- One item more of the tokens that are left.
use Rattle.std.proofs.Common.{◌≡◌, ℕ, List, [], ◌∷◌, ◌++◌, Option, refl, sym, subst}
use Rattle.std.proofs.lemmas.List.{append-nil, append_assoc}
use Rattle.gtd_hours_moving.specs.declared.front.MovingFront.{MovingFront}
use Rattle.gtd_hours_tokens.specs.declared.token.Token.{Token}
use Rattle.gtd_hours_items.specs.Fronts.{IsFrontAt, before_after}
use Rattle.gtd_hours_items.specs.Items.{AreItems, AreItemsLeft, item_by, more_by}
use Rattle.gtd_hours_items.specs.declared.fronts.Before.{Before}
use Rattle.gtd_hours_items.specs.declared.items.Item.{Item}

-- It comes before those of the tokens behind it.
item_first : (text : List ℕ) (b : Before) (t : Token) (ts rest : List Token) (front : Option MovingFront) (skipped : ℕ)
    (more : List Item) → rest ≡ t ∷ ts → skipped ≡ 0 → IsFrontAt text b rest front
    → AreItemsLeft (more_by text t ts front) (before_after b t.kind front) text ts more
    → AreItemsLeft skipped b text rest (item_by text t ts front ∷ more)
item_first text b t ts rest front skipped more e z at left =
    subst (λ (n : ℕ). AreItemsLeft n b text rest (item_by text t ts front ∷ more)) (sym z)
    (subst (λ (l : List Token). AreItemsLeft 0 b text l (item_by text t ts front ∷ more)) (sym e)
    (front, more, subst (λ (l : List Token). IsFrontAt text b l front) e at, refl, left))

pub item_more : (text : List ℕ) (tokens : List Token) (items : List Item) (b : Before) (t : Token) (ts rest : List Token)
    (front : Option MovingFront) (skipped : ℕ)
    → ((m : List Item) → AreItemsLeft skipped b text rest m → AreItems text tokens (items ++ m))
    → rest ≡ t ∷ ts → skipped ≡ 0 → IsFrontAt text b rest front
    → (more : List Item) → AreItemsLeft (more_by text t ts front) (before_after b t.kind front) text ts more
    → AreItems text tokens ((items ++ item_by text t ts front ∷ []) ++ more)
item_more text tokens items b t ts rest front skipped all e z at more left =
    subst (AreItems text tokens) (sym (append_assoc items (item_by text t ts front ∷ []) more))
    (all (item_by text t ts front ∷ more) (item_first text b t ts rest front skipped more e z at left))

none_left : (n : ℕ) (b : Before) (text : List ℕ) → AreItemsLeft n b text [] []
none_left n b text = refl

-- Of no tokens there are none.
pub all_items : (text : List ℕ) (tokens : List Token) (items : List Item) (b : Before) (rest : List Token) (skipped : ℕ)
    → ((m : List Item) → AreItemsLeft skipped b text rest m → AreItems text tokens (items ++ m)) → rest ≡ []
    → AreItems text tokens items
all_items text tokens items b rest skipped all e =
    subst (AreItems text tokens) (append-nil items)
    (all [] (subst (λ (l : List Token). AreItemsLeft skipped b text l []) (sym e) (none_left skipped b text)))
