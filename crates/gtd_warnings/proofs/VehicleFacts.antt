-- Whether some of the records that were looked at is for a vehicle type.
use Rattle.std.proofs.Common.{◌≡◌, ◌∙◌, ◌<◌, ◌+◌, sym, ap, subst, inl, inr, arith, ℕ, List, get_or, length}
use Rattle.std.proofs.lemmas.Bool.{cases_order}
use Rattle.std.proofs.lemmas.List.{get_or_default}
use Rattle.std.specs.Prelude.{slice_index_or}
use Rattle.gtd_records.specs.Closing.{Restriction}
use Rattle.gtd_rows.specs.Serving.{Serves}
use Rattle.gtd_warnings.specs.Vehicles.{IsForSome}

-- none of the first records is for the type
abbrev pub NoneServes : List Restriction → ℕ → ℕ → Type 0
NoneServes found vehicle to =
    (k : ℕ) (r : Restriction) → k < to → slice_index_or found k r ≡ r → Serves r.vehicles vehicle → ⊥

module _ (found : List Restriction) (vehicle at : ℕ) (here : Restriction) (within : at < length found)
    (is : slice_index_or found at here ≡ here) where
  pub serves_more : NoneServes found vehicle at → (Serves here.vehicles vehicle → ⊥) → NoneServes found vehicle (at + 1)
  serves_more none un k r lt e serves = elim (cases_order k at) [
    | inl same ↦
        let one : r ≡ here = sym e ∙ ap (λ (n : ℕ). get_or found n r) same ∙ get_or_default found at r here within ∙ is in
        un (subst (λ (x : Restriction). Serves x.vehicles vehicle) one serves)
    | inr (inl less) ↦ none k r less e serves
    | inr (inr more) ↦ omega (arith, lt, more)
  ]

  pub one_serves : Serves here.vehicles vehicle → IsForSome found vehicle
  one_serves serves = (at, here, within, is, serves)

pub none_serves : (found : List Restriction) (vehicle to : ℕ) → length found ≡ to → NoneServes found vehicle to
    → IsForSome found vehicle → ⊥
none_serves found vehicle to all none some = none some.0 some.1 (let lt = some.2 in omega (arith, all, lt)) some.3 some.4
