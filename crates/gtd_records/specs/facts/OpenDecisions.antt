-- An element is open at a second, or it is not.
use Rattle.std.proofs.Common.{◌≡◌, sym, refl, subst, ◌<◌, inl, inr, ℕ, zero, suc, arith, List, [], ◌∷◌, length, get_or}
use Rattle.std.proofs.Common.{Option, Some, None}
use Rattle.std.specs.Prelude.{ℤ, Any, IsTrue, nat_eq}
use Rattle.std.specs.List.{Contains, list_any}
use Rattle.std.specs.Cmp.{nat_eq_equiv}
use Rattle.std.proofs.lemmas.Bool.{eqb-true}
use Rattle.std.proofs.lemmas.Map.Views.{Contains-from_any, list_any-from_Contains}
use Rattle.gtd_core.specs.Trees.{Tree}
use Rattle.gtd_eval.specs.facts.TreeDecisions.{in_tree}
use Rattle.gtd_core.specs.facts.Deciding.{Decided, both, is_true, not}
use Rattle.gtd_records.specs.Closing.{Closes, HoldsAt, IsOpen, Restriction}
use Rattle.gtd_rows.specs.Serving.{ClosesDirection, Serves}
use Rattle.gtd_rows.specs.declared.direction.Closed.{Closed}
use Rattle.gtd_rows.specs.declared.direction.Closed.TheVariants.{One, Both}
use Rattle.gtd_rows.specs.declared.direction.Direction.{Direction}
use Rattle.gtd_rows.specs.declared.direction.Direction.TheVariants.{Positive, Negative}
use Rattle.gtd_rows.specs.declared.vehicles.Vehicles.{Vehicles}
use Rattle.gtd_rows.specs.declared.vehicles.Vehicles.TheVariants.{Every, Only, AllBut}

same_number : (a b : ℕ) → Decided (a ≡ b)
same_number a b = elim (is_true (nat_eq a b)) [ inl h ↦ inl (eqb-true a b h) | inr never ↦ inr (λ h. never (is_same a b h)) ]
  where
    is_same : (a b : ℕ) → a ≡ b → IsTrue (nat_eq a b)
    is_same a b h = grind (arith)

holds_at : (domain : Option Tree) (s : ℤ) → Decided (HoldsAt domain s)
holds_at None s = inl tt
holds_at (Some tree) s = in_tree tree s

closes_direction : (closed : Closed) (direction : Direction) → Decided (ClosesDirection closed direction)
closes_direction Both direction = inl tt
closes_direction (One Positive) Positive = inl refl
closes_direction (One Positive) Negative = inr (λ h. cc)
closes_direction (One Negative) Positive = inr (λ h. cc)
closes_direction (One Negative) Negative = inl refl

contains : (codes : List ℕ) (code : ℕ) → Decided (Contains codes code)
contains codes code =
    elim (is_true (list_any (nat_eq code) codes)) [
      | inl h ↦ inl (Contains-from_any (λ x y e. eqb-true x y e) code codes h)
      | inr never ↦ inr (λ h. never (list_any-from_Contains nat_eq_equiv code codes h))
    ]

serves : (vehicles : Vehicles) (vehicle : ℕ) → Decided (Serves vehicles vehicle)
serves Every vehicle = inl tt
serves (Only types) vehicle = contains types vehicle
serves (AllBut types) vehicle = not _ (contains types vehicle)

module _ (P : Restriction → Type 0) (decided : (r : Restriction) → Decided (P r)) where
  any : (found : List Restriction) → Decided (Any P found)
  any [] = inr (λ h. omega (arith, h.2))
  any (r ∷ rest) =
      elim (decided r) [
        | inl h ↦ inl (0, r, omega arith, refl, h)
        | inr first ↦ elim (any rest) [
          | inl h ↦ inl (suc h.0, h.1, omega (arith, h.2), h.3, h.4)
          | inr later ↦ inr (λ h. neither r rest first later h.0 h.1 h.2 h.3 h.4)
        ]
      ]
    where
      neither : (r : Restriction) (rest : List Restriction) → (P r → ⊥) → (Any P rest → ⊥) → (k : ℕ) (x : Restriction)
          → k < suc (length rest)
          → get_or (r ∷ rest) k x ≡ x → P x → ⊥
      neither r rest first later zero x few is h = first (subst P (sym is) h)
      neither r rest first later (suc k) x few is h = later (k, x, omega (arith, few), is, h)

module _ (found : List Restriction) (element : ℕ) (direction : Direction) (vehicle : ℕ) where
  pub closes : (s : ℤ) (r : Restriction) → Decided (Closes element direction vehicle s r)
  closes s r =
      let concerns = both _ _ (closes_direction r.closed direction) (serves r.vehicles vehicle) in
      elim (both _ _ (same_number r.element element) (both _ _ concerns (holds_at r.domain s))) [
        | inl h ↦ inl (record { names = h.0; concerns = h.1.0; holds = h.1.1 })
        | inr never ↦ inr (λ h. never (h.names, (h.concerns, h.holds)))
      ]

  pub open_or_not : (s : ℤ) → Decided (IsOpen found element direction vehicle s)
  open_or_not s = not _ (any (Closes element direction vehicle s) (closes s) found)
