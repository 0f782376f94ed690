-- What is answered of elements that are like earlier ones.
use Rattle.std.proofs.Common.{◌≡◌, ◌<◌, ◌≤◌, subst, sym, arith, inl, inr, ℕ, List, length, get_or}
use Rattle.gtd_records.specs.Closing.{Restriction}
use Rattle.gtd_rows.specs.declared.direction.DirectedElement.{DirectedElement}
use Rattle.gtd_alike.specs.Alike.{AreFirstAlike, AreOpenAlike, asked_at}
use Rattle.gtd_alike.specs.Firsts.{IsEarlier}

-- a thing that is an earlier one or itself is like it, if each is like itself
like_first : (Alike : ℕ → ℕ → Type 0) (first at : ℕ) → ((k : ℕ) → Alike k k) → IsEarlier Alike first at → Alike first at
like_first Alike first at own (inl e) = subst (λ (k : ℕ). Alike k at) (sym e) (own at)
like_first Alike first at own (inr h) = h.1

not_after : (Alike : ℕ → ℕ → Type 0) (first at : ℕ) → IsEarlier Alike first at → first ≤ at
not_after Alike first at (inl e) = omega (arith, e)
not_after Alike first at (inr h) = omega (arith, h.0)

pub first_elements : (found : List Restriction) (vehicle : ℕ) (asked : List DirectedElement) (count : ℕ) (firsts : List ℕ)
    → count ≡ length asked → length firsts ≡ count
    → ((k : ℕ) → k < count → IsEarlier (λ (i j : ℕ). AreOpenAlike found vehicle (asked_at asked i) (asked_at asked j))
    (get_or firsts k 0) k)
    → AreFirstAlike found vehicle asked firsts
first_elements found vehicle asked count firsts all many each =
    let alike = λ (i j : ℕ). AreOpenAlike found vehicle (asked_at asked i) (asked_at asked j) in
    record {
      many = omega (arith, all, many);
      not_later = λ at within. not_after alike (get_or firsts at 0) at (each at (omega (arith, all, within)));
      alike = λ at within. like_first alike (get_or firsts at 0) at (λ k t. ((λ h. h), (λ h. h)))
          (each at (omega (arith, all, within)));
    }
