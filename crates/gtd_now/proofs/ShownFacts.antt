-- Which lines are put.
use Rattle.std.proofs.Common.{◌≡◌, ◌↔◌, ◌∙◌, sym, refl, Bool, true, false, true≢false}
use Rattle.std.specs.Prelude.{IsTrue}

-- whether a line is put that is asked about only if its element is closed
pub by_closed : {A : Type 0} (is_closed wanted closed : Bool) → IsTrue is_closed ↔ A → IsTrue wanted → IsTrue closed
    → IsTrue is_closed ↔ (IsTrue wanted × (IsTrue closed → (A → ⊥) → ⊥))
by_closed true wanted closed both w c = ((λ h. (w, (λ t opens. opens (both.0 h)))), (λ s. refl))
by_closed false wanted closed both w c =
    ((λ h. absurd (true≢false (sym h))), (λ s. absurd (s.1 c (λ a. true≢false (sym (both.1 a))))))

-- whether a line is put that is asked about
pub by_wanted : {A : Type 0} (wanted closed : Bool) → IsTrue wanted → closed ≡ false
    → IsTrue true ↔ (IsTrue wanted × (IsTrue closed → (A → ⊥) → ⊥))
by_wanted wanted closed w c = ((λ h. (w, (λ t. absurd (true≢false (sym t ∙ c))))), (λ s. refl))

pub unwanted : {A : Type 0} (wanted closed : Bool) → wanted ≡ false
    → IsTrue false ↔ (IsTrue wanted × (IsTrue closed → (A → ⊥) → ⊥))
unwanted wanted closed w = ((λ h. absurd (true≢false (sym h))), (λ s. absurd (true≢false (sym s.0 ∙ w))))
