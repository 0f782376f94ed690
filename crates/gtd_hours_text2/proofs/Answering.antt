-- What a call answers is what is read: for the calls that add a part.
use Rattle.std.proofs.Common.{◌≡◌, sym, ℕ}
use Rattle.std.specs.Prelude.{Result, Ok, Err}
use Rattle.gtd_hours_text2.specs.Parts.{Gives}

pub gives_same : {X : Type 0} → (r s : Result X ℕ) → Gives (λ (x : X). x) r s → r ≡ s
gives_same (Ok x) s h = sym h
gives_same (Err place) s h = sym h
