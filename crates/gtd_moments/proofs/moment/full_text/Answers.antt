use Rattle.std.proofs.Common.{rules, ◌≡◌, ap, Bool, ℕ}
use Rattle.std.specs.Prelude.{if◌then◌else◌}
use Rattle.std.proofs.lemmas.Bool.{ne_eqb}
use Rattle.gtd_moments.specs.Moments.{letter}
use Rattle.gtd_moments.proofs.Spelled.{by_bytes}
use Rattle.gtd_moments.proofs.moment.full_text.Goals as goal

pub returns-then-mark-eq32 : goal.returns-then-mark-eq32
returns-then-mark-eq32 c =
    by_bytes c.args.minutes.now c.args.seconds 84 (search rules) (search rules) (ap letter c.if-mark-eq32.true)

-- another byte stays as it is
other : (byte : ℕ) → (byte ≡ 32 → ⊥) → letter byte ≡ byte
other byte differs = ap (λ (b : Bool). if b then 84 else byte) (ne_eqb byte 32 differs)

pub returns-else-mark-eq32 : goal.returns-else-mark-eq32
returns-else-mark-eq32 c =
    by_bytes c.args.minutes.now c.args.seconds _ (search rules) (search rules) (other _ c.if-mark-eq32.false)
