-- Where each restriction closes both directions, these are open at the same seconds.
use Rattle.std.proofs.Common.{◌≡◌, ℕ, List}
use Rattle.std.specs.Prelude.{Any, ℤ}
use Rattle.gtd_records.specs.Closing.{ClosesOneWay, IsClosed, IsOpen, Restriction}
use Rattle.gtd_rows.specs.Serving.{ClosesDirection}
use Rattle.gtd_rows.specs.declared.direction.Closed.{Closed}
use Rattle.gtd_rows.specs.declared.direction.Closed.TheVariants.{One, Both}
use Rattle.gtd_rows.specs.declared.direction.Direction.{Direction}

either_way : (closed : Closed) (a b : Direction) → ((closed ≡ Both → ⊥) → ⊥) → ClosesDirection closed a → ClosesDirection closed b
either_way (One d) a b both closes = absurd (both (λ e. cc))
either_way Both a b both closes = tt

module _ (found : List Restriction) (element vehicle : ℕ) (none : Any (ClosesOneWay element vehicle) found → ⊥) where
  closed_too : (a b : Direction) (t : ℤ) → IsClosed found element a vehicle t → IsClosed found element b vehicle t
  closed_too a b t is =
      let c = is.4 in (
        is.0,
        is.1,
        is.2,
        is.3,
        record {
          names = c.names;
          concerns = (
            either_way is.1.closed a b
                (λ one. none (is.0, is.1, is.2, is.3, record { names = c.names; serves = c.concerns.1; one = one }))
                c.concerns.0,
            c.concerns.1,
          );
          holds = c.holds;
        },
      )

  pub open_too : (a b : Direction) (t : ℤ) → IsOpen found element a vehicle t → IsOpen found element b vehicle t
  open_too a b t free closed = free (closed_too b a t closed)
