-- Each moment has exactly one list of the rows that close an element.
use Rattle.std.proofs.Common.{◌≡◌, sym, refl, subst, arith, ◌<◌, ◌+◌, inl, inr, ◌↔◌, ℕ, zero, suc, List, [], ◌∷◌, length}
use Rattle.std.specs.Prelude.{ℤ, slice_index_or}
use Rattle.std.proofs.lemmas.Map.Keys.{IsStrictlyIncreasing-from_sorted}
use Rattle.gtd_records.specs.facts.OpenDecisions.{closes}
use Rattle.gtd_rows.specs.facts.Rising.{AllAbove, In, Rises, from_in, one_list, to_in}
use Rattle.gtd_records.specs.Closing.{Closes, Restriction}
use Rattle.gtd_records.specs.ClosingRows.{AreClosingRows}
use Rattle.gtd_rows.specs.declared.direction.Direction.{Direction}
use Rattle.gtd_report.specs.facts.SomeElements.{sorted}

module _ (found : List Restriction) (element : ℕ) (direction : Direction) (vehicle : ℕ) (second : ℤ) where
  -- one of these restrictions closes it, where k stand before them
  record ClosingFrom (k : ℕ) (rows : List Restriction) (n : ℕ) : Type 0 where
    at : ℕ
    is : n ≡ k + at + 1
    within : at < length rows
    row : Restriction
    stands : slice_index_or rows at row ≡ row
    closed : Closes element direction vehicle second row

  record Numbers (k : ℕ) (rows : List Restriction) : Type 0 where
    numbers : List ℕ
    rising : Rises numbers
    above : AllAbove k numbers
    each : (n : ℕ) → In n numbers ↔ ClosingFrom k rows n

  lower : (n : ℕ) (xs : List ℕ) → AllAbove (n + 1) xs → AllAbove n xs
  lower n [] a = tt
  lower n (y ∷ ys) a = ((let l = a.0 in omega arith), lower n ys a.1)

  after : (k : ℕ) (r : Restriction) (rows : List Restriction) (n : ℕ) → ClosingFrom (k + 1) rows n → ClosingFrom k (r ∷ rows) n
  after k r rows n c = record {
    at = suc c.at;
    is = (let e = c.is in omega arith);
    within = (let l = c.within in omega arith);
    row = c.row;
    stands = c.stands;
    closed = c.closed;
  }

  by_place : (P : Type 0) (k : ℕ) (r : Restriction) (rows : List Restriction) (n at : ℕ) (row : Restriction) → n ≡ k + at + 1
      → at < length (r ∷ rows)
      → slice_index_or (r ∷ rows) at row ≡ row → Closes element direction vehicle second row
      → (n ≡ k + 1 → Closes element direction vehicle second r → P) → (ClosingFrom (k + 1) rows n → P) → P
  by_place P k r rows n zero row e lt stands closed first more =
      first (omega arith) (subst (Closes element direction vehicle second) (sym stands) closed)
  by_place P k r rows n (suc at) row e lt stands closed first more =
      more (record { at = at; is = omega arith; within = omega arith; row = row; stands = stands; closed = closed })

  numbers_of : (k : ℕ) (rows : List Restriction) → Numbers k rows
  numbers_of k [] = record {
    numbers = [];
    rising = tt;
    above = tt;
    each =
        λ n. ((λ h. absurd h), (λ c. let l = c.within in absurd (omega arith)));
  }
  numbers_of k (r ∷ rows) =
      let more = numbers_of (k + 1) rows in
      elim (closes found element direction vehicle second r) [
        | inl does ↦ record {
          numbers = (k + 1) ∷ more.numbers;
          rising = (more.above, more.rising);
          above = (omega arith, lower k more.numbers more.above);
          each = λ n. (
            (λ h. elim h [
              | inl e ↦ record { at = 0; is = omega (arith, e); within = omega arith; row = r; stands = refl; closed = does }
              | inr i ↦ after k r rows n ((more.each n).0 i)
            ]),
            (λ c. by_place (In n ((k + 1) ∷ more.numbers)) k r rows n c.at c.row c.is c.within c.stands c.closed
                (λ e h. inl (sym e)) (λ d. inr ((more.each n).1 d))),
          );
        }
        | inr never ↦ record {
          numbers = more.numbers;
          rising = more.rising;
          above = lower k more.numbers more.above;
          each = λ n. (
            (λ h. after k r rows n ((more.each n).0 h)),
            (λ c. by_place (In n more.numbers) k r rows n c.at c.row c.is c.within c.stands c.closed (λ e h. absurd (never h))
                (λ d. (more.each n).1 d)),
          );
        }
      ]

  pub some_rows : (rows : List ℕ) × AreClosingRows found element direction vehicle second rows
  some_rows =
      let r = numbers_of 0 found in (
        r.numbers,
        record {
          ascending = IsStrictlyIncreasing-from_sorted r.numbers (sorted r.numbers r.rising);
          each = λ n. (
            (λ c.
                let f = (r.each n).0 (to_in n r.numbers c.0 c.1 c.2) in
                let e = f.is in
                record {
                  before = f.at;
                  is = omega arith;
                  within = f.within;
                  row = f.row;
                  stands = f.stands;
                  closes = f.closed;
                }),
            (λ f.
                let e = f.is in
                from_in n r.numbers ((r.each n).1 (record {
                  at = f.before;
                  is = omega arith;
                  within = f.within;
                  row = f.row;
                  stands = f.stands;
                  closed = f.closes;
                }))),
          );
        },
      )

  pub one_rows : (a b : List ℕ) → AreClosingRows found element direction vehicle second a
      → AreClosingRows found element direction vehicle second b → a ≡ b
  one_rows a b p q =
      one_list a b p.ascending q.ascending (λ n h. (q.each n).1 ((p.each n).0 h)) (λ n h. (p.each n).1 ((q.each n).0 h))
