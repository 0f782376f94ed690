-- The records of a text that is cut between two records are those of the one part and then of the other.
use Rattle.std.proofs.Common.{◌≡◌, ◌∙◌, sym, ap, refl, subst, arith, ◌<◌, ◌+◌, ◌⊎◌, inl, inr, ℕ, zero, suc, false, List, []}
use Rattle.std.proofs.Common.{◌∷◌, ◌++◌, length, Option, Some, None}
use Rattle.std.proofs.lemmas.Bool.Decides.{nat_tests}
use Rattle.std.proofs.lemmas.Bool.{cases_Bool}
use Rattle.csv.specs.Machine.{Read, step, is_end, fields_after, field_after, next_record}
use Rattle.csv.specs.Reading.{default_config, records}
use Rattle.csv.specs.declared.parser.Action.{Action}
use Rattle.csv.specs.declared.parser.Action.TheVariants as act
use Rattle.csv.specs.declared.parser.State.{State}
use Rattle.csv.specs.declared.parser.State.TheVariants as st
use Rattle.gtd_rows.proofs.TableFacts.{first_then_rest, leaves, none_left, takes}
use Rattle.gtd_records.specs.Cut.{state_after}
use Rattle.gtd_rows.specs.Table.{IsBetween, records_after}
use Rattle.gtd_rows.specs.Columns.{Fields}

abbrev pub IsComment : State → Type 0
IsComment s = s ≡ st.InComment

-- no byte leads into a comment
pub no_comment : (s : State) (c : ℕ) → (IsComment s → ⊥) → IsComment (step default_config s c).0 → ⊥
no_comment st.StartRecord c n h = grind (arith, nat_tests)
no_comment st.StartField c n h = grind (arith, nat_tests)
no_comment st.InField c n h = grind (arith, nat_tests)
no_comment st.InQuoted c n h = grind (arith, nat_tests)
no_comment st.InEscape c n h = grind (arith, nat_tests)
no_comment st.AfterQuote c n h = grind (arith, nat_tests)
no_comment st.InComment c n h = n refl
no_comment st.AfterCr c n h = grind (arith, nat_tests)

-- a byte that ends no record leads between two records only from there, and does nothing
pub stays : (s : State) (c : ℕ) → (IsComment s → ⊥) → is_end (step default_config s c).1 ≡ false
    → IsBetween (step default_config s c).0
    → IsBetween s × ((step default_config s c).1 ≡ act.Skip)
stays st.StartRecord c n e h = (inl refl, grind (arith, nat_tests))
stays st.StartField c n e h = absurd (grind (arith, nat_tests))
stays st.InField c n e h = absurd (grind (arith, nat_tests))
stays st.InQuoted c n e h = absurd (grind (arith, nat_tests))
stays st.InEscape c n e h = absurd (grind (arith, nat_tests))
stays st.AfterQuote c n e h = absurd (grind (arith, nat_tests))
stays st.InComment c n e h = absurd (n refl)
stays st.AfterCr c n e h = (inr refl, grind (arith, nat_tests))

-- nothing is at hand between two records
record Fresh (s : State) (fields : Fields) (field : List ℕ) : Type 0 where
  bare : IsBetween s → (fields ≡ []) × (field ≡ [])
  plain : IsComment s → ⊥

fresh : (s : State) (fields : Fields) (field : List ℕ) (c : ℕ) → Fresh s fields field → is_end (step default_config s c).1 ≡ false
    → Fresh (step default_config s c).0 (fields_after (step default_config s c).1 fields field)
    (field_after (step default_config s c).1 c field)
fresh s fields field c f e = record {
  bare = λ h.
      let k = stays s c f.plain e h in
      let b = f.bare k.0 in
      (ap (λ (a : Action). fields_after a fields field) k.1 ∙ b.0, ap (λ (a : Action). field_after a c field) k.1 ∙ b.1);
  plain = no_comment s c f.plain;
}

-- a record of the first part, or none
record Reads (s : State) (fields : Fields) (field x y : List ℕ) : Type 0 where
  read : Read
  first : next_record default_config s fields field x ≡ Some read
  whole : next_record default_config s fields field (x ++ y) ≡ Some (read.0, read.1, read.2 ++ y)
  after : state_after read.1 read.2 ≡ state_after s x

abbrev None_of : State → Fields → List ℕ → List ℕ → List ℕ → Type 0
None_of s fields field x y =
    (next_record default_config s fields field x ≡ None)
    × (next_record default_config s fields field (x ++ y) ≡ next_record default_config (state_after s x) [] [] y)

at_end : (s : State) (y : List ℕ) → IsBetween s → None_of s [] [] [] y
unfolding next_record state_after
at_end s y (inl e) = (rw e refl, refl)
at_end s y (inr e) = (rw e refl, refl)

next_in : (s : State) (fields : Fields) (field x y : List ℕ) → Fresh s fields field → IsBetween (state_after s x)
    → Reads s fields field x y ⊎ None_of s fields field x y
unfolding next_record state_after
next_in s fields field [] y f between =
    let b = f.bare between in
    rw (b.0, b.1) (inr (at_end s y between))
next_in s fields field (c ∷ x) y f between =
    let now = step default_config s c in
    let more = next_in now.0 (fields_after now.1 fields field) (field_after now.1 c field) x y in
    elim (cases_Bool (is_end now.1)) [
      | inl e ↦ inl (record {
        read = (fields_after now.1 fields field, now.0, x);
        first = rw e refl;
        whole = rw e refl;
        after =
            refl;
      })
      | inr e ↦ elim (more (fresh s fields field c f e) between) [
        | inl r ↦ inl (record { read = r.read; first = rw e r.first; whole = rw e r.whole; after = r.after })
        | inr n ↦ inr (rw e n.0, rw e n.1)
      ]
    ]

start : (s : State) → IsBetween s → Fresh s [] []
start s (inl e) = record { bare = λ h. (refl, refl); plain = λ h. (let k = sym e ∙ h in cc) }
start s (inr e) = record { bare = λ h. (refl, refl); plain = λ h. (let k = sym e ∙ h in cc) }

-- two texts with one next record have the same records
same_records : (s t : State) (x y : List ℕ) (o : Option Read) → IsBetween s → IsBetween t → next_record default_config s [] [] x
    ≡ o
    → next_record default_config t [] [] y ≡ o → records_after s x ≡ records_after t y
same_records s t x y None p q e f = none_left s x e ∙ sym (none_left t y f)
same_records s t x y (Some read) p q e f = first_then_rest s x read p e ∙ sym (first_then_rest t y read q f)

parts : (n : ℕ) (s : State) (x y : List ℕ) → length x < n → IsBetween s → IsBetween (state_after s x)
    → records_after s (x ++ y) ≡ records_after s x ++ records_after (state_after s x) y
parts zero s x y lt p q = absurd (omega arith)
parts (suc n) s x y lt p q =
    elim (next_in s [] [] x y (start s p) q) [
      | inl r ↦
          let shorter = takes s x r.read p r.first in
          let between = (leaves s [] [] x r.read r.first).1 in
          let rest = parts n r.read.1 r.read.2 y (omega (arith, shorter, lt)) between (subst IsBetween (sym r.after) q) in
          first_then_rest s (x ++ y) (r.read.0, r.read.1, r.read.2 ++ y) p r.whole
          ∙ ap (λ (l : List Fields). r.read.0 ∷ l) rest
          ∙ ap (λ (z : State). r.read.0 ∷ (records_after r.read.1 r.read.2 ++ records_after z y)) r.after
          ∙ ap (λ (l : List Fields). l ++ records_after (state_after s x) y) (sym (first_then_rest s x r.read p r.first))
      | inr k ↦
          same_records s (state_after s x) (x ++ y) y (next_record default_config (state_after s x) [] [] y) p q k.1 refl
          ∙ ap (λ (l : List Fields). l ++ records_after (state_after s x) y) (sym (none_left s x k.0))
    ]

same_step : (c : ℕ) → step default_config st.AfterCr c ≡ step default_config st.StartRecord c
same_step c = grind (arith, nat_tests)

same_start : (y : List ℕ) → next_record default_config st.AfterCr [] [] y ≡ next_record default_config st.StartRecord [] [] y
unfolding next_record
same_start [] = refl
same_start (c ∷ y) = rw (same_step c) refl

from_start : (s : State) (y : List ℕ) → IsBetween s → records_after s y ≡ records_after st.StartRecord y
from_start s y (inl e) = ap (λ (z : State). records_after z y) e
from_start s y (inr e) =
    ap (λ (z : State). records_after z y) e
    ∙ same_records st.AfterCr st.StartRecord y y (next_record default_config st.StartRecord [] [] y) (inr refl) (inl refl)
    (same_start y) refl

pub cut_records : (x y : List ℕ) → IsBetween (state_after st.StartRecord x) → records default_config (x ++ y)
    ≡ records default_config x ++ records default_config y
cut_records x y between =
    parts (length x + 1) st.StartRecord x y (omega arith) (inl refl) between
    ∙ ap (λ (l : List Fields). records_after st.StartRecord x ++ l) (from_start (state_after st.StartRecord x) y between)
