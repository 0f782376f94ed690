-- The records of a text are read one after the other: each takes some bytes, and ends between two records.
use Rattle.std.proofs.Common.{◌≡◌, ◌∙◌, ap, refl, arith, cond, ℕ, zero, suc, ◌+◌, ◌<◌, ◌≤◌, ◌⊎◌, inl, inr, Bool, true, false}
use Rattle.std.proofs.Common.{List, [], ◌∷◌, ◌++◌, length, Option, Some, None, add-one}
use Rattle.std.proofs.lemmas.Bool.Decides.{nat_tests}
use Rattle.csv.specs.Machine.{Read, step, in_field, is_end, fields_after, field_after, ends_at_end, next_record}
use Rattle.csv.specs.Reading.{ReadRecord, Ready, ReadsOn, ReadsNext, NextIs, default_config, records_from, records_next}
use Rattle.csv.specs.Reading.{reader_trim, is_flexible, pending_of}
use Rattle.csv.specs.declared.reader.Reader.{Reader}
use Rattle.csv.specs.declared.reader.Trim.TheVariants as trim
use Rattle.csv.proofs.ReadFacts.{rows-end}
use Rattle.csv.specs.declared.parser.State.{State}
use Rattle.csv.specs.declared.parser.State.TheVariants as st
use Rattle.gtd_rows.specs.Table.{HasLeft, IsBetween, TakesFirst, records_after}
use Rattle.gtd_rows.specs.Columns.{Fields}

-- a byte that ends a record leaves the reader between two
ends_field : (c : ℕ) → is_end (in_field default_config c).1 ≡ true → IsBetween (in_field default_config c).0
ends_field c h = grind (arith, nat_tests)

pub ends : (s : State) (c : ℕ) → is_end (step default_config s c).1 ≡ true → IsBetween (step default_config s c).0
ends st.StartRecord c h = grind (arith, nat_tests)
ends st.StartField c h = grind (arith, nat_tests)
ends st.InField c h = ends_field c h
ends st.InQuoted c h = grind (arith, nat_tests)
ends st.InEscape c h = grind (arith, nat_tests)
ends st.AfterQuote c h = grind (arith, nat_tests)
ends st.InComment c h = grind (arith, nat_tests)
ends st.AfterCr c h = grind (arith, nat_tests)

-- which way a test went
pub chosen : {A : Type 0} (b : Bool) (x y z : A) → cond b x y ≡ z → ((b ≡ true) × (x ≡ z)) ⊎ ((b ≡ false) × (y ≡ z))
chosen true x y z h = inl (refl, h)
chosen false x y z h = inr (refl, h)

none_ends : (b : Bool) (fields : List (List ℕ)) (read : Read)
    → ◌≡◌ {A = Option Read} (cond b (Some (fields, st.StartRecord, [])) None) (Some read) → (length read.2 ≤ 0) × IsBetween read.1
none_ends true fields read h = let p : read ≡ (fields, st.StartRecord, []) = cc in rw p (omega arith, inl refl)
none_ends false fields read h = cc

-- what a read leaves is no longer than what it was given, and it ends between two records
pub leaves : (s : State) (fields : List (List ℕ)) (field bytes : List ℕ) (read : Read)
    → next_record default_config s fields field bytes ≡ Some read → (length read.2 ≤ length bytes) × IsBetween read.1
unfolding next_record
leaves s fields field [] read h = none_ends (ends_at_end s) (fields ++ (field ∷ [])) read h
leaves s fields field (c ∷ rest) read h =
    let now = step default_config s c in
    let hit : Read = (fields_after now.1 fields field, now.0, rest) in
    let more = next_record default_config now.0 (fields_after now.1 fields field) (field_after now.1 c field) rest in
    elim (chosen (is_end now.1) (Some hit) more (Some read) h) [
      | inl p ↦ let e : read ≡ hit = cc in rw e (omega arith, ends s c p.0)
      | inr q ↦ let l = leaves now.0 (fields_after now.1 fields field) (field_after now.1 c field) rest read q.1 in
          (omega (arith, l.0), l.1)
    ]

-- a read from between two records takes at least one byte
pub takes : (s : State) (bytes : List ℕ) (read : Read) → IsBetween s → next_record default_config s [] [] bytes ≡ Some read
    → length read.2 < length bytes
unfolding next_record
takes s [] read (inl e) h = let n : ◌≡◌ {A = Option Read} None (Some read) = rw e at h in cc
takes s [] read (inr e) h = let n : ◌≡◌ {A = Option Read} None (Some read) = rw e at h in cc
takes s (c ∷ rest) read between h =
    let now = step default_config s c in
    let hit : Read = (fields_after now.1 [] [], now.0, rest) in
    let more = next_record default_config now.0 (fields_after now.1 [] []) (field_after now.1 c []) rest in
    elim (chosen (is_end now.1) (Some hit) more (Some read) h) [
      | inl p ↦ let e : read ≡ hit = cc in rw e (omega arith)
      | inr q ↦ let l = leaves now.0 (fields_after now.1 [] []) (field_after now.1 c []) rest read q.1 in omega (arith, l.0)
    ]

-- the records of a text are the same with any count above its length
same_next : (n m : ℕ) (bytes : List ℕ) (o : Option Read) → ((read : Read) → o ≡ Some read
    → records_from default_config n read.1 read.2 ≡ records_from default_config m read.1 read.2)
    → records_next (records_from default_config n) o ≡ records_next (records_from default_config m) o
same_next n m bytes None each = refl
same_next n m bytes (Some read) each = ap (λ more. read.0 ∷ more) (each read refl)

pub any_count : (n m : ℕ) (s : State) (bytes : List ℕ) → IsBetween s → length bytes < n → length bytes < m
    → records_from default_config n s bytes ≡ records_from default_config m s bytes
unfolding records_from
any_count zero m s bytes between below also = absurd (omega arith)
any_count (suc n) zero s bytes between below also = absurd (omega arith)
any_count (suc n) (suc m) s bytes between below also =
    same_next n m bytes (next_record default_config s [] [] bytes) (λ read e.
    let t = takes s bytes read between e in
    any_count n m read.1 read.2 (leaves s [] [] bytes read e).1 (omega arith) (omega arith))

-- the first of the records, and those after it
pub first_then_rest : (s : State) (bytes : List ℕ) (read : Read) → IsBetween s → next_record default_config s [] [] bytes
    ≡ Some read
    → records_after s bytes ≡ read.0 ∷ records_after read.1 read.2
unfolding records_from
first_then_rest s bytes read between e =
    let t = takes s bytes read between e in
    let same = any_count (length bytes) (length read.2 + 1) read.1 read.2 (leaves s [] [] bytes read e).1 t (omega arith) in
    rw (add-one (length bytes), e) (ap (λ more. read.0 ∷ more) same)

-- no record is left
pub none_left : (s : State) (bytes : List ℕ) → next_record default_config s [] [] bytes ≡ None → records_after s bytes ≡ []
unfolding records_from
none_left s bytes e = rw (add-one (length bytes), e) refl

-- the next record of these bytes, where the bytes after it are known
next_is : (s s2 : State) (bytes rest : List ℕ) (o : Option Read) (fields : Fields) → IsBetween s
    → next_record default_config s [] [] bytes ≡ o
    → NextIs o true fields s2 rest → (records_after s bytes ≡ fields ∷ records_after s2 rest) × IsBetween s2
next_is s s2 bytes rest None fields between e n = cc n
next_is s s2 bytes rest (Some read) fields between e n =
    (rw (n.1, n.2, n.3) (first_then_rest s bytes read between e), rw n.2 (leaves s [] [] bytes read e).1)

took_next : (s s2 : State) (bytes : List ℕ) (after : Option (List ℕ)) (fields : Fields) → IsBetween s
    → ReadsNext default_config s (Some bytes) after true fields s2
    → (rest : List ℕ) × (after ≡ Some rest) × (records_after s bytes ≡ fields ∷ records_after s2 rest) × IsBetween s2
took_next s s2 bytes None fields between n = absurd n
took_next s s2 bytes (Some rest) fields between n =
    let found = next_is s s2 bytes rest (next_record default_config s [] [] bytes) fields between refl n in
    (rest, refl, found.0, found.1)

-- a read that gave these fields took the first of the records that were left
took : {R : Type 0} (rem : R → Option (List ℕ)) (old new : Reader R) (fields : Fields)
    → (reader_trim old ≡ trim.None → Ready old → ReadRecord rem old new true fields) → is_flexible new ≡ is_flexible old
    → ReadsOn old new
    → (left : List Fields) → HasLeft rem old left → (rest : List Fields) × (left ≡ fields ∷ rest) × HasLeft rem new rest
took rem old new fields reads flexible on left has =
    let read = reads has.trim has.ready in
    let next = took_next old.state new.state has.bytes (pending_of (rem new.rdr) new) fields has.between
    (rw (has.config, has.source) at read.0) in
    let after : HasLeft rem new (records_after new.state next.0) = record {
      config = read.2 ∙ has.config;
      trim = read.3 ∙ has.trim;
      flexible = flexible ∙ has.flexible;
      ready = (on.4 has.ready).0;
      between = next.3;
      bytes = next.0;
      source = rw read.1 next.1;
      records = refl;
    } in
    (records_after new.state next.0, has.records ∙ next.2, after)

pub takes_first : {R : Type 0} (rem : R → Option (List ℕ)) (old new : Reader R) (found : Bool) (fields : Fields)
    → (reader_trim old ≡ trim.None → Ready old → ReadRecord rem old new found fields) → is_flexible new ≡ is_flexible old
    → (found ≡ true → ReadsOn old new)
    → TakesFirst rem old new found fields
takes_first rem old new true fields reads flexible on = took rem old new fields reads flexible (on refl)
takes_first rem old new false fields reads flexible on = λ left has.
    has.records ∙ none_left old.state has.bytes (rows-end rem old new fields default_config has.bytes has.config has.source
    (reads has.trim has.ready))
