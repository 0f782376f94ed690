-- Each line end of a text whose fields hold none lies between two of its records, and each line is a record or empty.
use Rattle.std.proofs.Common.{◌≡◌, ◌∙◌, sym, ap, refl, subst, arith, ◌<◌, ◌||◌, ◌&&◌, ◌⊎◌, inl, inr, ℕ, Bool, true, false, cond}
use Rattle.std.proofs.Common.{List, [], ◌∷◌, ◌++◌, length, Option, Some, None}
use Rattle.std.specs.List.{list_all, list_any}
use Rattle.std.proofs.lemmas.Bool.{cases_Bool}
use Rattle.std.proofs.lemmas.Bool.Decides.{nat_tests}
use Rattle.std.proofs.lemmas.List.Folds.{list_any-append}
use Rattle.csv.specs.Machine.{Read, step, is_end, fields_after, field_after, ends_at_end, next_record}
use Rattle.csv.specs.Reading.{default_config, records, records_next}
use Rattle.csv.specs.declared.parser.Action.{Action}
use Rattle.csv.specs.declared.parser.Action.TheVariants as act
use Rattle.csv.specs.declared.parser.State.{State}
use Rattle.csv.specs.declared.parser.State.TheVariants as st
use Rattle.gtd_records.proofs.CutBytes.{IsComment, no_comment, stays}
use Rattle.gtd_rows.proofs.TableFacts.{chosen, ends, first_then_rest, none_left}
use Rattle.gtd_rows.specs.Columns.{Fields}
use Rattle.gtd_records.specs.Cut.{is_line_end, state_after}
use Rattle.gtd_rows.specs.Table.{IsBetween, records_after}

-- ---- tests

either : (a b : Bool) → (a || b) ≡ true → (a ≡ true) ⊎ (b ≡ true)
either true b h = inl refl
either false b h = inr h

one_of : (a b : Bool) → (a ≡ true) ⊎ (b ≡ true) → (a || b) ≡ true
one_of true b h = refl
one_of false b (inl e) = absurd cc
one_of false b (inr e) = e

pub neither : (a b : Bool) → (a || b) ≡ false → (a ≡ false) × (b ≡ false)
neither false b h = (refl, h)
neither true b h = absurd cc

both : (a b : Bool) → (a && b) ≡ true → (a ≡ true) × (b ≡ true)
both true b h = (refl, h)
both false b h = absurd cc

or_false : (b : Bool) → (b || false) ≡ b
or_false true = refl
or_false false = refl

differ : {b : Bool} → b ≡ true → b ≡ false → ⊥
differ p q = cc

-- ---- line ends in fields

-- a byte of the field ends a line
abbrev pub has_end : List ℕ → Bool
has_end field = list_any is_line_end field

-- a field of the record has such a byte
abbrev pub has_ends : Fields → Bool
has_ends fields = list_any has_end fields

-- a record has such a field
abbrev pub some_ends : List Fields → Bool
some_ends rows = list_any has_ends rows

one_more : (fields : Fields) (field : List ℕ) → has_ends (fields ++ (field ∷ [])) ≡ (has_ends fields || has_end field)
one_more fields field =
    list_any-append has_end fields (field ∷ []) ∙ ap (λ (b : Bool). has_ends fields || b) (or_false (has_end field))

-- a line end that was read stays in the record
still : (a : Action) (c : ℕ) (fields : Fields) (field : List ℕ) → (has_ends fields || has_end field) ≡ true
    → (has_ends (fields_after a fields field) || has_end (field_after a c field)) ≡ true
still act.Copy c fields field h =
    one_of (has_ends fields) (has_end (field ++ (c ∷ []))) (elim (either (has_ends fields) (has_end field) h) [
      | inl p ↦ inl p
      | inr p ↦ inr (list_any-append is_line_end field (c ∷ []) ∙ one_of (has_end field) (has_end (c ∷ [])) (inl p))
    ])
still act.Skip c fields field h = h
still act.EndField c fields field h =
    one_of (has_ends (fields ++ (field ∷ []))) (has_end []) (inl (one_more fields field ∙ h))
still act.EndRecord c fields field h =
    one_of (has_ends (fields ++ (field ∷ []))) (has_end []) (inl (one_more fields field ∙ h))

at_end : (a : Action) (fields : Fields) (field : List ℕ) → is_end a ≡ true → (has_ends fields || has_end field) ≡ true
    → has_ends (fields_after a fields field) ≡ true
at_end act.Copy fields field e h = absurd cc
at_end act.Skip fields field e h = absurd cc
at_end act.EndField fields field e h = absurd cc
at_end act.EndRecord fields field e h = one_more fields field ∙ h

last : (b : Bool) (fields : Fields) (read : Read)
    → ◌≡◌ {A = Option Read} (cond b (Some (fields, st.StartRecord, [])) None) (Some read) → read.0 ≡ fields
last true fields read h = let p : read ≡ (fields, st.StartRecord, []) = cc in rw p refl
last false fields read h = cc

kept : (s : State) (fields : Fields) (field bytes : List ℕ) (read : Read) → (has_ends fields || has_end field) ≡ true
    → next_record default_config s fields field bytes ≡ Some read → has_ends read.0 ≡ true
unfolding next_record
kept s fields field [] read h e =
    ap has_ends (last (ends_at_end s) (fields ++ (field ∷ [])) read e) ∙ one_more fields field ∙ h
kept s fields field (c ∷ rest) read h e =
    let now = step default_config s c in
    let hit : Read = (fields_after now.1 fields field, now.0, rest) in
    let more = next_record default_config now.0 (fields_after now.1 fields field) (field_after now.1 c field) rest in
    elim (chosen (is_end now.1) (Some hit) more (Some read) e) [
      | inl p ↦ let q : read ≡ hit = cc in rw q (at_end now.1 fields field p.0 h)
      | inr q ↦ kept now.0 (fields_after now.1 fields field) (field_after now.1 c field) rest read
          (still now.1 c fields field h) q.1
    ]

-- ---- inside a record

-- not between two records, nor where no text leads
pub record IsInside (s : State) : Type 0 where
  pub inside : IsBetween s → ⊥
  pub plain : IsComment s → ⊥
  pub unescaped : s ≡ st.InEscape → ⊥

no_escape : (s : State) (c : ℕ) → (IsComment s → ⊥) → (step default_config s c).0 ≡ st.InEscape → ⊥
no_escape st.StartRecord c n h = grind (arith, nat_tests)
no_escape st.StartField c n h = grind (arith, nat_tests)
no_escape st.InField c n h = grind (arith, nat_tests)
no_escape st.InQuoted c n h = grind (arith, nat_tests)
no_escape st.InEscape c n h = grind (arith, nat_tests)
no_escape st.AfterQuote c n h = grind (arith, nat_tests)
no_escape st.InComment c n h = n refl
no_escape st.AfterCr c n h = grind (arith, nat_tests)

goes_on : (s : State) (c : ℕ) → IsInside s → is_end (step default_config s c).1 ≡ false → IsInside (step default_config s c).0
goes_on s c i e = record {
  inside = λ b. i.inside (stays s c i.plain e b).0;
  plain = no_comment s c i.plain;
  unescaped = no_escape s c i.plain;
}

ends_some : (s : State) → IsInside s → ends_at_end s ≡ true
ends_some st.StartRecord i = absurd (i.inside (inl refl))
ends_some st.StartField i = refl
ends_some st.InField i = refl
ends_some st.InQuoted i = refl
ends_some st.InEscape i = refl
ends_some st.AfterQuote i = refl
ends_some st.InComment i = refl
ends_some st.AfterCr i = absurd (i.inside (inr refl))

some_read : (s : State) (fields : Fields) (field bytes : List ℕ) → IsInside s
    → (read : Read) × (next_record default_config s fields field bytes ≡ Some read)
unfolding next_record
some_read s fields field [] i = ((fields ++ (field ∷ []), st.StartRecord, []), rw (ends_some s i) refl)
some_read s fields field (c ∷ rest) i =
    let now = step default_config s c in
    elim (cases_Bool (is_end now.1)) [
      | inl e ↦ ((fields_after now.1 fields field, now.0, rest), rw e refl)
      | inr e ↦
          let more = some_read now.0 (fields_after now.1 fields field) (field_after now.1 c field) rest (goes_on s c i e) in
          (more.0, rw e more.1)
    ]

-- ---- a line end lies between two records

-- the records of the bytes that follow, where so much of the first was read
abbrev pub rows_at : State → Fields → List ℕ → List ℕ → List Fields
rows_at s fields field bytes = records_next records_after (next_record default_config s fields field bytes)

as_next : (s : State) (bytes : List ℕ) (o : Option Read) → IsBetween s → next_record default_config s [] [] bytes ≡ o
    → records_after s bytes ≡ records_next records_after o
as_next s bytes None b e = none_left s bytes e
as_next s bytes (Some read) b e = first_then_rest s bytes read b e

as_rows : (s : State) (bytes : List ℕ) → IsBetween s → records_after s bytes ≡ rows_at s [] [] bytes
as_rows s bytes b = as_next s bytes (next_record default_config s [] [] bytes) b refl

-- where a line end leads: it is a byte of a quoted field, or it leads between two records
leads : (s : State) (c : ℕ) → (IsComment s → ⊥) → (s ≡ st.InEscape → ⊥) → is_line_end c ≡ true
    → IsBetween (step default_config s c).0 ⊎ ((s ≡ st.InQuoted) × (step default_config st.InQuoted c ≡ (st.InQuoted, act.Copy)))
leads st.StartRecord c p q h = inl (grind (arith, nat_tests))
leads st.StartField c p q h = inl (grind (arith, nat_tests))
leads st.InField c p q h = inl (grind (arith, nat_tests))
leads st.InQuoted c p q h = inr (refl, grind (arith, nat_tests))
leads st.InEscape c p q h = absurd (q refl)
leads st.AfterQuote c p q h = inl (grind (arith, nat_tests))
leads st.InComment c p q h = absurd (p refl)
leads st.AfterCr c p q h = inl (grind (arith, nat_tests))

in_quotes : IsInside st.InQuoted
in_quotes = record { inside = λ b. elim b [ inl e ↦ cc | inr e ↦ cc ]; plain = λ e. cc; unescaped = λ e. cc }

-- a line end that joins a quoted field is in one of the records
quoted_end : (fields : Fields) (field : List ℕ) (c : ℕ) (rest : List ℕ) → is_line_end c ≡ true
    → step default_config st.InQuoted c ≡ (st.InQuoted, act.Copy)
    → some_ends (rows_at st.InQuoted fields field (c ∷ rest)) ≡ true
unfolding next_record
quoted_end fields field c rest h e =
    let r = some_read st.InQuoted fields (field ++ (c ∷ [])) rest in_quotes in
    let has = kept st.InQuoted fields (field ++ (c ∷ [])) rest r.0
    (one_of (has_ends fields) (has_end (field ++ (c ∷ [])))
    (inr (list_any-append is_line_end field (c ∷ []) ∙ one_of (has_end field) (has_end (c ∷ []))
    (inr (one_of (is_line_end c) false (inl h)))))) r.1 in
    rw (e, r.1) (one_of (has_ends r.0.0) (some_ends (records_after r.0.1 r.0.2)) (inl has))

between_at : (front : List ℕ) (s : State) (fields : Fields) (field : List ℕ) (c : ℕ) (rest : List ℕ)
    → (IsComment s → ⊥) → (s ≡ st.InEscape → ⊥) → is_line_end c ≡ true
    → some_ends (rows_at s fields field (front ++ c ∷ rest)) ≡ false → IsBetween (state_after s (front ++ c ∷ []))
unfolding next_record state_after
between_at [] s fields field c rest plain escape h none =
    elim (leads s c plain escape h) [
      | inl b ↦ b
      | inr q ↦ absurd (differ (quoted_end fields field c rest h q.1)
          (subst (λ (z : State). some_ends (rows_at z fields field (c ∷ rest)) ≡ false) q.0 none))
    ]
between_at (b ∷ front) s fields field c rest plain escape h none =
    let now = step default_config s b in
    elim (cases_Bool (is_end now.1)) [
      | inl e ↦
          let bet = ends s b e in
          let hit : Fields = fields_after now.1 fields field in
          let all : (has_ends hit || some_ends (records_after now.0 (front ++ c ∷ rest))) ≡ false = rw e at none in
          let later = (neither (has_ends hit) (some_ends (records_after now.0 (front ++ c ∷ rest))) all).1 in
          between_at front now.0 [] [] c rest (no_comment s b plain) (no_escape s b plain) h
          (ap some_ends (sym (as_rows now.0 (front ++ c ∷ rest) bet)) ∙ later)
      | inr e ↦
          between_at front now.0 (fields_after now.1 fields field) (field_after now.1 b field) c rest (no_comment s b plain)
          (no_escape s b plain) h (rw e at none)
    ]

pub line_end_between : (front : List ℕ) (c : ℕ) (rest : List ℕ) → is_line_end c ≡ true
    → some_ends (records default_config (front ++ c ∷ rest)) ≡ false
    → IsBetween (state_after st.StartRecord (front ++ c ∷ []))
line_end_between front c rest h none =
    between_at front st.StartRecord [] [] c rest (λ e. cc) (λ e. cc) h
    (ap some_ends (sym (as_rows st.StartRecord (front ++ c ∷ rest) (inl refl))) ∙ none)

-- ---- a line is a record, or empty

skips : (s : State) (c : ℕ) → IsBetween s → is_line_end c ≡ true → step default_config s c ≡ (st.StartRecord, act.Skip)
skips s c (inl e) h = rw e (grind (arith, nat_tests))
skips s c (inr e) h = rw e (grind (arith, nat_tests))

nothing : (s : State) (end : List ℕ) → IsBetween s → list_all is_line_end end ≡ true
    → next_record default_config s [] [] end ≡ None
unfolding next_record
nothing s [] (inl e) h = rw e refl
nothing s [] (inr e) h = rw e refl
nothing s (c ∷ end) b h =
    let p = both (is_line_end c) (list_all is_line_end end) h in
    rw (skips s c b p.0) (nothing st.StartRecord end (inl refl) p.1)

pub no_rows : (end : List ℕ) → list_all is_line_end end ≡ true → records default_config end ≡ []
no_rows end h = none_left st.StartRecord end (nothing st.StartRecord end (inl refl) h)

-- one record is read, and nothing after it
record ReadsOne (s : State) (fields : Fields) (field bytes : List ℕ) : Type 0 where
  read : Read
  is : next_record default_config s fields field bytes ≡ Some read
  none : records_after read.1 read.2 ≡ []

closes : (s : State) (c : ℕ) → IsInside s → is_line_end c ≡ true
    → (is_end (step default_config s c).1 ≡ true)
    ⊎ ((s ≡ st.InQuoted) × (step default_config st.InQuoted c ≡ (st.InQuoted, act.Copy)))
closes st.StartRecord c i h = absurd (i.inside (inl refl))
closes st.StartField c i h = inl (grind (arith, nat_tests))
closes st.InField c i h = inl (grind (arith, nat_tests))
closes st.InQuoted c i h = inr (refl, grind (arith, nat_tests))
closes st.InEscape c i h = absurd (i.unescaped refl)
closes st.AfterQuote c i h = inl (grind (arith, nat_tests))
closes st.InComment c i h = absurd (i.plain refl)
closes st.AfterCr c i h = absurd (i.inside (inr refl))

opens_none : (s : State) (c : ℕ) → (IsComment s → ⊥) → is_line_end c ≡ false → is_end (step default_config s c).1 ≡ false
opens_none st.StartRecord c p h = grind (arith, nat_tests)
opens_none st.StartField c p h = grind (arith, nat_tests)
opens_none st.InField c p h = grind (arith, nat_tests)
opens_none st.InQuoted c p h = grind (arith, nat_tests)
opens_none st.InEscape c p h = grind (arith, nat_tests)
opens_none st.AfterQuote c p h = grind (arith, nat_tests)
opens_none st.InComment c p h = absurd (p refl)
opens_none st.AfterCr c p h = grind (arith, nat_tests)

one_at_end : (end : List ℕ) (s : State) (fields : Fields) (field : List ℕ) → IsInside s → list_all is_line_end end ≡ true
    → ReadsOne s fields field end
unfolding next_record
one_at_end [] s fields field i h = record {
  read = (fields ++ (field ∷ []), st.StartRecord, []);
  is = rw (ends_some s i) refl;
  none = none_left st.StartRecord [] refl;
}
one_at_end (c ∷ end) s fields field i h =
    let p = both (is_line_end c) (list_all is_line_end end) h in
    let now = step default_config s c in
    elim (closes s c i p.0) [
      | inl e ↦ record {
        read = (fields_after now.1 fields field, now.0, end);
        is = rw e refl;
        none = none_left now.0 end (nothing now.0 end (ends s c e) p.1);
      }
      | inr q ↦
          let more = one_at_end end st.InQuoted fields (field ++ (c ∷ [])) in_quotes p.1 in
          record { read = more.read; is = rw (q.0, q.1) more.is; none = more.none }
    ]

one_inside : (line end : List ℕ) (s : State) (fields : Fields) (field : List ℕ) → IsInside s → has_end line ≡ false
    → list_all is_line_end end ≡ true → ReadsOne s fields field (line ++ end)
unfolding next_record
one_inside [] end s fields field i n h = one_at_end end s fields field i h
one_inside (c ∷ line) end s fields field i n h =
    let p = neither (is_line_end c) (has_end line) n in
    let now = step default_config s c in
    let e = opens_none s c i.plain p.0 in
    let more = one_inside line end now.0 (fields_after now.1 fields field) (field_after now.1 c field) (goes_on s c i e) p.1 h in
    record { read = more.read; is = rw e more.is; none = more.none }

enters : (c : ℕ) → is_line_end c ≡ false → IsInside (step default_config st.StartRecord c).0
enters c h = record {
  inside = inside c h;
  plain = no_comment st.StartRecord c (λ e. cc);
  unescaped = no_escape st.StartRecord c (λ e. cc);
}
  where
    inside : (c : ℕ) → is_line_end c ≡ false → IsBetween (step default_config st.StartRecord c).0 → ⊥
    inside c h b = grind (arith, nat_tests)

pub row_of_line : (line end : List ℕ) → 0 < length line → has_end line ≡ false → list_all is_line_end end ≡ true
    → (row : Fields) × (records default_config (line ++ end) ≡ row ∷ [])
unfolding next_record
row_of_line [] end some n h = absurd (omega arith)
row_of_line (c ∷ line) end some n h =
    let p = neither (is_line_end c) (has_end line) n in
    let now = step default_config st.StartRecord c in
    let e = opens_none st.StartRecord c (λ x. cc) p.0 in
    let one = one_inside line end now.0 (fields_after now.1 [] []) (field_after now.1 c []) (enters c p.0) p.1 h in
    let first : next_record default_config st.StartRecord [] [] (c ∷ (line ++ end)) ≡ Some one.read = rw e one.is in (
      one.read.0,
      first_then_rest st.StartRecord (c ∷ (line ++ end)) one.read (inl refl) first
          ∙ ap (λ (rows : List Fields). one.read.0 ∷ rows) one.none,
    )
