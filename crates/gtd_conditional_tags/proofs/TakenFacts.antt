-- What the rows that were taken say.
use Rattle.std.proofs.Common.{◌≡◌, ◌∙◌, sym, ap, refl, subst, ◌+◌, inl, inr, ℕ, Bool, true, false, cond}
use Rattle.std.proofs.Common.{List, [], ◌∷◌, ◌++◌, map, append_assoc}
use Rattle.std.specs.Prelude.{Result, Ok, Err, IfOk, Option, Some, None}
use Rattle.std.specs.List.{list_any}
use Rattle.std.proofs.lemmas.List.{append-nil}
use Rattle.gtd_rows.specs.Columns.{Fields}
use Rattle.gtd_rows.specs.Taking.{AreAllTaken, AreTableTaken, HasHeader}
use Rattle.gtd_rows.specs.declared.rows.RowsEnd.TheVariants.{All, NoHeader, Stopped, TooMany}
use Rattle.gtd_conditional_means.specs.declared.meaning.MeansRow.{MeansRow}
use Rattle.gtd_conditional_tags.specs.File.{AreTable, header}
use Rattle.gtd_conditional_tags.specs.Rows.{IsRead, RowSays, Said, alone, fault_in, faults_of, is_tag_of, row_of, said_by}
use Rattle.gtd_conditional_tags.specs.Rows.{said_in, tags_of, unless_repeated}
use Rattle.gtd_conditional_tags.specs.TakenRows.{Adds, AreSeen, Begins, Takes}
use Rattle.gtd_conditional_tags.specs.declared.fault.TagsFault.{TagsFault}
use Rattle.gtd_conditional_tags.specs.declared.fault.TagsFault.TheVariants as fault
use Rattle.gtd_conditional_tags.specs.declared.row.TagRow.{TagRow}
use Rattle.gtd_conditional_tags.specs.declared.table.Found.{Found}
use Rattle.gtd_conditional_tags.specs.declared.table.Reading.{Reading}

-- ---- one row

-- the tags that were read
abbrev pub tags_in : Reading → List Said
tags_in reading = map said_by reading.found.tags.items

abbrev pub rows_in : Reading → List MeansRow
rows_in reading = reading.means.now.rows.items

-- whether a tag is kept, by whether an earlier one has its key
kept_if : (before : List Said) (tag : Said) (b : Bool) → list_any (is_tag_of tag.element tag.key) before ≡ b
    → unless_repeated before (Ok (Some tag)) ≡ cond b (Err (fault.Repeated tag.row)) (Ok (Some tag))
kept_if before tag b is =
    let kept : Bool → RowSays = λ (x : Bool). cond x (Err (fault.Repeated tag.row)) (Ok (Some tag)) in ap kept is

module _ (old new : Reading) (seen : AreSeen new.seen (tags_in new)) (means : new.means ≡ old.means) where
  adds_fault : (why : TagsFault) → tags_in new ≡ tags_in old → new.found.faults.items ≡ old.found.faults.items ++ why ∷ []
      → Adds old new (Err why)
  adds_fault why tags faults = record {
    means = means;
    seen = seen;
    tags = tags ∙ sym (append-nil (tags_in old));
    faults = faults;
  }

  adds_nothing : tags_in new ≡ tags_in old → new.found.faults.items ≡ old.found.faults.items → Adds old new (Ok None)
  adds_nothing tags faults = record {
    means = means;
    seen = seen;
    tags = tags ∙ sym (append-nil (tags_in old));
    faults = faults ∙ sym (append-nil old.found.faults.items);
  }

  adds_tag : (tag : Said) → tags_in new ≡ tags_in old ++ tag ∷ [] → new.found.faults.items ≡ old.found.faults.items
      → Adds old new (Ok (Some tag))
  adds_tag tag tags faults = record {
    means = means;
    seen = seen;
    tags = tags;
    faults = faults ∙ sym (append-nil old.found.faults.items);
  }

  -- what a row says, by what it says alone
  module _ (number : ℕ) (fields : Fields) where
    pub row_fault : (why : TagsFault) → alone (rows_in old) number fields ≡ Err why → tags_in new ≡ tags_in old
        → new.found.faults.items ≡ old.found.faults.items ++ why ∷ []
        → Adds old new (row_of (rows_in old) (tags_in old) number fields)
    row_fault why is tags faults =
        subst (Adds old new) (sym (ap (unless_repeated (tags_in old)) is)) (adds_fault why tags faults)

    pub row_nothing : alone (rows_in old) number fields ≡ Ok None → tags_in new ≡ tags_in old
        → new.found.faults.items ≡ old.found.faults.items → Adds old new (row_of (rows_in old) (tags_in old) number fields)
    row_nothing is tags faults =
        subst (Adds old new) (sym (ap (unless_repeated (tags_in old)) is)) (adds_nothing tags faults)

  pub repeated_tag : (tag : Said) → list_any (is_tag_of tag.element tag.key) (tags_in old) ≡ true → tags_in new ≡ tags_in old
      → new.found.faults.items ≡ old.found.faults.items ++ fault.Repeated tag.row ∷ []
      → Adds old new (unless_repeated (tags_in old) (Ok (Some tag)))
  repeated_tag tag is tags faults =
      subst (Adds old new) (sym (kept_if (tags_in old) tag true is)) (adds_fault (fault.Repeated tag.row) tags faults)

  pub new_tag : (tag : Said) → list_any (is_tag_of tag.element tag.key) (tags_in old) ≡ false
      → tags_in new ≡ tags_in old ++ tag ∷ [] → new.found.faults.items ≡ old.found.faults.items
      → Adds old new (unless_repeated (tags_in old) (Ok (Some tag)))
  new_tag tag is tags faults = subst (Adds old new) (sym (kept_if (tags_in old) tag false is)) (adds_tag tag tags faults)

pub row_tag : (old new : Reading) (number : ℕ) (fields : Fields) (tag : Said) → alone (rows_in old) number fields ≡ Ok (Some tag)
    → Adds old new (unless_repeated (tags_in old) (Ok (Some tag)))
    → Adds old new (row_of (rows_in old) (tags_in old) number fields)
row_tag old new number fields tag is adds = subst (Adds old new) (sym (ap (unless_repeated (tags_in old)) is)) adds

-- what was read of a row
pub says_nothing : (read : Option TagRow) (says : RowSays) → read ≡ None → IsRead (Ok read) says → says ≡ Ok None
says_nothing read says none is = subst (λ (r : Option TagRow). IsRead (Ok r) says) none is

pub says_tag : (read : Option TagRow) (says : RowSays) (tag : TagRow) → read ≡ Some tag → IsRead (Ok read) says
    → says ≡ Ok (Some (said_in tag))
says_tag read says tag some is = subst (λ (r : Option TagRow). IsRead (Ok r) says) some is

-- ---- all rows

record AreRead (means : List MeansRow) (before : List Said) (number : ℕ) (rows : List Fields) (old new : Reading) : Type 0 where
  pub seen : AreSeen new.seen (tags_in new)
  pub said : tags_in new ≡ tags_of means before number rows
  pub told : new.found.faults.items ≡ old.found.faults.items ++ faults_of means before number rows

each_taken : (means : List MeansRow) (number : ℕ) (rows : List Fields) (old new : Reading) → rows_in old ≡ means
    → AreSeen old.seen (tags_in old) → AreAllTaken Takes number rows old new → AreRead means (tags_in old) number rows old new
each_taken means number [] old new same seen is = record {
  seen = subst (λ (r : Reading). AreSeen r.seen (tags_in r)) (sym is) seen;
  said = ap tags_in is;
  told = ap (λ (r : Reading). r.found.faults.items) is ∙ sym (append-nil old.found.faults.items);
}
each_taken means number (row ∷ rows) old new same seen taken =
    let next = taken.0 in
    let one : Adds old next (row_of means (tags_in old) number row) =
    subst (λ (m : List MeansRow). Adds old next (row_of m (tags_in old) number row)) same (taken.1 seen) in
    let says = row_of means (tags_in old) number row in
    let more = each_taken means (number + 1) rows next new (ap (λ m. m.now.rows.items) one.means ∙ same) one.seen taken.2 in
    record {
      seen = more.seen;
      said = more.said ∙ ap (λ (l : List Said). tags_of means l (number + 1) rows) one.tags;
      told =
          more.told ∙ ap (λ (l : List TagsFault). l ++ faults_of means (tags_in next) (number + 1) rows) one.faults
          ∙ append_assoc old.found.faults.items (fault_in says) (faults_of means (tags_in next) (number + 1) rows)
          ∙ ap (λ (l : List Said). old.found.faults.items ++ (fault_in says ++ faults_of means l (number + 1) rows)) one.tags;
    }

module _ (means : List MeansRow) (text : List Fields) (old new : Reading) (same : rows_in old ≡ means)
    (tags : old.found.tags.items ≡ []) (faults : old.found.faults.items ≡ []) (seen : AreSeen old.seen []) where
  read_from : (at last : Reading) (rows : List Fields) → at ≡ old → AreAllTaken Takes 1 rows at last
      → (tags_in last ≡ tags_of means [] 1 rows) × (last.found.faults.items ≡ faults_of means [] 1 rows)
  read_from at last rows is taken =
      let none : tags_in at ≡ [] = ap tags_in is ∙ ap (map said_by) tags in
      let seen_at : AreSeen at.seen (tags_in at) =
      subst (λ (r : Reading). AreSeen r.seen (tags_in r)) (sym is)
      (subst (AreSeen old.seen) (sym (ap (map said_by) tags)) seen) in
      let all = each_taken means 1 rows at last (ap rows_in is ∙ same) seen_at taken in (
        all.said ∙ ap (λ (l : List Said). tags_of means l 1 rows) none,
        all.told ∙ ap (λ (l : List TagsFault). l ++ faults_of means (tags_in at) 1 rows)
            (ap (λ (r : Reading). r.found.faults.items) is ∙ faults)
            ∙ ap (λ (l : List Said). faults_of means l 1 rows) none,
      )

  -- all rows were taken
  pub table_read : HasHeader Begins Takes text old new All → AreTable means text new.found.tags.items new.found.faults.items
  table_read h =
      let e = h.begun in
      let all = read_from h.at new h.rows e.1 h.taken.1 in
      inl (
        h.rows,
        h.split ∙ ap (λ (f : Fields). f ∷ h.rows) (e.0.0 refl),
        inl (record { few = h.taken.0; said = all.0; told = all.1 }),
      )

  -- or there is one too many
  pub table_too_long : HasHeader Begins Takes text old new TooMany
      → AreTable means text new.found.tags.items (new.found.faults.items ++ fault.TooManyRows ∷ [])
  table_too_long h =
      let e = h.begun in
      let m = h.taken in
      let all = read_from h.at new m.before e.1 m.taken in
      inl (
        h.rows,
        h.split ∙ ap (λ (f : Fields). f ∷ h.rows) (e.0.0 refl),
        inr (record {
          before = m.before;
          row = m.row;
          after = m.after;
          split = m.split;
          many = m.many;
          said = all.0;
          told = ap (λ (l : List TagsFault). l ++ fault.TooManyRows ∷ []) all.1;
        }),
      )

-- no row asks for no more
pub never_stops : (text : List Fields) (old new : Reading) → HasHeader Begins Takes text old new Stopped → ⊥
never_stops text old new h = h.taken.stops

-- ---- a fault that comes alone

no_first : (text : List Fields) (old new : Reading) → AreTableTaken Begins Takes text old new NoHeader
    → (rows : List Fields) → text ≡ header ∷ rows → ⊥
no_first text old new (inl p) rows e = let nil = p.0 in cc
no_first text old new (inr h) rows e = let no = h.3.0.1 (let same : h.0 ≡ header = (let s = h.2 in cc) in same) in cc

pub no_header : {E : Type 0} (r : Result Found E) (means : List MeansRow) (text : List Fields) (old new : Reading)
    → AreTableTaken Begins Takes text old new NoHeader
    → IfOk r (λ found. found.tags.items ≡ []) → IfOk r (λ found. found.faults.items ≡ fault.Header ∷ [])
    → IfOk r (λ found. AreTable means text found.tags.items found.faults.items)
no_header (Ok found) means text old new taken tags faults = inr (no_first text old new taken, tags, faults)
no_header (Err why) means text old new taken tags faults = tt
