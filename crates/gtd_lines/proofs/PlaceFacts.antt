-- Where records end, byte by byte.
use Rattle.std.proofs.Common.{◌≡◌, ◌∙◌, ◌-◌, ◌^◌, ap, refl, sym, arith, inl, inr, ℕ, zero, suc, ◌+◌, ◌<◌, ◌≤◌, Bool, true, false}
use Rattle.std.proofs.Common.{List, [], ◌∷◌, ◌++◌, drop, take, get_or, length, cond, min, Option, Some, None}
use Rattle.std.proofs.Common.{add-one, drop-drop, take-add}
use Rattle.std.proofs.lemmas.List.{length-take}
use Rattle.std.proofs.lemmas.Bool.{cases_Bool}
use Rattle.std.proofs.lemmas.Bool.Decides.{nat_tests}
use Rattle.std.proofs.lemmas.List.Sums.{count_by-le-length, sum_by-append}
use Rattle.std.specs.List.{count_by}
use Rattle.csv.specs.Machine.{Read, ends_at_end, field_after, fields_after, is_end, next_record, step}
use Rattle.csv.specs.Reading.{default_config, is_bom, strip_bom}
use Rattle.csv.specs.declared.parser.Action.TheVariants as act
use Rattle.csv.specs.declared.parser.State.{State}
use Rattle.csv.specs.declared.parser.State.TheVariants as st
use Rattle.gtd_rows.proofs.TableFacts.{leaves}
use Rattle.gtd_rows.specs.Table.{IsBetween}
use Rattle.gtd_lines.specs.Cut.{IsPlace}
use Rattle.gtd_lines.specs.Lines.{from_record, is_line_feed, is_within, left_after, rest_of}
use Rattle.gtd_lines.specs.declared.cut.Place.{Place}

-- ---- line ends before a record

from_more_after : (i : ℕ) (text : List ℕ) → i < length text → is_within (get_or text i 0) ≡ false
    → from_record (drop i text) ≡ from_record (drop (suc i) text)
from_more_after i [] lt un = absurd (omega arith)
from_more_after zero (x ∷ text) lt un = rw un refl
from_more_after (suc i) (x ∷ text) lt un = from_more_after i text (omega arith) un

pub from_more : (i : ℕ) (text : List ℕ) → i < length text → is_within (get_or text i 0) ≡ false
    → from_record (drop i text) ≡ from_record (drop (i + 1) text)
from_more i text lt un =
    let e : suc i ≡ i + 1 = omega arith in
    from_more_after i text lt un ∙ ap (λ (k : ℕ). from_record (drop k text)) e

pub from_here : (i : ℕ) (text : List ℕ) → i < length text → is_within (get_or text i 0) ≡ true
    → from_record (drop i text) ≡ drop i text
from_here i [] lt is = absurd (omega arith)
from_here zero (x ∷ text) lt is = rw is refl
from_here (suc i) (x ∷ text) lt is = from_here i text (omega arith) is

-- ---- the end of a record

module _ (s : State) (fields : List (List ℕ)) (field : List ℕ) where
  goes_after : (i : ℕ) (text : List ℕ) → i < length text → is_end (step default_config s (get_or text i 0)).1 ≡ false
      → next_record default_config s fields field (drop i text)
      ≡ next_record default_config (step default_config s (get_or text i 0)).0
      (fields_after (step default_config s (get_or text i 0)).1 fields field)
      (field_after (step default_config s (get_or text i 0)).1 (get_or text i 0) field) (drop (suc i) text)
  unfolding next_record
  goes_after i [] lt un = absurd (omega arith)
  goes_after zero (x ∷ text) lt un = rw un refl
  goes_after (suc i) (x ∷ text) lt un = goes_after i text (omega arith) un

  ends_after : (i : ℕ) (text : List ℕ) → i < length text → is_end (step default_config s (get_or text i 0)).1 ≡ true
      → (rest_of (next_record default_config s fields field (drop i text))).1 ≡ drop (suc i) text
  unfolding next_record
  ends_after i [] lt is = absurd (omega arith)
  ends_after zero (x ∷ text) lt is = rw is refl
  ends_after (suc i) (x ∷ text) lt is = ends_after i text (omega arith) is

  pub record_ends : (i : ℕ) (text : List ℕ) → i < length text → is_end (step default_config s (get_or text i 0)).1 ≡ true
      → (rest_of (next_record default_config s fields field (drop i text))).1 ≡ drop (i + 1) text
  record_ends i text lt is =
      let e : suc i ≡ i + 1 = omega arith in
      ends_after i text lt is ∙ ap (λ (k : ℕ). drop k text) e

  chosen_end : (b : Bool) → (rest_of (cond b (Some (fields ++ (field ∷ []), st.StartRecord, [])) None)).1 ≡ []
  chosen_end true = refl
  chosen_end false = refl

  -- the end of the text ends the record
  pub record_at_end : (rest_of (next_record default_config s fields field [])).1 ≡ []
  unfolding next_record
  record_at_end = chosen_end (ends_at_end s)

-- from the start of a text, the machine has come to this state, with these fields and the bytes at hand
pub record Follows (text : List ℕ) (i : ℕ) (s : State) : Type 0 where
  pub fields : List (List ℕ)
  pub field : List ℕ
  pub same : next_record default_config st.StartField [] [] text ≡ next_record default_config s fields field (drop i text)

pub follows_start : (text : List ℕ) → Follows text 0 st.StartField
follows_start text = record { fields = []; field = []; same = refl }

pub follows_more : (text : List ℕ) (i : ℕ) (s t : State) → i < length text → Follows text i s
    → is_end (step default_config s (get_or text i 0)).1 ≡ false → (step default_config s (get_or text i 0)).0 ≡ t
    → Follows text (i + 1) t
follows_more text i s t lt f un to = record {
  fields = fields_after (step default_config s (get_or text i 0)).1 f.fields f.field;
  field = field_after (step default_config s (get_or text i 0)).1 (get_or text i 0) f.field;
  same =
      let e : suc i ≡ i + 1 = omega arith in
      rw (sym to, sym e) (f.same ∙ goes_after s f.fields f.field i text lt un);
}

pub follows_end : (text : List ℕ) (i : ℕ) (s : State) → i < length text → Follows text i s
    → is_end (step default_config s (get_or text i 0)).1 ≡ true
    → drop (i + 1) text ≡ (rest_of (next_record default_config st.StartField [] [] text)).1
follows_end text i s lt f is = sym (ap (λ (o : Option Read). (rest_of o).1) f.same ∙ record_ends s f.fields f.field i text lt is)

pub follows_all : (text : List ℕ) (s : State) → drop (length text) text ≡ [] → Follows text (length text) s
    → drop (length text) text ≡ (rest_of (next_record default_config st.StartField [] [] text)).1
follows_all text s none f =
    none ∙ sym (ap (λ (o : Option Read). (rest_of o).1) f.same
    ∙ ap (λ (l : List ℕ). (rest_of (next_record default_config s f.fields f.field l)).1) none
    ∙ record_at_end s f.fields f.field)

-- ---- a byte order mark

pub marked : (bytes : List ℕ) → 3 ≤ length bytes → get_or bytes 0 0 ≡ 239 → get_or bytes 1 0 ≡ 187 → get_or bytes 2 0 ≡ 191
    → drop 3 bytes ≡ strip_bom bytes
unfolding strip_bom
marked [] le a b c = absurd (omega arith)
marked (x ∷ []) le a b c = absurd (omega arith)
marked (x ∷ y ∷ []) le a b c = absurd (omega arith)
marked (x ∷ y ∷ z ∷ bytes) le a b c = rw (a, b, c) refl

pub unmarked : (bytes : List ℕ)
    → (3 ≤ length bytes → get_or bytes 0 0 ≡ 239 → get_or bytes 1 0 ≡ 187 → get_or bytes 2 0 ≡ 191 → ⊥)
    → bytes ≡ strip_bom bytes
unfolding strip_bom
unmarked [] other = refl
unmarked (x ∷ []) other = refl
unmarked (x ∷ y ∷ []) other = refl
unmarked (x ∷ y ∷ z ∷ bytes) other = elim (cases_Bool (is_bom x y z)) [
  | inl is ↦ absurd (other (omega arith) (grind (arith, nat_tests)) (grind (arith, nat_tests)) (grind (arith, nat_tests)))
  | inr un ↦ rw un refl
]

-- ---- the places of records

of_rest : (s : State) (text : List ℕ) (o : Option Read) → next_record default_config s [] [] text ≡ o → IsBetween (rest_of o).0
of_rest s text None e = inl refl
of_rest s text (Some read) e = (leaves s [] [] text read e).1

pub between : (n : ℕ) (text : List ℕ) → IsBetween (left_after n text).0
unfolding left_after
between zero text = inl refl
between (suc n) text =
    let here = left_after n text in of_rest here.0 here.1 (next_record default_config here.0 [] [] here.1) refl

same_step : (c : ℕ) → step default_config st.AfterCr c ≡ step default_config st.StartRecord c
same_step c = grind (arith, nat_tests)

pub line_end_skipped : (c : ℕ) → is_within c ≡ false → step default_config st.StartRecord c ≡ (st.StartRecord, act.Skip)
line_end_skipped c un = grind (arith, nat_tests)

pub field_begins : (c : ℕ) → is_within c ≡ true → step default_config st.StartRecord c ≡ step default_config st.StartField c
field_begins c is = grind (arith, nat_tests)

pub after_cr : (text : List ℕ)
    → next_record default_config st.AfterCr [] [] text ≡ next_record default_config st.StartRecord [] [] text
unfolding next_record
after_cr [] = refl
after_cr (c ∷ text) = rw (same_step c) refl

from_start : (text : List ℕ) → (rest_of (next_record default_config st.StartRecord [] [] text)).1
    ≡ (rest_of (next_record default_config st.StartField [] [] (from_record text))).1
unfolding next_record
from_start [] = refl
from_start (c ∷ text) = elim (cases_Bool (is_within c)) [
  | inl is ↦ rw (is, field_begins c is) refl
  | inr un ↦ rw (un, line_end_skipped c un) (from_start text)
]

-- line ends before a record are skipped
from_between : (s : State) → IsBetween s → (text : List ℕ) → (rest_of (next_record default_config s [] [] text)).1
    ≡ (rest_of (next_record default_config st.StartField [] [] (from_record text))).1
from_between s (inl e) text = rw e (from_start text)
from_between s (inr e) text = rw (e, after_cr text) (from_start text)

pub first_place : (bytes : List ℕ) (mark ends line : ℕ) → drop mark bytes ≡ strip_bom bytes → mark + ends ≤ length bytes
    → drop ends (drop mark bytes) ≡ from_record (drop mark bytes)
    → line ≡ count_by is_line_feed (take (mark + ends) bytes) + 1
    → IsPlace bytes 0 (record { at = mark + ends; line = line })
unfolding left_after
first_place bytes mark ends line strip le here counted = record {
  within = le;
  begins = sym (drop-drop ends mark bytes) ∙ here ∙ ap from_record strip;
  counted = counted;
}

next_begins : (bytes : List ℕ) (n taken ends : ℕ) (at : ℕ) → drop at bytes ≡ from_record (left_after n (strip_bom bytes)).1
    → drop taken (drop at bytes) ≡ (rest_of (next_record default_config st.StartField [] [] (drop at bytes))).1
    → drop ends (drop taken (drop at bytes)) ≡ from_record (drop taken (drop at bytes))
    → drop (at + (taken + ends)) bytes ≡ from_record (left_after (suc n) (strip_bom bytes)).1
unfolding left_after
next_begins bytes n taken ends at here taken_to ends_to =
    let before = left_after n (strip_bom bytes) in
    let sum : at + (taken + ends) ≡ (at + taken) + ends = omega arith in
    let parts : drop (at + (taken + ends)) bytes ≡ drop ends (drop taken (drop at bytes)) =
    ap (λ (k : ℕ). drop k bytes) sum ∙ sym (drop-drop ends (at + taken) bytes)
    ∙ ap (drop ends) (sym (drop-drop taken at bytes)) in
    let from : from_record (drop taken (drop at bytes))
    ≡ from_record (rest_of (next_record default_config st.StartField [] [] (from_record before.1))).1 =
    ap from_record taken_to
    ∙ ap (λ (l : List ℕ). from_record (rest_of (next_record default_config st.StartField [] [] l)).1) here in
    parts ∙ ends_to ∙ from ∙ ap from_record (sym (from_between before.0 (between n (strip_bom bytes)) before.1))

sums : (c1 c2 c size line before : ℕ) → before ≡ c1 + 1 → c ≡ c1 + c2 → c ≤ size → size < 2 ^ 63
    → line ≡ min (before + c2) (2 ^ 64 - 1) → line ≡ c + 1
sums c1 c2 c size line before a b d e f = omega arith

pub next_place : (bytes : List ℕ) (n taken ends line : ℕ) (place : Place) → IsPlace bytes n place
    → place.at + (taken + ends) ≤ length bytes → length bytes < 2 ^ 63
    → drop taken (drop place.at bytes) ≡ (rest_of (next_record default_config st.StartField [] [] (drop place.at bytes))).1
    → drop ends (drop taken (drop place.at bytes)) ≡ from_record (drop taken (drop place.at bytes))
    → line ≡ min (place.line + count_by is_line_feed (take (taken + ends) (drop place.at bytes))) (2 ^ 64 - 1)
    → IsPlace bytes (n + 1) (record { at = place.at + (taken + ends); line = line })
next_place bytes n taken ends line place is le small taken_to ends_to counted = record {
  within = le;
  begins = rw (add-one n) (next_begins bytes n taken ends place.at is.begins taken_to ends_to);
  counted =
      let k : ℕ = taken + ends in
      let all : count_by is_line_feed (take (place.at + k) bytes)
      ≡ count_by is_line_feed (take place.at bytes) + count_by is_line_feed (take k (drop place.at bytes)) =
      ap (count_by is_line_feed) (take-add place.at k bytes)
      ∙ sum_by-append (λ (x : ℕ). cond (is_line_feed x) 1 0) (take place.at bytes) (take k (drop place.at bytes)) in
      let few = count_by-le-length is_line_feed (take (place.at + k) bytes) in
      let size = length-take (place.at + k) bytes in
      sums (count_by is_line_feed (take place.at bytes)) (count_by is_line_feed (take k (drop place.at bytes)))
      (count_by is_line_feed (take (place.at + k) bytes)) (length bytes) line place.line is.counted all
      (omega (arith, few, size)) small counted;
}
