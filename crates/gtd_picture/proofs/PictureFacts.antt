-- The picture of a year, from its parts.
use Rattle.std.proofs.Common.{◌≡◌, ◌∙◌, ◌≤◌, ◌+◌, sym, ap, refl, arith, subst, ◌↔◌, ℕ, List, [], ◌∷◌, ◌++◌, length, length-append}
use Rattle.std.specs.Prelude.{ℤ, pos, ◌+ℤ◌, ◌*ℤ◌, ◌≤ℤ◌, ◌<ℤ◌}
use Rattle.gtd_calendar.specs.Calendar.{first_day, year_length}
use Rattle.gtd_picture.specs.Picture.{AreColumns, IsPicture, Rect, day_lines, foot_text, head_text}
use Rattle.gtd_calendar.specs.facts.YearDays.{year_length-few}
use Rattle.gtd_picture.specs.Domain.{HasPut}
use Rattle.gtd_picture.proofs.ColumnFacts.{one_columns, same_columns}
use Rattle.gtd_picture.proofs.TextFacts.{days_short}
use Rattle.gtd_core.specs.Seconds.{Interval}
use Rattle.std.specs.Io.KnownBytes.{Keeps}
use Rattle.gtd_core.specs.Whole.{from_day, to_day}
use Rattle.gtd_core.specs.declared.horizon.Horizon.{Horizon}
use Rattle.gtd_eval.specs.Membership.{IsNormalOver}
use Rattle.gtd_report.specs.facts.PutFacts.{puts_cut, puts_ended, puts_text}
use Rattle.gtd_report.specs.Putting.{Puts, PutsText, answer_of, nothing_put, text_of}
use Rattle.gtd_report.specs.Run.{TookFirst}
use Rattle.gtd_report.specs.declared.output.Progress.{Progress}
use Rattle.gtd_report.specs.declared.output.Stop.{Stop}
use Rattle.gtd_report.specs.declared.output.Stop.TheVariants.{Output, Memory}
use Rattle.gtd_spans.specs.Normal.{Holds}
use Rattle.std.specs.Prelude.{Result, Ok, Err, Option}

-- a set has one picture
pub one_picture : (set : ℤ → Type 0) (title inside outside : List ℕ) (year : ℕ) (a b : List (List ℕ))
    → IsPicture set title inside outside year a → IsPicture set title inside outside year b → a ≡ b
one_picture set title inside outside year a b p q =
    let same = one_columns set (first_day (pos year)) 0 (year_length (pos year)) p.columns q.columns p.are q.are in
    p.whole
    ∙ ap (λ (columns : List (List Rect)). head_text title inside outside (year_length (pos year))
    ∷ (day_lines (first_day (pos year)) 0 columns ++ (foot_text (pos year) ∷ []))) same
    ∙ sym q.whole

-- sets with the same seconds in the year have the same picture
pub same_picture : (one two : ℤ → Type 0) (title inside outside : List ℕ) (year : ℕ) (lines : List (List ℕ))
    → ((t : ℤ) → (first_day (pos year) *ℤ pos 86400) ≤ℤ t
    → t <ℤ ((first_day (pos year) +ℤ pos (year_length (pos year))) *ℤ pos 86400) → one t ↔ two t)
    → IsPicture one title inside outside year lines → IsPicture two title inside outside year lines
same_picture one two title inside outside year lines h p = record {
  columns = p.columns;
  are = same_columns one two (first_day (pos year)) 0 (year_length (pos year)) p.columns h p.are;
  whole = p.whole;
}

-- the head, in the words that were handed on
pub head_is : (t i o title inside outside line : List ℕ) (n days : ℕ) → t ≡ title → i ≡ inside → o ≡ outside → n ≡ days
    → line ≡ head_text t i o n → line ≡ head_text title inside outside days
head_is t i o title inside outside line n days a b c d is =
    is ∙ ap (λ (x : List ℕ). head_text x i o n) a ∙ ap (λ (x : List ℕ). head_text title x o n) b
    ∙ ap (λ (x : List ℕ). head_text title inside x n) c ∙ ap (λ (k : ℕ). head_text title inside outside k) d

module _ (set : ℤ → Type 0) (title inside outside : List ℕ) (year : ℕ) where
  -- the picture of columns
  pub picture_of : (columns : List (List Rect)) → AreColumns set (first_day (pos year)) 0 (year_length (pos year)) columns
      → IsPicture set title inside outside year
      (head_text title inside outside (year_length (pos year)) ∷ (day_lines (first_day (pos year)) 0 columns
      ++ (foot_text (pos year) ∷ [])))
  picture_of columns are = record { columns = columns; are = are; whole = refl }

  -- a part of the head was put
  pub cut_head : (stop : Stop) (a b : Option (List ℕ)) (p q : Progress)
      → Puts (Err stop) a b p q (head_text title inside outside (year_length (pos year)) ∷ [])
      → PutsText (IsPicture set title inside outside year) (Err stop) a b p q
  cut_head stop a b p q puts = λ lines is.
      rw (is.whole) (puts_cut stop a b p q (head_text title inside outside (year_length (pos year)) ∷ [])
      (day_lines (first_day (pos year)) 0 is.columns ++ (foot_text (pos year) ∷ [])) puts)

  -- what was put of the lines of a picture
  pub put_picture : (r : Result (Unit {0}) Stop) (a b : Option (List ℕ)) (p q : Progress) (columns : List (List Rect))
      → AreColumns set (first_day (pos year)) 0 (year_length (pos year)) columns
      → Puts r a b p q (head_text title inside outside (year_length (pos year)) ∷ (day_lines (first_day (pos year)) 0 columns
      ++ (foot_text (pos year) ∷ [])))
      → PutsText (IsPicture set title inside outside year) r a b p q
  put_picture r a b p q columns are puts =
      puts_text (IsPicture set title inside outside year) r a b p q _ (picture_of columns are)
      (λ other is. one_picture set title inside outside year other _ is (picture_of columns are)) puts

-- the columns of the source's spans
pub columns_are : (xs seconds : List Interval) (from first : ℤ) (n days : ℕ) (columns : List (List Rect)) → seconds ≡ xs
    → from ≡ first → n ≡ days
    → AreColumns (Holds seconds) from 0 n columns → AreColumns (Holds xs) first 0 days columns
columns_are xs seconds from first n days columns e f g are =
    subst (λ (k : ℕ). AreColumns (Holds xs) first 0 k columns) g
    (subst (λ (t : ℤ). AreColumns (Holds xs) t 0 n columns) f
    (subst (λ (l : List Interval). AreColumns (Holds l) from 0 n columns) e are))

-- texts of one kind are those of another
pub texts_as : (A B : List (List ℕ) → Type 0) (r : Result (Unit {0}) Stop) (a b : Option (List ℕ)) (p q : Progress)
    → ((lines : List (List ℕ)) → A lines → B lines) → ((lines : List (List ℕ)) → B lines → A lines)
    → PutsText A r a b p q → PutsText B r a b p q
texts_as A B (Ok x) a b p q to back put = (put.0, to put.0 put.1, put.2)
texts_as A B (Err x) a b p q to back put = λ lines is. put lines (back lines is)

-- all was put, and then the output was ended, or failed
pub texts_ended : (A : List (List ℕ) → Type 0) (r : Result (Unit {0}) Stop) (a b c : Option (List ℕ)) (p q : Progress)
    → ((x y : List (List ℕ)) → A x → A y → x ≡ y) → PutsText A (Ok tt) a b p q → Keeps b c → PutsText A r a c p q
texts_ended A (Ok x) a b c p q one put kept = (put.0, put.1, puts_ended (Ok x) a b c p q put.0 put.2 kept)
texts_ended A (Err x) a b c p q one put kept = λ lines is.
    rw (one lines put.0 is put.1) (puts_ended (Err x) a b c p q put.0 put.2 kept)

-- the list that is normal for a set over a year has the picture of the set
module _ (set : ℤ → Type 0) (horizon : Horizon) (list : List Interval) (year : ℕ) (normal : IsNormalOver set horizon list)
    (from : from_day horizon ≡ first_day (pos year)) (to : to_day horizon ≡ first_day (pos year) +ℤ pos (year_length (pos
    year))) where
  same_there : (t : ℤ) → (first_day (pos year) *ℤ pos 86400) ≤ℤ t
      → t <ℤ ((first_day (pos year) +ℤ pos (year_length (pos year))) *ℤ pos 86400) → Holds list t ↔ set t
  same_there t low high = ((λ h. (normal.inside t h).2), (λ s. normal.complete t (rw from low, rw to high, s)))

  pub picture_there : (r : Result (Unit {0}) Stop) (a b : Option (List ℕ)) (p q : Progress) (title inside outside : List ℕ)
      → PutsText (IsPicture (Holds list) title inside outside year) r a b p q
      → PutsText (IsPicture set title inside outside year) r a b p q
  picture_there r a b p q title inside outside put =
      texts_as (IsPicture (Holds list) title inside outside year) (IsPicture set title inside outside year) r a b p q
      (λ lines is. same_picture (Holds list) set title inside outside year lines same_there is)
      (λ lines is. same_picture set (Holds list) title inside outside year lines
      (λ t low high. let b = same_there t low high in (b.1, b.0)) is) put

-- a picture has a line for each day, and two more
pub picture_lines : (set : ℤ → Type 0) (title inside outside : List ℕ) (year : ℕ) (lines : List (List ℕ))
    → IsPicture set title inside outside year lines → length lines ≡ year_length (pos year) + 2
picture_lines set title inside outside year lines is =
    let n = year_length (pos year) in
    let few = year_length-few (pos year) in
    let within : 0 + n ≤ 366 = omega (arith, few) in
    let days = (days_short set (first_day (pos year)) 0 n is.columns within is.are).0 in
    let all = length-append (day_lines (first_day (pos year)) 0 is.columns) (foot_text (pos year) ∷ []) in
    let long = ap length is.whole in
    omega (arith, days, all, long)

-- what was put of a text from its beginning, by the answer
took_first : (x : Stop) (a b : Option (List ℕ)) (q : Progress) (lines : List (List ℕ)) → Puts (Err x) a b nothing_put q lines
    → TookFirst a b q.written (text_of lines)
took_first x a b q lines puts =
    let written = puts.3 in
    let is : puts.0 ≡ q.written = omega (arith, written) in
    let few = puts.1 in
    (omega (arith, few, is), rw is at puts.2)

pub has_put : (IsText : List (List ℕ) → Type 0) (r : Result (Unit {0}) Stop) (a b : Option (List ℕ)) (q : Progress)
    → PutsText IsText r a b nothing_put q → HasPut IsText a b (answer_of r q)
has_put IsText (Ok x) a b q puts =
    let none : 0 + length puts.0 ≡ length puts.0 = omega arith in
    record {
      lines = puts.0;
      is_text = puts.1;
      taken = puts.2.0;
      count = ap (λ (t : Progress). Ok t.lines) puts.2.1 ∙ ap (λ (n : ℕ). Ok n) none;
    }
has_put IsText (Err Output) a b q puts = λ lines is. took_first Output a b q lines (puts lines is)
has_put IsText (Err Memory) a b q puts = λ lines is. took_first Memory a b q lines (puts lines is)
