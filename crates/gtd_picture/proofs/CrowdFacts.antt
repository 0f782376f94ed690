-- Pictures that are not put, since they are crowded.
use Rattle.std.proofs.Common.{◌≡◌, ◌∙◌, sym, ap, refl, subst, ◌<◌, ◌+◌, ◌⊎◌, inl, inr, ◌↔◌, ℕ, List, [], ◌∷◌, length, arith}
use Rattle.std.specs.Prelude.{ℤ, pos, ◌+ℤ◌, ◌*ℤ◌, Result, Ok, Option, Bool, IsTrue}
use Rattle.gtd_calendar.specs.Calendar.{first_day, year_length}
use Rattle.gtd_core.specs.Seconds.{Interval}
use Rattle.gtd_core.specs.Whole.{from_day, to_day}
use Rattle.gtd_core.specs.declared.horizon.Horizon.{Horizon}
use Rattle.gtd_eval.specs.Membership.{IsNormalOver}
use Rattle.gtd_records.specs.Closing.{Restriction}
use Rattle.gtd_report.specs.facts.PutFacts.{puts_none}
use Rattle.gtd_report.specs.Putting.{PutsText}
use Rattle.gtd_report.specs.declared.output.Progress.{Progress}
use Rattle.gtd_report.specs.declared.output.Stop.{Stop}
use Rattle.gtd_spans.specs.Normal.{IsNormalFor}
use Rattle.gtd_spans.specs.facts.NormalFor.{one-normal-list}
use Rattle.gtd_picture.specs.Crowded.{IsCrowded, IsSeen, most_stretches}
use Rattle.gtd_picture.specs.Picture.{IsPicture}
use Rattle.gtd_picture.proofs.PictureFacts.{picture_lines, texts_as}

module _ (set : ℤ → Type 0) (horizon : Horizon) (list : List Interval) (year : ℕ) (normal : IsNormalOver set horizon list)
    (from : from_day horizon ≡ first_day (pos year)) (to : to_day horizon ≡ first_day (pos year) +ℤ pos (year_length (pos
    year))) where
  normal_there : IsNormalFor set (first_day (pos year) *ℤ pos 86400)
      ((first_day (pos year) +ℤ pos (year_length (pos year))) *ℤ pos 86400) list
  normal_there =
      subst (λ (u : ℤ). IsNormalFor set (first_day (pos year) *ℤ pos 86400) (u *ℤ pos 86400) list) to
      (subst (λ (f : ℤ). IsNormalFor set (f *ℤ pos 86400) (to_day horizon *ℤ pos 86400) list) from normal)

  -- the set is crowded exactly if the list that is normal for it over the year has too many spans
  pub crowded_by_list : (most_stretches < length list) ↔ IsCrowded set year
  crowded_by_list = (
    (λ many. record { spans = list; normal = normal_there; many = many }),
    (λ is. subst (λ (xs : List Interval). most_stretches < length xs)
        (one-normal-list set (first_day (pos year) *ℤ pos 86400)
        ((first_day (pos year) +ℤ pos (year_length (pos year))) *ℤ pos 86400) is.spans list is.normal normal_there) is.many),
  )

  -- the same, of an answer
  pub crowded_answer : (answer : Bool) → (IsTrue answer ↔ (most_stretches < length list)) → IsTrue answer ↔ IsCrowded set year
  crowded_answer answer is = ((λ t. crowded_by_list.0 (is.0 t)), (λ c. is.1 (crowded_by_list.1 c)))

module _ (set : ℤ → Type 0) (year : ℕ) (IsText : List (List ℕ) → Type 0) where
  -- of what has one text at most, one is seen
  pub one_seen : ((x y : List (List ℕ)) → IsText x → IsText y → x ≡ y) → (x y : List (List ℕ)) → IsSeen set year IsText x
      → IsSeen set year IsText y → x ≡ y
  one_seen one x y (inl p) (inl q) = p.1 ∙ sym q.1
  one_seen one x y (inl p) (inr q) = absurd (q.0 p.0)
  one_seen one x y (inr p) (inl q) = absurd (p.0 q.0)
  one_seen one x y (inr p) (inr q) = one x y p.1 q.1

  -- nothing was put of what is crowded
  pub none_seen : IsCrowded set year → (a : Option (List ℕ)) (p : Progress) → PutsText (IsSeen set year IsText) (Ok tt) a a p p
  none_seen crowded a p = ([], inl (crowded, refl), puts_none a p)

  -- what was put of a text that is not
  pub text_seen : (IsCrowded set year → ⊥) → (r : Result (Unit {0}) Stop) (a b : Option (List ℕ)) (p q : Progress)
      → PutsText IsText r a b p q → PutsText (IsSeen set year IsText) r a b p q
  text_seen sparse r a b p q put =
      texts_as IsText (IsSeen set year IsText) r a b p q (λ lines is. inr (sparse, is))
      (λ lines is. elim is [ inl c ↦ absurd (sparse c.0) | inr t ↦ t.1 ]) put

-- the number of lines that are seen is that of a picture, or 0
pub seen_lines : (title inside outside : List ℕ) (year : ℕ) (set : List Restriction → ℤ → Type 0) (count : ℕ)
    (found : List Restriction) (lines : List (List ℕ))
    → IsSeen (set found) year (IsPicture (set found) title inside outside year) lines
    → count ≡ length lines
    → (count ≡ year_length (pos year) + 2) ⊎ ((count ≡ 0) × ((all : List Restriction) × IsCrowded (set all) year))
seen_lines title inside outside year set count found lines (inl c) is = inr (is ∙ ap length c.1, (found, c.0))
seen_lines title inside outside year set count found lines (inr t) is =
    inl (is ∙ picture_lines (set found) title inside outside year lines t.1)

-- one span more was taken
pub one_taken : (before after : List Interval) (x : Interval) (n all : ℕ) → before ≡ x ∷ after → n + length before ≡ all
    → n + 1 + length after ≡ all
one_taken before after x n all takes is = let l = ap length takes in omega (arith, l, is)
