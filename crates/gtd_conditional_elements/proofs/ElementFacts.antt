-- The rows of elements, one after another.
use Rattle.std.proofs.Common.{◌≡◌, sym, refl, subst, inl, inr, ℕ, List, [], ◌∷◌, ◌++◌, append-nil, append_assoc}
use Rattle.std.specs.Prelude.{◌⊎◌, ◌↔◌, ℤ, IfOk, OnOk, Result, Ok, Err}
use Rattle.gtd_rows.specs.Serving.{ClosesDirection}
use Rattle.gtd_rows.specs.declared.direction.Direction.{Direction}
use Rattle.gtd_rows.specs.declared.direction.Direction.TheVariants.{Positive, Negative}
use Rattle.gtd_conditional_means.specs.declared.meaning.MeansRow.{MeansRow}
use Rattle.gtd_conditional_parts.specs.declared.said.Subject.{Subject}
use Rattle.gtd_conditional_parts.specs.declared.said.Subject.TheVariants.{Access, Oneway}
use Rattle.gtd_conditional_rows.specs.Rows.{AreRows, IsClosedByRow, Some', steps_in}
use Rattle.gtd_conditional_rows.specs.Steps.{IsClosed}
use Rattle.gtd_conditional_rows.specs.Times.{InTimes, NeedsTooMany}
use Rattle.gtd_conditional_rows.specs.Timing.{domain_times}
use Rattle.gtd_conditional_rows.specs.Types.{HasType, IsVehicle}
use Rattle.gtd_conditional_rows.specs.declared.fault.RowsFault.{RowsFault}
use Rattle.gtd_conditional_rows.specs.declared.row.Row.{Row}
use Rattle.gtd_conditional_rows.specs.declared.step.Step.{Step}
use Rattle.gtd_conditional_steps.specs.Closing.{IsClosedBy, IsClosedByTags}
use Rattle.gtd_conditional_steps.specs.Hours as hours
use Rattle.gtd_conditional_steps.specs.Sayings.{Saying, said_by}
use Rattle.gtd_conditional_steps.specs.Steps.{AreStepsOf}
use Rattle.gtd_conditional_steps.specs.declared.tag.Tag.{Tag}
use Rattle.gtd_conditional_tags.specs.declared.groups.ElementItems.{ElementItems}
use Rattle.gtd_conditional_elements.specs.Elements.{AreEach, AreElementRows, AreRowsBy, AreStepsBy, IsElement}
use Rattle.gtd_conditional_elements.specs.Elements.{NeedTooMany, NeedTooManyBy, fault_in, rows_in, tags_of}
use Rattle.gtd_conditional_elements.specs.declared.fault.ConditionsFault.{ConditionsFault}
use Rattle.gtd_conditional_elements.specs.declared.found.ElementRow.{ElementRow}
use Rattle.gtd_conditional_elements.specs.declared.tag.ReadTag.{ReadTag}

-- what one element more adds
pub each_more : (means : List MeansRow) (groups : List (ElementItems ReadTag)) (group : ElementItems ReadTag)
    (found : List ElementRow) (faults : List ConditionsFault) (answer : Result (List Row) ConditionsFault)
    → IsElement means group answer → AreEach means groups found faults
    → AreEach means (groups ++ group ∷ []) (found ++ rows_in group.element answer) (faults ++ fault_in answer)
each_more means [] group found faults answer is are = (
  answer,
  [],
  [],
  is,
  (refl, refl),
  rw (are.0) (sym (append-nil (rows_in group.element answer))),
  rw (are.1) (sym (append-nil (fault_in answer))),
)
each_more means (first ∷ groups) group found faults answer is are = (
  are.0,
  are.1 ++ rows_in group.element answer,
  are.2 ++ fault_in answer,
  are.3,
  each_more means groups group are.1 are.2 answer is are.4,
  rw (are.5) (append_assoc (rows_in first.element are.0) are.1 (rows_in group.element answer)),
  rw (are.6) (append_assoc (fault_in are.0) are.2 (fault_in answer)),
)

-- ---- when rows close an element

-- some row of two lists is so exactly if one of either is
some_either : (P : Row → Type 0) (a b : List Row) → Some' P (a ++ b) ↔ (Some' P a ⊎ Some' P b)
some_either P [] b = ((λ h. inr h), (λ h. elim h [ inl none ↦ absurd none | inr later ↦ later ]))
some_either P (row ∷ a) b =
    let more = some_either P a b in (
      (λ h. elim h [
        | inl here ↦ inl (inl here)
        | inr rest ↦ elim (more.0 rest) [ inl first ↦ inl (inr first) | inr later ↦ inr later ]
      ]),
      (λ h. elim h [
        | inl first ↦ elim first [ inl here ↦ inl here | inr rest ↦ inr (more.1 (inl rest)) ]
        | inr later ↦ inr (more.1 (inr later))
      ]),
    )

either : {A B C D E : Type 0} → A ↔ (B ⊎ C) → B ↔ D → C ↔ E → A ↔ (D ⊎ E)
either whole one other = (
  (λ h. elim (whole.0 h) [ inl b ↦ inl (one.0 b) | inr c ↦ inr (other.0 c) ]),
  (λ h. whole.1 (elim h [ inl d ↦ inl (one.1 d) | inr e ↦ inr (other.1 e) ])),
)

pub element_closes : (means : List MeansRow) (tags : List Tag) (rows : List Row) → AreElementRows means tags rows
    → (direction : Direction) (t : ℕ) (s : ℤ) → IsVehicle t
    → IsClosedByRow rows direction t s
    ↔ (IsClosedByTags means Access tags direction t s ⊎ IsClosedByTags means Oneway tags direction t s)
element_closes means tags rows are direction t s vehicle =
    subst (λ (all : List Row). IsClosedByRow all direction t s
    ↔ (IsClosedByTags means Access tags direction t s ⊎ IsClosedByTags means Oneway tags direction t s)) (sym are.whole)
    (either (some_either (λ (row : Row). ClosesDirection row.closed direction × HasType row.types t
    × InTimes (domain_times row.domain) s) are.access are.oneway)
    (are.of_access.closes direction t s vehicle) (are.of_oneway.closes direction t s vehicle))

-- what both directions' steps close, as the rows of both do
pub rows_close : (means : List MeansRow) (subject : Subject) (tags : List Tag) (positive negative : List Step) (rows : List Row)
    → ((direction : Direction) (t : ℕ) (s : ℤ) → IsVehicle t
    → IsClosedByRow rows direction t s ↔ IsClosed (steps_in positive negative direction) t s)
    → ((t : ℕ) (s : ℤ) → IsVehicle t → IsClosed positive t s ↔ IsClosedByTags means subject tags Positive t s)
    → ((t : ℕ) (s : ℤ) → IsVehicle t → IsClosed negative t s ↔ IsClosedByTags means subject tags Negative t s)
    → (direction : Direction) (t : ℕ) (s : ℤ) → IsVehicle t
    → IsClosedByRow rows direction t s ↔ IsClosedByTags means subject tags direction t s
rows_close means subject tags positive negative rows by forward backward Positive t s v =
    let a = by Positive t s v in
    let b = forward t s v in
    ((λ h. b.0 (a.0 h)), (λ h. a.1 (b.1 h)))
rows_close means subject tags positive negative rows by forward backward Negative t s v =
    let a = by Negative t s v in
    let b = backward t s v in
    ((λ h. b.0 (a.0 h)), (λ h. a.1 (b.1 h)))

-- which steps need too many
pub need_too_many : (means : List MeansRow) (subject : Subject) (tags : List Tag) (positive negative : List Step)
    → AreStepsBy means subject tags Positive positive → AreStepsBy means subject tags Negative negative
    → NeedsTooMany positive ⊎ NeedsTooMany negative → NeedTooManyBy means subject tags
need_too_many means subject tags positive negative forward backward (inl many) = inr (Positive, positive, forward, many)
need_too_many means subject tags positive negative forward backward (inr many) = inr (Negative, negative, backward, many)

-- the rows of both directions' steps, if there are some
pub rows_made : {V : Type 0} (r : Result V RowsFault) (items : V → List Row) (means : List MeansRow) (subject : Subject)
    (tags : List Tag) (positive negative : List Step)
    → AreStepsBy means subject tags Positive positive → AreStepsBy means subject tags Negative negative
    → IfOk r (λ found. AreRows positive negative (items found))
    → IfOk r (λ found. (direction : Direction) (t : ℕ) (s : ℤ) → IsVehicle t
    → IsClosedByRow (items found) direction t s ↔ IsClosed (steps_in positive negative direction) t s)
    → ((t : ℕ) (s : ℤ) → IsVehicle t → IsClosed positive t s ↔ IsClosedByTags means subject tags Positive t s)
    → ((t : ℕ) (s : ℤ) → IsVehicle t → IsClosed negative t s ↔ IsClosedByTags means subject tags Negative t s)
    → IfOk r (λ found. AreRowsBy means subject tags (items found))
rows_made (Ok found) items means subject tags positive negative forward backward are by ahead back =
    record {
      positive = positive;
      negative = negative;
      forward = forward;
      backward = backward;
      are = are;
      closes = rows_close means subject tags positive negative (items found) by ahead back;
    }
rows_made (Err why) items means subject tags positive negative forward backward are by ahead back = tt

-- and those of steps that are the same in both
steps_of_both : (steps : List Step) (rows : List Row) → ((direction : Direction) (t : ℕ) (s : ℤ) → IsVehicle t
    → IsClosedByRow rows direction t s ↔ IsClosed steps t s)
    → (direction : Direction) (t : ℕ) (s : ℤ) → IsVehicle t
    → IsClosedByRow rows direction t s ↔ IsClosed (steps_in steps steps direction) t s
steps_of_both steps rows by Positive t s v = by Positive t s v
steps_of_both steps rows by Negative t s v = by Negative t s v

pub both_made : {V : Type 0} (r : Result V RowsFault) (items : V → List Row) (means : List MeansRow) (subject : Subject)
    (tags : List Tag) (steps : List Step)
    → AreStepsBy means subject tags Positive steps → AreStepsBy means subject tags Negative steps
    → IfOk r (λ found. AreRows steps steps (items found))
    → IfOk r (λ found. (direction : Direction) (t : ℕ) (s : ℤ) → IsVehicle t
    → IsClosedByRow (items found) direction t s ↔ IsClosed steps t s)
    → ((t : ℕ) (s : ℤ) → IsVehicle t → IsClosed steps t s ↔ IsClosedByTags means subject tags Positive t s)
    → ((t : ℕ) (s : ℤ) → IsClosedByTags means subject tags Positive t s ↔ IsClosedByTags means subject tags Negative t s)
    → IfOk r (λ found. AreRowsBy means subject tags (items found))
both_made (Ok found) items means subject tags steps forward backward are by ahead same =
    rows_made (Ok found) items means subject tags steps steps forward backward are (steps_of_both steps (items found) by) ahead
    (λ t s v. ((λ x. (same t s).0 ((ahead t s v).0 x)), (λ x. (ahead t s v).1 ((same t s).1 x))))
both_made (Err why) items means subject tags steps forward backward are by ahead same = tt

-- ---- what an element adds

pub rows_added : {E : Type 0} (r : Result (Unit {0}) E) (means : List MeansRow) (group : ElementItems ReadTag) (rows : List Row)
    (old new : List ElementRow) (faults : List ConditionsFault) → AreElementRows means (tags_of group.items.items) rows
    → OnOk r (new ≡ old ++ rows_in group.element (Ok rows))
    → OnOk r ((answer : Result (List Row) ConditionsFault) × IsElement means group answer
    × (new ≡ old ++ rows_in group.element answer) × (faults ≡ faults ++ fault_in answer))
rows_added (Ok x) means group rows old new faults are put = (Ok rows, are, put, sym (append-nil faults))
rows_added (Err why) means group rows old new faults are put = tt

-- ---- tags in another order, which say the same

module _ (means : List MeansRow) (one other : List Tag)
    (said : (subject : Subject) (direction : Direction)
    → said_by subject means direction one ≡ said_by subject means direction other)
  where
    same_rows_by : (subject : Subject) (rows : List Row) → AreRowsBy means subject one rows → AreRowsBy means subject other rows
    same_rows_by subject rows r = record {
      positive = r.positive;
      negative = r.negative;
      forward = subst (λ (l : List Saying). AreStepsOf means Positive l r.positive) (said subject Positive) r.forward;
      backward = subst (λ (l : List Saying). AreStepsOf means Negative l r.negative) (said subject Negative) r.backward;
      are = r.are;
      closes = λ direction t s is.
          subst (λ (l : List Saying). IsClosedByRow rows direction t s ↔ IsClosedBy means direction l t s)
          (said subject direction) (r.closes direction t s is);
    }

    pub same_rows : (rows : List Row) → AreElementRows means one rows → AreElementRows means other rows
    same_rows rows r = record {
      access = r.access;
      oneway = r.oneway;
      of_access = same_rows_by Access r.access r.of_access;
      of_oneway = same_rows_by Oneway r.oneway r.of_oneway;
      whole = r.whole;
    }

    same_many_by : (hours.NeedTooMany one → hours.NeedTooMany other) → (subject : Subject) → NeedTooManyBy means subject one
        → NeedTooManyBy means subject other
    same_many_by many subject (inl h) = inl (many h)
    same_many_by many subject (inr (direction, steps, are, h)) =
        inr (direction, steps, subst (λ (l : List Saying). AreStepsOf means direction l steps) (said subject direction) are, h)

    pub same_many : (hours.NeedTooMany one → hours.NeedTooMany other) → NeedTooMany means one → NeedTooMany means other
    same_many many (inl h) = inl (same_many_by many Access h)
    same_many many (inr h) = inr (same_many_by many Oneway h)
