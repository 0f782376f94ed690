-- Steps that are added, one list after another.
use Rattle.std.proofs.Common.{◌≡◌, ◌∙◌, ap, sym, subst, add-one, ℕ, ◌+◌, take, List, [], ◌∷◌, ◌++◌, append_assoc}
use Rattle.std.proofs.lemmas.List.{append-nil}
use Rattle.gtd_rows.specs.declared.direction.Direction.{Direction}
use Rattle.gtd_conditional_means.specs.declared.meaning.MeansRow.{MeansRow}
use Rattle.gtd_conditional_rows.specs.declared.step.Step.{Step}
use Rattle.gtd_conditional_parts.specs.declared.said.Subject.{Subject}
use Rattle.gtd_conditional_steps.specs.Sayings.{Saying, mode_types, said_before, said_by_types}
use Rattle.gtd_conditional_steps.specs.Steps.{Adds, AreStepsOf, IsStepOf}
use Rattle.gtd_conditional_steps.specs.declared.tag.Tag.{Tag}
use Rattle.gtd_conditional_steps.proofs.ModeFacts.{IsSplit, SayTheRest, said_here}

module _ (rows : List MeansRow) (direction : Direction) where
  append : (one two : List Saying) (as' bs : List Step) → AreStepsOf rows direction one as' → AreStepsOf rows direction two bs
      → AreStepsOf rows direction (one ++ two) (as' ++ bs)
  append [] two [] bs are more = more
  append [] two (step ∷ steps) bs are more = absurd are
  append (saying ∷ later) two [] bs are more = absurd are
  append (saying ∷ later) two (step ∷ steps) bs are more = (are.0, append later two steps bs are.1 more)

  pub none : (xs : List Step) → Adds rows direction [] xs xs
  none xs = ([], sym (append-nil xs), tt)

  pub one : (saying : Saying) (step : Step) (before after : List Step) → IsStepOf rows direction saying step
      → after ≡ before ++ step ∷ [] → Adds rows direction (saying ∷ []) before after
  one saying step before after is put = (step ∷ [], put, (is, tt))

  pub both : (first second : List Saying) (before between after : List Step) → Adds rows direction first before between
      → Adds rows direction second between after → Adds rows direction (first ++ second) before after
  both first second before between after a b = (
    a.0 ++ b.0,
    b.1 ∙ ap (λ (xs : List Step). xs ++ b.0) a.1 ∙ append_assoc before a.0 b.0,
    append first second a.0 b.0 a.2 b.2,
  )

  -- ---- in a loop: what is added for what is left makes up all

  abbrev pub AddsOn : List Saying → List Saying → List Step → List Step → Type 0
  AddsOn left all before now = (after : List Step) → Adds rows direction left now after → Adds rows direction all before after

  pub on_more : (here left all : List Saying) (before now next : List Step) → Adds rows direction here now next
      → AddsOn (here ++ left) all before now → AddsOn left all before next
  on_more here left all before now next adds on = λ after h. on after (both here left now next after adds h)

  pub on_end : (all : List Saying) (before now : List Step) → AddsOn [] all before now → Adds rows direction all before now
  on_end all before now on = on now (none now)

  -- what is added behind steps
  pub behind : (before here : List Saying) (xs ys : List Step) → AreStepsOf rows direction before xs
      → Adds rows direction here xs ys → AreStepsOf rows direction (before ++ here) ys
  behind before here xs ys are adds =
      subst (λ (zs : List Step). AreStepsOf rows direction (before ++ here) zs) (sym adds.1)
      (append before here xs adds.0 are adds.2)

-- the steps of a mode, whose tags come first among those that are left
pub added_here : (subject : Subject) (rows : List MeansRow) (mode count : ℕ) (way : Direction) (left tags same : List Tag)
    → IsSplit mode left count → SayTheRest mode left tags → same ≡ take count left → (old new : List Step)
    → AreStepsOf rows way (said_before mode subject rows way tags) old
    → Adds rows way (said_by_types (mode_types subject rows mode) mode way same) old new
    → AreStepsOf rows way (said_before (mode + 1) subject rows way tags) new
added_here subject rows mode count way left tags same is rest front old new are adds =
    let types = mode_types subject rows mode in
    let own : said_by_types types mode way same ≡ said_by_types types mode way tags =
    ap (said_by_types types mode way) front ∙ said_here types mode count way left tags is rest in
    subst (λ (n : ℕ). AreStepsOf rows way (said_before n subject rows way tags) new) (sym (add-one mode))
    (behind rows way (said_before mode subject rows way tags) (said_by_types types mode way tags) old new are
    (subst (λ (l : List Saying). Adds rows way l old new) own adds))
