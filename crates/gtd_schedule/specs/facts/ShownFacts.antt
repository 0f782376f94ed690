-- The lines that show when elements are open are those of a schedule.
use Rattle.std.proofs.Common.{◌≡◌, ◌∙◌, ◌↔◌, ◌++◌, ap, refl, sym, ℕ, List, [], ◌∷◌}
use Rattle.std.specs.Prelude.{Option, Result, ⊤}
use Rattle.std.proofs.lemmas.List.{append-nil}
use Rattle.gtd_core.specs.Seconds.{Interval}
use Rattle.gtd_core.specs.Whole.{whole}
use Rattle.gtd_core.specs.declared.horizon.Horizon.{Horizon}
use Rattle.gtd_records.specs.Closing.{IsOpen, Restriction}
use Rattle.gtd_rows.specs.declared.direction.Direction.{Direction}
use Rattle.gtd_rows.specs.declared.direction.Direction.TheVariants.{Positive, Negative}
use Rattle.gtd_report.specs.Putting.{AreElementLines, AreLinesOf}
use Rattle.gtd_report.specs.Run.{HasRun, PutsWhole}
use Rattle.gtd_report.specs.declared.fault.RunFault.{RunFault}
use Rattle.gtd_report.specs.facts.RunFacts.{run_as}
use Rattle.gtd_schedule.specs.Schedule.{AreLines, AreSpanLines, IsSchedule}
use Rattle.gtd_schedule.specs.Shown.{AreInTurn, AreOpenLines, IsSpanLine, ShowsOpen}
use Rattle.gtd_schedule.specs.facts.NormalLists.{normal-intervals}

module _ (element : ℕ) (direction : Direction) (vehicle : ℕ) where
  -- one line for each span
  abbrev IsOneLine : Interval → List (List ℕ) → Type 0
  IsOneLine span one = (line : List ℕ) × IsSpanLine element direction vehicle span line × (one ≡ line ∷ [])

  spans-to : (spans : List Interval) (lines : List (List ℕ)) → AreSpanLines element direction vehicle spans lines
      → AreInTurn IsOneLine spans lines
  spans-to [] lines are = are
  spans-to (span ∷ spans) lines are =
      (are.0 ∷ [], are.1, (are.0, are.2, refl), spans-to spans are.1 are.3, are.4)

  spans-from : (spans : List Interval) (lines : List (List ℕ)) → AreInTurn IsOneLine spans lines
      → AreSpanLines element direction vehicle spans lines
  spans-from [] lines are = are
  spans-from (span ∷ spans) lines are =
      (are.2.0, are.1, are.2.1, spans-from spans are.1 are.3, are.4 ∙ ap (λ (one : List (List ℕ)). one ++ are.1) are.2.2)

module _ (found : List Restriction) (vehicle : ℕ) (horizon : Horizon) where
  module _ (element : ℕ) where
    lines-to : (direction : Direction) (lines : List (List ℕ)) → AreLines found vehicle horizon element direction lines
        → AreOpenLines found vehicle horizon element direction lines
    lines-to direction lines are =
        let set = IsOpen found element direction vehicle in (
          are.spans,
          (normal-intervals set (whole horizon) are.spans).0 are.normal,
          spans-to element direction vehicle are.spans lines are.each,
        )

    lines-from : (direction : Direction) (lines : List (List ℕ)) → AreOpenLines found vehicle horizon element direction lines
        → AreLines found vehicle horizon element direction lines
    lines-from direction lines are =
        let set = IsOpen found element direction vehicle in
        record {
          spans = are.0;
          normal = (normal-intervals set (whole horizon) are.0).1 are.1;
          each = spans-from element direction vehicle are.0 lines are.2;
        }

    both-to : (lines : List (List ℕ)) → AreElementLines (AreLines found vehicle horizon element) lines
        → AreInTurn (AreOpenLines found vehicle horizon element) (Positive ∷ Negative ∷ []) lines
    both-to lines are = (
      are.positive,
      are.negative,
      lines-to Positive are.positive are.are_positive,
      (are.negative, [], lines-to Negative are.negative are.are_negative, refl, sym (append-nil are.negative)),
      are.both,
    )

    both-from : (lines : List (List ℕ)) → AreInTurn (AreOpenLines found vehicle horizon element) (Positive ∷ Negative ∷ []) lines
        → AreElementLines (AreLines found vehicle horizon element) lines
    both-from lines are =
        let last = are.3 in
        let alone : are.1 ≡ last.0 =
        last.4 ∙ ap (λ (none : List (List ℕ)). last.0 ++ none) last.3 ∙ append-nil last.0 in
        record {
          positive = are.0;
          negative = last.0;
          are_positive = lines-from Positive are.0 are.2;
          are_negative = lines-from Negative last.0 last.2;
          both = are.4 ∙ ap (λ (back : List (List ℕ)). are.0 ++ back) alone;
        }

  elements-to : (elements : List ℕ) (lines : List (List ℕ)) → AreLinesOf (AreLines found vehicle horizon) elements lines
      → AreInTurn (λ element. AreInTurn (AreOpenLines found vehicle horizon element) (Positive ∷ Negative ∷ [])) elements lines
  elements-to [] lines are = are
  elements-to (element ∷ elements) lines are =
      (are.0, are.1, both-to element are.0 are.2, elements-to elements are.1 are.3, are.4)

  elements-from : (elements : List ℕ) (lines : List (List ℕ))
      → AreInTurn (λ element. AreInTurn (AreOpenLines found vehicle horizon element) (Positive ∷ Negative ∷ [])) elements lines
      → AreLinesOf (AreLines found vehicle horizon) elements lines
  elements-from [] lines are = are
  elements-from (element ∷ elements) lines are =
      (are.0, are.1, both-from element are.0 are.2, elements-from elements are.1 are.3, are.4)

  pub shows-schedule : (lines : List (List ℕ)) → ShowsOpen found vehicle horizon lines ↔ IsSchedule found vehicle horizon lines
  shows-schedule lines = (
    (λ shows. record {
      elements = shows.0;
      named = shows.2;
      rest = shows.1;
      each = elements-from shows.0 shows.1 shows.3;
      whole = shows.4;
    }),
    (λ is. (is.elements, is.rest, is.named, elements-to is.elements is.rest is.each, is.whole)),
  )

  -- they were put exactly if a schedule was
  pub puts-schedule : (before after : Option (List ℕ)) (answer : Result ℕ RunFault)
      → PutsWhole (ShowsOpen found vehicle horizon) before after answer
      ↔ PutsWhole (IsSchedule found vehicle horizon) before after answer
  puts-schedule before after answer = (
    (λ put. record {
      lines = put.lines;
      is_text = (shows-schedule put.lines).0 put.is_text;
      taken = put.taken;
      count = put.count;
    }),
    (λ put. record {
      lines = put.lines;
      is_text = (shows-schedule put.lines).1 put.is_text;
      taken = put.taken;
      count = put.count;
    }),
  )

-- what a run did is said of either
pub runs-schedule : (vehicle : ℕ) (horizon : Horizon) (file before after : Option (List ℕ)) (answer : Result ℕ RunFault)
    → HasRun (λ found. ⊤) (λ found. ShowsOpen found vehicle horizon) file before after answer
    ↔ HasRun (λ found. ⊤) (λ found. IsSchedule found vehicle horizon) file before after answer
runs-schedule vehicle horizon file before after answer = (
  run_as (λ found. ⊤) (λ found. ShowsOpen found vehicle horizon) (λ found. IsSchedule found vehicle horizon)
      (λ found lines. shows-schedule found vehicle horizon lines) file before after answer,
  run_as (λ found. ⊤) (λ found. IsSchedule found vehicle horizon) (λ found. ShowsOpen found vehicle horizon)
      (λ found lines. let shows = shows-schedule found vehicle horizon lines in (shows.1, shows.0)) file before after answer,
)
