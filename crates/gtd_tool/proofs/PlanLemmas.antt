-- What stops the reading of a command line.
use Rattle.std.proofs.Common.{◌≡◌, ◌∙◌, ◌⊎◌, ◌++◌, inl, inr, ℕ, List, [], ◌∷◌, Option, Bool, true, false, sym}
use Rattle.std.proofs.Common.{ap, ap₂, true≢false}
use Rattle.gtd_core.specs.Horizons.{IsHorizon}
use Rattle.gtd_core.specs.Seconds.{day_of_second}
use Rattle.gtd_core.specs.Whole.{from_day, to_day}
use Rattle.gtd_core.specs.declared.horizon.Horizon.{Horizon}
use Rattle.gtd_tool.specs.Commands.Next as next
use Rattle.gtd_tool.specs.Commands.Schedule as schedule
use Rattle.gtd_tool.specs.Commands.Year as table
use Rattle.gtd_tool.specs.Commands.Year.{AreTableWords}
use Rattle.gtd_roads.specs.Direction.{Direction}
use Rattle.std.specs.Prelude.{Result, Ok, Err, IfOk, IfErr, MatchResult, ℤ}
use Rattle.gtd_core.specs.Trees.{Tree}
use Rattle.gtd_core.specs.declared.second.Sec.{Sec}
use Rattle.gtd_calendar.specs.Read.{date_in}
use Rattle.gtd_tool.specs.Asked.{Asked, Next, Schedule, Text, Year}
use Rattle.gtd_tool.specs.CommandLines.{reading_in}
use Rattle.gtd_tool.specs.Plans.{AsksFor, IsReadTo, asked_by}
use Rattle.gtd_tool.specs.Readings.{AreDomainAndMoment, Gives, IsHorizonOf, IsHorizonTo, IsNumberUpTo, Reading}
use Rattle.gtd_tool.specs.Readings.{Part, DomainPart, MomentPart, DatePart, HorizonPart}
use Rattle.gtd_tool.specs.Refusals.{AreNoHorizon, IsNoHorizon, IsNoWant, IsFaultless, IsFirstRefusal, IsRefusalOf}
use Rattle.gtd_tool.specs.Refusals.{IsStopped, IsStoppedBy}
use Rattle.gtd_tool.specs.declared.plans.Plan.{Plan}
use Rattle.gtd_tool.specs.declared.refusal.Refusal.{Refusal}
use Rattle.gtd_tool.specs.declared.refusal.Refusal.TheVariants as refusal
use Rattle.gtd_tool.proofs.LawLemmas.{one_asked, one_refusal, asked_apart, domain_faultless, moment_faultless, date_faultless}

pub stopped_after : (p : Part) (ps : List Part) (r : Refusal) → IsFaultless p → IsStopped ps r → IsStopped (p ∷ ps) r
stopped_after p ps r none (inl m) = inl m
stopped_after p ps r none (inr h) = inr (inr (none, h.0), h.1)

first_front : (ps qs : List Part) (r : Refusal) → IsFirstRefusal ps r → IsFirstRefusal (ps ++ qs) r
first_front [] qs r h = absurd h
first_front (p ∷ ps) qs r (inl h) = inl h
first_front (p ∷ ps) qs r (inr h) = inr (h.0, first_front ps qs r h.1)

pub stopped_front : (ps qs : List Part) (r : Refusal) → IsStopped ps r → IsStopped (ps ++ qs) r
stopped_front ps qs r (inl m) = inl m
stopped_front ps qs r (inr h) = inr (first_front ps qs r h.0, h.1)

pub after_moment : (first second : Text) (x : Tree) (m : Sec) (ps : List Part) (r : Refusal) → AreDomainAndMoment first second x m
    → IsStopped ps r → IsStopped (DomainPart first ∷ MomentPart second ∷ ps) r
after_moment first second x m ps r p h =
    stopped_after (DomainPart first) (MomentPart second ∷ ps) r (domain_faultless first x p.domain_read)
    (stopped_after (MomentPart second) ps r (moment_faultless second m p.moment_read) h)

abbrev is_text : Refusal → Bool
is_text (refusal.Text fault) = true
is_text r = false

horizon_no_want : (from to : ℤ) (r : Refusal) → AreNoHorizon from to r → IsNoWant r
horizon_no_want from to r h fault e = absurd (true≢false (ap is_text (sym e ∙ h.2)))

pub stopped_horizon : (first second third : Text) (x : Tree) (m : Sec) (to : ℤ) (r : Refusal)
    → AreDomainAndMoment first second x m
    → date_in third ≡ Ok to → IsNoHorizon m to r
    → IsStopped (DomainPart first ∷ MomentPart second ∷ DatePart third ∷ HorizonPart second third ∷ []) r
stopped_horizon first second third x m to r p d h =
    after_moment first second x m (DatePart third ∷ HorizonPart second third ∷ []) r p
    (stopped_after (DatePart third) (HorizonPart second third ∷ []) r (date_faultless third to d)
    (inr (inl (m, to, p.moment_read, d, h), horizon_no_want _ to r h)))

pub next_read : (first second third : Text) (tree : Tree) (m n : Sec) (to day : ℤ) → AreDomainAndMoment first second tree m
    → date_in third ≡ Ok to → n ≡ m → day ≡ to → IsHorizon (day_of_second m.0) to
    → Gives (next.reading (first ∷ second ∷ third ∷ [])) (Next tree n day)
next_read first second third tree m n to day p d same end h =
    let horizon : IsHorizonTo second third to =
    record { moment = m; moment_read = p.moment_read; date_read = d; horizon = h } in
    (tree, p.domain_read, (m, p.moment_read, (to, d, (to, horizon, ap₂ (Next tree) same end))))

pub schedule_read : (file from to vehicle path : Text) (h : Horizon) (n : ℕ) → IsHorizonOf from to h → IsNumberUpTo 255 vehicle n
    → path ≡ file → Gives (schedule.reading (file ∷ from ∷ to ∷ vehicle ∷ [])) (Schedule path h n)
schedule_read file from to vehicle path h n d v same =
    (n, v, (from_day h, d.from_read, (to_day h, d.to_read, (h, d, ap (λ (p : Text). Schedule p h n) same))))

pub year_read : (file element direction vehicle year path : Text) (e : ℕ) (d : Direction) (v y : ℕ)
    → AreTableWords element direction vehicle year e d v y → path ≡ file
    → Gives (table.reading (file ∷ element ∷ direction ∷ vehicle ∷ year ∷ [])) (Year path e d v y)
year_read file element direction vehicle year path e d v y are same =
    let asked = ap (λ (p : Text). Year p e d v y) same in
    (e, are.element_read, (d, are.direction_read, (v, are.vehicle_read, (y, are.year_read, asked))))

pub read_ok : (reading : Option Reading) (r : Result Plan Refusal) → IsReadTo reading r
    → IfOk r (λ plan. Gives reading (asked_by plan))
read_ok reading (Ok plan) h = h
read_ok reading (Err r) h = tt

pub read_err : (reading : Option Reading) (r : Result Plan Refusal) → IsReadTo reading r → IfErr r (IsStoppedBy reading)
read_err reading (Ok plan) h = tt
read_err reading (Err r) h = h

pub plan_only : (words : List Text) (result : Result Plan Refusal) → IfOk result (λ plan. AsksFor words (asked_by plan))
    → IfErr result (IsStoppedBy (reading_in words)) → (asked : Asked) → AsksFor words asked
    → MatchResult result (λ plan. asked_by plan ≡ asked) (λ r. r ≡ refusal.Memory)
plan_only words (Ok plan) ok err asked h = one_asked words (asked_by plan) asked ok h
plan_only words (Err r) ok (inl m) asked h = m
plan_only words (Err r) ok (inr x) asked h = absurd (asked_apart words asked r h x.0)

pub plan_first : (words : List Text) (result : Result Plan Refusal) → IfOk result (λ plan. AsksFor words (asked_by plan))
    → IfErr result (IsStoppedBy (reading_in words)) → (s : Refusal) → IsRefusalOf words s
    → MatchResult result (λ plan. ⊥) (λ r. (r ≡ refusal.Memory) ⊎ (r ≡ s))
plan_first words (Ok plan) ok err s h = asked_apart words (asked_by plan) s ok h
plan_first words (Err r) ok (inl m) s h = inl m
plan_first words (Err r) ok (inr x) s h = inr (one_refusal words r s x.0 h)
