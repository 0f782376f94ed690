-- What the command `hours` did for a text with options and for a table of holidays, from what its parts did.
use Rattle.std.proofs.Common.{◌≡◌, ◌<◌, inr, refl, ap, subst, sym, ℕ, List, [], ◌∷◌, Bool, Option, Some, None}
use Rattle.std.specs.Prelude.{◌≢◌, Result, Ok, Err, IfSome, length, option_map}
use Rattle.std.specs.Io.KnownBytes.{Keeps}
use Rattle.gtd_core.specs.Limits.{most_file_bytes}
use Rattle.gtd_hours_holidays.specs.Table.{IsTable}
use Rattle.gtd_hours_holidays.specs.declared.fault.HolidaysFault.{HolidaysFault}
use Rattle.gtd_hours_holidays.specs.declared.fault.HolidaysFault.TheVariants as holidays
use Rattle.gtd_hours_loose.specs.declared.manner.Manner.{Manner}
use Rattle.gtd_hours_options.specs.declared.options.Options.{Options}
use Rattle.gtdesk_plans.specs.Arguments.{Text}
use Rattle.gtdesk_plans.specs.declared.options.HoursOptions.{HoursOptions}
use Rattle.gtdesk_tool.specs.TextHours.{AreLinesWith, HasListed, IsRefusedWith, RanByTable, RanText, RanWithTable}
use Rattle.gtdesk_tool.specs.Telling.{Telling, telling}
use Rattle.gtdesk_tool.specs.declared.ending.Ending.{Ending}
use Rattle.gtdesk_tool.specs.declared.refusal.RunRefusal.{RunRefusal}
use Rattle.gtdesk_tool.proofs.LooseFacts.{lines_stopped}

-- ---- a text that is refused

pub text_refused : (options : Options) (how : Manner) (text : Text) (old : Option (List ℕ)) (ended : Bool)
    (told : Option (List ℕ)) (n : ℕ) (r : RunRefusal) → IsRefusedWith options how text r
    → RanText options how text old old ended (telling told told n n) (Err r)
text_refused options how text old ended told n r is =
    lines_stopped (AreLinesWith options how text) (IsRefusedWith options how text) old ended told n r is

-- ---- the list of a table's faults

module _ (given : HoursOptions) (text : Text) (path : List ℕ) (file old new : Option (List ℕ))
    (silent ended : Bool) (errors : Telling) where
  pub of_listed : (faults : List HolidaysFault) → IfSome file (λ (bytes : List ℕ). IsTable bytes (Err faults)) → Keeps old new
      → (result : Result Ending RunRefusal) → HasListed path faults errors result
      → RanWithTable given text path file old new silent ended errors result
  of_listed faults is kept (Ok e) has = RanWithTable.faulty faults is (ap Ok has.0) has.1 kept
  of_listed faults is kept (Err r) has = RanWithTable.refused r (inr (inr has.0)) refl has.1 kept

-- a list of one fault is not empty
abbrev is_fault : List HolidaysFault → Type 0
is_fault [] = ⊥
is_fault (why ∷ whys) = Unit {0}

some_fault : (holidays.TooLarge ∷ []) ≢ []
some_fault e = subst is_fault e tt

-- a table that is too large has that fault
pub too_large : (file : Option (List ℕ)) → IfSome file (λ (bytes : List ℕ). most_file_bytes < length bytes)
    → IfSome file (λ (bytes : List ℕ). IsTable bytes (Err (holidays.TooLarge ∷ [])))
too_large None large = tt
too_large (Some bytes) large = ([], holidays.TooLarge ∷ [], inr (large, refl, refl), refl, some_fault)

-- what holds of the bytes that were read holds of those that the input had to give
pub of_bytes : (given : HoursOptions) (text : Text) (path : List ℕ) (file old new : Option (List ℕ))
    (silent ended : Bool) (errors : Telling) (result : Result Ending RunRefusal) (bytes : List ℕ)
    → IfSome file (λ (all : List ℕ). bytes ≡ all)
    → RanWithTable given text path (Some bytes) old new silent ended errors result
    → RanWithTable given text path file old new silent ended errors result
of_bytes given text path None old new silent ended errors result bytes is (RanWithTable.read table sound ran) =
    RanWithTable.read table tt ran
of_bytes given text path None old new silent ended errors result bytes is (RanWithTable.faulty faults are e told kept) =
    RanWithTable.faulty faults tt e told kept
of_bytes given text path None old new silent ended errors result bytes is (RanWithTable.refused r why e told kept) =
    RanWithTable.refused r why e told kept
of_bytes given text path (Some all) old new silent ended errors result bytes is ran =
    subst (λ (x : List ℕ). RanWithTable given text path (Some x) old new silent ended errors result) is ran

-- ---- a text, by whether a table is given

pub by_table : {A : Type 0} (bytes : A → Text) (table : Option A) (name : A) (given : HoursOptions) (text : Text) (path : List ℕ)
    (file old new : Option (List ℕ)) (silent ended : Bool) (errors : Telling) (result : Result Ending RunRefusal)
    → table ≡ Some name → RanWithTable given text path file old new silent ended errors result
    → RanByTable (option_map bytes table) given text path file old new silent ended errors result
by_table bytes table name given text path file old new silent ended errors result is ran =
    subst (λ (t : Option _). RanByTable (option_map bytes t) given text path file old new silent ended errors result) (sym is)
    ran
