-- What the command `same` did, from what its parts did.
use Rattle.std.proofs.Common.{◌≡◌, ◌⊎◌, ◌<◌, inl, inr, refl, sym, ap, subst, arith, ℕ, List, Bool, Option}
use Rattle.std.specs.Prelude.{ℤ, pos, ◌+ℤ◌, ◌*ℤ◌, Result, Ok, Err}
use Rattle.std.proofs.lemmas.Int.{ints}
use Rattle.std.specs.Io.KnownBytes.{Appends, Keeps}
use Rattle.gtd_calendar.specs.Calendar.{IsCalendarDay}
use Rattle.gtd_calendar.specs.Clock.{second_of_day}
use Rattle.gtd_calendar.specs.facts.ClockLemmas.{second-parts}
use Rattle.gtd_core.specs.Seconds.{IsHorizonSecond, IsMomentSecond, day_of_second}
use Rattle.gtd_core.specs.declared.domain.Domain.{Domain}
use Rattle.gtd_difference.specs.Difference.{IsComparison}
use Rattle.gtd_difference.specs.declared.comparison.Comparison.{Comparison}
use Rattle.gtd_difference.specs.declared.comparison.Comparison.TheVariants.{Same, SameUntil2700, Apart}
use Rattle.gtd_faults.specs.Run.{TookSome}
use Rattle.gtdesk_tool.specs.declared.refusal.RunRefusal.{RunRefusal}
use Rattle.gtdesk_tool.specs.declared.refusal.RunRefusal.TheVariants as refusal
use Rattle.gtdesk_tool.specs.Comparing.{HasCompared, IsShown, PutsComparison, comparison_ending, comparison_line, with_ending}
use Rattle.gtdesk_tool.specs.Running.{PutText, failures_after_read, failures_after_write}
use Rattle.gtdesk_tool.specs.declared.ending.Ending.{Ending}

-- ---- the second that is told has a text

on_day : (t n : ℤ) (k : ℕ) → IsHorizonSecond t → t ≡ pos 86400 *ℤ n +ℤ pos k → k < 86400 → IsCalendarDay n
on_day t n k range is clock = (omega (arith, ints, range.0, is, clock), omega (arith, ints, range.1, is))

pub calendar_day : (t : ℤ) → IsHorizonSecond t → IsCalendarDay (day_of_second t)
calendar_day t range = let parts = second-parts t in on_day t (day_of_second t) (second_of_day t) range parts.0 parts.1

pub shown_by : (first second : Domain) (from : ℤ) (found : Comparison) → IsMomentSecond from
    → IsComparison first second from found → IsShown found
shown_by first second from Same range is = tt
shown_by first second from SameUntil2700 range is = tt
shown_by first second from (Apart apart) range is = (omega (arith, ints, range.0, is.later), omega (arith, ints, is.within))

-- ---- what was put

module _ (old new : Option (List ℕ)) (ended : Bool) where
  part_of : (found : Comparison) (text : List ℕ) (r : RunRefusal) → text ≡ comparison_line found
      → ((r ≡ refusal.Write) × ((t : List ℕ) × (t ≡ text) × TookSome old new t)) ⊎ (⊥ × Keeps old new)
      → ((r ≡ refusal.Write) × TookSome old new (comparison_line found)) ⊎ ((r ≡ refusal.Memory) × Keeps old new)
  part_of found text r is (inl part) =
      inl (part.0, subst (TookSome old new) is (subst (TookSome old new) part.1.1 part.1.2))
  part_of found text r is (inr none) = absurd none.0

  pub puts_line : (found : Comparison) (text : List ℕ) (put : Result Ending RunRefusal) → text ≡ comparison_line found
      → PutText (λ t. t ≡ text) (λ r. ⊥) old new ended put
      → PutsComparison found old new ended (with_ending (comparison_ending found) put)
  puts_line found text (Ok e) is put = record {
    whole = (
      refl,
      subst (λ (t : List ℕ). Appends old new t) is
          (subst (λ (t : List ℕ). Appends old new t) put.whole.1.1 put.whole.1.2),
      put.whole.2,
    );
    refused = tt;
  }
  puts_line found text (Err r) is put = record { whole = tt; refused = part_of found text r is put.refused }

  compared_part : (first second : Domain) (from : ℤ) (found : Comparison) (r : RunRefusal) → IsComparison first second from found
      → ((r ≡ refusal.Write) × TookSome old new (comparison_line found)) ⊎ ((r ≡ refusal.Memory) × Keeps old new)
      → ((r ≡ refusal.Write) × ((found : Comparison) × IsComparison first second from found
      × TookSome old new (comparison_line found))) ⊎ ((r ≡ refusal.Memory) × Keeps old new)
  compared_part first second from found r is (inl part) = inl (part.0, (found, is, part.1))
  compared_part first second from found r is (inr none) = inr none

  pub compared_by : (first second : Domain) (from : ℤ) (found : Comparison) (result : Result Ending RunRefusal)
      → IsComparison first second from found → PutsComparison found old new ended result
      → HasCompared first second from old new ended result
  compared_by first second from found (Ok e) is put = record {
    whole = (found, is, put.whole.0, put.whole.1, put.whole.2);
    refused = tt;
  }
  compared_by first second from found (Err r) is put = record {
    whole = tt;
    refused = compared_part first second from found r is put.refused;
  }

  unread_part : (first second : Domain) (from : ℤ) (n : ℕ) (r : RunRefusal)
      → ((r ≡ refusal.Write) × ((found : Comparison) × IsComparison first second from found
      × TookSome old new (comparison_line found))) ⊎ ((r ≡ refusal.Memory) × Keeps old new)
      → n ≡ failures_after_read (Err r) n
  unread_part first second from n r (inl part) = sym (ap (λ (x : RunRefusal). failures_after_read (Err x) n) part.0)
  unread_part first second from n r (inr none) = sym (ap (λ (x : RunRefusal). failures_after_read (Err x) n) none.0)

  -- nothing is read
  pub unread_comparison : (first second : Domain) (from : ℤ) (n : ℕ) (result : Result Ending RunRefusal)
      → HasCompared first second from old new ended result → n ≡ failures_after_read result n
  unread_comparison first second from n (Ok e) ran = refl
  unread_comparison first second from n (Err r) ran = unread_part first second from n r ran.refused

-- another ending tells the same failures
pub same_failures : (ending : Ending) (put : Result Ending RunRefusal) (n : ℕ)
    → failures_after_write put n ≡ failures_after_write (with_ending ending put) n
same_failures ending (Ok e) n = refl
same_failures ending (Err r) n = refl
