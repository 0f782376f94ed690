-- What the command `hours` did for a text, from what its parts did.
use Rattle.std.proofs.Common.{◌≡◌, ◌⊎◌, inl, inr, refl, sym, subst, ℕ, List, Bool, Option, Some, None}
use Rattle.std.specs.Prelude.{Result, Ok, Err}
use Rattle.std.specs.Io.KnownBytes.{Appends, Keeps}
use Rattle.gtd_faults.specs.Run.{TookSome}
use Rattle.gtd_hours.specs.declared.hours.Hours.{Hours}
use Rattle.gtd_hours_loose_tokens.specs.declared.token.DayNames.{DayNames}
use Rattle.gtd_hours_options.specs.declared.fault.OptionsReadFault.{OptionsReadFault}
use Rattle.gtd_hours_options.specs.declared.fault.OptionsReadFault.TheVariants as reading
use Rattle.gtdesk_plans.specs.Arguments.{Text}
use Rattle.gtdesk_tool.specs.LooseHours.{IsUntranslated, PutLines, RanLines}
use Rattle.gtdesk_tool.specs.MendedHours.{IsUnmended}
use Rattle.gtdesk_tool.specs.TextHours.{unread}
use Rattle.gtdesk_tool.specs.Running.{PutText}
use Rattle.gtdesk_tool.specs.Telling.{IsUntold, Telling, ToldIfSome, telling}
use Rattle.gtdesk_tool.specs.declared.ending.Ending.{Ending}
use Rattle.gtdesk_tool.specs.declared.refusal.RunRefusal.{RunRefusal}
use Rattle.gtdesk_tool.specs.declared.refusal.RunRefusal.TheVariants as refusal
use Rattle.gtdesk_tool.proofs.RunningFacts.{TellsNone}

-- ---- a refusal of a text tells no failure of a device

tells_unread : (n : ℕ) (fault : OptionsReadFault) → TellsNone n (unread fault)
tells_unread n (reading.Fault why) = (refl, refl)
tells_unread n reading.NoMemory = (refl, refl)

pub of_unmended : (names : DayNames) (text : Text) (n : ℕ) (r : RunRefusal) → IsUnmended names text r → TellsNone n r
of_unmended names text n r is = subst (λ (x : RunRefusal). TellsNone n x) (sym is.2) (tells_unread n is.0)

of_untranslated : (hours : Hours) (n : ℕ) (r : RunRefusal) → IsUntranslated hours r → TellsNone n r
of_untranslated hours n r (inl is) = subst (λ (x : RunRefusal). TellsNone n x) (sym is) (refl, refl)
of_untranslated hours n r (inr is) = subst (λ (x : RunRefusal). TellsNone n x) (sym is.0) (refl, refl)

-- ---- the line of a domain, and warnings

module _ (domain warnings : List ℕ) (old new : Option (List ℕ)) (ended : Bool) (errors : Telling) where
  pub lines_told : (text told : List ℕ) (e : Ending) → text ≡ domain → told ≡ warnings
      → PutText (λ t. t ≡ text) (λ r. ⊥) old new ended (Ok e) → ToldIfSome errors told
      → PutLines domain warnings old new ended errors (Ok e)
  lines_told text told e is same put tells = record {
    whole = (
      put.whole.0,
      subst (λ (t : List ℕ). Appends old new t) is
          (subst (λ (t : List ℕ). Appends old new t) put.whole.1.1 put.whole.1.2),
      put.whole.2,
      subst (ToldIfSome errors) same tells,
    );
    refused = tt;
  }

  part_of : (text : List ℕ) (r : RunRefusal) → text ≡ domain
      → ((r ≡ refusal.Write) × ((t : List ℕ) × (t ≡ text) × TookSome old new t)) ⊎ (⊥ × Keeps old new)
      → (r ≡ refusal.Write) × TookSome old new domain
  part_of text r is (inl part) = (part.0, subst (TookSome old new) is (subst (TookSome old new) part.1.1 part.1.2))
  part_of text r is (inr none) = absurd none.0

  pub lines_refused : (text : List ℕ) (r : RunRefusal) → text ≡ domain
      → PutText (λ t. t ≡ text) (λ r. ⊥) old new ended (Err r) → IsUntold errors
      → PutLines domain warnings old new ended errors (Err r)
  lines_refused text r is put untold =
      let part = part_of text r is put.refused in
      record { whole = tt; refused = (part.0, part.1, untold) }

  pub lines_ran : (P : List ℕ → List ℕ → Type 0) (C : RunRefusal → Type 0) (result : Result Ending RunRefusal)
      → P domain warnings → PutLines domain warnings old new ended errors result → RanLines P C old new ended errors result
  lines_ran P C (Ok e) are put = record {
    whole = (put.whole.0, (domain, warnings, are, put.whole.1, put.whole.3), put.whole.2);
    refused = tt;
  }
  lines_ran P C (Err r) are put = record {
    whole = tt;
    refused = (put.refused.2, inl (put.refused.0, (domain, warnings, are, put.refused.1)));
  }

pub keeps_same : (o : Option (List ℕ)) → Keeps o o
keeps_same None = tt
keeps_same (Some bytes) = refl

pub lines_stopped : (P : List ℕ → List ℕ → Type 0) (C : RunRefusal → Type 0) (old : Option (List ℕ)) (ended : Bool)
    (told : Option (List ℕ)) (n : ℕ) (r : RunRefusal) → C r → RanLines P C old old ended (telling told told n n) (Err r)
lines_stopped P C old ended told n r is =
    record { whole = tt; refused = ((keeps_same told, refl), inr (is, keeps_same old)) }
