use Rattle.std.proofs.Common.{◌≡◌, ◌≢◌, ◌⊎◌, inl, inr, subst, ap, [], ◌∷◌}
use Rattle.gtd_core.specs.Parts.{domain_tree}
use Rattle.gtd_core.specs.declared.fault.Fault.TheVariants.{NoMemory}
use Rattle.gtd_core.specs.declared.fault.TextFault.{TextFault}
use Rattle.gtd_text.specs.Faults.{no_memory}
use Rattle.gtd_text.specs.Reading.{HasNoFault, IsFault, StandsFor}
use Rattle.gtd_tool.specs.Asked.{Text}
use Rattle.gtd_tool.specs.Readings.{DomainPart}
use Rattle.gtd_tool.specs.Refusals.{IsStopped}
use Rattle.gtd_tool.specs.declared.refusal.Refusal.{Refusal}
use Rattle.gtd_tool.specs.declared.refusal.Refusal.TheVariants as refusal
use Rattle.gtd_tool.proofs.words.domain_of.Goals as goal

-- the refusal for what reading the text answered
stopped_by : (text : Text) (fault : TextFault) (r : Refusal) → (fault ≡ no_memory) ⊎ IsFault text fault
    → ((fault.kind ≡ NoMemory) × (r ≡ refusal.Memory)) ⊎ ((fault.kind ≢ NoMemory) × (r ≡ refusal.Text fault))
    → IsStopped (DomainPart text ∷ []) r
stopped_by text fault r found (inl h) = inl h.1
stopped_by text fault r (inl none) (inr h) = absurd (h.0 (ap (λ (f : TextFault). f.kind) none))
stopped_by text fault r (inr is) (inr h) = inr (inl (fault, is, h.1), λ other same kind. h.0 cc)

pub returns-in-Ok-clause-read : goal.returns-in-Ok-clause-read
returns-in-Ok-clause-read c = record {
  stands = subst (λ (t : Text). StandsFor t (domain_tree c.in-Ok.domain)) c.as_bytes.ensures.value c.in-Ok.ensures.found;
  faultless = subst HasNoFault c.as_bytes.ensures.value c.in-Ok.ensures.faultless;
}

pub returns-in-Err-clause-stopped : goal.returns-in-Err-clause-stopped
returns-in-Err-clause-stopped c =
    stopped_by _ c.in-Err.fault _
    (subst (λ (t : Text). (c.in-Err.fault ≡ no_memory) ⊎ IsFault t c.in-Err.fault) c.as_bytes.ensures.value
    c.in-Err.ensures.fault)
    c.text_refusal.ensures
