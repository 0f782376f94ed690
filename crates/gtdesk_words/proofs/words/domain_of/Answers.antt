use Rattle.std.proofs.Common.{◌≡◌, ◌≢◌, ◌⊎◌, [], ◌∷◌, inl, inr, subst, sym, ap, refl}
use Rattle.gtd_core.specs.Parts.{domain_tree}
use Rattle.gtd_core.specs.declared.fault.Fault.TheVariants.{NoMemory}
use Rattle.gtd_core.specs.declared.fault.TextFault.{TextFault}
use Rattle.gtd_text.specs.Faults.{no_memory}
use Rattle.gtd_text.specs.Reading.{HasNoFault, IsFault, StandsFor}
use Rattle.gtdesk_words.specs.Text.{Text}
use Rattle.gtdesk_words.specs.Readings.{AreStopped, Reading, word_as}
use Rattle.gtdesk_words.specs.declared.refusal.Reason.TheVariants as reason
use Rattle.gtdesk_words.specs.declared.refusal.WordName.{WordName}
use Rattle.gtdesk_words.specs.declared.refusal.WordsRefusal.{WordsRefusal}
use Rattle.gtdesk_words.specs.declared.refusal.WordsRefusal.TheVariants as refusal
use Rattle.gtdesk_words.proofs.words.domain_of.Goals as goal

-- the refusal for what reading the text answered
stopped_by : (word : WordName) (text : Text) (fault : TextFault) (r : WordsRefusal) → (fault ≡ no_memory) ⊎ IsFault text fault
    → ((fault.kind ≡ NoMemory) × (r ≡ refusal.Memory))
    ⊎ ((fault.kind ≢ NoMemory) × (r ≡ refusal.Word (record { word = word; why = reason.Domain fault })))
    → AreStopped (word_as word (Reading.domain text) ∷ []) r
stopped_by word text fault r found (inl h) = subst (AreStopped (word_as word (Reading.domain text) ∷ [])) (sym h.1) tt
stopped_by word text fault r (inl none) (inr h) = absurd (h.0 (ap (λ (f : TextFault). f.kind) none))
stopped_by word text fault r (inr is) (inr h) =
    subst (AreStopped (word_as word (Reading.domain text) ∷ [])) (sym h.1) (inl (refl, (fault, refl, is)))

pub returns-in-Ok : goal.returns-in-Ok
returns-in-Ok c = record {
  stands = subst (λ (t : Text). StandsFor t (domain_tree c.in-Ok.domain)) c.as_bytes.ensures.value c.in-Ok.ensures.found;
  faultless = subst HasNoFault c.as_bytes.ensures.value c.in-Ok.ensures.faultless;
}

pub returns-in-Err : goal.returns-in-Err
returns-in-Err c =
    stopped_by _ _ c.in-Err.fault _
    (subst (λ (t : Text). (c.in-Err.fault ≡ no_memory) ⊎ IsFault t c.in-Err.fault)
    c.as_bytes.ensures.value c.in-Err.ensures.fault)
    c.text_refusal.ensures
