-- Hours that are being read.
use Rattle.std.proofs.Common.{◌≡◌, false, List, [], ◌∷◌, ◌++◌, refl, sym, ap, subst, ◌∙◌, append_assoc}
use Rattle.std.proofs.Common.{Result, Ok, Err}
use Rattle.std.specs.Prelude.{IfOk}
use Rattle.std.specs.declared.alloc.AllocError.{AllocError}
use Rattle.gtd_hours.specs.declared.hours.Link.{Link}
use Rattle.gtd_hours.specs.declared.hours.Link.TheVariants as link
use Rattle.gtd_hours.specs.declared.hours.Rule.{Rule}
use Rattle.gtd_hours_parts.specs.Values.{IsPartOf}
use Rattle.gtd_hours_parts.specs.declared.part.Part.{Part}
use Rattle.gtd_hours_parts.specs.declared.part.Part.TheVariants as part
use Rattle.gtd_hours_parts.specs.declared.piece.Piece.{Piece}
use Rattle.gtd_hours_parts.specs.declared.piece.Piece.TheVariants as piece
use Rattle.gtd_hours_text.specs.declared.builder.Building.{Building}
use Rattle.gtd_hours_text.specs.Drafts.{Builds, Drafted, IsAdded, IsBuilding, IsDraft}
use Rattle.gtd_hours_text.specs.Standing.{AreRules, IsRule, begins_rule, is_one_rule}
use Rattle.gtd_hours_text.proofs.AddingLemmas.{no_rule, one_more}

drafted_more : (l : Link) (p : List Piece) (rules : List Rule) (k : Link) (r : List Piece) (x : Piece)
    → begins_rule x ≡ false → Drafted l p rules k r → Drafted l (p ++ x ∷ []) rules k (r ++ x ∷ [])
drafted_more l p rules k r x inside (Drafted.here a b c d e no_rules same_link same one) =
    Drafted.here l k (p ++ x ∷ []) (r ++ x ∷ []) rules no_rules same_link (ap (λ (o : List Piece). o ++ x ∷ []) same)
    (one_more r x one inside)
drafted_more l p rules k r x inside (Drafted.more a next b c q rest d rule others e split one is all after) =
    Drafted.more l next k (p ++ x ∷ []) q (rest ++ x ∷ []) (r ++ x ∷ []) rule others rules
    (ap (λ (o : List Piece). o ++ x ∷ []) split ∙ append_assoc q (piece.Rule next ∷ rest) (x ∷ [])) one is all
    (drafted_more next rest others k r x inside after)

drafted_rule : (l : Link) (p : List Piece) (rules : List Rule) (k : Link) (r : List Piece) (rule : Rule) (next : Link)
    → IsRule k r rule → Drafted l p rules k r → Drafted l (p ++ piece.Rule next ∷ []) (rules ++ rule ∷ []) next []
drafted_rule l p rules k r rule next is (Drafted.here a b c d e no_rules same_link same one) =
    Drafted.more l next next (p ++ piece.Rule next ∷ []) p [] [] rule [] (rules ++ rule ∷ []) refl
    (ap is_one_rule same ∙ one)
    (subst (λ (o : Link). IsRule o p rule) (sym same_link) (subst (λ (o : List Piece). IsRule k o rule) (sym same) is))
    (ap (λ (o : List Rule). o ++ rule ∷ []) no_rules) (Drafted.here next next [] [] [] refl refl refl refl)
drafted_rule l p rules k r rule next is (Drafted.more a n b c q rest d first others e split one at all after) =
    Drafted.more l n next (p ++ piece.Rule next ∷ []) q (rest ++ piece.Rule next ∷ []) [] first (others ++ rule ∷ [])
    (rules ++ rule ∷ [])
    (ap (λ (o : List Piece). o ++ piece.Rule next ∷ []) split ∙ append_assoc q (piece.Rule n ∷ rest) (piece.Rule next ∷ []))
    one at (ap (λ (o : List Rule). o ++ rule ∷ []) all) (drafted_rule n rest others k r rule next is after)

drafted_ends : (l : Link) (p : List Piece) (rules : List Rule) (k : Link) (r : List Piece) (rule : Rule) → IsRule k r rule
    → Drafted l p rules k r → AreRules l p (rules ++ rule ∷ [])
drafted_ends l p rules k r rule is (Drafted.here a b c d e no_rules same_link same one) =
    AreRules.last l p rule (rules ++ rule ∷ []) (ap is_one_rule same ∙ one)
    (subst (λ (o : Link). IsRule o p rule) (sym same_link) (subst (λ (o : List Piece). IsRule k o rule) (sym same) is))
    (ap (λ (o : List Rule). o ++ rule ∷ []) no_rules)
drafted_ends l p rules k r rule is (Drafted.more a n b c q rest d first others e split one at all after) =
    AreRules.another l n p q rest first (others ++ rule ∷ []) (rules ++ rule ∷ []) split one at
    (ap (λ (o : List Rule). o ++ rule ∷ []) all) (drafted_ends n rest others k r rule is after)

-- ---- one piece more

pub begun : (so_far : Building) → so_far.rules.items ≡ [] → IsDraft [] so_far.draft → so_far.draft.link ≡ link.Instead
    → IsBuilding [] so_far
begun so_far none is same =
    record {
      here = [];
      rules = Drafted.here link.Instead so_far.draft.link [] [] so_far.rules.items none (sym same) refl refl;
      draft = is;
    }

pub part_built : (so_far : Building) (x : Piece) (then : Building) → begins_rule x ≡ false → IsAdded so_far.draft x then.draft
    → then.rules ≡ so_far.rules → Builds so_far x then
part_built so_far x then inside adds same = λ p is. record {
  here = is.here ++ x ∷ [];
  rules = subst (λ rules. Drafted link.Instead (p ++ x ∷ []) rules.items then.draft.link (is.here ++ x ∷ [])) (sym same)
      (subst (λ (k : Link). Drafted link.Instead (p ++ x ∷ []) so_far.rules.items k (is.here ++ x ∷ [])) (sym adds.link)
      (drafted_more link.Instead p so_far.rules.items so_far.draft.link is.here x inside is.rules));
  draft = adds.holds is.here is.draft;
}

pub rule_built : (so_far : Building) (next : Link) (rule : Rule) (then : Building)
    → ((p : List Piece) → IsDraft p so_far.draft → IsRule so_far.draft.link p rule)
    → then.rules.items ≡ so_far.rules.items ++ rule ∷ [] → IsDraft [] then.draft → then.draft.link ≡ next
    → Builds so_far (piece.Rule next) then
rule_built so_far next rule then is_rule pushed is_draft same = λ p is. record {
  here = [];
  rules = subst (λ (rules : List Rule). Drafted link.Instead (p ++ piece.Rule next ∷ []) rules then.draft.link []) (sym pushed)
      (subst (λ (k : Link). Drafted link.Instead (p ++ piece.Rule next ∷ []) (so_far.rules.items ++ rule ∷ []) k []) (sym same)
      (drafted_rule link.Instead p so_far.rules.items so_far.draft.link is.here rule next (is_rule is.here is.draft) is.rules));
  draft = is_draft;
}

pub hours_built : (so_far : Building) (rule : Rule) (rules : List Rule)
    → ((p : List Piece) → IsDraft p so_far.draft → IsRule so_far.draft.link p rule)
    → rules ≡ so_far.rules.items ++ rule ∷ [] → (p : List Piece) → IsBuilding p so_far → AreRules link.Instead p rules
hours_built so_far rule rules is_rule pushed p is =
    subst (λ (l : List Rule). AreRules link.Instead p l) (sym pushed)
    (drafted_ends link.Instead p so_far.rules.items so_far.draft.link is.here rule (is_rule is.here is.draft) is.rules)

-- ---- one part more

pub rule_part : (so_far then : Building) (l : Link) → Builds so_far (piece.Rule l) then → (y : Piece) → IsPartOf (part.Rule l) y
    → Builds so_far y then
rule_part so_far then l builds (piece.Rule k) is = subst (λ (n : Link). Builds so_far (piece.Rule n) then) is builds
rule_part so_far then l builds y is = absurd is

abbrev pub IfInside : Building → Part → Result Building AllocError → Type 0
IfInside so_far x result =
    IfOk result (λ then. (y : Piece) → IsPartOf x y → begins_rule y ≡ false → Builds so_far y then)

pub inside_rule : (so_far : Building) (x : Part) (result : Result Building AllocError) → ((l : Link) → x ≡ part.Rule l → ⊥)
    → IfInside so_far x result → IfOk result (λ then. (y : Piece) → IsPartOf x y → Builds so_far y then)
inside_rule so_far x (Ok then) none h = λ y is. h y is (no_rule x y none is)
inside_rule so_far x (Err e) none h = record {}
