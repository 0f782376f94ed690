-- What tokens build they stand for, and in a short text they are within the limits.
use Rattle.std.proofs.Common.{◌≡◌, ℕ, ◌+◌, ◌≤◌, Bool, cond, List, [], ◌∷◌, length, Some, None, refl, sym, ap, ◌∙◌, arith}
use Rattle.std.proofs.Common.{subst}
use Rattle.std.proofs.lemmas.Bool.{le-ltb}
use Rattle.gtd_core.specs.Trees.{Tree, AreValid, leaf_count}
use Rattle.gtd_core.specs.declared.fault.Fault.TheVariants as faults
use Rattle.gtd_scan.specs.facts.OneReading.{one_list}
use Rattle.gtd_text.specs.declared.token.Token.{Token}
use Rattle.gtd_text.specs.Building.{build, at_front}
use Rattle.gtd_text.specs.ComputedLexing.{Reads}
use Rattle.gtd_text.specs.Found.{IsReadable, depth_after, too_deep_after}
use Rattle.gtd_text.specs.Lexing.{kinds}
use Rattle.gtd_text.specs.Reading.{HasNoFault, StandsFor}
use Rattle.gtd_text.specs.ToCome.{Builds, IsBuildable}
use Rattle.gtd_text.specs.facts.BuiltIsMeant.{stood_whole}
use Rattle.gtd_text.specs.facts.Faultless.{no_fault_of_tokens}
use Rattle.gtd_text.specs.facts.LexingForms.{tokens_of_parts}
use Rattle.gtd_text.specs.facts.ReadingLaws.{no_fault, readable}
use Rattle.gtd_text.specs.facts.Unique.{goes_on, is_language}
use Rattle.gtd_text.proofs.FindingsLemmas.{depth_le}

pub builds_stand : (text : List ℕ) (e : Tree) → Builds text e → StandsFor text e
builds_stand text e b = record {
  tokens = b.tokens;
  read = tokens_of_parts text b.tokens b.read;
  stand = stood_whole (kinds b.tokens) e b.built;
}

-- ---- a text without a fault

pub buildable : (text : List ℕ) → IsReadable text → IsBuildable text
buildable text h =
    let r = readable text h.tokens (length text) h.read h.faultless in
    record { tokens = h.tokens; read = h.read; builds = record { tree = r.tree; built = r.built; valid = r.valid } }

pub few_built : (text : List ℕ) (e : Tree) → IsReadable text → Builds text e → leaf_count e ≤ 128
few_built text e h b =
    let r = readable text h.tokens (length text) h.read h.faultless in
    let tokens = one_list (is_language text) 0 h.tokens b.tokens (length text) h.read b.read in
    let both : Some r.tree ≡ Some e =
    sym r.built ∙ ap (λ (l : List Token). build at_front (kinds l)) tokens ∙ b.built in
    let same : r.tree ≡ e = cc in
    subst (λ (e : Tree). leaf_count e ≤ 128) same r.few

-- ---- a short text

count_le : (text : List ℕ) (place : ℕ) (tokens : List Token) (end : ℕ) → Reads text place tokens end
    → place + length tokens ≤ end
count_le text place [] end h = omega (arith, h.0)
count_le text place (token ∷ tokens) end h =
    omega (arith, h.0.0, goes_on text token h.1, count_le text token.to tokens end h.2)

shallow : (depth : ℕ) (tokens : List Token) → depth + length tokens ≤ 128 → too_deep_after depth tokens ≡ None
shallow depth [] h = refl
shallow depth (token ∷ tokens) h =
    let more = depth_le depth token.kind in
    let after = depth_after depth token.kind in
    ap (λ (b : Bool). cond b (Some (record { kind = faults.TooDeep; place = token.from })) (too_deep_after after tokens))
    (le-ltb 128 after (omega (arith, more, h)))
    ∙ shallow after tokens (omega (arith, more, h))

pub short_faultless : (text : List ℕ) (e : Tree) → length text ≤ 128 → Builds text e → AreValid e → leaf_count e ≤ 128
    → HasNoFault text
short_faultless text e short b valid few =
    let count = count_le text 0 b.tokens (length text) b.read in
    no_fault text b.tokens b.read
    (no_fault_of_tokens (length text) b.tokens e (stood_whole (kinds b.tokens) e b.built) valid few
    (shallow 0 b.tokens (omega (arith, short, count))))
