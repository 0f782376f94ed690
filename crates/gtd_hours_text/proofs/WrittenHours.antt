-- The written text of hours stands for them.
use Rattle.std.proofs.Common.{◌≡◌, ℕ, Bool, true, false, cond, List, [], ◌∷◌, ◌++◌, refl, sym, subst}
use Rattle.std.specs.Prelude.{◌&&◌, not}
use Rattle.std.proofs.lemmas.List.{append-nil}
use Rattle.gtd_hours.specs.declared.hours.Hours.{Hours}
use Rattle.gtd_hours.specs.declared.hours.Link.{Link}
use Rattle.gtd_hours.specs.declared.hours.Link.TheVariants as link
use Rattle.gtd_hours.specs.declared.hours.Modifier.{Modifier}
use Rattle.gtd_hours.specs.declared.hours.Modifier.TheVariants as modifier
use Rattle.gtd_hours.specs.declared.hours.Rule.{Rule}
use Rattle.gtd_hours.specs.Writable.{AreWritable, BeginAnew, IsWritable, is_fallback}
use Rattle.gtd_hours.specs.Written.{goes_into, hours_text, is_also, is_some_kind, is_some_time, link_text, more_rules_text}
use Rattle.gtd_hours.specs.Written.{needs_word, rule_text, rules_text}
use Rattle.gtd_hours_tokens.specs.declared.token.TokenKind.TheVariants as token
use Rattle.gtd_hours_text.proofs.WrittenTerms.{TokenKind, Piece, Stage}
use Rattle.gtd_hours_parts.specs.declared.piece.Piece.TheVariants as piece
use Rattle.gtd_hours_moves.specs.declared.stage.Stage.TheVariants as stage
use Rattle.gtd_hours_grammar.specs.Faults.{IsHoursText}
use Rattle.gtd_hours_moves.specs.Grammar.{Follow, in_full, list_goes_on, precedes}
use Rattle.gtd_hours_text.specs.Standing.{AreRules, IsRule, StandsFor, is_one_rule}
use Rattle.gtd_hours_text.proofs.WrittenTokens.{Anything, Apart, Spells, Spelt}
use Rattle.gtd_hours_text.proofs.WrittenTokens.{all_placed, joined, loose, sign_spelt, space_spelt}
use Rattle.gtd_hours_text.proofs.WrittenSelectors.{Dateless}
use Rattle.gtd_hours_text.proofs.WrittenRules.{EndsRule, OneRule, has_word, one_rule}

-- ---- before a rule

abbrev link_kind : Link → TokenKind
link_kind link.Instead = token.Semicolon
link_kind link.Also = token.Comma
link_kind link.Fallback = token.Semicolon

link_spelt : (l : Link) → is_fallback l ≡ false → Spelt Anything (link_text l) (link_kind l ∷ [])
link_spelt link.Instead kept = joined Anything Anything (59 ∷ []) (32 ∷ []) (token.Semicolon ∷ []) []
    (sign_spelt 59 token.Semicolon refl) space_spelt (λ rest c. tt)
link_spelt link.Also kept = joined Anything Anything (44 ∷ []) (32 ∷ []) (token.Comma ∷ []) []
    (sign_spelt 44 token.Comma refl) space_spelt (λ rest c. tt)
link_spelt link.Fallback kept = absurd cc

link_apart : (l : Link) → is_fallback l ≡ false → (a b : List ℕ) → Apart (link_text l ++ a ++ b)
link_apart link.Instead kept a b = (refl, refl, refl)
link_apart link.Also kept a b = (refl, refl, refl)
link_apart link.Fallback kept a b = absurd cc

link_dateless : (l : Link) (rest : List TokenKind) → Dateless (link_kind l ∷ rest)
link_dateless link.Instead rest = λ value count. refl
link_dateless link.Also rest = λ value count. refl
link_dateless link.Fallback rest = λ value count. refl

link_follow : (l : Link) (s : Stage) (q : List Piece) (us : List TokenKind) → is_fallback l ≡ false
    → precedes stage.Front s ≡ true → (is_also l ≡ true → list_goes_on s us ≡ false) → Follow in_full stage.Front q us
    → Follow in_full s (piece.Rule l ∷ q) (link_kind l ∷ us)
link_follow link.Instead s q us kept p g f =
    Follow.instead s (piece.Rule link.Instead ∷ q) q (token.Semicolon ∷ us) us p refl refl f
link_follow link.Also s q us kept p g f =
    Follow.also s (piece.Rule link.Also ∷ q) q (token.Comma ∷ us) us p refl (g refl) refl f
link_follow link.Fallback s q us kept p g f = absurd cc

-- ---- a comma begins a rule

never_behind_modifier : (us : List TokenKind) → list_goes_on stage.Modifier us ≡ false
never_behind_modifier [] = refl
never_behind_modifier (t ∷ us) = refl

never_behind_always : (us : List TokenKind) → list_goes_on stage.Always us ≡ false
never_behind_always [] = refl
never_behind_always (t ∷ us) = refl

no_going_on : (word some_kinds some_times into : Bool) (s : Stage) (us : List TokenKind) → EndsRule word some_kinds some_times s
    → (word ≡ false → cond some_times into some_kinds ≡ false)
    → (into ≡ false → list_goes_on stage.Times us ≡ false) → list_goes_on s us ≡ false
no_going_on true ks ts into s us e h g =
    subst (λ (r : Stage). list_goes_on r us ≡ false) (sym e) (never_behind_modifier us)
no_going_on false ks true into s us e h g = subst (λ (r : Stage). list_goes_on r us ≡ false) (sym e) (g (h refl))
no_going_on false true false into s us e h g = let no = h refl in absurd cc
no_going_on false false false into s us e h g =
    subst (λ (r : Stage). list_goes_on r us ≡ false) (sym e) (never_behind_always us)

not_needed : (m : Modifier) (also into : Bool) → has_word m (also && into) ≡ false → also ≡ true → into ≡ false
not_needed modifier.Open true into e f = e
not_needed modifier.Open false into e f = absurd cc
not_needed modifier.Closed also into e f = absurd cc

-- ---- rules behind a rule

pub record MoreRules (rules : List Rule) : Type 0 where
  pub p : List Piece
  pub ts : List TokenKind
  pub spelt : Spells (more_rules_text rules) ts
  pub apart : Apart (more_rules_text rules)
  pub dateless : Dateless ts
  pub follow : (rule : Rule) (s : Stage) → precedes stage.Front s ≡ true
      → EndsRule (has_word rule.modifier (needs_word rule rules)) (is_some_kind rule.kinds.items)
      (is_some_time rule.times.items) s
      → Follow in_full s p ts
  pub stand : (l : Link) (q : List Piece) (rule : Rule) → is_one_rule q ≡ true → IsRule l q rule
      → AreRules l (q ++ p) (rule ∷ rules)

no_rules : MoreRules []
no_rules = record {
  p = [];
  ts = [];
  spelt = Spells.nothing [] [] refl refl;
  apart = (refl, refl, refl);
  dateless = λ value count. refl;
  follow = λ rule s p e. Follow.ends s [] [] p refl refl;
  stand = λ l q rule one is. subst (λ (r : List Piece). AreRules l r (rule ∷ [])) (sym (append-nil q))
      (AreRules.last l q rule (rule ∷ []) one is refl);
}

-- the pieces and tokens of a rule and those behind it
rule_follow : (rule : Rule) (rules : List Rule) (n : OneRule rule (needs_word rule rules)) (m : MoreRules rules)
    → Follow in_full stage.Front (n.q ++ m.p) (n.us ++ m.ts)
rule_follow rule rules n m = n.follow m.p m.ts m.dateless (λ s p e. m.follow rule s p e)

with_rule : (next : Rule) (rules : List Rule) → is_fallback next.link ≡ false → OneRule next (needs_word next rules)
    → MoreRules rules → MoreRules (next ∷ rules)
with_rule next rules kept n m = record {
  p = piece.Rule next.link ∷ (n.q ++ m.p);
  ts = link_kind next.link ∷ (n.us ++ m.ts);
  spelt = (loose (link_text next.link) (rule_text next rules) (link_kind next.link ∷ []) n.us (link_spelt next.link kept)
      n.spelt).go
      (more_rules_text rules) m.ts m.apart m.spelt;
  apart = link_apart next.link kept (rule_text next rules) (more_rules_text rules);
  dateless = link_dateless next.link (n.us ++ m.ts);
  follow = λ rule s p e. link_follow next.link s (n.q ++ m.p) (n.us ++ m.ts) kept p (λ also.
      no_going_on (has_word rule.modifier (is_also next.link && goes_into rule next)) (is_some_kind rule.kinds.items)
      (is_some_time rule.times.items) (is_some_time next.times.items && not (is_some_kind next.kinds.items)) s (n.us ++ m.ts) e
      (λ none. not_needed rule.modifier (is_also next.link) (goes_into rule next) none also)
      (λ none. n.begins none m.ts))
      (rule_follow next rules n m);
  stand = λ l q rule one is. AreRules.another l next.link (q ++ piece.Rule next.link ∷ (n.q ++ m.p)) q (n.q ++ m.p) rule
      (next ∷ rules) (rule ∷ next ∷ rules) refl one is refl (m.stand next.link n.q next n.one n.is);
}

more_rules : (rules : List Rule) → AreWritable rules → MoreRules rules
more_rules [] w = no_rules
more_rules (next ∷ rules) w =
    with_rule next rules w.0.no_fallback (one_rule next (needs_word next rules) w.0) (more_rules rules w.1)

-- ---- hours

record Stand (rules : List Rule) : Type 0 where
  p : List Piece
  is : IsHoursText (rules_text rules) p
  stand : AreRules link.Instead p rules

is_text : (text : List ℕ) (p : List Piece) (ts : List TokenKind) → Spells text ts → Follow in_full stage.Front p ts
    → IsHoursText text p
is_text text p ts spelt follow =
    let at = all_placed text ts spelt in
    record {
      tokens = at.tokens;
      are = at.reads;
      hours = subst (λ (l : List TokenKind). Follow in_full stage.Front p l) (sym at.same) follow;
    }

rules_stand : (rules : List Rule) → BeginAnew rules → AreWritable rules → Stand rules
rules_stand [] first w = absurd first
rules_stand (rule ∷ rules) first w =
    let n = one_rule rule (needs_word rule rules) w.0 in
    let m = more_rules rules w.1 in
    record {
      p = n.q ++ m.p;
      is = is_text (rule_text rule rules ++ more_rules_text rules) (n.q ++ m.p) (n.us ++ m.ts)
          (n.spelt.go (more_rules_text rules) m.ts m.apart m.spelt) (rule_follow rule rules n m);
      stand = m.stand link.Instead n.q rule n.one (subst (λ (l : Link). IsRule l n.q rule) first n.is);
    }

pub hours_stand : (hours : Hours) → IsWritable hours → StandsFor (hours_text hours) hours
hours_stand hours w =
    let s = rules_stand hours.rules.items w.first w.rules in
    record { p = s.p; is = s.is; rules = s.stand }
