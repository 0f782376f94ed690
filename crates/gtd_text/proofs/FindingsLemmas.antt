-- What the check keeps in one pass is enough to find the fault of all tokens.
use Rattle.std.proofs.Common.{◌≡◌, ℕ, ◌+◌, ◌≤◌, Bool, true, false, cond, List, [], ◌∷◌, ◌++◌, length, Option, Some, None, refl}
use Rattle.std.proofs.Common.{sym, ap, ◌∙◌, inr, append_assoc, arith}
use Rattle.std.specs.Prelude.{MatchOption, nat_lt}
use Rattle.std.proofs.lemmas.List.{append-nil}
use Rattle.std.specs.Option.{option_or}
use Rattle.gtd_core.specs.declared.fault.Fault.{Fault}
use Rattle.gtd_core.specs.declared.fault.TextFault.{TextFault}
use Rattle.gtd_text.specs.declared.check.findings.Findings.{Findings}
use Rattle.gtd_text.specs.declared.check.grammar.Seen.{Seen}
use Rattle.gtd_text.specs.declared.check.limits.OpenDuration.{OpenDuration}
use Rattle.gtd_text.specs.declared.token.Token.{Token}
use Rattle.gtd_text.specs.declared.token.TokenKind.{TokenKind}
use Rattle.gtd_text.specs.declared.token.TokenKind.TheVariants.{OpenBracket, CloseBracket, OpenParenthesis, OpenBrace, Field}
use Rattle.gtd_text.specs.ComputedFields.{with_duration_fields}
use Rattle.gtd_text.specs.Findings.{too_deep_at, too_many_at, misfit_at, fault_of_opened, opened_after, too_long_with}
use Rattle.gtd_text.specs.Findings.{findings_with, no_findings, first_of}
use Rattle.gtd_text.specs.ComputedFaults.{fields_at_front, is_too_long}
use Rattle.gtd_text.specs.Fitting.{fits}
use Rattle.gtd_text.specs.Found.{IsReadable, depth_after, count_after, too_deep_after, too_many_after, fault_after, too_long}
use Rattle.gtd_text.specs.Found.{fault_of_tokens}
use Rattle.gtd_text.specs.Lexing.{kinds}
use Rattle.gtd_text.specs.ComputedLexing.{AreTokens}
use Rattle.gtd_text.specs.Reading.{IsFault}
use Rattle.gtd_text.specs.facts.LexingForms.{tokens_of_parts}
use Rattle.gtd_text.specs.Summary.{seen, seen_with, takes, misfit}
use Rattle.gtd_text.specs.facts.Phases.{found_first}
use Rattle.gtd_text.specs.facts.Valid.{fields_more}
use Rattle.gtd_text.proofs.SeenLemmas.{takes_agrees, misfit_agrees, seen_more}

-- ---- the first fault of two

or_assoc : (a b c : Option TextFault) → option_or (option_or a b) c ≡ option_or a (option_or b c)
or_assoc None b c = refl
or_assoc (Some fault) b c = refl

or_none : (a : Option TextFault) → option_or a None ≡ a
or_none None = refl
or_none (Some fault) = refl

chosen : (b : Bool) (fault : TextFault) (later : Option TextFault) → option_or (cond b (Some fault) None) later
    ≡ cond b (Some fault) later
chosen true fault later = refl
chosen false fault later = refl

chosen_not : (b : Bool) (fault : TextFault) (later : Option TextFault) → option_or (cond b None (Some fault)) later
    ≡ cond b later (Some fault)
chosen_not true fault later = refl
chosen_not false fault later = refl

-- ---- one more token, for each kind of fault

too_deep_more : (found : Option TextFault) (depth : ℕ) (token : Token) (more : List Token)
    → option_or (option_or found (too_deep_at (depth_after depth token.kind) token.from))
    (too_deep_after (depth_after depth token.kind) more) ≡ option_or found (too_deep_after depth (token ∷ more))
too_deep_more (Some fault) depth token more = refl
too_deep_more None depth token more = chosen (nat_lt 128 (depth_after depth token.kind)) _ _

too_many_more : (found : Option TextFault) (count : ℕ) (token : Token) (more : List Token)
    → option_or (option_or found (too_many_at (count_after count token.kind) token.from))
    (too_many_after (count_after count token.kind) more) ≡ option_or found (too_many_after count (token ∷ more))
too_many_more (Some fault) count token more = refl
too_many_more None count token more = chosen (nat_lt 128 (count_after count token.kind)) _ _

misfit_more : (end : ℕ) (found : Option TextFault) (now : Seen) (before : List TokenKind) (token : Token) (more : List Token)
    → now ≡ seen before → option_or (option_or found (misfit_at now token)) (fault_after end (token.kind ∷ before) more)
    ≡ option_or found (fault_after end before (token ∷ more))
misfit_more end (Some fault) now before token more known = refl
misfit_more end None now before token more known =
    let make : Bool → Fault → Option TextFault =
    λ b k. option_or (cond b None (Some (record { kind = k; place = token.from })))
    (fault_after end (token.kind ∷ before) more) in
    ap (λ (s : Seen). make (takes s token.kind) (misfit s token.kind)) known
    ∙ ap (λ (b : Bool). make b (misfit (seen before) token.kind)) (takes_agrees before token.kind)
    ∙ ap (make (fits before token.kind)) (misfit_agrees before token.kind)
    ∙ chosen_not (fits before token.kind) _ _

-- the first fault of a duration, where one may be open
abbrev pub too_long_from : Option OpenDuration → List Token → Option TextFault
too_long_from None more = too_long more
too_long_from (Some duration) more =
    option_or (fault_of_opened (Some (record {
      place = duration.place;
      parts = with_duration_fields duration.parts (fields_at_front (kinds more));
    }))) (too_long more)

too_long_at : (found : Option TextFault) (opened : Option OpenDuration) (kind : TokenKind) (from to : ℕ) (more : List Token)
    → option_or (too_long_with found opened kind) (too_long_from (opened_after opened kind from) more)
    ≡ option_or found (too_long_from opened (record { kind = kind; from = from; to = to } ∷ more))
too_long_at found None (Field letter value digits) from to more = refl
too_long_at found (Some duration) (Field letter value digits) from to more =
    ap (λ (fields : List TokenKind). option_or found (option_or (fault_of_opened (Some (record {
      place = duration.place;
      parts = with_duration_fields duration.parts fields;
    }))) (too_long more))) (sym (fields_more letter value digits (kinds more)))
too_long_at found None OpenBrace from to more =
    or_assoc found None _ ∙ ap (option_or found) (chosen (is_too_long (fields_at_front (kinds more))) _ _)
too_long_at found (Some duration) OpenBrace from to more =
    or_assoc found (fault_of_opened (Some duration)) _
    ∙ ap (λ (x : Option TextFault). option_or found (option_or (fault_of_opened (Some duration)) x))
    (chosen (is_too_long (fields_at_front (kinds more))) _ _)
too_long_at found None sign from to more = or_assoc found None _
too_long_at found (Some duration) sign from to more = or_assoc found (fault_of_opened (Some duration)) _

too_long_more : (found : Option TextFault) (opened : Option OpenDuration) (token : Token) (more : List Token)
    → option_or (too_long_with found opened token.kind) (too_long_from (opened_after opened token.kind token.from) more)
    ≡ option_or found (too_long_from opened (token ∷ more))
too_long_more found opened token more = too_long_at found opened token.kind token.from token.to more

-- ---- all of them

-- the first fault, where these tokens are still to come
abbrev pub found_from : ℕ → List TokenKind → Findings → List Token → Option TextFault
found_from end before now more =
    option_or (option_or (option_or (option_or now.too_deep (too_deep_after now.seen.depth more))
    (option_or now.too_many (too_many_after now.count more))) (option_or now.misfit (fault_after end before more)))
    (option_or now.too_long (too_long_from now.opened more))

found_more : (end : ℕ) (before : List TokenKind) (now : Findings) (token : Token) (more : List Token) → now.seen ≡ seen before
    → found_from end (token.kind ∷ before) (findings_with now token) more ≡ found_from end before now (token ∷ more)
found_more end before now token more known =
    rw (too_deep_more now.too_deep now.seen.depth token more) (rw (too_many_more now.too_many now.count token more)
    (rw (misfit_more end now.misfit now.seen before token more known) (rw (too_long_more now.too_long now.opened token more)
    refl)))

long_end : (opened : Option OpenDuration) → too_long_from opened [] ≡ fault_of_opened opened
long_end None = refl
long_end (Some duration) = or_none (fault_of_opened (Some duration))

found_end : (end : ℕ) (before : List TokenKind) (now : Findings) → now.seen ≡ seen before
    → first_of end now ≡ found_from end before now []
found_end end before now known =
    rw (or_none now.too_deep) (rw (or_none now.too_many) (rw (long_end now.opened) (rw known refl)))

-- whatever comes next, all tokens have the fault that is found from here
pub record Finds (end : ℕ) (tokens : List Token) (now : Findings) : Type 0 where
  pub before : List TokenKind
  pub known : now.seen ≡ seen before
  pub found : (more : List Token) → found_from end before now more ≡ fault_of_tokens end (tokens ++ more)

pub finds_nothing : (end : ℕ) → Finds end [] no_findings
finds_nothing end = record { before = []; known = refl; found = λ more. refl }

pub finds_more : (end : ℕ) (tokens : List Token) (now after : Findings) (token : Token) → after ≡ findings_with now token
    → Finds end tokens now → Finds end (tokens ++ token ∷ []) after
finds_more end tokens now after token is f = rw is (record {
  before = token.kind ∷ f.before;
  known = ap (λ s. seen_with s token.kind) f.known ∙ seen_more f.before token.kind;
  found = λ more. found_more end f.before now token more f.known ∙ f.found (token ∷ more)
      ∙ ap (fault_of_tokens end) (sym (append_assoc tokens (token ∷ []) more));
})

answer : (text : List ℕ) (tokens : List Token) (result : Option TextFault) → AreTokens text tokens
    → result ≡ fault_of_tokens (length text) tokens → MatchOption result (IsReadable text) (λ fault. IsFault text fault)
answer text tokens None are e = record { tokens = tokens; read = are; faultless = sym e }
answer text tokens (Some fault) are e =
    inr (tokens, tokens_of_parts text tokens are, found_first (length text) tokens fault (sym e))

pub finds_all : (text : List ℕ) (tokens : List Token) (now : Findings) (result : Option TextFault) → AreTokens text tokens
    → Finds (length text) tokens now → result ≡ first_of (length text) now
    → MatchOption result (IsReadable text) (λ fault. IsFault text fault)
finds_all text tokens now result are f is =
    answer text tokens result are (is ∙ found_end (length text) f.before now f.known ∙ f.found []
    ∙ ap (fault_of_tokens (length text)) (append-nil tokens))

-- ---- counts stay below places

pub depth_le : (depth : ℕ) (kind : TokenKind) → depth_after depth kind ≤ depth + 1
depth_le depth OpenBracket = omega arith
depth_le depth CloseBracket = omega arith
depth_le depth other = omega arith

pub count_le : (count : ℕ) (kind : TokenKind) → count_after count kind ≤ count + 1
count_le count OpenParenthesis = omega arith
count_le count other = omega arith
