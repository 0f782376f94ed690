-- The first fault of tokens is what is computed, phase by phase.
use Rattle.std.proofs.Common.{◌≡◌, ◌∙◌, ◌↔◌, refl, sym, ap, subst, inl, inr, ℕ, Bool, true, false, cond}
use Rattle.std.proofs.Common.{List, [], ◌∷◌, ◌++◌, reverse, Option, Some, None, append_assoc, eq-eqb}
use Rattle.std.specs.Prelude.{◌==◌, ◌&&◌, not, fold}
use Rattle.std.specs.Option.{option_or}
use Rattle.std.proofs.lemmas.Bool.{eqb-true, lt-ltb, ltb-true}
use Rattle.std.proofs.lemmas.List.{append-nil, reverse-append, reverse-reverse}
use Rattle.gtd_core.specs.FieldTable.{FieldRow, duration_fields, start_fields}
use Rattle.gtd_core.specs.Limits.{most_basic_domains, most_bound, most_depth}
use Rattle.gtd_core.specs.Ranges.{bound_of}
use Rattle.gtd_core.specs.Trees.{Tree}
use Rattle.gtd_core.specs.declared.fault.Fault.{Fault}
use Rattle.gtd_core.specs.declared.fault.Fault.TheVariants as faults
use Rattle.gtd_core.specs.declared.fault.TextFault.{TextFault}
use Rattle.gtd_text.specs.declared.token.Token.{Token}
use Rattle.gtd_text.specs.declared.token.TokenKind.{TokenKind}
use Rattle.gtd_text.specs.declared.token.TokenKind.TheVariants.{OpenBracket, CloseBracket, OpenParenthesis, CloseParenthesis}
use Rattle.gtd_text.specs.declared.token.TokenKind.TheVariants.{OpenBrace, CloseBrace, Plus, Star, Minus, Field}
use Rattle.gtd_text.specs.ComputedFaults as computed
use Rattle.gtd_text.specs.ComputedFaults.{brace_fault, bracket_fault, field_fault, fields_at_front, is_too_long, last_sign}
use Rattle.gtd_text.specs.ComputedFaults.{parenthesis_fault}
use Rattle.gtd_text.specs.ComputedFields.{has_letter, is_duration_letter, is_repeated_in_start, is_start_letter}
use Rattle.gtd_text.specs.ComputedLexing.{newest_first}
use Rattle.gtd_text.specs.FirstFault.{GoesOn, IsFirst, IsFirstFault, IsIncomplete, IsMisfit, IsTooDeep, IsTooLong, IsTooMany}
use Rattle.gtd_text.specs.FirstFault.{OrElse, Phase, belongs, depth, fault_of, parenthesis_count}
use Rattle.gtd_text.specs.Fitting.{fits as may_come, grammar_fault, may_end}
use Rattle.gtd_text.specs.Found.{fault_of_tokens}
use Rattle.gtd_text.specs.Grammar.{Item, Level, Product, Stands, Sum, basic, bracketed, each_fits, fits, is_repeated, item, meet}
use Rattle.gtd_text.specs.Grammar.{minus, product, union, with_field, zero_parts}
use Rattle.gtd_text.specs.Lexing.{kinds}
use Rattle.gtd_text.specs.facts.Builds.{and_right, turned}
use Rattle.gtd_text.specs.facts.FieldForms.{duration_once, durations_as_computed, repeated}
use Rattle.gtd_text.specs.facts.Linked.{all_fit_so_far}
use Rattle.gtd_text.specs.facts.Scanned.{at, chain, clean, ending, ending_some, ends_early, ends_not, fit_goes, goes_on_fit, may}
use Rattle.gtd_text.specs.facts.Scanned.{none_fit, not_whole, phases, same_parts, scan, turned_is, whole}
use Rattle.gtd_text.specs.facts.Valid.{front_fields}

-- ---- the fault of a token that does not fit

start_misfit : (known again same : Bool) → again ≡ same
    → cond (not known) faults.Unexpected (cond again faults.Repeated faults.FieldRange) ≡ computed.misfit_of known same
start_misfit true again same e = ap (λ (b : Bool). cond b faults.Repeated faults.FieldRange) e
start_misfit false again same e = refl

duration_misfit : (known again once has : Bool) → again ≡ (once && has) → (known ≡ true → once ≡ true)
    → cond (not known) faults.Unexpected (cond again faults.Repeated faults.FieldRange) ≡ computed.misfit_of known has
duration_misfit true again true has e h = ap (λ (b : Bool). cond b faults.Repeated faults.FieldRange) e
duration_misfit true again false has e h = absurd (let k : false ≡ true = h refl in cc)
duration_misfit false again once has e h = refl

field_same : (b before : List TokenKind) (letter : ℕ)
    → cond (not (belongs b letter)) faults.Unexpected (cond (is_repeated before letter) faults.Repeated faults.FieldRange)
    ≡ field_fault (last_sign b) before letter
field_same [] before letter = refl
field_same (Field other value digits ∷ b) before letter = field_same b before letter
field_same (OpenParenthesis ∷ b) before letter =
    start_misfit (is_start_letter letter) (is_repeated before letter) (is_repeated_in_start before letter)
    (repeated before letter)
field_same (OpenBrace ∷ b) before letter =
    duration_misfit (is_duration_letter letter) (is_repeated before letter) (not (letter == 116)) (has_letter letter before)
    (repeated before letter) (duration_once letter)
field_same (sign ∷ b) before letter = refl

fault_same : (before : List TokenKind) (token : TokenKind) → fault_of before token ≡ computed.fault_of before token
fault_same [] (Field letter value digits) = refl
fault_same (OpenBrace ∷ b) (Field letter value digits) = field_same (OpenBrace ∷ b) (OpenBrace ∷ b) letter
fault_same (sign ∷ b) (Field letter value digits) = field_same (sign ∷ b) (sign ∷ b) letter
fault_same [] Minus = refl
fault_same (OpenBrace ∷ b) Minus = refl
fault_same (sign ∷ b) Minus = refl
fault_same [] token = refl
fault_same (OpenBrace ∷ b) token = refl
fault_same (sign ∷ b) token = refl

-- ---- one phase

-- what is known of tokens that came before, and of those from here on
abbrev Known : Type 1
Known = List TokenKind → List TokenKind → Type 0

-- what is computed in the phase is the fault of the token
abbrev Tells : Phase → computed.Phase → Known → Type 0
Tells phase found Holds = (b : List TokenKind) (token : TokenKind) (after : List TokenKind) (kind : Fault)
    → Holds b (token ∷ after) → found b token after ≡ Some kind → phase b token after kind

-- the fault of the token is what is computed
abbrev Told : Phase → computed.Phase → Known → Type 0
Told phase found Holds = (b : List TokenKind) (token : TokenKind) (after : List TokenKind) (kind : Fault)
    → Holds b (token ∷ after) → phase b token after kind → found b token after ≡ Some kind

-- what is known goes on after a token without a fault
abbrev Stays : computed.Phase → Known → Type 0
Stays found Holds = (b : List TokenKind) (token : TokenKind) (after : List TokenKind)
    → Holds b (token ∷ after) → found b token after ≡ None → Holds (token ∷ b) after

first_here : (phase : Phase) (found : computed.Phase) (Holds : Known) → Tells phase found Holds → Told phase found Holds
    → (b : List TokenKind) (t : Token) (ts : List Token) (fault : TextFault) → Holds b (t.kind ∷ kinds ts) → (o : Option Fault)
    → found b t.kind (kinds ts) ≡ o
    → (o ≡ None → scan found (t.kind ∷ b) ts ≡ Some fault → IsFirst phase (t.kind ∷ b) ts fault)
    → at t o (scan found (t.kind ∷ b) ts) ≡ Some fault → IsFirst phase b (t ∷ ts) fault
first_here phase found Holds tells told b t ts fault h (Some kind) is later e =
    let made : record { kind = kind; place = t.from } ≡ fault = cc in
    inl (
      subst (λ (f : TextFault). phase b t.kind (kinds ts) f.kind) made (tells b t.kind (kinds ts) kind h is),
      sym (ap (λ (f : TextFault). f.place) made),
    )
first_here phase found Holds tells told b t ts fault h None is later e = inr (
  λ earlier here.
      let both : None ≡ Some earlier.kind = sym is ∙ told b t.kind (kinds ts) earlier.kind h here.0 in
      cc,
  later refl e,
)

scan_first : (phase : Phase) (found : computed.Phase) (Holds : Known) → Tells phase found Holds → Told phase found Holds
    → Stays found Holds → (b : List TokenKind) (tokens : List Token) (fault : TextFault) → Holds b (kinds tokens)
    → scan found b tokens ≡ Some fault → IsFirst phase b tokens fault
scan_first phase found Holds tells told stays b [] fault h e = absurd cc
scan_first phase found Holds tells told stays b (t ∷ ts) fault h e =
    first_here phase found Holds tells told b t ts fault h (found b t.kind (kinds ts)) refl
    (λ none later. scan_first phase found Holds tells told stays (t.kind ∷ b) ts fault (stays b t.kind (kinds ts) h none) later) e

none_here : (phase : Phase) (found : computed.Phase) (Holds : Known) → Tells phase found Holds → (b : List TokenKind) (t : Token)
    (ts : List Token) → Holds b (t.kind ∷ kinds ts)
    → ((f : TextFault) → phase b t.kind (kinds ts) f.kind × (f.place ≡ t.from) → ⊥) → (o : Option Fault)
    → found b t.kind (kinds ts) ≡ o → o ≡ None
none_here phase found Holds tells b t ts h none None is = refl
none_here phase found Holds tells b t ts h none (Some kind) is =
    absurd (none (record { kind = kind; place = t.from }) (tells b t.kind (kinds ts) kind h is, refl))

first_scan : (phase : Phase) (found : computed.Phase) (Holds : Known) → Tells phase found Holds → Told phase found Holds
    → Stays found Holds → (b : List TokenKind) (tokens : List Token) (fault : TextFault) → Holds b (kinds tokens)
    → IsFirst phase b tokens fault → scan found b tokens ≡ Some fault
first_scan phase found Holds tells told stays b [] fault h e = absurd e
first_scan phase found Holds tells told stays b (t ∷ ts) fault h (inl here) =
    ap (λ (o : Option Fault). at t o (scan found (t.kind ∷ b) ts)) (told b t.kind (kinds ts) fault.kind h here.0)
    ∙ ap (λ (f : TextFault). Some f) (same_parts fault t.from here.1)
first_scan phase found Holds tells told stays b (t ∷ ts) fault h (inr later) =
    let none = none_here phase found Holds tells b t ts h later.0 (found b t.kind (kinds ts)) refl in
    ap (λ (o : Option Fault). at t o (scan found (t.kind ∷ b) ts)) none
    ∙ first_scan phase found Holds tells told stays (t.kind ∷ b) ts fault (stays b t.kind (kinds ts) h none) later.1

-- a relation says what is computed
abbrev Says : (TextFault → Type 0) → Option TextFault → Type 0
Says Is found = (fault : TextFault) → Is fault ↔ (found ≡ Some fault)

phase_says : (phase : Phase) (found : computed.Phase) (Holds : Known) → Tells phase found Holds → Told phase found Holds
    → Stays found Holds → (tokens : List Token) → Holds [] (kinds tokens)
    → Says (IsFirst phase [] tokens) (scan found [] tokens)
phase_says phase found Holds tells told stays tokens h fault = (
  first_scan phase found Holds tells told stays [] tokens fault h,
  scan_first phase found Holds tells told stays [] tokens fault h,
)

-- ---- the limits

if_some : (c : Bool) (fault kind : Fault) → cond c (Some fault) None ≡ Some kind → (c ≡ true) × (kind ≡ fault)
if_some true fault kind e = (refl, cc)
if_some false fault kind e = absurd cc

abbrev Anything : Known
Anything b tokens = Unit {0}

deep_tells : Tells IsTooDeep bracket_fault Anything
deep_tells b OpenBracket after kind h e =
    let found = if_some (depth b == most_depth) faults.TooDeep kind e in
    (refl, eqb-true (depth b) most_depth found.0, found.1)
deep_tells b token after kind h e = absurd cc

deep_told : Told IsTooDeep bracket_fault Anything
deep_told b token after kind h is =
    ap (λ (t : TokenKind). bracket_fault b t after) is.0
    ∙ ap (λ (c : Bool). cond c (Some faults.TooDeep) None) (eq-eqb (depth b) most_depth is.1)
    ∙ ap (λ (f : Fault). Some f) (sym is.2)

many_tells : Tells IsTooMany parenthesis_fault Anything
many_tells b OpenParenthesis after kind h e =
    let found = if_some (parenthesis_count b == most_basic_domains) faults.TooMany kind e in
    (refl, eqb-true (parenthesis_count b) most_basic_domains found.0, found.1)
many_tells b token after kind h e = absurd cc

many_told : Told IsTooMany parenthesis_fault Anything
many_told b token after kind h is =
    ap (λ (t : TokenKind). parenthesis_fault b t after) is.0
    ∙ ap (λ (c : Bool). cond c (Some faults.TooMany) None) (eq-eqb (parenthesis_count b) most_basic_domains is.1)
    ∙ ap (λ (f : Fault). Some f) (sym is.2)

-- ---- the grammar

true_and : (b : Bool) → (b && true) ≡ b
true_and true = refl
true_and false = refl

and_assoc : (a b c : Bool) → (a && (b && c)) ≡ ((a && b) && c)
and_assoc true b c = refl
and_assoc false b c = refl

so_far_then : (b tokens : List TokenKind) (token : TokenKind) → all_fit_so_far b (tokens ++ token ∷ [])
    ≡ (all_fit_so_far b tokens && may_come (turned b tokens) token)
so_far_then b [] token = true_and (may_come b token)
so_far_then b (t ∷ ts) token =
    ap (λ (c : Bool). may_come b t && c) (so_far_then (t ∷ b) ts token)
    ∙ and_assoc (may_come b t) (all_fit_so_far (t ∷ b) ts) (may_come (turned (t ∷ b) ts) token)

turned_back : (b : List TokenKind) → turned [] (reverse b) ≡ b
turned_back b = turned_is [] (reverse b) ∙ append-nil (reverse (reverse b)) ∙ reverse-reverse b

-- tokens that came before go on to an expression with one more exactly if it may come next
so_far_more : (b : List TokenKind) (token : TokenKind) → all_fit_so_far [] (reverse (token ∷ b))
    ≡ (all_fit_so_far [] (reverse b) && may_come b token)
so_far_more b token =
    ap (λ (l : List TokenKind). all_fit_so_far [] l) (reverse-append (token ∷ []) b)
    ∙ so_far_then [] (reverse b) token
    ∙ ap (λ (l : List TokenKind). all_fit_so_far [] (reverse b) && may_come l token) (turned_back b)

abbrev FitsSoFar : Known
FitsSoFar b tokens = all_fit_so_far [] (reverse b) ≡ true

unless_some : (c : Bool) (fault kind : Fault) → cond c None (Some fault) ≡ Some kind → (c ≡ false) × (kind ≡ fault)
unless_some true fault kind e = absurd cc
unless_some false fault kind e = (refl, cc)

both_true : (a b : Bool) → a ≡ true → b ≡ true → (a && b) ≡ true
both_true true b h k = k
both_true false b h k = absurd cc

misfit_tells : Tells IsMisfit grammar_fault FitsSoFar
misfit_tells b token after kind h e =
    let found = unless_some (may_come b token) (computed.fault_of b token) kind e in
    (stuck found.0, found.1 ∙ sym (fault_same b token))
  where
    stuck : may_come b token ≡ false → GoesOn (reverse (token ∷ b)) → ⊥
    stuck none on =
        let both : true ≡ false =
        sym (and_right (all_fit_so_far [] (reverse b)) (may_come b token)
        (sym (so_far_more b token) ∙ goes_on_fit (reverse (token ∷ b)) on)) ∙ none in
        cc

misfit_told : Told IsMisfit grammar_fault FitsSoFar
misfit_told b token after kind h is = by_test (may_come b token) refl
  where
    by_test : (c : Bool) → may_come b token ≡ c → cond c None (Some (computed.fault_of b token)) ≡ Some kind
    by_test true e =
        absurd (is.0 (fit_goes (reverse (token ∷ b)) (so_far_more b token
        ∙ both_true (all_fit_so_far [] (reverse b)) (may_come b token) h e)))
    by_test false e = ap (λ (f : Fault). Some f) (sym (is.1 ∙ fault_same b token))

misfit_stays : Stays grammar_fault FitsSoFar
misfit_stays b token after h e =
    so_far_more b token ∙ both_true (all_fit_so_far [] (reverse b)) (may_come b token) h
    (none_fit (may_come b token) (computed.fault_of b token) e)

-- tokens without a misfit stand for none exactly if they may not end
ending_says : (len : ℕ) (tokens : List Token) → scan grammar_fault [] tokens ≡ None
    → Says (IsIncomplete len (kinds tokens)) (ending len (newest_first tokens))
ending_says len tokens none fault = (
  λ is. ending_some len fault (may_end (newest_first tokens))
      (ends_not tokens (may_end (newest_first tokens)) (clean grammar_fault tokens none) is.0 refl) is.1,
  λ e.
      let early = ends_early len fault (may_end (newest_first tokens)) e in
      (not_whole tokens early.0, early.1),
)

-- ---- the durations

-- each brace that opens is followed by fields that fit, and by the brace that closes
abbrev AreBraced : List TokenKind → Type 0
AreBraced [] = Unit {0}
AreBraced (OpenBrace ∷ after) = ((fields : List TokenKind) × (rest : List TokenKind) × (after ≡ fields ++ CloseBrace ∷ rest)
    × (each_fits (fits duration_fields) [] fields ≡ true)) × AreBraced after
AreBraced (token ∷ after) = AreBraced after

braced_append : (left right : List TokenKind) → AreBraced left → AreBraced right → AreBraced (left ++ right)
braced_append [] right h k = k
braced_append (OpenBrace ∷ left) right h k = (
  (
    h.0.0,
    h.0.1 ++ right,
    ap (λ (l : List TokenKind). l ++ right) h.0.2 ∙ append_assoc h.0.0 (CloseBrace ∷ h.0.1) right,
    h.0.3,
  ),
  braced_append left right h.1 k,
)
braced_append (token ∷ left) right h k = braced_append left right h k

braced_fields : {Parts : Type 0} (rows : List (FieldRow Parts)) (before fields : List TokenKind)
    → each_fits (fits rows) before fields ≡ true → AreBraced fields
braced_fields rows before [] h = tt
braced_fields rows before (Field letter value digits ∷ fields) h =
    braced_fields rows (Field letter value digits ∷ before) fields (and_right (fits rows before (Field letter value digits)) _ h)
braced_fields rows before (sign ∷ fields) h = absurd cc

braced : (level : Level) (tokens : List TokenKind) (e : Tree) → Stands level tokens e → AreBraced tokens
braced level tokens e (basic start duration some fit some' fit') =
    braced_append start (CloseParenthesis ∷ OpenBrace ∷ (duration ++ CloseBrace ∷ [])) (braced_fields start_fields [] start fit) (
      (duration, [], refl, fit'),
      braced_append duration (CloseBrace ∷ []) (braced_fields duration_fields [] duration fit') tt,
    )
braced level tokens e (bracketed inner f d) = braced_append inner (CloseBracket ∷ []) (braced Sum inner f d) tt
braced level tokens e (item inner f d) = braced Item inner f d
braced level tokens e (meet left right a b d k) =
    braced_append left (Star ∷ right) (braced Product left a d) (braced Item right b k)
braced level tokens e (product inner f d) = braced Product inner f d
braced level tokens e (union left right a b d k) =
    braced_append left (Plus ∷ right) (braced Sum left a d) (braced Product right b k)
braced level tokens e (minus left right a b d k) =
    braced_append left (Minus ∷ right) (braced Sum left a d) (braced Product right b k)

abbrev BracedFrom : Known
BracedFrom b tokens = AreBraced tokens

own_fields : (fields rest : List TokenKind) → each_fits (fits duration_fields) [] fields ≡ true
    → is_too_long (fields_at_front (fields ++ CloseBrace ∷ rest)) ≡ is_too_long fields
own_fields fields rest fit = ap is_too_long (front_fields [] fields rest (durations_as_computed fields fit))

long_tells : Tells IsTooLong brace_fault BracedFrom
long_tells b OpenBrace after kind h e =
    let found = if_some (is_too_long (fields_at_front after)) faults.TooLongDuration kind e in
    let long : is_too_long h.0.0 ≡ true =
    sym (own_fields h.0.0 h.0.1 h.0.3) ∙ sym (ap (λ (l : List TokenKind). is_too_long (fields_at_front l)) h.0.2) ∙ found.0 in (
      h.0.0,
      h.0.1,
      refl,
      h.0.2,
      h.0.3,
      ltb-true most_bound (bound_of (fold (with_field duration_fields) zero_parts h.0.0)) long,
      found.1,
    )
long_tells b token after kind h e = absurd cc

long_told : Told IsTooLong brace_fault BracedFrom
long_told b token after kind h is =
    ap (λ (t : TokenKind). brace_fault b t after) is.2
    ∙ ap (λ (l : List TokenKind). brace_fault b OpenBrace l) is.3
    ∙ ap (λ (c : Bool). cond c (Some faults.TooLongDuration) None) (own_fields is.0 is.1 is.4
    ∙ lt-ltb most_bound (bound_of (fold (with_field duration_fields) zero_parts is.0)) is.5)
    ∙ ap (λ (f : Fault). Some f) (sym is.6)

long_stays : Stays brace_fault BracedFrom
long_stays b OpenBrace after h e = h.1
long_stays b token after h e = h

long_says : (len : ℕ) (tokens : List Token) → scan grammar_fault [] tokens ≡ None → ending len (newest_first tokens) ≡ None
    → Says (IsFirst IsTooLong [] tokens) (scan brace_fault [] tokens)
long_says len tokens none ends =
    let found = whole tokens (clean grammar_fault tokens none) (may len (newest_first tokens) ends) in
    phase_says IsTooLong brace_fault BracedFrom long_tells long_told long_stays tokens
    (braced Sum (kinds tokens) found.0 found.1)

-- ---- the first phase with a fault

or_says : (One Other : TextFault → Type 0) (a b : Option TextFault) → Says One a → (a ≡ None → Says Other b)
    → Says (OrElse One Other) (option_or a b)
or_says One Other (Some f) b one other fault = (to, λ e. inl ((one fault).1 e))
  where
    to : OrElse One Other fault → Some f ≡ Some fault
    to (inl is) = (one fault).0 is
    to (inr is) = absurd (is.0 f ((one f).1 refl))
or_says One Other None b one other fault = (to, λ e. inr (λ f is. never f is, (other refl fault).1 e))
  where
    never : (f : TextFault) → One f → ⊥
    never f is = let both : None ≡ Some f = (one f).0 is in cc

    to : OrElse One Other fault → b ≡ Some fault
    to (inl is) = absurd (never fault is)
    to (inr is) = (other refl fault).0 is.1

chained : (a b c d e : Option TextFault) → chain a b c d e ≡ option_or a (option_or b (option_or c (option_or d e)))
chained (Some f) b c d e = refl
chained None (Some f) c d e = refl
chained None None (Some f) d e = refl
chained None None None (Some f) e = refl
chained None None None None e = refl

-- the phases from one on
abbrev FromEnding : ℕ → List Token → TextFault → Type 0
FromEnding len tokens = OrElse (IsIncomplete len (kinds tokens)) (IsFirst IsTooLong [] tokens)

abbrev FromGrammar : ℕ → List Token → TextFault → Type 0
FromGrammar len tokens = OrElse (IsFirst IsMisfit [] tokens) (FromEnding len tokens)

abbrev FromCount : ℕ → List Token → TextFault → Type 0
FromCount len tokens = OrElse (IsFirst IsTooMany [] tokens) (FromGrammar len tokens)

-- what is computed of them
abbrev found_from_ending : ℕ → List Token → Option TextFault
found_from_ending len tokens = option_or (ending len (newest_first tokens)) (scan brace_fault [] tokens)

abbrev found_from_grammar : ℕ → List Token → Option TextFault
found_from_grammar len tokens = option_or (scan grammar_fault [] tokens) (found_from_ending len tokens)

abbrev found_from_count : ℕ → List Token → Option TextFault
found_from_count len tokens = option_or (scan parenthesis_fault [] tokens) (found_from_grammar len tokens)

ending_on : (len : ℕ) (tokens : List Token) → scan grammar_fault [] tokens ≡ None
    → Says (FromEnding len tokens) (found_from_ending len tokens)
ending_on len tokens none =
    or_says (IsIncomplete len (kinds tokens)) (IsFirst IsTooLong [] tokens) (ending len (newest_first tokens))
    (scan brace_fault [] tokens) (ending_says len tokens none) (λ ends. long_says len tokens none ends)

grammar_on : (len : ℕ) (tokens : List Token) → Says (FromGrammar len tokens) (found_from_grammar len tokens)
grammar_on len tokens =
    or_says (IsFirst IsMisfit [] tokens) (FromEnding len tokens) (scan grammar_fault [] tokens) (found_from_ending len tokens)
    (phase_says IsMisfit grammar_fault FitsSoFar misfit_tells misfit_told misfit_stays tokens refl)
    (λ none. ending_on len tokens none)

count_on : (len : ℕ) (tokens : List Token) → Says (FromCount len tokens) (found_from_count len tokens)
count_on len tokens =
    or_says (IsFirst IsTooMany [] tokens) (FromGrammar len tokens) (scan parenthesis_fault [] tokens)
    (found_from_grammar len tokens)
    (phase_says IsTooMany parenthesis_fault Anything many_tells many_told (λ b token after h none. tt) tokens tt)
    (λ none. grammar_on len tokens)

all_phases : (len : ℕ) (tokens : List Token)
    → Says (IsFirstFault len tokens) (option_or (scan bracket_fault [] tokens) (found_from_count len tokens))
all_phases len tokens =
    or_says (IsFirst IsTooDeep [] tokens) (FromCount len tokens) (scan bracket_fault [] tokens) (found_from_count len tokens)
    (phase_says IsTooDeep bracket_fault Anything deep_tells deep_told (λ b token after h none. tt) tokens tt)
    (λ none. count_on len tokens)

pub first_says : (len : ℕ) (tokens : List Token) (fault : TextFault) → IsFirstFault len tokens fault
    ↔ (fault_of_tokens len tokens ≡ Some fault)
first_says len tokens fault =
    let same = phases len tokens ∙ chained (scan bracket_fault [] tokens) (scan parenthesis_fault [] tokens)
    (scan grammar_fault [] tokens) (ending len (newest_first tokens)) (scan brace_fault [] tokens) in
    let said = all_phases len tokens fault in
    (λ is. same ∙ said.0 is, λ is. said.1 (sym same ∙ is))

-- what the check finds is the first fault
pub found_first : (len : ℕ) (tokens : List Token) (fault : TextFault) → fault_of_tokens len tokens ≡ Some fault
    → IsFirstFault len tokens fault
found_first len tokens fault e = (first_says len tokens fault).1 e

-- the first fault is what the check finds
pub first_found : (len : ℕ) (tokens : List Token) (fault : TextFault) → IsFirstFault len tokens fault
    → fault_of_tokens len tokens ≡ Some fault
first_found len tokens fault is = (first_says len tokens fault).0 is
