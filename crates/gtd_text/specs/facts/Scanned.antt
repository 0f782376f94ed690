-- What the check finds, token by token, is the first fault.
use Rattle.std.proofs.Common.{◌≡◌, ℕ, ◌+◌, ◌-◌, ◌≤◌, Bool, true, false, cond, List, [], ◌∷◌, ◌++◌, reverse, Option, Some}
use Rattle.std.proofs.Common.{None, refl, sym, subst, ap, ◌∙◌, arith, inl, inr, append_assoc, eq-eqb}
use Rattle.std.specs.Prelude.{nat_lt, ◌==◌, ◌&&◌, is_some}
use Rattle.std.proofs.lemmas.Bool.{cases_eq, ne_eqb, le-ltb, lt-ltb}
use Rattle.std.proofs.lemmas.List.{reverse-append, append-nil}
use Rattle.std.specs.Option.{option_or}
use Rattle.gtd_core.specs.declared.fault.Fault.{Fault}
use Rattle.gtd_core.specs.declared.fault.Fault.TheVariants as faults
use Rattle.gtd_core.specs.declared.fault.TextFault.{TextFault}
use Rattle.gtd_text.specs.declared.token.Token.{Token}
use Rattle.gtd_text.specs.declared.token.TokenKind.{TokenKind}
use Rattle.gtd_text.specs.declared.token.TokenKind.TheVariants.{OpenBracket, CloseBracket, OpenParenthesis}
use Rattle.gtd_text.specs.ComputedFaults.{Phase, bracket_fault, parenthesis_fault, brace_fault, fault_of, opens_too_long}
use Rattle.gtd_text.specs.ComputedFaults.{IsClean}
use Rattle.gtd_text.specs.FirstFault.{GoesOn, depth, parenthesis_count}
use Rattle.gtd_text.specs.Fitting.{grammar_fault, fits, may_end}
use Rattle.gtd_text.specs.Found.{fault_after, depth_after, count_after, too_deep_after, too_many_after, too_long as long_of}
use Rattle.gtd_text.specs.Found.{fault_of_tokens}
use Rattle.gtd_text.specs.Lexing.{kinds}
use Rattle.gtd_text.specs.ComputedLexing.{newest_first}
use Rattle.gtd_text.specs.facts.Builds.{turned, and_left, and_right, builds_whole}
use Rattle.gtd_text.specs.Grammar.{Stands, Sum}
use Rattle.gtd_text.specs.Building.{build, at_front}
use Rattle.gtd_core.specs.Trees.{Tree}
use Rattle.gtd_text.specs.facts.Linked.{all_fit, all_fit_so_far, fit_goes_on, fit_first, all_fit_builds}
use Rattle.gtd_text.specs.facts.BuiltIsMeant.{stood_whole}

abbrev pub at : Token → Option Fault → Option TextFault → Option TextFault
at token None later = later
at token (Some kind) later = Some (record { kind = kind; place = token.from })

-- the first fault of a phase, after tokens that came before
abbrev pub scan : Phase → List TokenKind → List Token → Option TextFault
scan phase b [] = None
scan phase b (token ∷ tokens) = at token (phase b token.kind (kinds tokens)) (scan phase (token.kind ∷ b) tokens)

-- ---- a phase without a fault

none_at : (token : Token) (o : Option Fault) (later : Option TextFault) → at token o later ≡ None → (o ≡ None) × (later ≡ None)
none_at token None later e = (refl, e)
none_at token (Some kind) later e = absurd cc

none_there : (token : Token) (o : Option Fault) (later : Option TextFault) → o ≡ None → later ≡ None → at token o later ≡ None
none_there token None later e h = h
none_there token (Some kind) later e h = absurd cc

abbrev CleanFrom : Phase → List TokenKind → List Token → Type 0
CleanFrom phase b tokens = (before : List Token) (token : Token) (after : List Token) → tokens ≡ before ++ token ∷ after
    → phase (turned b (kinds before)) token.kind (kinds after) ≡ None

head_same : {A : Type 0} (x y : A) (xs ys : List A) → x ∷ xs ≡ y ∷ ys → x ≡ y
head_same x y xs ys e = cc

tail_same : {A : Type 0} (x y : A) (xs ys : List A) → x ∷ xs ≡ y ∷ ys → xs ≡ ys
tail_same x y xs ys e = cc

moved : (phase : Phase) (b : List TokenKind) (x y : Token) (xs ys : List Token) (o : Option Fault) → x ∷ xs ≡ y ∷ ys
    → phase b x.kind (kinds xs) ≡ o → phase b y.kind (kinds ys) ≡ o
moved phase b x y xs ys o e h =
    ap (λ (l : List Token). phase b y.kind (kinds l)) (sym (tail_same x y xs ys e))
    ∙ ap (λ (z : Token). phase b z.kind (kinds xs)) (sym (head_same x y xs ys e)) ∙ h

clean_scan : (phase : Phase) (b : List TokenKind) (tokens : List Token) → scan phase b tokens ≡ None → CleanFrom phase b tokens
clean_scan phase b [] e [] token after s = absurd cc
clean_scan phase b [] e (x ∷ before) token after s = absurd cc
clean_scan phase b (t ∷ ts) e [] token after s =
    moved phase b t token ts after None s (none_at t (phase b t.kind (kinds ts)) (scan phase (t.kind ∷ b) ts) e).0
clean_scan phase b (t ∷ ts) e (x ∷ before) token after s =
    let rest = (none_at t (phase b t.kind (kinds ts)) (scan phase (t.kind ∷ b) ts) e).1 in
    ap (λ (z : Token). phase (turned (z.kind ∷ b) (kinds before)) token.kind (kinds after))
    (sym (head_same t x ts (before ++ token ∷ after) s))
    ∙ clean_scan phase (t.kind ∷ b) ts rest before token after (tail_same t x ts (before ++ token ∷ after) s)

scan_clean : (phase : Phase) (b : List TokenKind) (tokens : List Token) → CleanFrom phase b tokens → scan phase b tokens ≡ None
scan_clean phase b [] h = refl
scan_clean phase b (t ∷ ts) h =
    none_there t (phase b t.kind (kinds ts)) (scan phase (t.kind ∷ b) ts) (h [] t ts refl)
    (scan_clean phase (t.kind ∷ b) ts (λ before token after s. h (t ∷ before) token after (ap (λ (l : List Token). t ∷ l) s)))

pub same_parts : (fault : TextFault) (place : ℕ) → fault.place ≡ place → record { kind = fault.kind; place = place } ≡ fault
same_parts fault place e = let make : ℕ → TextFault = λ n. record { kind = fault.kind; place = n } in ap make (sym e)

-- ---- tokens listed the newest first

pub turned_is : (b tokens : List TokenKind) → turned b tokens ≡ reverse tokens ++ b
turned_is b [] = refl
turned_is b (token ∷ tokens) =
    turned_is (token ∷ b) tokens ∙ sym (append_assoc (reverse tokens) (token ∷ []) b)
    ∙ ap (λ (l : List TokenKind). l ++ b) (sym (reverse-append (token ∷ []) tokens))

newest : (tokens : List Token) → turned [] (kinds tokens) ≡ newest_first tokens
unfolding newest_first
newest tokens = turned_is [] (kinds tokens) ∙ append-nil (reverse (kinds tokens))

at_newest : (phase : Phase) (before : List Token) (token : Token) (after : List Token) (o : Option Fault)
    → phase (turned [] (kinds before)) token.kind (kinds after) ≡ o → phase (newest_first before) token.kind (kinds after) ≡ o
at_newest phase before token after o h = ap (λ (l : List TokenKind). phase l token.kind (kinds after)) (sym (newest before)) ∙ h

at_turned : (phase : Phase) (before : List Token) (token : Token) (after : List Token) (o : Option Fault)
    → phase (newest_first before) token.kind (kinds after) ≡ o → phase (turned [] (kinds before)) token.kind (kinds after) ≡ o
at_turned phase before token after o h = ap (λ (l : List TokenKind). phase l token.kind (kinds after)) (newest before) ∙ h

pub clean : (phase : Phase) (tokens : List Token) → scan phase [] tokens ≡ None → IsClean phase tokens
clean phase tokens e before token after s = at_newest phase before token after None
    (clean_scan phase [] tokens e before token after s)

pub scans_clean : (phase : Phase) (tokens : List Token) → IsClean phase tokens → scan phase [] tokens ≡ None
scans_clean phase tokens h = scan_clean phase [] tokens (λ before token after s.
    at_turned phase before token after None (h before token after s))

-- ---- the check's functions scan

both_ways : (c d : Bool) (token : Token) (kind : Fault) (x y : Option TextFault) → c ≡ d → (d ≡ false → x ≡ y)
    → cond c (Some (record { kind = kind; place = token.from })) x ≡ at token (cond d (Some kind) None) y
both_ways true true token kind x y e h = refl
both_ways false false token kind x y e h = h refl
both_ways true false token kind x y e h = absurd cc
both_ways false true token kind x y e h = absurd cc

passed : (c : Bool) (fault : TextFault) (x y : Option TextFault) → c ≡ false → x ≡ y → cond c (Some fault) x ≡ y
passed false fault x y e h = h
passed true fault x y e h = absurd cc

limit : (n : ℕ) → n ≤ 128 → nat_lt 128 (n + 1) ≡ (n == 128)
limit n le = elim (cases_eq n 128) [
  | inl same ↦ lt-ltb 128 (n + 1) (omega (arith, same)) ∙ sym (eq-eqb n 128 same)
  | inr other ↦ le-ltb 128 (n + 1) (grind (arith, other)) ∙ sym (ne_eqb n 128 other)
]

below : (n : ℕ) → n ≤ 128 → (n == 128) ≡ false → n + 1 ≤ 128
below n le e = elim (cases_eq n 128) [
  | inl same ↦ let yes : (n == 128) ≡ true = eq-eqb n 128 same in absurd cc
  | inr other ↦ grind (arith, other)
]

depth_more : (b : List TokenKind) (kind : TokenKind) → depth_after (depth b) kind ≡ depth (kind ∷ b)
depth_more b OpenBracket = refl
depth_more b CloseBracket = refl
depth_more b kind = refl

deep_token : (b : List TokenKind) (kind : TokenKind) (token : Token) (after : List TokenKind) (x y : Option TextFault)
    → depth b ≤ 128 → (depth (kind ∷ b) ≤ 128 → x ≡ y) → cond (nat_lt 128 (depth_after (depth b) kind))
    (Some (record { kind = faults.TooDeep; place = token.from })) x ≡ at token (bracket_fault b kind after) y
deep_token b OpenBracket token after x y le h =
    both_ways (nat_lt 128 (depth b + 1)) (depth b == 128) token faults.TooDeep x y (limit (depth b) le)
    (λ e. h (below (depth b) le e))
deep_token b CloseBracket token after x y le h =
    passed (nat_lt 128 (depth b - 1)) _ x y (le-ltb 128 (depth b - 1) (omega (arith, le))) (h (omega (arith, le)))
deep_token b kind token after x y le h = passed (nat_lt 128 (depth b)) _ x y (le-ltb 128 (depth b) le) (h le)

deep_scan : (b : List TokenKind) (tokens : List Token) → depth b ≤ 128 → too_deep_after (depth b) tokens
    ≡ scan bracket_fault b tokens
deep_scan b [] le = refl
deep_scan b (t ∷ ts) le =
    deep_token b t.kind t (kinds ts) (too_deep_after (depth_after (depth b) t.kind) ts) (scan bracket_fault (t.kind ∷ b) ts) le
    (λ few. ap (λ (n : ℕ). too_deep_after n ts) (depth_more b t.kind) ∙ deep_scan (t.kind ∷ b) ts few)

count_more : (b : List TokenKind) (kind : TokenKind) → count_after (parenthesis_count b) kind ≡ parenthesis_count (kind ∷ b)
count_more b OpenParenthesis = refl
count_more b kind = refl

many_token : (b : List TokenKind) (kind : TokenKind) (token : Token) (after : List TokenKind) (x y : Option TextFault)
    → parenthesis_count b ≤ 128 → (parenthesis_count (kind ∷ b) ≤ 128 → x ≡ y)
    → cond (nat_lt 128 (count_after (parenthesis_count b) kind)) (Some (record { kind = faults.TooMany; place = token.from })) x
    ≡ at token (parenthesis_fault b kind after) y
many_token b OpenParenthesis token after x y le h =
    both_ways (nat_lt 128 (parenthesis_count b + 1)) (parenthesis_count b == 128) token faults.TooMany x y
    (limit (parenthesis_count b) le) (λ e. h (below (parenthesis_count b) le e))
many_token b kind token after x y le h = passed (nat_lt 128 (parenthesis_count b)) _ x y (le-ltb 128 (parenthesis_count b) le)
    (h le)

many_scan : (b : List TokenKind) (tokens : List Token) → parenthesis_count b ≤ 128 → too_many_after (parenthesis_count b) tokens
    ≡ scan parenthesis_fault b tokens
many_scan b [] le = refl
many_scan b (t ∷ ts) le =
    many_token b t.kind t (kinds ts) (too_many_after (count_after (parenthesis_count b) t.kind) ts)
    (scan parenthesis_fault (t.kind ∷ b) ts) le
    (λ few. ap (λ (n : ℕ). too_many_after n ts) (count_more b t.kind) ∙ many_scan (t.kind ∷ b) ts few)

-- that tokens end too early
abbrev pub ended : ℕ → Bool → Option TextFault
ended len b = cond b None (Some (record { kind = faults.Incomplete; place = len }))

abbrev pub ending : ℕ → List TokenKind → Option TextFault
ending len before = ended len (may_end before)

fit_token : (c : Bool) (token : Token) (kind : Fault) (x y z : Option TextFault) → x ≡ option_or y z
    → cond c x (Some (record { kind = kind; place = token.from })) ≡ option_or (at token (cond c None (Some kind)) y) z
fit_token true token kind x y z h = h
fit_token false token kind x y z h = refl

fit_scan : (len : ℕ) (b : List TokenKind) (tokens : List Token) → fault_after len b tokens
    ≡ option_or (scan grammar_fault b tokens) (ending len (turned b (kinds tokens)))
fit_scan len b [] = refl
fit_scan len b (t ∷ ts) =
    fit_token (fits b t.kind) t (fault_of b t.kind) (fault_after len (t.kind ∷ b) ts) (scan grammar_fault (t.kind ∷ b) ts)
    (ending len (turned (t.kind ∷ b) (kinds ts))) (fit_scan len (t.kind ∷ b) ts)

long_scan : (b : List TokenKind) (tokens : List Token) → long_of tokens ≡ scan brace_fault b tokens
long_scan b [] = refl
long_scan b (t ∷ ts) = both_ways (opens_too_long t.kind (kinds ts)) (opens_too_long t.kind (kinds ts)) t faults.TooLongDuration
    (long_of ts) (scan brace_fault (t.kind ∷ b) ts) refl (λ e. long_scan (t.kind ∷ b) ts)

-- the grammar's fault is the first token that does not fit, or else that the tokens end too early
pub fit_fault : (len : ℕ) (tokens : List Token) → fault_after len [] tokens
    ≡ option_or (scan grammar_fault [] tokens) (ending len (newest_first tokens))
fit_fault len tokens =
    fit_scan len [] tokens ∙ ap (λ (l : List TokenKind). option_or (scan grammar_fault [] tokens) (ending len l)) (newest tokens)

-- ---- a token at fault by the grammar is the first with which no expression goes on

fit_none : (fit : Bool) (kind : Fault) → fit ≡ true → cond fit None (Some kind) ≡ None
fit_none true kind e = refl
fit_none false kind e = absurd cc

pub none_fit : (fit : Bool) (kind : Fault) → cond fit None (Some kind) ≡ None → fit ≡ true
none_fit true kind e = refl
none_fit false kind e = absurd cc

fit_scans : (b : List TokenKind) (tokens : List Token) → all_fit_so_far b (kinds tokens) ≡ true → scan grammar_fault b tokens
    ≡ None
fit_scans b [] h = refl
fit_scans b (t ∷ ts) h =
    none_there t (grammar_fault b t.kind (kinds ts)) (scan grammar_fault (t.kind ∷ b) ts)
    (fit_none (fits b t.kind) (fault_of b t.kind) (and_left (fits b t.kind) (all_fit_so_far (t.kind ∷ b) (kinds ts)) h))
    (fit_scans (t.kind ∷ b) ts (and_right (fits b t.kind) _ h))

scans_fit : (b : List TokenKind) (tokens : List Token) → scan grammar_fault b tokens ≡ None → all_fit_so_far b (kinds tokens)
    ≡ true
scans_fit b [] h = refl
scans_fit b (t ∷ ts) h =
    let parts = none_at t (grammar_fault b t.kind (kinds ts)) (scan grammar_fault (t.kind ∷ b) ts) h in
    ap (λ c. c && all_fit_so_far (t.kind ∷ b) (kinds ts)) (none_fit (fits b t.kind) (fault_of b t.kind) parts.0)
    ∙ scans_fit (t.kind ∷ b) ts parts.1

pub fit_goes : (tokens : List TokenKind) → all_fit_so_far [] tokens ≡ true → GoesOn tokens
fit_goes tokens fit =
    let rest = fit_goes_on tokens fit in
    (rest.after, rest.tree, stood_whole (tokens ++ rest.after) rest.tree rest.built)

pub clean_goes_on : (tokens : List Token) → IsClean grammar_fault tokens → GoesOn (kinds tokens)
clean_goes_on tokens h = fit_goes (kinds tokens) (scans_fit [] tokens (scans_clean grammar_fault tokens h))

pub goes_on_fit : (tokens : List TokenKind) → GoesOn tokens → all_fit_so_far [] tokens ≡ true
goes_on_fit tokens h =
    fit_first [] tokens h.0 (all_fit_builds (tokens ++ h.0) ∙ ap is_some (builds_whole (tokens ++ h.0) h.1 h.2))

pub goes_on_clean : (tokens : List Token) → GoesOn (kinds tokens) → IsClean grammar_fault tokens
goes_on_clean tokens h = clean grammar_fault tokens (fit_scans [] tokens (goes_on_fit (kinds tokens) h))

-- ---- tokens may end exactly if they stand for an expression

all_of : (b tokens : List TokenKind) → all_fit_so_far b tokens ≡ true → may_end (turned b tokens) ≡ true → all_fit b tokens ≡ true
all_of b [] h e = e
all_of b (t ∷ ts) h e =
    ap (λ c. c && all_fit (t ∷ b) ts) (and_left (fits b t) (all_fit_so_far (t ∷ b) ts) h)
    ∙ all_of (t ∷ b) ts (and_right (fits b t) _ h) e

end_of : (b tokens : List TokenKind) → all_fit b tokens ≡ true → may_end (turned b tokens) ≡ true
end_of b [] h = h
end_of b (t ∷ ts) h = end_of (t ∷ b) ts (and_right (fits b t) _ h)

built_some : (o : Option Tree) → is_some o ≡ true → (e : Tree) × (o ≡ Some e)
built_some (Some e) h = (e, refl)
built_some None h = absurd cc

pub whole : (tokens : List Token) → IsClean grammar_fault tokens → may_end (newest_first tokens) ≡ true → (e : Tree)
    × Stands Sum (kinds tokens) e
whole tokens h end =
    let fit = all_of [] (kinds tokens) (scans_fit [] tokens (scans_clean grammar_fault tokens h))
    (ap may_end (newest tokens) ∙ end) in
    let found = built_some (build at_front (kinds tokens)) (sym (all_fit_builds (kinds tokens)) ∙ fit) in
    (found.0, stood_whole (kinds tokens) found.0 found.1)

whole_ends : (tokens : List Token) (e : Tree) → Stands Sum (kinds tokens) e → may_end (newest_first tokens) ≡ true
whole_ends tokens e stand =
    ap may_end (sym (newest tokens)) ∙ end_of [] (kinds tokens)
    (all_fit_builds (kinds tokens) ∙ ap is_some (builds_whole (kinds tokens) e stand))

whole_clean : (tokens : List Token) (e : Tree) → Stands Sum (kinds tokens) e → IsClean grammar_fault tokens
whole_clean tokens e stand = goes_on_clean tokens
    ([], e, subst (λ (l : List TokenKind). Stands Sum l e) (sym (append-nil (kinds tokens))) stand)

pub not_whole : (tokens : List Token) → may_end (newest_first tokens) ≡ false → (e : Tree) → Stands Sum (kinds tokens) e → ⊥
not_whole tokens early e stand = let both : true ≡ false = sym (whole_ends tokens e stand) ∙ early in cc

pub ends_not : (tokens : List Token) (end : Bool) → IsClean grammar_fault tokens → ((e : Tree) → Stands Sum (kinds tokens) e → ⊥)
    → may_end (newest_first tokens) ≡ end → end ≡ false
ends_not tokens false h none e = refl
ends_not tokens true h none e = let found = whole tokens h e in absurd (none found.0 found.1)

-- ---- the first phase with a fault

may_of : (len : ℕ) (b : Bool) → ended len b ≡ None → b ≡ true
may_of len true e = refl
may_of len false e = absurd cc

pub may : (len : ℕ) (before : List TokenKind) → ending len before ≡ None → may_end before ≡ true
may len before e = may_of len (may_end before) e

pub ends_early : (len : ℕ) (fault : TextFault) (b : Bool) → ended len b ≡ Some fault → (b ≡ false)
    × (fault ≡ record { kind = faults.Incomplete; place = len })
ends_early len fault false e = (refl, cc)
ends_early len fault true e = absurd cc

abbrev pub chain : Option TextFault → Option TextFault → Option TextFault → Option TextFault → Option TextFault → Option TextFault
chain a b c d e = option_or (option_or (option_or a b) (option_or c d)) e

pub phases : (len : ℕ) (tokens : List Token) → fault_of_tokens len tokens
    ≡ chain (scan bracket_fault [] tokens) (scan parenthesis_fault [] tokens) (scan grammar_fault [] tokens)
    (ending len (newest_first tokens)) (scan brace_fault [] tokens)
phases len tokens =
    ap (λ (o : Option TextFault). option_or (option_or (option_or o (too_many_after 0 tokens)) (fault_after len [] tokens))
    (long_of tokens)) (deep_scan [] tokens (omega arith))
    ∙ ap (λ (o : Option TextFault). option_or (option_or (option_or (scan bracket_fault [] tokens) o) (fault_after len [] tokens))
    (long_of tokens)) (many_scan [] tokens (omega arith))
    ∙ ap (λ (o : Option TextFault).
    option_or (option_or (option_or (scan bracket_fault [] tokens) (scan parenthesis_fault [] tokens)) o) (long_of tokens))
    (fit_fault len tokens)
    ∙ ap (λ (o : Option TextFault). chain (scan bracket_fault [] tokens) (scan parenthesis_fault [] tokens)
    (scan grammar_fault [] tokens) (ending len (newest_first tokens)) o) (long_scan [] tokens)

pub ending_none : (len : ℕ) (b : Bool) → b ≡ true → ended len b ≡ None
ending_none len true e = refl
ending_none len false e = absurd cc

pub ending_some : (len : ℕ) (fault : TextFault) (b : Bool) → b ≡ false → fault ≡ record { kind = faults.Incomplete; place = len }
    → ended len b ≡ Some fault
ending_some len fault false e h = ap Some (sym h)
ending_some len fault true e h = absurd cc

-- no token is at fault by the grammar, and the tokens may end, exactly if the grammar's check finds nothing
pub no_misfit : (len : ℕ) (tokens : List Token) → IsClean grammar_fault tokens → may_end (newest_first tokens) ≡ true
    → fault_after len [] tokens ≡ None
no_misfit len tokens h e =
    fit_fault len tokens ∙ ap (λ (o : Option TextFault). option_or o (ending len (newest_first tokens)))
    (scans_clean grammar_fault tokens h)
    ∙ ending_none len (may_end (newest_first tokens)) e

both_none : (a b : Option TextFault) → option_or a b ≡ None → (a ≡ None) × (b ≡ None)
both_none None b e = (refl, e)
both_none (Some f) b e = absurd cc

pub misfit_none : (len : ℕ) (tokens : List Token) → fault_after len [] tokens ≡ None → IsClean grammar_fault tokens
    × (may_end (newest_first tokens) ≡ true)
misfit_none len tokens e =
    let both = both_none (scan grammar_fault [] tokens) (ending len (newest_first tokens)) (sym (fit_fault len tokens) ∙ e) in
    (clean grammar_fault tokens both.0, may len (newest_first tokens) both.1)
