-- Tokens build an expression exactly if each fits after those before it.
use Rattle.std.proofs.Common.{◌≡◌, ℕ, suc, ◌-◌, Bool, true, false, cond, List, [], ◌∷◌, ◌++◌, length, Option, Some, None}
use Rattle.std.proofs.Common.{refl, sym, ap, ◌∙◌, arith}
use Rattle.std.specs.Prelude.{◌&&◌, ◌||◌, ◌==◌, not, is_some}
use Rattle.std.proofs.lemmas.Bool.{lt-ltb}
use Rattle.std.proofs.Math.Dec.{eqb-suc-zero}
use Rattle.std.specs.Option.{option_and_then}
use Rattle.gtd_core.specs.declared.start.StartParts.{StartParts}
use Rattle.gtd_core.specs.declared.duration.DurationParts.{DurationParts}
use Rattle.gtd_core.specs.Ranges.{no_parts}
use Rattle.gtd_core.specs.Trees.{Tree, Single}
use Rattle.gtd_text.specs.declared.token.TokenKind.{TokenKind}
use Rattle.gtd_text.specs.declared.token.TokenKind.TheVariants.{OpenBracket, CloseBracket, OpenParenthesis, CloseParenthesis}
use Rattle.gtd_text.specs.declared.token.TokenKind.TheVariants.{OpenBrace, CloseBrace, Plus, Star, Minus, Field}
use Rattle.gtd_text.specs.ComputedFields.{has_letter, is_start_letter, is_duration_letter, is_start_value, fits_start}
use Rattle.gtd_text.specs.ComputedFields.{fits_duration}
use Rattle.gtd_text.specs.Grammar.{zero_parts}
use Rattle.gtd_text.specs.ComputedFields.{with_start_field, with_duration_field}
use Rattle.gtd_text.specs.Fitting.{begins_item, follows_item, is_open_brace, is_close_parenthesis, is_close_brace, fits}
use Rattle.gtd_text.specs.Fitting.{may_end}
use Rattle.gtd_text.specs.FirstFault.{depth}
use Rattle.gtd_text.specs.ComputedFaults.{last_sign}
use Rattle.gtd_text.specs.Building.{Sums, Pending, State, Expecting, InStart, AfterStart, InDuration, AfterItem, total, times}
use Rattle.gtd_text.specs.Building.{close_start, close_duration, close_bracket, step, finish, build, at_front}
use Rattle.gtd_text.specs.facts.Builds.{and_left, and_right}

-- Each token fits after those before it, and the tokens may end where they do.
abbrev pub all_fit : List TokenKind → List TokenKind → Bool
all_fit before [] = may_end before
all_fit before (token ∷ tokens) = fits before token && all_fit (token ∷ before) tokens

abbrev pub is_some_field : List TokenKind → Bool
is_some_field [] = false
is_some_field (field ∷ fields) = true

-- which token may come next in a state
abbrev next_fits : State → TokenKind → Bool
next_fits (Expecting outer sum prod) token = begins_item token
next_fits (InStart outer sum prod before parts) token = fits_start before token ||
    (is_some_field before && is_close_parenthesis token)
next_fits (AfterStart outer sum prod start) token = is_open_brace token
next_fits (InDuration outer sum prod start before parts) token =
    fits_duration before token || (is_some_field before && is_close_brace token)
next_fits (AfterItem outer sum term) token = follows_item (length outer) token

abbrev may_finish : State → Bool
may_finish (AfterItem outer sum term) = length outer == 0
may_finish state = false

abbrev outer_of : State → List Pending
outer_of (Expecting outer sum prod) = outer
outer_of (InStart outer sum prod before parts) = outer
outer_of (AfterStart outer sum prod start) = outer
outer_of (InDuration outer sum prod start before parts) = outer
outer_of (AfterItem outer sum term) = outer

-- the fields after the last sign are those of the state
abbrev SameFields : State → List TokenKind → Type 0
SameFields (InStart outer sum prod fields parts) before = (last_sign before ≡ Some OpenParenthesis)
    × ((letter : ℕ) → has_letter letter before ≡ has_letter letter fields)
SameFields (InDuration outer sum prod start fields parts) before =
    (last_sign before ≡ Some OpenBrace) × ((letter : ℕ) → has_letter letter before ≡ has_letter letter fields)
SameFields state before = Unit {0}

-- the state is the one after these tokens, the newest first
record Linked (state : State) (before : List TokenKind) : Type 0 where
  next : (token : TokenKind) → fits before token ≡ next_fits state token
  open_brackets : depth before ≡ length (outer_of state)
  end : may_end before ≡ may_finish state
  fields : SameFields state before

abbrev LinkedAfter : Option State → List TokenKind → Type 0
LinkedAfter None before = Unit {0}
LinkedAfter (Some state) before = Linked state before

or_false : (b : Bool) → (b || false) ≡ b
or_false true = refl
or_false false = refl

link_item : (outer : List Pending) (sum : Sums) (term : Tree) (before : List TokenKind) → depth before ≡ length outer
    → Linked (AfterItem outer sum term) (CloseBrace ∷ before)
link_item outer sum term before e = record {
  next = λ token. ap (λ n. follows_item n token) e;
  open_brackets = e;
  end = ap (λ n. n == 0) e;
  fields = tt;
}

link_bracket : (outer : List Pending) (before : List TokenKind) (e : Tree) → depth before ≡ length outer
    → LinkedAfter (close_bracket outer e) (CloseBracket ∷ before)
link_bracket [] before e h = tt
link_bracket (p ∷ outer) before e h =
    let one : depth before - 1 ≡ length outer = omega (arith, h) in
    record {
      next = λ token. ap (λ n. follows_item n token) one;
      open_brackets = one;
      end = ap (λ n. n == 0) one;
      fields = tt;
    }

-- what fits depends on the letters alone
same_start : (before fields : List TokenKind) → ((letter : ℕ) → has_letter letter before ≡ has_letter letter fields)
    → (token : TokenKind) → fits_start before token ≡ fits_start fields token
same_start before fields h (Field letter value digits) = ap (λ b.
    is_start_letter letter && not (not (letter == 116) && b) && is_start_value letter value digits) (h letter)
same_start before fields h token = refl

same_duration : (before fields : List TokenKind) → ((letter : ℕ) → has_letter letter before ≡ has_letter letter fields)
    → (token : TokenKind) → fits_duration before token ≡ fits_duration fields token
same_duration before fields h (Field letter value digits) = ap (λ b. is_duration_letter letter && not b) (h letter)
same_duration before fields h token = refl

link_start : (outer : List Pending) (sum : Sums) (prod : Option Tree) (fields : List TokenKind) (parts parts' : StartParts)
    (letter value digits : ℕ) (before : List TokenKind) → Linked (InStart outer sum prod fields parts) before
    → Linked (InStart outer sum prod (Field letter value digits ∷ fields) parts') (Field letter value digits ∷ before)
link_start outer sum prod fields parts parts' letter value digits before h = record {
  next = λ token. rw h.fields.0 (ap (λ b. b || is_close_parenthesis token)
      (same_start (Field letter value digits ∷ before) (Field letter value digits ∷ fields)
      (λ other. ap (λ b. letter == other || b) (h.fields.1 other)) token));
  open_brackets = h.open_brackets;
  end = refl;
  fields = (h.fields.0, λ other. ap (λ b. letter == other || b) (h.fields.1 other));
}

link_duration : (outer : List Pending) (sum : Sums) (prod : Option Tree) (start : StartParts) (fields : List TokenKind)
    (parts parts' : DurationParts) (letter value digits : ℕ) (before : List TokenKind)
    → Linked (InDuration outer sum prod start fields parts) before
    → Linked (InDuration outer sum prod start (Field letter value digits ∷ fields) parts') (Field letter value digits ∷ before)
link_duration outer sum prod start fields parts parts' letter value digits before h = record {
  next = λ token. rw h.fields.0 (ap (λ b. b || is_close_brace token)
      (same_duration (Field letter value digits ∷ before) (Field letter value digits ∷ fields)
      (λ other. ap (λ b. letter == other || b) (h.fields.1 other)) token));
  open_brackets = h.open_brackets;
  end = refl;
  fields = (h.fields.0, λ other. ap (λ b. letter == other || b) (h.fields.1 other));
}

link_close_start : (outer : List Pending) (sum : Sums) (prod : Option Tree) (fields : List TokenKind) (parts : StartParts)
    (token : TokenKind) (before : List TokenKind) → depth before ≡ length outer
    → LinkedAfter (close_start outer sum prod fields parts token) (token ∷ before)
link_close_start outer sum prod (field ∷ fields) parts CloseParenthesis before h =
    record { next = λ token. refl; open_brackets = h; end = refl; fields = tt }
link_close_start outer sum prod fields parts token before h = tt

link_close_duration : (outer : List Pending) (sum : Sums) (prod : Option Tree) (start : StartParts) (fields : List TokenKind)
    (parts : DurationParts) (token : TokenKind) (before : List TokenKind) → depth before ≡ length outer
    → LinkedAfter (close_duration outer sum prod start fields parts token) (token ∷ before)
link_close_duration outer sum prod start (field ∷ fields) parts CloseBrace before h =
    link_item outer sum (times prod (Single start parts)) before h
link_close_duration outer sum prod start fields parts token before h = tt

link_in_start : (b : Bool) (outer : List Pending) (sum : Sums) (prod : Option Tree) (fields : List TokenKind) (parts : StartParts)
    (token : TokenKind) (before : List TokenKind) → fits_start fields token ≡ b
    → Linked (InStart outer sum prod fields parts) before → LinkedAfter
    (cond b (Some (InStart outer sum prod (token ∷ fields) (with_start_field parts token)))
    (close_start outer sum prod fields parts token)) (token ∷ before)
link_in_start true outer sum prod fields parts (Field letter value digits) before e h =
    link_start outer sum prod fields parts _ letter value digits before h
link_in_start true outer sum prod fields parts token before e h = absurd cc
link_in_start false outer sum prod fields parts token before e h =
    link_close_start outer sum prod fields parts token before h.open_brackets

link_in_duration : (b : Bool) (outer : List Pending) (sum : Sums) (prod : Option Tree) (start : StartParts)
    (fields : List TokenKind) (parts : DurationParts) (token : TokenKind) (before : List TokenKind) → fits_duration fields token
    ≡ b → Linked (InDuration outer sum prod start fields parts) before
    → LinkedAfter (cond b (Some (InDuration outer sum prod start (token ∷ fields) (with_duration_field parts token)))
    (close_duration outer sum prod start fields parts token)) (token ∷ before)
link_in_duration true outer sum prod start fields parts (Field letter value digits) before e h =
    link_duration outer sum prod start fields parts _ letter value digits before h
link_in_duration true outer sum prod start fields parts token before e h = absurd cc
link_in_duration false outer sum prod start fields parts token before e h =
    link_close_duration outer sum prod start fields parts token before h.open_brackets

links : (state : State) (token : TokenKind) (before : List TokenKind) → Linked state before
    → LinkedAfter (step state token) (token ∷ before)
links (Expecting outer sum prod) OpenBracket before h = record
    { next = λ token. refl; open_brackets = omega (arith, h.open_brackets); end = refl; fields = tt }
links (Expecting outer sum prod) OpenParenthesis before h = record {
  next = λ token. same_start (OpenParenthesis ∷ before) [] (λ letter. refl) token ∙ sym (or_false (fits_start [] token));
  open_brackets = h.open_brackets;
  end = refl;
  fields = (refl, λ letter. refl);
}
links (Expecting outer sum prod) token before h = tt
links (InStart outer sum prod fields parts) token before h =
    link_in_start (fits_start fields token) outer sum prod fields parts token before refl h
links (AfterStart outer sum prod start) OpenBrace before h =
    record {
      next = λ token. same_duration (OpenBrace ∷ before) [] (λ letter. refl) token
          ∙ sym (or_false (fits_duration [] token));
      open_brackets = h.open_brackets;
      end = refl;
      fields = (refl, λ letter. refl);
    }
links (AfterStart outer sum prod start) token before h = tt
links (InDuration outer sum prod start fields parts) token before h =
    link_in_duration (fits_duration fields token) outer sum prod start fields parts token before refl h
links (AfterItem outer sum term) Star before h = record {
  next = λ token. refl;
  open_brackets = h.open_brackets;
  end = refl;
  fields = tt;
}
links (AfterItem outer sum term) Plus before h = record {
  next = λ token. refl;
  open_brackets = h.open_brackets;
  end = refl;
  fields = tt;
}
links (AfterItem outer sum term) Minus before h = record {
  next = λ token. refl;
  open_brackets = h.open_brackets;
  end = refl;
  fields = tt;
}
links (AfterItem outer sum term) CloseBracket before h = link_bracket outer before (total sum term) h.open_brackets
links (AfterItem outer sum term) token before h = tt

-- ---- what fits is what is taken

takes_expecting : (outer : List Pending) (sum : Sums) (prod : Option Tree) (token : TokenKind)
    → is_some (step (Expecting outer sum prod) token) ≡ begins_item token
takes_expecting outer sum prod OpenBracket = refl
takes_expecting outer sum prod OpenParenthesis = refl
takes_expecting outer sum prod token = refl

takes_after_start : (outer : List Pending) (sum : Sums) (prod : Option Tree) (start : StartParts) (token : TokenKind)
    → is_some (step (AfterStart outer sum prod start) token) ≡ is_open_brace token
takes_after_start outer sum prod start OpenBrace = refl
takes_after_start outer sum prod start token = refl

takes_after_item : (outer : List Pending) (sum : Sums) (term : Tree) (token : TokenKind)
    → is_some (step (AfterItem outer sum term) token) ≡ follows_item (length outer) token
takes_after_item [] sum term CloseBracket = refl
takes_after_item (p ∷ outer) sum term CloseBracket = sym (lt-ltb 0 (suc (length outer)) (omega arith))
takes_after_item outer sum term Star = refl
takes_after_item outer sum term Plus = refl
takes_after_item outer sum term Minus = refl
takes_after_item outer sum term token = refl

takes_close_start : (outer : List Pending) (sum : Sums) (prod : Option Tree) (fields : List TokenKind) (parts : StartParts)
    (token : TokenKind) → is_some (close_start outer sum prod fields parts token)
    ≡ (is_some_field fields && is_close_parenthesis token)
takes_close_start outer sum prod [] parts token = refl
takes_close_start outer sum prod (field ∷ fields) parts CloseParenthesis = refl
takes_close_start outer sum prod (field ∷ fields) parts token = refl

takes_close_duration : (outer : List Pending) (sum : Sums) (prod : Option Tree) (start : StartParts) (fields : List TokenKind)
    (parts : DurationParts) (token : TokenKind) → is_some (close_duration outer sum prod start fields parts token)
    ≡ (is_some_field fields && is_close_brace token)
takes_close_duration outer sum prod start [] parts token = refl
takes_close_duration outer sum prod start (field ∷ fields) parts CloseBrace = refl
takes_close_duration outer sum prod start (field ∷ fields) parts token = refl

is_some-cond : {A : Type 0} (b : Bool) (x : A) (o : Option A) → is_some (cond b (Some x) o) ≡ (b || is_some o)
is_some-cond true x o = refl
is_some-cond false x o = refl

takes : (state : State) (token : TokenKind) → is_some (step state token) ≡ next_fits state token
takes (Expecting outer sum prod) token = takes_expecting outer sum prod token
takes (InStart outer sum prod fields parts) token = is_some-cond (fits_start fields token) _
    (close_start outer sum prod fields parts token) ∙ ap (λ b. fits_start fields token || b)
    (takes_close_start outer sum prod fields parts token)
takes (AfterStart outer sum prod start) token = takes_after_start outer sum prod start token
takes (InDuration outer sum prod start fields parts) token =
    is_some-cond (fits_duration fields token) _ (close_duration outer sum prod start fields parts token)
    ∙ ap (λ b. fits_duration fields token || b) (takes_close_duration outer sum prod start fields parts token)
takes (AfterItem outer sum term) token = takes_after_item outer sum term token

finishes : (state : State) → is_some (finish state) ≡ may_finish state
finishes (AfterItem [] sum term) = refl
finishes (AfterItem (p ∷ outer) sum term) = sym (eqb-suc-zero (length outer))
finishes (Expecting outer sum prod) = refl
finishes (InStart outer sum prod fields parts) = refl
finishes (AfterStart outer sum prod start) = refl
finishes (InDuration outer sum prod start fields parts) = refl

goes_on : (next : Option State) (token : TokenKind) (before tokens : List TokenKind) → LinkedAfter next (token ∷ before)
    → ((state : State) → Linked state (token ∷ before) → all_fit (token ∷ before) tokens ≡ is_some (build state tokens))
    → (is_some next && all_fit (token ∷ before) tokens) ≡ is_some (option_and_then (λ state. build state tokens) next)
goes_on None token before tokens h k = refl
goes_on (Some state) token before tokens h k = k state h

fits_builds : (state : State) (before tokens : List TokenKind) → Linked state before → all_fit before tokens
    ≡ is_some (build state tokens)
unfolding build
fits_builds state before [] h = h.end ∙ sym (finishes state)
fits_builds state before (token ∷ tokens) h =
    ap (λ b. b && all_fit (token ∷ before) tokens) (h.next token ∙ sym (takes state token))
    ∙ goes_on (step state token) token before tokens (links state token before h)
    (λ next k. fits_builds next (token ∷ before) tokens k)

-- All tokens fit exactly if they build an expression.
pub all_fit_builds : (tokens : List TokenKind) → all_fit [] tokens ≡ is_some (build at_front tokens)
all_fit_builds tokens = fits_builds at_front [] tokens (record
    { next = λ token. refl; open_brackets = refl; end = refl; fields = tt })

-- ---- tokens that fit can go on to an end

-- Each token fits after those before it, wherever they stop.
abbrev pub all_fit_so_far : List TokenKind → List TokenKind → Bool
all_fit_so_far before [] = true
all_fit_so_far before (token ∷ tokens) = fits before token && all_fit_so_far (token ∷ before) tokens

-- after these tokens more can come, with which an expression is built
pub record Ending (state : State) (tokens : List TokenKind) : Type 0 where
  pub after : List TokenKind
  pub tree : Tree
  pub built : build state (tokens ++ after) ≡ Some tree

abbrev one_second : TokenKind
one_second = Field 115 1 1

close_all : (outer : List Pending) (sum : Sums) (term : Tree) → Ending (AfterItem outer sum term) []
unfolding build
close_all [] sum term = record { after = []; tree = total sum term; built = refl }
close_all (p ∷ outer) sum term =
    let rest = close_all outer p.0 (times p.1 (total sum term)) in
    record { after = CloseBracket ∷ rest.after; tree = rest.tree; built = rest.built }

end_duration : (outer : List Pending) (sum : Sums) (prod : Option Tree) (start : StartParts) (fields : List TokenKind)
    (parts : DurationParts) → Ending (InDuration outer sum prod start fields parts) []
unfolding build
end_duration outer sum prod start [] parts =
    let rest = close_all outer sum (times prod (Single start (with_duration_field parts one_second))) in
    record { after = one_second ∷ CloseBrace ∷ rest.after; tree = rest.tree; built = rest.built }
end_duration outer sum prod start (field ∷ fields) parts =
    let rest = close_all outer sum (times prod (Single start parts)) in
    record { after = CloseBrace ∷ rest.after; tree = rest.tree; built = rest.built }

end_after_start : (outer : List Pending) (sum : Sums) (prod : Option Tree) (start : StartParts)
    → Ending (AfterStart outer sum prod start) []
unfolding build
end_after_start outer sum prod start =
    let rest = end_duration outer sum prod start [] zero_parts in
    record { after = OpenBrace ∷ rest.after; tree = rest.tree; built = rest.built }

end_start : (outer : List Pending) (sum : Sums) (prod : Option Tree) (fields : List TokenKind) (parts : StartParts)
    → Ending (InStart outer sum prod fields parts) []
unfolding build
end_start outer sum prod [] parts =
    let rest = end_after_start outer sum prod (with_start_field parts one_second) in
    record { after = one_second ∷ CloseParenthesis ∷ rest.after; tree = rest.tree; built = rest.built }
end_start outer sum prod (field ∷ fields) parts =
    let rest = end_after_start outer sum prod parts in
    record { after = CloseParenthesis ∷ rest.after; tree = rest.tree; built = rest.built }

ends : (state : State) → Ending state []
unfolding build
ends (Expecting outer sum prod) =
    let rest = end_start outer sum prod [] no_parts in
    record { after = OpenParenthesis ∷ rest.after; tree = rest.tree; built = rest.built }
ends (InStart outer sum prod fields parts) = end_start outer sum prod fields parts
ends (AfterStart outer sum prod start) = end_after_start outer sum prod start
ends (InDuration outer sum prod start fields parts) = end_duration outer sum prod start fields parts
ends (AfterItem outer sum term) = close_all outer sum term

ends_by : (next : Option State) (state : State) (token : TokenKind) (before tokens : List TokenKind) → step state token ≡ next
    → is_some next ≡ true → LinkedAfter next (token ∷ before)
    → ((other : State) → Linked other (token ∷ before) → Ending other tokens) → Ending state (token ∷ tokens)
unfolding build
ends_by None state token before tokens e some h k = absurd cc
ends_by (Some other) state token before tokens e some h k =
    let rest = k other h in
    record {
      after = rest.after;
      tree = rest.tree;
      built = ap (λ (o : Option State). option_and_then (λ next. build next (tokens ++ rest.after)) o) e ∙ rest.built;
    }

so_far_ends : (state : State) (before tokens : List TokenKind) → Linked state before → all_fit_so_far before tokens ≡ true
    → Ending state tokens
so_far_ends state before [] h fit = ends state
so_far_ends state before (token ∷ tokens) h fit =
    ends_by (step state token) state token before tokens refl
    (takes state token ∙ sym (h.next token) ∙ and_left (fits before token) (all_fit_so_far (token ∷ before) tokens) fit)
    (links state token before h)
    (λ next k. so_far_ends next (token ∷ before) tokens k (and_right (fits before token) _ fit))

-- Tokens that fit can go on to an expression.
pub fit_goes_on : (tokens : List TokenKind) → all_fit_so_far [] tokens ≡ true → Ending at_front tokens
fit_goes_on tokens fit =
    so_far_ends at_front [] tokens (record { next = λ token. refl; open_brackets = refl; end = refl; fields = tt }) fit

-- If all of some tokens fit, so do the first of them.
pub fit_first : (before tokens after : List TokenKind) → all_fit before (tokens ++ after) ≡ true → all_fit_so_far before tokens
    ≡ true
fit_first before [] after h = refl
fit_first before (token ∷ tokens) after h =
    ap (λ b. b && all_fit_so_far (token ∷ before) tokens) (and_left (fits before token)
    (all_fit (token ∷ before) (tokens ++ after)) h)
    ∙ fit_first (token ∷ before) tokens after (and_right (fits before token) _ h)
