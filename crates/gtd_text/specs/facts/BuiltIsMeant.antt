-- What is built of tokens is what they stand for.
use Rattle.std.proofs.Common.{◌≡◌, ◌≢◌, Bool, true, false, cond, List, [], ◌∷◌, ◌++◌, Option, Some, None, refl, sym, ap}
use Rattle.std.proofs.Common.{subst, ◌∙◌, append_assoc}
use Rattle.std.proofs.lemmas.List.{append-nil}
use Rattle.std.proofs.lemmas.Option.{option_and_then_some}
use Rattle.std.specs.Prelude.{◌&&◌}
use Rattle.gtd_core.specs.declared.start.StartParts.{StartParts}
use Rattle.gtd_core.specs.declared.duration.DurationParts.{DurationParts}
use Rattle.gtd_core.specs.declared.domain.Op.TheVariants.{Union, Meet, Minus as OpMinus}
use Rattle.gtd_core.specs.Trees.{Tree, Single, Joined}
use Rattle.gtd_core.specs.Ranges.{no_parts}
use Rattle.gtd_text.specs.declared.token.TokenKind.{TokenKind}
use Rattle.gtd_text.specs.declared.token.TokenKind.TheVariants.{OpenBracket, CloseBracket, OpenParenthesis, CloseParenthesis}
use Rattle.gtd_text.specs.declared.token.TokenKind.TheVariants.{OpenBrace, CloseBrace, Plus, Star, Minus}
use Rattle.gtd_text.specs.ComputedFields.{fits_start, fits_duration, all_fit_start, all_fit_duration, with_start_field}
use Rattle.gtd_text.specs.facts.FieldForms.{computed_durations, computed_starts}
use Rattle.gtd_text.specs.Grammar.{zero_parts, Sum, Product, Item}
use Rattle.gtd_text.specs.ComputedFields.{with_start_fields, with_duration_field, with_duration_fields}
use Rattle.gtd_text.specs.Grammar.{Stands, basic, bracketed, item, meet, product, union, minus, each_fits}
use Rattle.gtd_text.specs.ComputedFields.{basic_tokens}
use Rattle.gtd_text.specs.Building.{Sums, Pending, State, Expecting, InStart, AfterStart, InDuration, AfterItem, total, times}
use Rattle.gtd_text.specs.Building.{close_start, close_duration, close_bracket, step, finish, build, at_front}
use Rattle.gtd_text.specs.facts.Builds.{turned, and_left, and_right}

-- the tokens of a left side and its sign, or none
data BeforeTerm : Sums → List TokenKind → Type 0 where
  no_sum : BeforeTerm None []
  plus : (tokens : List TokenKind) (e : Tree) → Stands Sum tokens e → BeforeTerm (Some (Union, e)) (tokens ++ Plus ∷ [])
  less : (tokens : List TokenKind) (e : Tree) → Stands Sum tokens e → BeforeTerm (Some (OpMinus, e)) (tokens ++ Minus ∷ [])

data BeforeItem : Option Tree → List TokenKind → Type 0 where
  no_product : BeforeItem None []
  star : (tokens : List TokenKind) (e : Tree) → Stands Product tokens e → BeforeItem (Some e) (tokens ++ Star ∷ [])

-- the tokens before the innermost open bracket, and the bracket
data Opened : List Pending → List TokenKind → Type 0 where
  none_open : Opened [] []
  one_more : (outer : List Pending) (sum : Sums) (prod : Option Tree) (a b c : List TokenKind) → Opened outer a → BeforeTerm sum b
      → BeforeItem prod c → Opened ((sum, prod) ∷ outer) (a ++ (b ++ (c ++ OpenBracket ∷ [])))

-- what the tokens so far are: what is open, what is pending, and the tokens after that
record Around (outer : List Pending) (sum : Sums) (prod : Option Tree) (own tokens : List TokenKind) : Type 0 where
  a : List TokenKind
  b : List TokenKind
  c : List TokenKind
  opened : Opened outer a
  before_term : BeforeTerm sum b
  before_item : BeforeItem prod c
  parts : tokens ≡ a ++ (b ++ (c ++ own))

-- the same at the end of a term
record AroundTerm (outer : List Pending) (sum : Sums) (term : Tree) (tokens : List TokenKind) : Type 0 where
  a : List TokenKind
  b : List TokenKind
  own : List TokenKind
  opened : Opened outer a
  before_term : BeforeTerm sum b
  stands : Stands Product own term
  parts : tokens ≡ a ++ (b ++ own)

abbrev Holds : State → List TokenKind → Type 0
Holds (Expecting outer sum prod) tokens = Around outer sum prod [] tokens
Holds (InStart outer sum prod before parts) tokens =
    (fields : List TokenKind) × (all_fit_start [] fields ≡ true) × (before ≡ turned [] fields)
    × (parts ≡ with_start_fields no_parts fields)
    × Around outer sum prod (OpenParenthesis ∷ fields) tokens
Holds (AfterStart outer sum prod start) tokens =
    (fields : List TokenKind) × (fields ≢ []) × (all_fit_start [] fields ≡ true) × (start ≡ with_start_fields no_parts fields)
    × Around outer sum prod (OpenParenthesis ∷ (fields ++ CloseParenthesis ∷ [])) tokens
Holds (InDuration outer sum prod start before parts) tokens =
    (first : List TokenKind) × (first ≢ []) × (all_fit_start [] first ≡ true) × (start ≡ with_start_fields no_parts first)
    × (fields : List TokenKind) × (all_fit_duration [] fields ≡ true) × (before ≡ turned [] fields)
    × (parts ≡ with_duration_fields zero_parts fields)
    × Around outer sum prod (OpenParenthesis ∷ (first ++ CloseParenthesis ∷ OpenBrace ∷ fields)) tokens
Holds (AfterItem outer sum term) tokens = AroundTerm outer sum term tokens

-- a term after its left side
whole_sum : (sum : Sums) (left own : List TokenKind) (term : Tree) → BeforeTerm sum left → Stands Product own term
    → Stands Sum (left ++ own) (total sum term)
whole_sum sum left own term no_sum d = product own term d
whole_sum sum left own term (plus tokens e k) d = subst (λ (l : List TokenKind). Stands Sum l (Joined Union e term))
    (sym (append_assoc tokens (Plus ∷ []) own)) (union tokens own e term k d)
whole_sum sum left own term (less tokens e k) d = subst (λ (l : List TokenKind). Stands Sum l (Joined OpMinus e term))
    (sym (append_assoc tokens (Minus ∷ []) own)) (minus tokens own e term k d)

whole_product : (prod : Option Tree) (left own : List TokenKind) (e : Tree) → BeforeItem prod left → Stands Item own e
    → Stands Product (left ++ own) (times prod e)
whole_product prod left own e no_product d = item own e d
whole_product prod left own e (star tokens f k) d = subst (λ (l : List TokenKind). Stands Product l (Joined Meet f e))
    (sym (append_assoc tokens (Star ∷ []) own)) (meet tokens own f e k d)

-- one more token of one's own
grown : (outer : List Pending) (sum : Sums) (prod : Option Tree) (own tokens : List TokenKind) (token : TokenKind)
    → Around outer sum prod own tokens → Around outer sum prod (own ++ token ∷ []) (tokens ++ token ∷ [])
grown outer sum prod own tokens token h = record {
  a = h.a;
  b = h.b;
  c = h.c;
  opened = h.opened;
  before_term = h.before_term;
  before_item = h.before_item;
  parts = ap (λ l. l ++ token ∷ []) h.parts ∙ simp append_assoc;
}

-- an item is whole
item_whole : (outer : List Pending) (sum : Sums) (prod : Option Tree) (own tokens : List TokenKind) (e : Tree) → Stands Item own e
    → Around outer sum prod own tokens → Holds (AfterItem outer sum (times prod e)) tokens
item_whole outer sum prod own tokens e d h = record {
  a = h.a;
  b = h.b;
  own = h.c ++ own;
  opened = h.opened;
  before_term = h.before_term;
  stands = whole_product prod h.c own e h.before_item d;
  parts = h.parts;
}

-- ---- one step

abbrev HoldsAfter : Option State → List TokenKind → Type 0
HoldsAfter None tokens = Unit {0}
HoldsAfter (Some state) tokens = Holds state tokens

turned-append : (before tokens : List TokenKind) (token : TokenKind) → turned before (tokens ++ token ∷ []) ≡ token
    ∷ turned before tokens
turned-append before [] token = refl
turned-append before (other ∷ tokens) token = turned-append (other ∷ before) tokens token

start-append : (parts : StartParts) (tokens : List TokenKind) (token : TokenKind) → with_start_fields parts (tokens ++ token ∷ [])
    ≡ with_start_field (with_start_fields parts tokens) token
start-append parts [] token = refl
start-append parts (other ∷ tokens) token = start-append (with_start_field parts other) tokens token

duration-append : (parts : DurationParts) (tokens : List TokenKind) (token : TokenKind)
    → with_duration_fields parts (tokens ++ token ∷ []) ≡ with_duration_field (with_duration_fields parts tokens) token
duration-append parts [] token = refl
duration-append parts (other ∷ tokens) token = duration-append (with_duration_field parts other) tokens token

both : (a b : Bool) → a ≡ true → b ≡ true → (a && b) ≡ true
both a b p q = rw p q

fit-append : (fits : List TokenKind → TokenKind → Bool) (before tokens : List TokenKind) (token : TokenKind)
    → each_fits fits before tokens ≡ true → fits (turned before tokens) token ≡ true
    → each_fits fits before (tokens ++ token ∷ []) ≡ true
fit-append fits before [] token h k = both (fits before token) true k refl
fit-append fits before (other ∷ tokens) token h k =
    both (fits before other) _ (and_left _ (each_fits fits (other ∷ before) tokens) h)
    (fit-append fits (other ∷ before) tokens token (and_right (fits before other) _ h) k)

nonempty_turned : (field : TokenKind) (before fields : List TokenKind) → field ∷ before ≡ turned [] fields → fields ≢ []
nonempty_turned field before [] e = absurd cc
nonempty_turned field before (other ∷ fields) e = λ h. absurd cc

-- the sign that closes the parentheses
closes_start : (outer : List Pending) (sum : Sums) (prod : Option Tree) (before : List TokenKind) (parts : StartParts)
    (token : TokenKind) (tokens : List TokenKind) → Holds (InStart outer sum prod before parts) tokens
    → HoldsAfter (close_start outer sum prod before parts token) (tokens ++ token ∷ [])
closes_start outer sum prod (field ∷ before) parts CloseParenthesis tokens h = (
  h.0,
  nonempty_turned field before h.0 h.2,
  h.1,
  h.3,
  grown outer sum prod
      (OpenParenthesis ∷ h.0) tokens CloseParenthesis h.4,
)
closes_start outer sum prod before parts token tokens h = tt

-- the sign that closes the braces
closes_duration : (outer : List Pending) (sum : Sums) (prod : Option Tree) (start : StartParts) (before : List TokenKind)
    (parts : DurationParts) (token : TokenKind) (tokens : List TokenKind)
    → Holds (InDuration outer sum prod start before parts) tokens
    → HoldsAfter (close_duration outer sum prod start before parts token) (tokens ++ token ∷ [])
closes_duration outer sum prod start (field ∷ before) parts CloseBrace tokens h =
    let first = h.0 in
    let fields = h.4 in
    let whole : Stands Item (basic_tokens first fields) (Single start parts) =
    rw (h.3, h.7) (basic first fields h.1 (computed_starts first h.2) (nonempty_turned field before fields h.6)
    (computed_durations fields h.5)) in
    let around = grown outer sum prod (OpenParenthesis ∷ (first ++ CloseParenthesis ∷ OpenBrace ∷ fields)) tokens CloseBrace
    h.8 in
    let own : (OpenParenthesis ∷ (first ++ CloseParenthesis ∷ OpenBrace ∷ fields)) ++ CloseBrace ∷ []
    ≡ basic_tokens first fields =
    ap (λ (l : List TokenKind). OpenParenthesis ∷ l) (append_assoc first (CloseParenthesis ∷ OpenBrace ∷ fields)
    (CloseBrace ∷ [])) in
    item_whole outer sum prod (basic_tokens first fields) (tokens ++ CloseBrace ∷ []) (Single start parts) whole
    (subst (λ (l : List TokenKind). Around outer sum prod l (tokens ++ CloseBrace ∷ [])) own around)
closes_duration outer sum prod start before parts token tokens h = tt

more_start : (outer : List Pending) (sum : Sums) (prod : Option Tree) (before : List TokenKind) (parts : StartParts)
    (token : TokenKind) (tokens : List TokenKind) → fits_start before token ≡ true
    → Holds (InStart outer sum prod before parts) tokens → Holds
    (InStart outer sum prod (token ∷ before) (with_start_field parts token)) (tokens ++ token ∷ [])
more_start outer sum prod before parts token tokens fit h =
    let fields = h.0 in (
      fields ++ token ∷ [],
      fit-append fits_start [] fields token h.1 (rw (← h.2) fit),
      ap (λ (l : List TokenKind). token ∷ l) h.2 ∙ sym (turned-append [] fields token),
      ap (λ (p : StartParts). with_start_field p token) h.3 ∙ sym (start-append no_parts fields token),
      grown outer sum prod (OpenParenthesis ∷ fields) tokens token h.4,
    )

more_duration : (outer : List Pending) (sum : Sums) (prod : Option Tree) (start : StartParts) (before : List TokenKind)
    (parts : DurationParts) (token : TokenKind) (tokens : List TokenKind) → fits_duration before token ≡ true
    → Holds (InDuration outer sum prod start before parts) tokens
    → Holds (InDuration outer sum prod start (token ∷ before) (with_duration_field parts token)) (tokens ++ token ∷ [])
more_duration outer sum prod start before parts token tokens fit h =
    let fields = h.4 in (
      h.0,
      h.1,
      h.2,
      h.3,
      fields ++ token ∷ [],
      fit-append fits_duration [] fields token h.5 (rw (← h.6) fit),
      ap (λ (l : List TokenKind). token ∷ l) h.6 ∙ sym (turned-append [] fields token),
      ap (λ (p : DurationParts). with_duration_field p token) h.7 ∙ sym (duration-append zero_parts fields token),
      subst (λ (l : List TokenKind). Around outer sum prod l (tokens ++ token ∷ []))
          (ap (λ (l : List TokenKind). OpenParenthesis ∷ l) (append_assoc h.0 (CloseParenthesis ∷ OpenBrace ∷ fields)
          (token ∷ [])))
          (grown outer sum prod (OpenParenthesis ∷ (h.0 ++ CloseParenthesis ∷ OpenBrace ∷ fields)) tokens token h.8),
    )

-- after a sign between terms
next_term : (outer : List Pending) (sum : Sums) (term : Tree) (tokens : List TokenKind) (sign : TokenKind) (next : Sums)
    → ((own : List TokenKind) → Stands Sum own (total sum term) → BeforeTerm next (own ++ sign ∷ []))
    → AroundTerm outer sum term tokens → Around outer next None [] (tokens ++ sign ∷ [])
next_term outer sum term tokens sign next whole h = record {
  a = h.a;
  b = (h.b ++ h.own) ++ sign ∷ [];
  c = [];
  opened = h.opened;
  before_term = whole (h.b ++ h.own) (whole_sum sum h.b h.own term h.before_term h.stands);
  before_item = no_product;
  parts = ap (λ l. l ++ sign ∷ []) h.parts ∙ simp (append_assoc, append-nil);
}

next_item : (outer : List Pending) (sum : Sums) (term : Tree) (tokens : List TokenKind) → AroundTerm outer sum term tokens
    → Around outer sum (Some term) [] (tokens ++ Star ∷ [])
next_item outer sum term tokens h = record {
  a = h.a;
  b = h.b;
  c = h.own ++ Star ∷ [];
  opened = h.opened;
  before_term = h.before_term;
  before_item = star h.own term h.stands;
  parts = ap (λ l. l ++ Star ∷ []) h.parts ∙ simp (append_assoc, append-nil);
}

open_bracket : (outer : List Pending) (sum : Sums) (prod : Option Tree) (tokens : List TokenKind)
    → Around outer sum prod [] tokens → Around ((sum, prod) ∷ outer) None None [] (tokens ++ OpenBracket ∷ [])
open_bracket outer sum prod tokens h = record {
  a = h.a ++ (h.b ++ (h.c ++ OpenBracket ∷ []));
  b = [];
  c = [];
  opened = one_more outer sum prod h.a h.b h.c h.opened h.before_term h.before_item;
  before_term = no_sum;
  before_item = no_product;
  parts = ap (λ l. l ++ OpenBracket ∷ []) h.parts ∙ simp (append_assoc, append-nil);
}

close_opened : (outer : List Pending) (a inner tokens : List TokenKind) (e : Tree) → Opened outer a → Stands Sum inner e → tokens
    ≡ a ++ inner → HoldsAfter (close_bracket outer e) (tokens ++ CloseBracket ∷ [])
close_opened outer a inner tokens e none_open d eq = tt
close_opened outer a inner tokens e (one_more rest sum prod x y z o t i) d eq =
    item_whole rest sum prod (OpenBracket ∷ (inner ++ CloseBracket ∷ [])) (tokens ++ CloseBracket ∷ []) e (bracketed inner e d)
    (record {
      a = x;
      b = y;
      c = z;
      opened = o;
      before_term = t;
      before_item = i;
      parts = ap (λ l. l ++ CloseBracket ∷ []) eq ∙ simp append_assoc;
    })

close_brackets : (outer : List Pending) (sum : Sums) (term : Tree) (tokens : List TokenKind) → AroundTerm outer sum term tokens
    → HoldsAfter (close_bracket outer (total sum term)) (tokens ++ CloseBracket ∷ [])
close_brackets outer sum term tokens h =
    close_opened outer h.a (h.b ++ h.own) tokens (total sum term) h.opened
    (whole_sum sum h.b h.own term h.before_term h.stands) h.parts

steps_start : (fit : Bool) (outer : List Pending) (sum : Sums) (prod : Option Tree) (before : List TokenKind) (parts : StartParts)
    (token : TokenKind) (tokens : List TokenKind) → fits_start before token ≡ fit
    → Holds (InStart outer sum prod before parts) tokens → HoldsAfter
    (cond fit (Some (InStart outer sum prod (token ∷ before) (with_start_field parts token)))
    (close_start outer sum prod before parts token)) (tokens ++ token ∷ [])
steps_start true outer sum prod before parts token tokens e h = more_start outer sum prod before parts token tokens e h
steps_start false outer sum prod before parts token tokens e h = closes_start outer sum prod before parts token tokens h

steps_duration : (fit : Bool) (outer : List Pending) (sum : Sums) (prod : Option Tree) (start : StartParts)
    (before : List TokenKind) (parts : DurationParts) (token : TokenKind) (tokens : List TokenKind) → fits_duration before token
    ≡ fit → Holds (InDuration outer sum prod start before parts) tokens
    → HoldsAfter (cond fit (Some (InDuration outer sum prod start (token ∷ before) (with_duration_field parts token)))
    (close_duration outer sum prod start before parts token)) (tokens ++ token ∷ [])
steps_duration true outer sum prod start before parts token tokens e h =
    more_duration outer sum prod start before parts token tokens e h
steps_duration false outer sum prod start before parts token tokens e h =
    closes_duration outer sum prod start before parts token tokens h

steps : (state : State) (token : TokenKind) (tokens : List TokenKind) → Holds state tokens
    → HoldsAfter (step state token) (tokens ++ token ∷ [])
steps (Expecting outer sum prod) OpenBracket tokens h = open_bracket outer sum prod tokens h
steps (Expecting outer sum prod) OpenParenthesis tokens h = (
  [],
  refl,
  refl,
  refl,
  grown outer sum prod [] tokens OpenParenthesis h,
)
steps (Expecting outer sum prod) token tokens h = tt
steps (InStart outer sum prod before parts) token tokens h =
    steps_start (fits_start before token) outer sum prod before parts token tokens refl h
steps (AfterStart outer sum prod start) OpenBrace tokens h = (
  h.0,
  h.1,
  h.2,
  h.3,
  [],
  refl,
  refl,
  refl,
  subst (λ (l : List TokenKind). Around outer sum prod l (tokens ++ OpenBrace ∷ []))
      (ap (λ (l : List TokenKind). OpenParenthesis ∷ l) (append_assoc h.0 (CloseParenthesis ∷ []) (OpenBrace ∷ [])))
      (grown outer sum prod (OpenParenthesis ∷ (h.0 ++ CloseParenthesis ∷ [])) tokens OpenBrace h.4),
)
steps (AfterStart outer sum prod start) token tokens h = tt
steps (InDuration outer sum prod start before parts) token tokens h =
    steps_duration (fits_duration before token) outer sum prod start before parts token tokens refl h
steps (AfterItem outer sum term) Star tokens h = next_item outer sum term tokens h
steps (AfterItem outer sum term) Plus tokens h = next_term outer sum term tokens Plus (Some (Union, total sum term))
    (λ own d. plus own (total sum term) d) h
steps (AfterItem outer sum term) Minus tokens h = next_term outer sum term tokens Minus (Some (OpMinus, total sum term))
    (λ own d. less own (total sum term) d) h
steps (AfterItem outer sum term) CloseBracket tokens h = close_brackets outer sum term tokens h
steps (AfterItem outer sum term) token tokens h = tt

-- ---- all steps

finishes_opened : (outer : List Pending) (a inner tokens : List TokenKind) (sum : Sums) (term e : Tree) → Opened outer a
    → Stands Sum inner (total sum term) → tokens ≡ a ++ inner → finish (AfterItem outer sum term) ≡ Some e → Stands Sum tokens e
finishes_opened outer a inner tokens sum term e none_open d eq f =
    let same : total sum term ≡ e = cc in rw (eq, ← same) d
finishes_opened outer a inner tokens sum term e (one_more rest s p x y z o t i) d eq f = absurd cc

finishes : (state : State) (tokens : List TokenKind) (e : Tree) → Holds state tokens → finish state ≡ Some e → Stands Sum tokens e
finishes (AfterItem outer sum term) tokens e h f = finishes_opened outer h.a (h.b ++ h.own) tokens sum term e h.opened
    (whole_sum sum h.b h.own term h.before_term h.stands) h.parts f
finishes state tokens e h f = absurd cc

stood : (state : State) (rest tokens : List TokenKind) (e : Tree) → Holds state tokens → build state rest ≡ Some e
    → Stands Sum (tokens ++ rest) e
unfolding build
stood state [] tokens e h f = rw append-nil (finishes state tokens e h f)
stood state (token ∷ rest) tokens e h f =
    option_and_then_some (λ next. build next rest) (step state token) e f (λ next is later.
    subst (λ (l : List TokenKind). Stands Sum l e) (append_assoc tokens (token ∷ []) rest)
    (stood next rest (tokens ++ token ∷ []) e (subst (λ o. HoldsAfter o (tokens ++ token ∷ [])) is (steps state token tokens h))
    later))

-- What is built from the front is what the tokens stand for.
pub stood_whole : (tokens : List TokenKind) (e : Tree) → build at_front tokens ≡ Some e → Stands Sum tokens e
stood_whole tokens e f = stood at_front tokens [] e (record {
  a = [];
  b = [];
  c = [];
  opened = none_open;
  before_term = no_sum;
  before_item = no_product;
  parts = refl;
}) f
