-- What tokens stand for is what they build.
use Rattle.std.proofs.Common.{◌≡◌, ◌≢◌, Bool, true, false, List, [], ◌∷◌, ◌++◌, Option, Some, None, refl, sym, ap, ◌∙◌}
use Rattle.std.proofs.Common.{append_assoc}
use Rattle.std.proofs.lemmas.List.{append-nil}
use Rattle.std.specs.Prelude.{◌&&◌}
use Rattle.gtd_core.specs.declared.start.StartParts.{StartParts}
use Rattle.gtd_core.specs.declared.duration.DurationParts.{DurationParts}
use Rattle.gtd_core.specs.declared.domain.Op.{Op}
use Rattle.gtd_core.specs.declared.domain.Op.TheVariants.{Union, Minus as OpMinus}
use Rattle.gtd_core.specs.Trees.{Tree, Single, Joined}
use Rattle.gtd_core.specs.Ranges.{no_parts}
use Rattle.gtd_text.specs.declared.token.TokenKind.{TokenKind}
use Rattle.gtd_text.specs.declared.token.TokenKind.TheVariants.{CloseBracket, CloseParenthesis, OpenBrace, CloseBrace, Plus}
use Rattle.gtd_text.specs.declared.token.TokenKind.TheVariants.{Star, Minus}
use Rattle.gtd_text.specs.ComputedFields.{fits_start, fits_duration, all_fit_start, all_fit_duration, with_start_field}
use Rattle.gtd_text.specs.Grammar.{zero_parts, Level, Sum, Product}
use Rattle.gtd_text.specs.ComputedFields.{with_start_fields, with_duration_field, with_duration_fields}
use Rattle.gtd_text.specs.Grammar.{Item, Stands, basic, bracketed, item, meet, product, union, minus}
use Rattle.gtd_text.specs.ComputedFields.{basic_tokens}
use Rattle.gtd_text.specs.Building.{Sums, Pending, Expecting, InStart, AfterStart, InDuration, AfterItem, total, times, step}
use Rattle.gtd_text.specs.Building.{build, at_front}
use Rattle.gtd_text.specs.facts.FieldForms.{durations_as_computed, starts_as_computed}

-- both sides of a conjunction
pub and_left : (a b : Bool) → (a && b) ≡ true → a ≡ true
and_left true b h = refl
and_left false b h = h

pub and_right : (a b : Bool) → (a && b) ≡ true → b ≡ true
and_right true b h = h
and_right false b h = absurd cc

-- fields put before others, the newest first
abbrev pub turned : List TokenKind → List TokenKind → List TokenKind
turned before [] = before
turned before (token ∷ tokens) = turned (token ∷ before) tokens

-- Fields that fit are read one after the other.
start_fields : (outer : List Pending) (sum : Sums) (prod : Option Tree) (before tokens rest : List TokenKind) (parts : StartParts)
    → all_fit_start before tokens ≡ true → build (InStart outer sum prod before parts) (tokens ++ rest)
    ≡ build (InStart outer sum prod (turned before tokens) (with_start_fields parts tokens)) rest
unfolding build
start_fields outer sum prod before [] rest parts h = refl
start_fields outer sum prod before (token ∷ tokens) rest parts h =
    rw (and_left (fits_start before token) (all_fit_start (token ∷ before) tokens) h)
    (start_fields outer sum prod (token ∷ before) tokens rest (with_start_field parts token)
    (and_right (fits_start before token) _ h))

duration_fields : (outer : List Pending) (sum : Sums) (prod : Option Tree) (start : StartParts)
    (before tokens rest : List TokenKind) (parts : DurationParts) → all_fit_duration before tokens ≡ true
    → build (InDuration outer sum prod start before parts) (tokens ++ rest)
    ≡ build (InDuration outer sum prod start (turned before tokens) (with_duration_fields parts tokens)) rest
unfolding build
duration_fields outer sum prod start before [] rest parts h = refl
duration_fields outer sum prod start before (token ∷ tokens) rest parts h =
    rw (and_left (fits_duration before token) (all_fit_duration (token ∷ before) tokens) h)
    (duration_fields outer sum prod start (token ∷ before) tokens rest (with_duration_field parts token)
    (and_right (fits_duration before token) _ h))

-- the sign that closes, after one field at least
close_start_fields : (outer : List Pending) (sum : Sums) (prod : Option Tree) (tokens rest : List TokenKind) (parts : StartParts)
    → tokens ≢ [] → build (InStart outer sum prod tokens parts) (CloseParenthesis ∷ rest)
    ≡ build (AfterStart outer sum prod parts) rest
unfolding build
close_start_fields outer sum prod [] rest parts some = absurd (some refl)
close_start_fields outer sum prod (token ∷ tokens) rest parts some = refl

close_duration_fields : (outer : List Pending) (sum : Sums) (prod : Option Tree) (start : StartParts)
    (tokens rest : List TokenKind) (parts : DurationParts) → tokens ≢ []
    → build (InDuration outer sum prod start tokens parts) (CloseBrace ∷ rest)
    ≡ build (AfterItem outer sum (times prod (Single start parts))) rest
unfolding build
close_duration_fields outer sum prod start [] rest parts some = absurd (some refl)
close_duration_fields outer sum prod start (token ∷ tokens) rest parts some = refl

turned_some : (before tokens : List TokenKind) → before ≢ [] → turned before tokens ≢ []
turned_some before [] some = some
turned_some before (token ∷ tokens) some = turned_some (token ∷ before) tokens (λ e. absurd cc)

turned_nonempty : (tokens : List TokenKind) → tokens ≢ [] → turned [] tokens ≢ []
turned_nonempty [] some = some
turned_nonempty (token ∷ tokens) some = turned_some (token ∷ []) tokens (λ e. absurd cc)

-- What is built of tokens that stand for an expression, whatever follows them.
abbrev Builds : Level → List TokenKind → Tree → Type 0
Builds Item tokens e = (outer : List Pending) (sum : Sums) (prod : Option Tree) (rest : List TokenKind)
    → build (Expecting outer sum prod) (tokens ++ rest) ≡ build (AfterItem outer sum (times prod e)) rest
Builds Product tokens e = (outer : List Pending) (sum : Sums) (rest : List TokenKind)
    → build (Expecting outer sum None) (tokens ++ rest) ≡ build (AfterItem outer sum e) rest
Builds Sum tokens e = (outer : List Pending) → (sum : Sums) × (term : Tree) × (total sum term ≡ e)
    × ((rest : List TokenKind) → build (Expecting outer None None) (tokens ++ rest) ≡ build (AfterItem outer sum term) rest)

builds_basic : (start duration : List TokenKind) → start ≢ [] → all_fit_start [] start ≡ true → duration ≢ []
    → all_fit_duration [] duration ≡ true → Builds Item (basic_tokens start duration)
    (Single (with_start_fields no_parts start) (with_duration_fields zero_parts duration))
unfolding build
builds_basic start duration some fit some' fit' outer sum prod rest =
    let begin = with_start_fields no_parts start in
    let last = with_duration_fields zero_parts duration in
    let later = duration ++ CloseBrace ∷ rest in
    ap (build (InStart outer sum prod [] no_parts)) (append_assoc start
    (CloseParenthesis ∷ OpenBrace ∷ (duration ++ CloseBrace ∷ [])) rest)
    ∙ ap (λ l. build (InStart outer sum prod [] no_parts) (start ++ CloseParenthesis ∷ OpenBrace ∷ l))
    (append_assoc duration (CloseBrace ∷ []) rest)
    ∙ start_fields outer sum prod [] start (CloseParenthesis ∷ OpenBrace ∷ later) no_parts fit
    ∙ close_start_fields outer sum prod (turned [] start) (OpenBrace ∷ later) begin (turned_nonempty start some)
    ∙ duration_fields outer sum prod begin [] duration (CloseBrace ∷ rest) zero_parts fit'
    ∙ close_duration_fields outer sum prod begin (turned [] duration) rest last (turned_nonempty duration some')

builds_sign : (op : Op) (sign : TokenKind) (left right : List TokenKind) (a b : Tree)
    → ((outer : List Pending) (sum : Sums) (term : Tree) → step (AfterItem outer sum term) sign
    ≡ Some (Expecting outer (Some (op, total sum term)) None)) → Builds Sum left a → Builds Product right b
    → Builds Sum (left ++ sign ∷ right) (Joined op a b)
unfolding build
builds_sign op sign left right a b goes h k outer =
    let l = h outer in (
      Some (op, total l.0 l.1),
      b,
      ap (λ x. Joined op x b) l.2,
      λ rest.
          ap (build (Expecting outer None None)) (append_assoc left (sign ∷ right) rest)
          ∙ l.3 (sign ∷ (right ++ rest))
          ∙ rw (goes outer l.0 l.1) (k outer (Some (op, total l.0 l.1)) rest),
    )

pub builds : (level : Level) (tokens : List TokenKind) (e : Tree) → Stands level tokens e → Builds level tokens e
unfolding build
builds level tokens e (basic start duration some fit some' fit') =
    builds_basic start duration some (starts_as_computed start fit) some' (durations_as_computed duration fit')
builds level tokens e (bracketed inner f d) = λ outer sum prod rest.
    let h = builds Sum inner f d ((sum, prod) ∷ outer) in
    ap (build (Expecting ((sum, prod) ∷ outer) None None)) (append_assoc inner (CloseBracket ∷ []) rest)
    ∙ h.3 (CloseBracket ∷ rest)
    ∙ ap (λ x. build (AfterItem outer sum (times prod x)) rest) h.2
builds level tokens e (item inner f d) = λ outer sum rest. builds Item inner f d outer sum None rest
builds level tokens e (meet left right a b d k) = λ outer sum rest.
    ap (build (Expecting outer sum None)) (append_assoc left (Star ∷ right) rest)
    ∙ builds Product left a d outer sum (Star ∷ (right ++ rest))
    ∙ builds Item right b k outer sum (Some a) rest
builds level tokens e (product inner f d) = λ outer. (None, f, refl, λ rest. builds Product inner f d outer None rest)
builds level tokens e (union left right a b d k) = builds_sign Union Plus left right a b (λ outer sum term. refl)
    (builds Sum left a d) (builds Product right b k)
builds level tokens e (minus left right a b d k) = builds_sign OpMinus Minus left right a b (λ outer sum term. refl)
    (builds Sum left a d) (builds Product right b k)

pub builds_whole : (tokens : List TokenKind) (e : Tree) → Stands Sum tokens e → build at_front tokens ≡ Some e
unfolding build
builds_whole tokens e d =
    let h = builds Sum tokens e d [] in
    ap (build at_front) (sym (append-nil tokens)) ∙ h.3 [] ∙ ap (λ (x : Tree). Some x) h.2
