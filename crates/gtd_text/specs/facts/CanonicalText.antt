-- The canonical text stands for its expression.
use Rattle.std.proofs.Common.{◌≡◌, ℕ, List, [], ◌∷◌, ◌++◌, refl, sym, ap, subst, ◌∙◌, append_assoc}
use Rattle.gtd_core.specs.declared.start.StartParts.{StartParts}
use Rattle.gtd_core.specs.declared.duration.DurationParts.{DurationParts}
use Rattle.gtd_core.specs.declared.domain.Op.{Op}
use Rattle.gtd_core.specs.declared.domain.Op.TheVariants.{Union, Meet, Minus as OpMinus}
use Rattle.gtd_core.specs.Ranges.{IsStart, no_parts, IsDuration}
use Rattle.gtd_core.specs.Trees.{Tree, Single, Joined, AreValid}
use Rattle.gtd_text.specs.declared.token.Token.{Token}
use Rattle.gtd_text.specs.declared.token.TokenKind.{TokenKind}
use Rattle.gtd_text.specs.declared.token.TokenKind.TheVariants.{OpenBracket, CloseBracket, OpenParenthesis, CloseParenthesis}
use Rattle.gtd_text.specs.declared.token.TokenKind.TheVariants.{OpenBrace, CloseBrace, Plus, Star, Minus}
use Rattle.gtd_text.specs.Canonical.{canonical, start_text, duration_shown, sign_text}
use Rattle.gtd_text.specs.Grammar.{Sum, Item, Stands, basic, bracketed, item, meet, product, union, minus}
use Rattle.gtd_text.specs.ComputedFields.{with_start_fields}
use Rattle.gtd_text.specs.facts.FieldForms.{computed_durations, computed_starts}
use Rattle.gtd_text.specs.ComputedFields.{basic_tokens}
use Rattle.gtd_text.specs.Lexing.{kinds}
use Rattle.gtd_text.specs.ComputedLexing.{AreTokens}
use Rattle.gtd_text.specs.Reading.{StandsFor}
use Rattle.gtd_text.specs.facts.LexingForms.{tokens_of_parts}
use Rattle.gtd_text.specs.facts.TokenWords.{Word, text_of, kinds_of, text_of-append, kinds_of-append, IsWord, AreWords}
use Rattle.gtd_text.specs.facts.TokenWords.{AreWords-append, placed, kinds-placed, are_tokens}
use Rattle.gtd_text.specs.facts.ShownFields.{shown_words, or_zero_some}
use Rattle.gtd_text.specs.facts.CanonicalFields.{start_words, start_words_text, start_some, start_fields, duration_words}
use Rattle.gtd_text.specs.facts.CanonicalFields.{duration_words_text, duration_fields}

abbrev pub op_word : Op → Word
op_word Union = (Plus, 43 ∷ [])
op_word Meet = (Star, 42 ∷ [])
op_word OpMinus = (Minus, 45 ∷ [])

abbrev open_bracket : Word
open_bracket = (OpenBracket, 91 ∷ [])

abbrev close_bracket : Word
close_bracket = (CloseBracket, 93 ∷ [])

abbrev open_parenthesis : Word
open_parenthesis = (OpenParenthesis, 40 ∷ [])

abbrev close_parenthesis : Word
close_parenthesis = (CloseParenthesis, 41 ∷ [])

abbrev open_brace : Word
open_brace = (OpenBrace, 123 ∷ [])

abbrev close_brace : Word
close_brace = (CloseBrace, 125 ∷ [])

abbrev pub canonical_words : Tree → List Word
canonical_words (Single start duration) =
    open_bracket ∷ open_parenthesis ∷ (start_words start ++ close_parenthesis ∷ open_brace
    ∷ (duration_words duration ++ close_brace ∷ close_bracket ∷ []))
canonical_words (Joined op left right) =
    open_bracket ∷ (canonical_words left ++ op_word op ∷ (canonical_words right ++ close_bracket ∷ []))

-- ---- their text

op_text : (op : Op) (rest : List ℕ) → (op_word op).1 ++ rest ≡ sign_text op ++ rest
op_text Union rest = refl
op_text Meet rest = refl
op_text OpMinus rest = refl

words_text : (e : Tree) → AreValid e → text_of (canonical_words e) ≡ canonical e
words_text (Single start duration) h =
    ap (λ (l : List ℕ). 91 ∷ 40 ∷ l) (
    text_of-append (start_words start) (close_parenthesis ∷ open_brace
    ∷ (duration_words duration ++ close_brace ∷ close_bracket ∷ []))
    ∙ ap (λ (l : List ℕ). l ++ 41 ∷ 123 ∷ text_of (duration_words duration ++ close_brace ∷ close_bracket ∷ []))
    (start_words_text start)
    ∙ ap (λ (l : List ℕ). start_text start ++ 41 ∷ 123 ∷ l) (
    text_of-append (duration_words duration) (close_brace ∷ close_bracket ∷ [])
    ∙ ap (λ (l : List ℕ). l ++ 125 ∷ 93 ∷ []) (duration_words_text duration)))
    ∙ simp append_assoc
words_text (Joined op left right) h =
    ap (λ (l : List ℕ). 91 ∷ l) (
    text_of-append (canonical_words left) (op_word op ∷ (canonical_words right ++ close_bracket ∷ []))
    ∙ ap (λ (l : List ℕ). l ++ text_of (op_word op ∷ (canonical_words right ++ close_bracket ∷ []))) (words_text left h.0)
    ∙ ap (λ (l : List ℕ). canonical left ++ l) (
    op_text op (text_of (canonical_words right ++ close_bracket ∷ []))
    ∙ ap (λ (l : List ℕ). sign_text op ++ l) (
    text_of-append (canonical_words right) (close_bracket ∷ [])
    ∙ ap (λ (l : List ℕ). l ++ 93 ∷ []) (words_text right h.1))))
    ∙ simp append_assoc

-- ---- they are words

op_is_word : (op : Op) → IsWord (op_word op)
op_is_word Union = record { reads = λ rest none. refl; long = refl; no_digit = λ rest. refl }
op_is_word Meet = record { reads = λ rest none. refl; long = refl; no_digit = λ rest. refl }
op_is_word OpMinus = record { reads = λ rest none. refl; long = refl; no_digit = λ rest. refl }

is_open_bracket : IsWord open_bracket
is_open_bracket = record { reads = λ rest none. refl; long = refl; no_digit = λ rest. refl }

is_close_bracket : IsWord close_bracket
is_close_bracket = record { reads = λ rest none. refl; long = refl; no_digit = λ rest. refl }

is_open_parenthesis : IsWord open_parenthesis
is_open_parenthesis = record { reads = λ rest none. refl; long = refl; no_digit = λ rest. refl }

is_close_parenthesis : IsWord close_parenthesis
is_close_parenthesis = record { reads = λ rest none. refl; long = refl; no_digit = λ rest. refl }

is_open_brace : IsWord open_brace
is_open_brace = record { reads = λ rest none. refl; long = refl; no_digit = λ rest. refl }

is_close_brace : IsWord close_brace
is_close_brace = record { reads = λ rest none. refl; long = refl; no_digit = λ rest. refl }

all_words : (e : Tree) → AreValid e → AreWords (canonical_words e)
all_words (Single start duration) h =
    let s = start_fields start h.0 in
    let n = duration_fields duration h.1.0 in (
      is_open_bracket,
      (
        is_open_parenthesis,
        AreWords-append (start_words start) _ s.are (
          is_close_parenthesis,
          (
            is_open_brace,
            AreWords-append (duration_words duration) _ n.are
                (is_close_brace, (is_close_bracket, tt)),
          ),
        ),
      ),
    )
all_words (Joined op left right) h = (
  is_open_bracket,
  AreWords-append (canonical_words left) _ (all_words left h.0)
      (op_is_word op, AreWords-append (canonical_words right) _ (all_words right h.1) (is_close_bracket, tt)),
)

-- ---- they stand for the expression

basic_stands : (start : StartParts) (duration : DurationParts) → IsStart start → IsDuration duration
    → Stands Item (basic_tokens (kinds_of (start_words start)) (kinds_of (duration_words duration)))
    (Single start duration)
basic_stands start duration h k =
    let s = start_fields start h in
    let n = duration_fields duration k.0 in
    let from = kinds_of (start_words start) in
    let long = kinds_of (duration_words duration) in
    subst (λ (p : StartParts). Stands Item (basic_tokens from long) (Single p duration)) s.same
    (subst (λ (p : DurationParts). Stands Item (basic_tokens from long) (Single (with_start_fields no_parts from) p)) n.same
    (basic from long (start_some start h) (computed_starts from s.fit) (or_zero_some (shown_words (duration_shown duration)))
    (computed_durations long n.fit)))

op_stands : (op : Op) (left right : List TokenKind) (a b : Tree) → Stands Item left a → Stands Item right b
    → Stands Sum (left ++ (op_word op).0 ∷ right) (Joined op a b)
op_stands Union left right a b d k = union left right a b (product left a (item left a d)) (item right b k)
op_stands Meet left right a b d k = product (left ++ Star ∷ right) (Joined Meet a b) (meet left right a b (item left a d) k)
op_stands OpMinus left right a b d k = minus left right a b (product left a (item left a d)) (item right b k)

pub kinds_single : (start : StartParts) (duration : DurationParts) → kinds_of (canonical_words (Single start duration))
    ≡ OpenBracket ∷ (basic_tokens (kinds_of (start_words start)) (kinds_of (duration_words duration)) ++ CloseBracket
    ∷ [])
kinds_single start duration =
    let from = kinds_of (start_words start) in
    ap (λ (l : List TokenKind). OpenBracket ∷ OpenParenthesis ∷ l) (
    kinds_of-append (start_words start) (close_parenthesis ∷ open_brace
    ∷ (duration_words duration ++ close_brace ∷ close_bracket ∷ []))
    ∙ ap (λ (l : List TokenKind). from ++ CloseParenthesis ∷ OpenBrace ∷ l)
    (kinds_of-append (duration_words duration) (close_brace ∷ close_bracket ∷ [])))
    ∙ simp append_assoc

pub kinds_joined : (op : Op) (left right : Tree) → kinds_of (canonical_words (Joined op left right)) ≡ OpenBracket
    ∷ ((kinds_of (canonical_words left) ++ (op_word op).0 ∷ kinds_of (canonical_words right)) ++ CloseBracket ∷ [])
kinds_joined op left right =
    ap (λ (l : List TokenKind). OpenBracket ∷ l) (
    kinds_of-append (canonical_words left) (op_word op ∷ (canonical_words right ++ close_bracket ∷ []))
    ∙ ap (λ (l : List TokenKind). kinds_of (canonical_words left) ++ (op_word op).0 ∷ l)
    (kinds_of-append (canonical_words right) (close_bracket ∷ [])))
    ∙ simp append_assoc

pub item_stands : (e : Tree) → AreValid e → Stands Item (kinds_of (canonical_words e)) e
item_stands (Single start duration) h =
    let own = basic_tokens (kinds_of (start_words start)) (kinds_of (duration_words duration)) in
    let d = basic_stands start duration h.0 h.1 in
    subst (λ (l : List TokenKind). Stands Item l (Single start duration)) (sym (kinds_single start duration))
    (bracketed own (Single start duration) (product own (Single start duration) (item own (Single start duration) d)))
item_stands (Joined op left right) h =
    let own = kinds_of (canonical_words left) ++ (op_word op).0 ∷ kinds_of (canonical_words right) in
    subst (λ (l : List TokenKind). Stands Item l (Joined op left right)) (sym (kinds_joined op left right))
    (bracketed own (Joined op left right) (op_stands op (kinds_of (canonical_words left))
    (kinds_of (canonical_words right)) left right (item_stands left h.0) (item_stands right h.1)))

-- the tokens of the canonical text
abbrev pub canonical_tokens : Tree → List Token
canonical_tokens e = placed 0 (canonical_words e)

pub canonical_read : (e : Tree) → AreValid e → AreTokens (canonical e) (canonical_tokens e)
canonical_read e h = subst (λ (l : List ℕ). AreTokens l (canonical_tokens e)) (words_text e h)
    (are_tokens (canonical_words e) (all_words e h))

pub canonical_stand : (e : Tree) → AreValid e → Stands Sum (kinds (canonical_tokens e)) e
canonical_stand e h =
    let own = kinds_of (canonical_words e) in
    subst (λ (l : List TokenKind). Stands Sum l e) (sym (kinds-placed 0 (canonical_words e)))
    (product own e (item own e (item_stands e h)))

pub canonical_stands : (e : Tree) → AreValid e → StandsFor (canonical e) e
canonical_stands e h = record {
  tokens = canonical_tokens e;
  read = tokens_of_parts (canonical e) (canonical_tokens e) (canonical_read e h);
  stand = canonical_stand e h;
}
