-- What `clap` makes of a command line of `gtd`.
use Rattle.std.proofs.Common.{◌≡◌, ◌∙◌, ◌&&◌, ◌⊎◌, ℕ, Bool, cond, codes, true, false, refl, sym, ap, subst, arith, List, [], ◌∷◌}
use Rattle.std.proofs.Common.{◌++◌, map, length, Option, Some, None, inl, inr, is_some, true≢false, option_map, append_assoc}
use Rattle.std.proofs.Common.{append-nil, eqb-true}
use Rattle.std.specs.Prelude.{⊤, encode_utf8, encode_utf8_all, ◌==◌, slice_get, fold, find}
use Rattle.std.specs.List.{list_any}
use Rattle.std.specs.Str.{bytes_eq, chars, IsUtf8}
use Rattle.clap.specs.Lexer.{long_of, short_of, name_and_value}
use Rattle.clap.specs.Walk.{finished, rows_after, Held, Names, Row, Rule, Walk, Waiting, idle, positional, all_of, answers_to}
use Rattle.clap.specs.Walk.{nothing_held, positional_held, reading_by, settled, walk_from, walked}
use Rattle.clap.specs.Simple.{App, HasMatchesOf, Shape, built, built_leaf, entered, filled, inherited, is_simple, label_of}
use Rattle.clap.specs.Simple.{subcommand_of, subcommand_rows_of, with_index}
use Rattle.clap.specs.Kinds.{HasKind, IsAmong, Kinds, or_else}
use Rattle.clap.specs.Values.{kind_of}
use Rattle.clap.specs.Faults.{bundle_fault, check_fault, defaults_fault, entered_fault, settle_fault, fault_of, flags_fault}
use Rattle.clap.specs.Faults.{is_simple_and_free, level_fault, turn_fault, walk_fault}
use Rattle.clap.specs.declared.error.Error.{Error}
use Rattle.clap.specs.declared.error.kind.ErrorKind.{ErrorKind}
use Rattle.clap.specs.declared.error.kind.ErrorKind.TheVariants.{InvalidSubcommand, OutOfMemory, UnknownArgument}
use Rattle.clap.specs.declared.parser.matches.ArgMatches.{ArgMatches}
use Rattle.clap.specs.declared.parser.matches.ValueSource.TheVariants.{CommandLine}
use Rattle.clap.proofs.WalkLemmas.{walk_stopped}
use Rattle.std.proofs.lemmas.Str.{chars_past_char, encode_ascii, encodes-chars}
use Rattle.std.specs.Cmp.Lexicographic.{same_text}
use Rattle.gtd_tool.specs.ClapCommand.{HasGiven, found_words, gtd_app, id, is_memory, leaf_given, top_given, word_rule}
use Rattle.gtd_tool.specs.CommandLines.{is_command, is_option, plain_words, named_in}
use Rattle.gtd_tool.specs.Commands.{command_names}
use Rattle.gtd_tool.specs.Asked.{Text}
use Rattle.gtd_tool.specs.declared.refusal.Refusal.{Refusal}
use Rattle.gtd_tool.specs.declared.refusal.Refusal.TheVariants.{Memory, Usage}

-- ---- the command

gtd_is_simple : is_simple gtd_app ≡ true
gtd_is_simple = refl

gtd_is_free : is_simple_and_free gtd_app ≡ true
gtd_is_free = refl

-- ---- a subcommand's words

abbrev rule : Rule
rule = with_index 1 (filled word_rule)

abbrev rules : List Rule
rules = rule ∷ []

abbrev leaf : Text → Shape
leaf name = built_leaf (inherited top_given (leaf_given name))

-- what was read so far: nothing, or words of which the last waits for its use
data Read : Type 0 where
  nothing : Read
  some : List Text → Text → Read

abbrev words_of : Read → List Text
words_of nothing = []
words_of (some seen last) = seen ++ last ∷ []

abbrev row : List Text → Row
row words = record { id = id; values = words; count = None; source = Some CommandLine; reading = reading_by rule }

abbrev rows_for : List Text → List Row
rows_for [] = []
rows_for (v ∷ vs) = row (v ∷ vs) ∷ []

abbrev held_at : Read → Held
held_at nothing = nothing_held
held_at (some seen last) = record { rows = rows_for seen; pending = Some (id, last ∷ []); skip = 0 }

abbrev walk_at : Read → Waiting → Bool → Walk
walk_at r waiting trailing = record { held = held_at r; waiting = waiting; position = 1; is_trailing = trailing; stopped = None }

next_held : (r : Read) (x : Text) → positional_held rules rule x (held_at r) ≡ held_at (some (words_of r) x)
next_held nothing x = refl
next_held (some [] last) x = refl
next_held (some (v ∷ vs) last) x = refl

abbrev after : Read → List Text → Read
after r [] = r
after r (x ∷ xs) = after (some (words_of r) x) xs

words_after : (r : Read) (xs : List Text) → words_of (after r xs) ≡ words_of r ++ xs
words_after r [] = sym (append-nil (words_of r))
words_after r (x ∷ xs) = words_after (some (words_of r) x) xs ∙ append_assoc (words_of r) (x ∷ []) xs

-- ---- after `--`

trail_walk : (r : Read) (w : Waiting) (rest : List Text) → (fold (walked rules []) (walk_at r w true) rest).held
    ≡ held_at (after r rest)
unfolding walked
trail_walk r w [] = refl
trail_walk r w (x ∷ xs) =
    ap (λ (h : Held). (fold (walked rules []) (record {
      held = h;
      waiting = positional;
      position = 1;
      is_trailing = true;
      stopped = None;
    }) xs).held) (next_held r x)
    ∙ trail_walk (some (words_of r) x) positional xs

trail_turn : (name : Text) (r : Read) (w : Waiting) (x : Text) → turn_fault (leaf name) [] (walk_at r w true) x ≡ []
trail_turn name nothing w x = refl
trail_turn name (some seen last) w x = refl

trail_fault : (name : Text) (r : Read) (w : Waiting) (rest : List Text) → walk_fault (leaf name) [] (walk_at r w true) rest ≡ []
unfolding walked walk_fault
trail_fault name r w [] = refl
trail_fault name r w (x ∷ xs) =
    ap (λ (k : Kinds). or_else k (walk_fault (leaf name) [] (walked rules [] (walk_at r w true) x) xs)) (trail_turn name r w x)
    ∙ ap (λ (h : Held). walk_fault (leaf name) [] (record {
      held = h;
      waiting = positional;
      position = 1;
      is_trailing = true;
      stopped = None;
    }) xs) (next_held r x)
    ∙ trail_fault name (some (words_of r) x) positional xs

-- ---- what a word looks like

abbrev dashes : Text
dashes = codes "--"

data WordKind (word : Text) : Type 0 where
  -- `--name`
  long : (p : Text × Option Text) → long_of word ≡ Some p → is_option word ≡ true → WordKind word
  -- `-abc`
  short : (f : ℕ) (fs : Text) (x : ℕ) → long_of word ≡ None → short_of word ≡ Some (f ∷ fs) → slice_get (chars (f ∷ fs)) 0
      ≡ Some x → is_option word ≡ true → WordKind word
  -- any other
  bare : long_of word ≡ None → short_of word ≡ None → is_option word ≡ false → WordKind word

-- bytes after a hyphen that spell no character are not the rest of a text
chars_after_hyphen : (first y : ℕ) (zs : Text) → first ≡ 45 → IsUtf8 (first ∷ y ∷ zs) → chars (y ∷ zs) ≡ [] → ⊥
chars_after_hyphen first y zs e text none =
    let hyphen : encode_utf8 45 ≡ 45 ∷ [] = encode_ascii 45 (omega arith) in
    let spelt : chars (first ∷ y ∷ zs) ≡ 45 ∷ [] =
    chars_past_char (first ∷ y ∷ zs) (y ∷ zs) 45 text (ap (λ (n : ℕ). n ∷ y ∷ zs) e
    ∙ ap (λ (bs : Text). bs ++ y ∷ zs) (sym hyphen))
    ∙ ap (λ (cs : Text). 45 ∷ cs) none in
    let back : first ∷ y ∷ zs ≡ 45 ∷ [] =
    sym (encodes-chars (first ∷ y ∷ zs) text) ∙ ap encode_utf8_all spelt ∙ ap (λ (bs : Text). bs ++ []) hyphen in
    let lengths : length (first ∷ y ∷ zs) ≡ 1 = ap length back in
    absurd (omega arith)

after_hyphen : (first y : ℕ) (zs : Text) (b : Bool) → (first == 45) ≡ true → (y == 45) ≡ b → bytes_eq (first ∷ y ∷ zs) dashes
    ≡ false
    → IsUtf8 (first ∷ y ∷ zs) → WordKind (first ∷ y ∷ zs)
after_hyphen first y [] true e f other text = absurd (true≢false (sym (rw (e, f) refl) ∙ other))
after_hyphen first y (z ∷ zs) true e f other text = long (name_and_value (z ∷ zs)) (rw (e, f) refl) e
after_hyphen first y zs false e f other text = by_chars (chars (y ∷ zs)) refl
  where
    by_chars : (cs : Text) → chars (y ∷ zs) ≡ cs → WordKind (first ∷ y ∷ zs)
    by_chars [] g = absurd (chars_after_hyphen first y zs (eqb-true _ _ e) text g)
    by_chars (c ∷ cs) g = short y zs c (rw (e, f) refl) (rw (e, f) refl) (ap (λ (t : Text). slice_get t 0) g) e

kind_at : (first : ℕ) (rest : Text) (b : Bool) → (first == 45) ≡ b → bytes_eq (first ∷ rest) dashes ≡ false
    → IsUtf8 (first ∷ rest) → WordKind (first ∷ rest)
kind_at first [] false e other text = bare (rw e refl) (rw e refl) refl
kind_at first [] true e other text = bare (rw e refl) (rw e refl) refl
kind_at first (y ∷ zs) false e other text = bare (rw e refl) (rw e refl) e
kind_at first (y ∷ zs) true e other text = after_hyphen first y zs (y == 45) e refl other text

kind_of_word : (word : Text) → bytes_eq word dashes ≡ false → IsUtf8 word → WordKind word
kind_of_word [] other text = bare refl refl refl
kind_of_word (first ∷ rest) other text = kind_at first rest (first == 45) refl other text

-- each word is a text
abbrev pub AreTexts : List Text → Type 0
AreTexts [] = ⊤
AreTexts (word ∷ rest) = IsUtf8 word × AreTexts rest

-- ---- the words of a subcommand

abbrev wait_of : Read → Waiting
wait_of nothing = idle
wait_of (some seen last) = positional

abbrev unknown : Kinds
unknown = UnknownArgument ∷ []

dash_turn : (name : Text) (r : Read) (word : Text) → bytes_eq word dashes ≡ true
    → turn_fault (leaf name) [] (walk_at r (wait_of r) false) word ≡ []
dash_turn name nothing word e = rw e refl
dash_turn name (some seen last) word e = rw e refl

dash_walk : (r : Read) (word : Text) → bytes_eq word dashes ≡ true → walked rules [] (walk_at r (wait_of r) false) word
    ≡ walk_at r (wait_of r) true
unfolding walked
dash_walk nothing word e = rw e refl
dash_walk (some seen last) word e = rw e refl

-- a bundle of flags that the command has not
bundle_refused : (h : Held) (f : ℕ) (fs : Text) (x : ℕ) → slice_get (chars (f ∷ fs)) 0 ≡ Some x → h.skip ≡ 0
    → bundle_fault rules false (f ∷ fs) h ≡ unknown
unfolding flags_fault
bundle_refused h f fs x e none = rw (none, e) refl

option_turn : (name : Text) (r : Read) (word : Text) → bytes_eq word dashes ≡ false → is_option word ≡ true → WordKind word
    → turn_fault (leaf name) [] (walk_at r (wait_of r) false) word ≡ unknown
option_turn name nothing word e o (long p l _) = rw (e, l) refl
option_turn name (some seen last) word e o (long p l _) = rw (e, l) refl
option_turn name nothing word e o (short f fs x l s c _) = rw (e, l, s, bundle_refused nothing_held f fs x c refl) refl
option_turn name (some seen last) word e o (short f fs x l s c _) =
    rw (e, l, s, bundle_refused (held_at (some seen last)) f fs x c refl) refl
option_turn name r word e o (bare l s is) = absurd (true≢false (sym o ∙ is))

word_turn : (name : Text) (r : Read) (word : Text) → bytes_eq word dashes ≡ false → is_option word ≡ false → WordKind word
    → turn_fault (leaf name) [] (walk_at r (wait_of r) false) word ≡ []
word_turn name r word e o (long p l is) = absurd (true≢false (sym is ∙ o))
word_turn name r word e o (short f fs x l s c is) = absurd (true≢false (sym is ∙ o))
word_turn name nothing word e o (bare l s _) = rw (e, l, s) refl
word_turn name (some seen last) word e o (bare l s _) = rw (e, l, s) refl

word_walk : (r : Read) (word : Text) → bytes_eq word dashes ≡ false → is_option word ≡ false → WordKind word
    → walked rules [] (walk_at r (wait_of r) false) word ≡ walk_at (some (words_of r) word) positional false
unfolding walked
word_walk r word e o (long p l is) = absurd (true≢false (sym is ∙ o))
word_walk r word e o (short f fs x l s c is) = absurd (true≢false (sym is ∙ o))
word_walk nothing word e o (bare l s _) = rw (e, l, s) refl
word_walk (some [] last) word e o (bare l s _) = rw (e, l, s) refl
word_walk (some (v ∷ vs) last) word e o (bare l s _) = rw (e, l, s) refl

-- ---- a whole subcommand

abbrev Reads : Text → Read → List Text → Option (List Text) → Type 0
Reads name r rest None = walk_fault (leaf name) [] (walk_at r (wait_of r) false) rest ≡ unknown
Reads name r rest (Some words) = (walk_fault (leaf name) [] (walk_at r (wait_of r) false) rest ≡ [])
    × ((fold (walked rules []) (walk_at r (wait_of r) false) rest).held ≡ held_at (after r words))

-- after a word that stands for itself
one_more : (name : Text) (r : Read) (word : Text) (rest : List Text) (o : Option (List Text))
    → turn_fault (leaf name) [] (walk_at r (wait_of r) false) word ≡ []
    → walked rules [] (walk_at r (wait_of r) false) word ≡ walk_at (some (words_of r) word) positional false
    → Reads name (some (words_of r) word) rest o → Reads name r (word ∷ rest) (option_map (λ words. word ∷ words) o)
unfolding walk_fault
one_more name r word rest None t s h =
    ap (λ (k : Kinds). or_else k (walk_fault (leaf name) [] (walked rules [] (walk_at r (wait_of r) false) word) rest)) t
    ∙ ap (λ (w : Walk). walk_fault (leaf name) [] w rest) s ∙ h
one_more name r word rest (Some words) t s h = (
  ap (λ (k : Kinds). or_else k (walk_fault (leaf name) [] (walked rules [] (walk_at r (wait_of r) false) word) rest)) t
      ∙ ap (λ (w : Walk). walk_fault (leaf name) [] w rest) s ∙ h.0,
  ap (λ (w : Walk). (fold (walked rules []) w rest).held) s ∙ h.1,
)

after_dashes : (name : Text) (r : Read) (word : Text) (rest : List Text) → bytes_eq word dashes ≡ true
    → Reads name r (word ∷ rest) (Some rest)
unfolding walk_fault
after_dashes name r word rest e = (
  ap (λ (k : Kinds). or_else k (walk_fault (leaf name) [] (walked rules [] (walk_at r (wait_of r) false) word) rest))
      (dash_turn name r word e)
      ∙ ap (λ (w : Walk). walk_fault (leaf name) [] w rest) (dash_walk r word e) ∙ trail_fault name r (wait_of r) rest,
  ap (λ (w : Walk). (fold (walked rules []) w rest).held) (dash_walk r word e) ∙ trail_walk r (wait_of r) rest,
)

an_option : (name : Text) (r : Read) (word : Text) (rest : List Text) → bytes_eq word dashes ≡ false → is_option word ≡ true
    → IsUtf8 word → Reads name r (word ∷ rest) None
unfolding walk_fault
an_option name r word rest e o text =
    ap (λ (k : Kinds). or_else k (walk_fault (leaf name) [] (walked rules [] (walk_at r (wait_of r) false) word) rest))
    (option_turn name r word e o (kind_of_word word e text))

by_dash : (name : Text) (r : Read) (word : Text) (rest : List Text) (b o : Bool) → bytes_eq word dashes ≡ b → is_option word ≡ o
    → IsUtf8 word
    → Reads name (some (words_of r) word) rest (plain_words rest)
    → Reads name r (word ∷ rest) (cond b (Some rest) (cond o None (option_map (λ words. word ∷ words) (plain_words rest))))
by_dash name r word rest true o e f text more = after_dashes name r word rest e
by_dash name r word rest false true e f text more = an_option name r word rest e f text
by_dash name r word rest false false e f text more = one_more name r word rest (plain_words rest)
    (word_turn name r word e f (kind_of_word word e text))
    (word_walk r word e f (kind_of_word word e text)) more

leaf_reads : (name : Text) (r : Read) (rest : List Text) → AreTexts rest → Reads name r rest (plain_words rest)
unfolding walk_fault
leaf_reads name r [] texts = (refl, refl)
leaf_reads name r (word ∷ rest) texts =
    by_dash name r word rest (bytes_eq word dashes) (is_option word) refl refl texts.0
    (leaf_reads name (some (words_of r) word) rest texts.1)

abbrev end_fault : Text → Held → Kinds
end_fault name end = or_else (settle_fault rules false end)
    (or_else (defaults_fault (settled rules end).rows rules) (check_fault (leaf name) (finished rules end) false))

end_passes : (name : Text) (r : Read) → end_fault name (held_at r) ≡ []
unfolding defaults_fault
end_passes name nothing = refl
end_passes name (some [] last) = refl
end_passes name (some (v ∷ vs) last) = refl

row_words : (r : Read) → all_of id (finished rules (held_at r)) ≡ found_words (words_of r)
row_words nothing = refl
row_words (some [] last) = refl
row_words (some (v ∷ vs) last) = refl

abbrev leaf_fault : Text → List Text → Kinds
leaf_fault name rest = level_fault (leaf name) [] nothing_held rest false []

abbrev IsRefusedBy : Kinds → Type 0
IsRefusedBy [] = ⊥
IsRefusedBy (k ∷ ks) = ⊤

refused_first : (a b : Kinds) → a ≡ unknown → IsRefusedBy (or_else a b)
refused_first a b e = rw e tt

abbrev LeafReads : Text → List Text → Option (List Text) → Type 0
LeafReads name rest None = IsRefusedBy (leaf_fault name rest)
LeafReads name rest (Some words) = (leaf_fault name rest ≡ []) × (all_of id (rows_after rules [] rest) ≡ found_words words)

leaf_level : (name : Text) (rest : List Text) (o : Option (List Text)) → Reads name nothing rest o → LeafReads name rest o
leaf_level name rest None h = refused_first _ _ h
leaf_level name rest (Some words) h = (
  ap (λ (k : Kinds). or_else k (end_fault name (fold (walked rules []) (walk_at nothing idle false) rest).held)) h.0
      ∙ ap (end_fault name) h.1 ∙ end_passes name (after nothing words),
  ap (λ (e : Held). all_of id (finished rules e)) h.1 ∙ row_words (after nothing words)
      ∙ ap found_words (words_after nothing words),
)

-- ---- the command above

abbrev label : Text → Text × List Text
label name = (name, [])

abbrev top : Shape
top = (built gtd_app).top

abbrev names : Names
names = map label command_names

-- a name among these is met, and its subcommand is found
name_met : (word : Text) (cs : List Text) → find (answers_to word) (map label cs)
    ≡ cond (list_any (λ c. bytes_eq c word) cs) (Some (label word)) None
name_met word [] = refl
name_met word (c ∷ cs) = go (bytes_eq c word) refl (name_met word cs)
  where
    go : (b : Bool) → bytes_eq c word ≡ b → find (answers_to word) (map label cs)
        ≡ cond (list_any (λ d. bytes_eq d word) cs) (Some (label word)) None
        → find (answers_to word) (map label (c ∷ cs)) ≡ cond (list_any (λ d. bytes_eq d word) (c ∷ cs)) (Some (label word)) None
    go true e more = rw e (ap (λ (t : Text). Some (label t)) (same_text c word (sym e)))
    go false e more = rw e more

sub_met : (word : Text) (cs : List Text) → find (λ s. answers_to word (label_of s)) (map leaf cs)
    ≡ cond (list_any (λ c. bytes_eq c word) cs) (Some (leaf word)) None
sub_met word [] = refl
sub_met word (c ∷ cs) = go (bytes_eq c word) refl (sub_met word cs)
  where
    go : (b : Bool) → bytes_eq c word ≡ b → find (λ s. answers_to word (label_of s)) (map leaf cs)
        ≡ cond (list_any (λ d. bytes_eq d word) cs) (Some (leaf word)) None
        → find (λ s. answers_to word (label_of s)) (map leaf (c ∷ cs))
        ≡ cond (list_any (λ d. bytes_eq d word) (c ∷ cs)) (Some (leaf word)) None
    go true e more = rw e (ap (λ (t : Text). Some (leaf t)) (same_text c word (sym e)))
    go false e more = rw e more

-- after the name the words are left to the subcommand
stopped_fault : (w : Walk) (name : Text) (seen rest : List Text)
    → walk_fault top names (record w { stopped = Some (name, seen) }) rest ≡ []
unfolding walked walk_fault
stopped_fault w name seen [] = refl
stopped_fault w name seen (x ∷ xs) = stopped_fault w name (seen ++ x ∷ []) xs

abbrev start : Walk
start = walk_from nothing_held

and_false : (b : Bool) → (b && false) ≡ false
and_false true = refl
and_false false = refl

name_turn : (name : Text) → is_command name ≡ true → turn_fault top names start name ≡ []
name_turn name e = rw (name_met name command_names, e, and_false (bytes_eq name (codes "help"))) refl

name_walk : (name : Text) → is_command name ≡ true → walked [] names start name ≡ record start { stopped = Some (name, []) }
unfolding walked
name_walk name e = rw (name_met name command_names, e) refl

-- the words after a command's name go to its subcommand
abbrev after_name : Text → List Text → Walk
after_name name rest = record start { stopped = Some (name, rest) }

name_walks : (name : Text) (rest : List Text) → is_command name ≡ true → fold (walked [] names) start (name ∷ rest)
    ≡ after_name name rest
name_walks name rest e = ap (λ (w : Walk). fold (walked [] names) w rest) (name_walk name e)
    ∙ sym (walk_stopped [] names start name [] rest)

name_passes : (name : Text) (rest : List Text) → is_command name ≡ true → walk_fault top names start (name ∷ rest) ≡ []
unfolding walk_fault
name_passes name rest e =
    ap (λ (k : Kinds). or_else k (walk_fault top names (walked [] names start name) rest)) (name_turn name e)
    ∙ ap (λ (w : Walk). walk_fault top names w rest) (name_walk name e) ∙ stopped_fault start name [] rest

abbrev sub_fault : Option (Text × List Text) → Kinds
sub_fault = entered_fault (built gtd_app)

entered_sub : (name : Text) (rest : List Text) → is_command name ≡ true → sub_fault (Some (name, rest)) ≡ leaf_fault name rest
entered_sub name rest e = rw (sub_met name command_names, e) refl

entered_rows : (name : Text) (rest : List Text) → is_command name ≡ true
    → entered (built gtd_app) (Some (name, rest)) ≡ Some (name, rows_after rules [] rest)
entered_rows name rest e = rw (sub_met name command_names, e) refl

-- the whole parse, by the walk over the words
abbrev by_walk : Kinds → Walk → Kinds
by_walk k w = or_else k (or_else (entered_fault (built gtd_app) w.stopped) (or_else (settle_fault [] false w.held)
    (or_else (defaults_fault (settled [] w.held).rows []) (check_fault top (finished [] w.held)
    (is_some (entered (built gtd_app) w.stopped))))))

or_else_none : (k : Kinds) → or_else k [] ≡ k
or_else_none [] = refl
or_else_none (x ∷ xs) = refl

command_fault : (name : Text) (rest : List Text) → is_command name ≡ true → fault_of gtd_app (name ∷ rest) ≡ leaf_fault name rest
unfolding defaults_fault
command_fault name rest e =
    ap (λ (k : Kinds). by_walk k (fold (walked [] names) start (name ∷ rest))) (name_passes name rest e)
    ∙ ap (by_walk []) (name_walks name rest e)
    ∙ ap (λ (o : Option (Text × List Row)). or_else (entered_fault (built gtd_app) (Some (name, rest)))
    (check_fault top [] (is_some o))) (entered_rows name rest e)
    ∙ or_else_none _ ∙ entered_sub name rest e

command_rows : (name : Text) (rest : List Text) → is_command name ≡ true → subcommand_of gtd_app (name ∷ rest)
    ≡ Some (name, rows_after rules [] rest)
command_rows name rest e =
    ap (λ (w : Walk). entered (built gtd_app) w.stopped) (name_walks name rest e) ∙ entered_rows name rest e

abbrev ClapReads : List Text → Option (Text × List Text) → Type 0
ClapReads words None = IsRefusedBy (fault_of gtd_app words)
ClapReads words (Some p) = (fault_of gtd_app words ≡ []) × ((rows : List Row) × (subcommand_of gtd_app words ≡ Some (p.0, rows))
    × (all_of id rows ≡ found_words p.1))

command_reads : (name : Text) (rest : List Text) (o : Option (List Text)) → is_command name ≡ true → LeafReads name rest o
    → ClapReads (name ∷ rest) (option_map (λ words. (name, words)) o)
command_reads name rest None e h = subst IsRefusedBy (sym (command_fault name rest e)) h
command_reads name rest (Some words) e h = (
  command_fault name rest e ∙ h.0,
  (rows_after rules [] rest, command_rows name rest e, h.1),
)

-- ---- a first word that is no command

top_bundle : (f : ℕ) (fs : Text) (x : ℕ) → slice_get (chars (f ∷ fs)) 0 ≡ Some x → bundle_fault [] false (f ∷ fs) nothing_held
    ≡ unknown
unfolding flags_fault
top_bundle f fs x e = rw e refl

abbrev Strays : Kinds → Type 0
Strays k = (k ≡ unknown) ⊎ (k ≡ UnknownArgument ∷ InvalidSubcommand ∷ [])

top_turn : (word : Text) → is_command word ≡ false → bytes_eq word dashes ≡ false → WordKind word
    → Strays (turn_fault top names start word)
top_turn word e d (long p l _) = inl (rw (name_met word command_names, e, d, l) refl)
top_turn word e d (short f fs x l s c _) = inl (rw (name_met word command_names, e, d, l, s, top_bundle f fs x c) refl)
top_turn word e d (bare l s _) = inr (rw (name_met word command_names, e, d, l, s) refl)

strays : (a b c : Kinds) → Strays a → IsRefusedBy (or_else (or_else a b) c)
strays a b c (inl h) = rw h tt
strays a b c (inr h) = rw h tt

top_dash : (word : Text) (rest : List Text) → is_command word ≡ false → bytes_eq word dashes ≡ true
    → IsRefusedBy (fault_of gtd_app (word ∷ rest))
unfolding walk_fault walked defaults_fault
top_dash word [] e d = rw (name_met word command_names, e, d) tt
top_dash word (x ∷ xs) e d = rw (name_met word command_names, e, d) tt

no_command : (word : Text) (rest : List Text) (d : Bool) → is_command word ≡ false → bytes_eq word dashes ≡ d → IsUtf8 word
    → IsRefusedBy (fault_of gtd_app (word ∷ rest))
unfolding walk_fault
no_command word rest true e d text = top_dash word rest e d
no_command word rest false e d text = strays _ _ _ (top_turn word e d (kind_of_word word d text))

by_command : (name : Text) (rest : List Text) (b : Bool) → is_command name ≡ b → AreTexts (name ∷ rest)
    → ClapReads (name ∷ rest) (cond b (option_map (λ words. (name, words)) (plain_words rest)) None)
by_command name rest true e texts =
    command_reads name rest (plain_words rest) e (leaf_level name rest (plain_words rest) (leaf_reads name nothing rest texts.1))
by_command name rest false e texts = no_command name rest (bytes_eq name dashes) e refl texts.0

-- `clap` refuses the words that give no command, and finds the command and its words in the others
clap_reads : (words : List Text) → AreTexts words → ClapReads words (named_in words)
unfolding walk_fault defaults_fault
clap_reads [] texts = tt
clap_reads (name ∷ rest) texts = by_command name rest (is_command name) refl texts

-- ---- what a parse answers

none_refuses : (k : Kinds) → IsRefusedBy k → k ≡ [] → ⊥
none_refuses k h e = subst IsRefusedBy e h

-- words that are taken give a command
taken : (words : List Text) (m : ArgMatches) (o : Option (Text × List Text)) → named_in words ≡ o → ClapReads words o
    → fault_of gtd_app words ≡ []
    → subcommand_rows_of m ≡ subcommand_of gtd_app words → HasGiven words m
taken words m None e h none rows = absurd (none_refuses _ h none)
taken words m (Some p) e h none rows = (p, h.1.0, e, rows ∙ h.1.1, h.1.2)

pub words_found : (a : App) → a ≡ gtd_app → (words : List Text) → AreTexts words → (m : ArgMatches)
    → (is_simple_and_free a ≡ true → fault_of a words ≡ []) → HasMatchesOf a words m → HasGiven words m
words_found a e words texts m none rows = taken words m (named_in words) refl (clap_reads words texts)
    (subst (λ (x : App). fault_of x words ≡ []) e (none (ap is_simple_and_free e ∙ gtd_is_free)))
    ((rows (ap is_simple e ∙ gtd_is_simple)).1 ∙ ap (λ (x : App). subcommand_of x words) e)

-- an error that is not for want of memory comes from words that give no command
refused : (words : List Text) (k : ErrorKind) (o : Option (Text × List Text)) → named_in words ≡ o → ClapReads words o
    → (k ≡ OutOfMemory) ⊎ IsAmong k (fault_of gtd_app words) → (r : Refusal) → r ≡ cond (is_memory k) Memory Usage
    → (r ≡ Memory) ⊎ ((r ≡ Usage) × (named_in words ≡ None))
refused words k o e h (inl memory) r is = inl (rw memory at is)
refused words k (Some p) e h (inr among) r is = absurd (subst (IsAmong k) h.0 among)
refused words k None e h (inr among) r is = by_kind (is_memory k) is
  where
    by_kind : (b : Bool) → r ≡ cond b Memory Usage → (r ≡ Memory) ⊎ ((r ≡ Usage) × (named_in words ≡ None))
    by_kind true f = inl f
    by_kind false f = inr (f, e)

pub words_refused : (a : App) → a ≡ gtd_app → (words : List Text) → AreTexts words → (error : Error)
    → (is_simple_and_free a ≡ true → HasKind (fault_of a words) error) → (r : Refusal)
    → r ≡ cond (is_memory (kind_of error)) Memory Usage → (r ≡ Memory) ⊎ ((r ≡ Usage) × (named_in words ≡ None))
words_refused a e words texts error kinds r is = refused words (kind_of error) (named_in words) refl (clap_reads words texts)
    (subst (λ (x : App). HasKind (fault_of x words) error) e (kinds (ap is_simple_and_free e ∙ gtd_is_free))) r is
