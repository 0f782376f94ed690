-- Words give one command at most, and a command has one plan or one first fault.
use Rattle.std.proofs.Common.{◌≡◌, ◌∙◌, ◌⊎◌, inl, inr, ap, sym, subst, refl, true, false, true≢false, List}
use Rattle.std.proofs.Common.{Bool, Option, arith, [], ◌∷◌, length, map}
use Rattle.std.specs.Prelude.{Result, Ok, Err, MatchResult}
use Rattle.clap.specs.Faults.{fault_of}
use Rattle.clap.specs.Kinds.{HasKind, IsAmong}
use Rattle.clap.specs.Simple.{subcommand_rows_of}
use Rattle.clap.specs.Values.{kind_of}
use Rattle.clap.specs.declared.error.Error.{Error}
use Rattle.clap.specs.declared.error.kind.ErrorKind.{ErrorKind}
use Rattle.clap.specs.declared.error.kind.ErrorKind.TheVariants as error
use Rattle.clap.specs.declared.parser.matches.ArgMatches.{ArgMatches}
use Rattle.gtdesk_plans.specs.Arguments.{Text}
use Rattle.gtdesk_plans.specs.CommandLine.{HasWords, desk_app, is_memory, is_request}
use Rattle.gtdesk_plans.specs.Commands.{words_of}
use Rattle.gtdesk_plans.specs.Given.{AreMistaken, Give, Given, asked_words, given_by, given_in, help_words}
use Rattle.gtdesk_plans.specs.Plans.{AreRefused, AskFor, Asks, IsRefused, IsShown, IsWordFault}
use Rattle.gtdesk_words.specs.facts.Readings.{no_first_fault, one_first}
use Rattle.gtdesk_plans.proofs.StandFacts.{all_stand}
use Rattle.gtdesk_plans.specs.declared.plans.Plan.{Plan}
use Rattle.gtdesk_words.specs.declared.refusal.WordFault.{WordFault}
use Rattle.gtdesk_words.specs.declared.refusal.WordsRefusal.{WordsRefusal}
use Rattle.gtdesk_words.specs.declared.refusal.WordsRefusal.TheVariants as refusal

abbrev ok_or : {T E : Type 0} → Result T E → T → T
ok_or (Ok x) other = x
ok_or (Err why) other = other

abbrev is_ok : {T E : Type 0} → Result T E → Bool
is_ok (Ok x) = true
is_ok (Err why) = false

one_read : {T E : Type 0} (r : Result T E) (x y : T) → r ≡ Ok x → r ≡ Ok y → x ≡ y
one_read r x y e f = ap (λ (p : Result _ _). ok_or p x) (sym e ∙ f)

none_read : {T E : Type 0} (r : Result T E) (x : T) (why : E) → r ≡ Ok x → r ≡ Err why → ⊥
none_read r x why e f = true≢false (ap is_ok (sym e ∙ f))

-- ---- words of which there may be none

pub asked_none : {A : Type 0} (f : A → Text) (words : List A) → length words ≡ 0 → asked_words (map f words) ≡ help_words
asked_none f [] e = refl
asked_none f (word ∷ words) e = absurd (omega (arith, e))

pub asked_some : {A : Type 0} (f : A → Text) (words : List A) (word : A) (rest : List A) → words ≡ word ∷ rest
    → asked_words (map f words) ≡ map f words
asked_some f words word rest e = subst (λ (x : List _). asked_words (map f x) ≡ map f x) (sym e) refl

-- ---- what a command line is answered

one_given : (words : List Text) (g h : Given) → Give words g → Give words h → g ≡ h
one_given words g h a b = one_read (given_by words) g h a.is b.is

none_among : (words : List Text) (given : Given) → Give words given → (kind : ErrorKind)
    → IsAmong kind (fault_of desk_app words) → ⊥
none_among words given give kind among = subst (λ kinds. IsAmong kind kinds) give.faultless among

not_mistaken : (words : List Text) (told : Text) (meant : Option Text) (given : Given) → Give words given
    → AreMistaken words told meant → ⊥
not_mistaken words told meant given give (inl x) = none_among words given give x.0 x.1
not_mistaken words told meant given give (inr x) = none_read (given_by words) given x.0 give.is x.2

refused_word : (words : List Text) (given : Given) (fault : WordFault) → Give words given
    → ((g : Given) × Give words g × IsWordFault g (refusal.Word fault)) → IsWordFault given (refusal.Word fault)
refused_word words given fault give x =
    subst (λ (g : Given). IsWordFault g (refusal.Word fault)) (one_given words x.0 given x.1 give) x.2

pub only_asked : (words : List Text) (result : Result Plan WordsRefusal)
    → MatchResult result (AskFor words) (AreRefused words) → (given : Given) → Give words given
    → MatchResult result (Asks given) (IsRefused given)
only_asked words (Ok p) (AskFor.command g gives asks) given give =
    subst (λ (x : Given). Asks x p) (one_given words g given gives give) asks
only_asked words (Ok p) (AskFor.text kind asks shown) given give = absurd (none_among words given give kind asks.0)
only_asked words (Err (refusal.Usage told meant)) is given give = absurd (not_mistaken words told.now _ given give is)
only_asked words (Err (refusal.Word fault)) is given give = refused_word words given fault give is
only_asked words (Err refusal.Memory) is given give = tt

first_of_two : (given : Given) (r s : WordsRefusal) → IsWordFault given r → IsRefused given s
    → (s ≡ refusal.Memory) ⊎ (s ≡ r)
first_of_two given (refusal.Usage told meant) s h k = absurd h
first_of_two given (refusal.Word fault) (refusal.Usage told meant) h k = absurd k
first_of_two given (refusal.Word fault) (refusal.Word other) h k =
    inr (ap refusal.Word (one_first (words_of given.form given.rows) other fault k h))
first_of_two given (refusal.Word fault) refusal.Memory h k = inl refl
first_of_two given refusal.Memory s h k = absurd h

no_word_fault : (given : Given) (p : Plan) (r : WordsRefusal) → Asks given p → IsWordFault given r → ⊥
no_word_fault given p (refusal.Usage told meant) is h = h
no_word_fault given p (refusal.Word fault) is h =
    no_first_fault (words_of given.form given.rows) fault (all_stand given.form given.rows p is) h
no_word_fault given p refusal.Memory is h = h

pub first_word : (given : Given) (result : Result Plan WordsRefusal) → MatchResult result (Asks given) (IsRefused given)
    → (r : WordsRefusal) → IsWordFault given r → MatchResult result (λ p. ⊥) (λ s. (s ≡ refusal.Memory) ⊎ (s ≡ r))
first_word given (Ok p) is r h = no_word_fault given p r is h
first_word given (Err s) is r h = first_of_two given r s h is

pub planned_words : (given : Given) (result : Result Plan WordsRefusal) → MatchResult result (Asks given) (IsRefused given)
    → ((r : WordsRefusal) → IsWordFault given r → ⊥) → MatchResult result (Asks given) (λ s. s ≡ refusal.Memory)
planned_words given (Ok p) is none = is
planned_words given (Err (refusal.Usage told meant)) is none = absurd is
planned_words given (Err (refusal.Word fault)) is none = absurd (none (refusal.Word fault) is)
planned_words given (Err refusal.Memory) is none = refl

-- ---- what is answered for the command that the matches hold

pub give_of : (words : List Text) (m : ArgMatches) (given : Given) → HasWords words m
    → given_in (subcommand_rows_of m) ≡ Ok given → Give words given
give_of words m given has e = record { faultless = has.faultless; is = ap given_in (sym has.entered) ∙ e }

pub answered : (words : List Text) (given : Given) (result : Result Plan WordsRefusal) → Give words given
    → MatchResult result (Asks given) (IsRefused given) → MatchResult result (AskFor words) (AreRefused words)
answered words given (Ok p) give asks = AskFor.command given give asks
answered words given (Err (refusal.Usage told meant)) give h = absurd h
answered words given (Err (refusal.Word fault)) give h = (given, give, h)
answered words given (Err refusal.Memory) give h = tt

-- ---- what is answered for an error of the library

is_memory_of : (kind : ErrorKind) → kind ≡ error.OutOfMemory → is_memory kind ≡ true
is_memory_of kind e = ap is_memory e

among_of : (words : List Text) (e : Error) → HasKind (fault_of desk_app words) e → is_memory (kind_of e) ≡ false
    → IsAmong (kind_of e) (fault_of desk_app words)
among_of words e (inl memory) none = absurd (true≢false (sym (is_memory_of (kind_of e) memory) ∙ none))
among_of words e (inr among) none = among

pub shown : (words : List Text) (e : Error) (result : Result Plan WordsRefusal) → HasKind (fault_of desk_app words) e
    → is_memory (kind_of e) ≡ false → is_request (kind_of e) ≡ true
    → MatchResult result (IsShown (kind_of e)) (λ r. r ≡ refusal.Memory)
    → MatchResult result (AskFor words) (AreRefused words)
shown words e (Ok p) has none is asked = AskFor.text (kind_of e) (among_of words e has none, is) asked
shown words e (Err r) has none is memory = subst (λ (x : WordsRefusal). AreRefused words x) (sym memory) tt
