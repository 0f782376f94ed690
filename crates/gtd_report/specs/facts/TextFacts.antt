-- Texts of one kind put, and then texts of another.
use Rattle.std.proofs.Common.{◌≡◌, refl, ℕ, List, ◌++◌, Option}
use Rattle.std.specs.Prelude.{Result, Ok, Err}
use Rattle.std.specs.Io.KnownBytes.{Keeps}
use Rattle.gtd_report.specs.facts.PutFacts.{puts_cut, puts_ended, puts_then}
use Rattle.gtd_report.specs.Putting.{IsOne, Puts, PutsText}
use Rattle.gtd_report.specs.declared.output.Progress.{Progress}
use Rattle.gtd_report.specs.declared.output.Stop.{Stop}

-- a text of one kind, followed by one of another
abbrev pub Then : (List (List ℕ) → Type 0) → (List (List ℕ) → Type 0) → List (List ℕ) → Type 0
Then A B lines = (first : List (List ℕ)) × (more : List (List ℕ)) × A first × B more × (lines ≡ first ++ more)

-- one was put, and then the other
pub texts_then : (A B : List (List ℕ) → Type 0) (r : Result (Unit {0}) Stop) (a b c : Option (List ℕ)) (p q s : Progress)
    → IsOne A → PutsText A (Ok tt) a b p q → PutsText B r b c q s → PutsText (Then A B) r a c p s
texts_then A B (Ok x) a b c p q s one put then = (
  put.0 ++ then.0,
  (put.0, then.0, put.1, then.1, refl),
  puts_then (Ok x) a b c p q s put.0 then.0 put.2 then.2,
)
texts_then A B (Err x) a b c p q s one put then = λ lines are.
    rw (are.4, one are.0 put.0 are.2 put.1) (puts_then (Err x) a b c p q s put.0 are.1 put.2 (then are.1 are.3))

-- the putting stopped within the first
pub texts_cut : (A B : List (List ℕ) → Type 0) (x : Stop) (a b : Option (List ℕ)) (p q : Progress)
    → PutsText A (Err x) a b p q → PutsText (Then A B) (Err x) a b p q
texts_cut A B x a b p q put = λ lines are. rw (are.4) (puts_cut x a b p q are.0 are.1 (put are.0 are.2))

-- all was put, and then the output was ended, or failed
pub texts_ended : (A : List (List ℕ) → Type 0) (r : Result (Unit {0}) Stop) (a b c : Option (List ℕ)) (p q : Progress)
    → IsOne A → PutsText A (Ok tt) a b p q → Keeps b c → PutsText A r a c p q
texts_ended A (Ok x) a b c p q one put kept = (put.0, put.1, puts_ended (Ok x) a b c p q put.0 put.2 kept)
texts_ended A (Err x) a b c p q one put kept = λ lines is.
    rw (one lines put.0 is put.1) (puts_ended (Err x) a b c p q put.0 put.2 kept)

-- texts of one kind are those of another
pub texts_as : (A B : List (List ℕ) → Type 0) (r : Result (Unit {0}) Stop) (a b : Option (List ℕ)) (p q : Progress)
    → ((lines : List (List ℕ)) → A lines → B lines) → ((lines : List (List ℕ)) → B lines → A lines)
    → PutsText A r a b p q → PutsText B r a b p q
texts_as A B (Ok x) a b p q to back put = (put.0, to put.0 put.1, put.2)
texts_as A B (Err x) a b p q to back put = λ lines is. put lines (back lines is)

-- a known text is one text of its kind
pub texts_of : (A : List (List ℕ) → Type 0) (r : Result (Unit {0}) Stop) (a b : Option (List ℕ)) (p q : Progress)
    (lines : List (List ℕ))
    → IsOne A → A lines → Puts r a b p q lines → PutsText A r a b p q
texts_of A (Ok x) a b p q lines one is puts = (lines, is, puts)
texts_of A (Err x) a b p q lines one is puts = λ other also. rw (one other lines also is) puts

-- What is put of a text that is left makes what is put of the whole.
abbrev pub CarriesText : (List (List ℕ) → Type 0) → Option (List ℕ) → Progress → (List (List ℕ) → Type 0) → Option (List ℕ)
    → Progress → Type 0
CarriesText All a p Left b q = (r : Result (Unit {0}) Stop) (c : Option (List ℕ)) (s : Progress) → PutsText Left r b c q s
    → PutsText All r a c p s
