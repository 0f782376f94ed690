-- What was put of some lines, and then of more.
use Rattle.std.proofs.Common.{◌≡◌, ◌∙◌, ◌<◌, ◌+◌, ap, refl, arith, ℕ, List, [], ◌∷◌, ◌++◌, length, take}
use Rattle.std.proofs.Common.{Option, length-append, add-zero}
use Rattle.std.specs.Prelude.{Result, Ok, Err}
use Rattle.std.specs.Io.KnownBytes.{Appends, Keeps}
use Rattle.std.proofs.KnownBytes.{Appends-kept, Appends-nil, Appends-trans}
use Rattle.std.proofs.Math.Seq.{take-append-add, take-length}
use Rattle.std.proofs.lemmas.List.{append-nil, take-append-le}
use Rattle.std.proofs.lemmas.List.Concat.{flat_map-append}
use Rattle.gtd_report.specs.Putting.{Puts, PutsText, text_of}
use Rattle.gtd_report.specs.declared.output.Progress.{Progress}
use Rattle.gtd_report.specs.declared.output.Stop.{Stop}

-- the text of lines, and of more lines
pub text_of-append : (a b : List (List ℕ)) → text_of (a ++ b) ≡ text_of a ++ text_of b
text_of-append a b = flat_map-append (λ line. line) a b

-- counts that agree
counted : (p : Progress) (a b c d e f : ℕ) → p.lines + a + b ≡ e → p.written + c + d ≡ f
    → ◌≡◌ {A = Progress} (record { lines = p.lines + a + b; written = p.written + c + d }) (record { lines = e; written = f })
counted p a b c d e f g h = rw (g, h) refl

-- some lines were put, and then more
pub puts_then : (r : Result (Unit {0}) Stop) (a b c : Option (List ℕ)) (p q s : Progress) (first more : List (List ℕ))
    → Puts (Ok tt) a b p q first → Puts r b c q s more → Puts r a c p s (first ++ more)
puts_then (Ok x) a b c p q s first more put then =
    let lines = length-append first more in
    let bytes = ap length (text_of-append first more) ∙ length-append (text_of first) (text_of more) in (
      rw (text_of-append first more) (Appends-trans a b c (text_of first) (text_of more) put.0 then.0),
      then.1 ∙ rw put.1 (counted p (length first) (length more) (length (text_of first)) (length (text_of more))
          (p.lines + length (first ++ more)) (p.written + length (text_of (first ++ more))) (omega arith) (omega arith)),
    )
puts_then (Err x) a b c p q s first more put then =
    let bytes = ap length (text_of-append first more) ∙ length-append (text_of first) (text_of more) in
    let n = length (text_of first) + then.0 in
    let front : take n (text_of (first ++ more)) ≡ text_of first ++ take then.0 (text_of more) =
    rw (text_of-append first more) (take-append-add (text_of first) (text_of more) then.0) in
    let is = ap (λ (t : Progress). t.written) put.1 in
    let count = then.3 in
    let few = then.1 in
    (n, omega arith, rw front (Appends-trans a b c (text_of first) (take then.0 (text_of more)) put.0 then.2), omega arith)

-- what was put of some lines was put of those and more
pub puts_cut : (x : Stop) (a b : Option (List ℕ)) (p q : Progress) (first more : List (List ℕ))
    → Puts (Err x) a b p q first → Puts (Err x) a b p q (first ++ more)
puts_cut x a b p q first more put =
    let bytes = ap length (text_of-append first more) ∙ length-append (text_of first) (text_of more) in
    let few = put.1 in
    let front : take put.0 (text_of (first ++ more)) ≡ take put.0 (text_of first) =
    rw (text_of-append first more) (take-append-le put.0 (text_of first) (text_of more) put.1) in
    (put.0, omega arith, rw front put.2, put.3)

-- nothing was put
pub puts_nothing : (x : Stop) (a : Option (List ℕ)) (p : Progress) (lines : List (List ℕ)) → Puts (Err x) a a p p lines
puts_nothing x a p lines = (0, omega arith, Appends-nil a, omega arith)

pub puts_none : (a : Option (List ℕ)) (p : Progress) → Puts (Ok tt) a a p p []
puts_none a p = (Appends-nil a, rw (add-zero p.lines, add-zero p.written) refl)

-- one line was put
pub one_put : (line : List ℕ) (a b : Option (List ℕ)) (p q : Progress) → Appends a b line
    → q ≡ record { lines = p.lines + 1; written = p.written + length line } → Puts (Ok tt) a b p q (line ∷ [])
one_put line a b p q taken is = rw (append-nil line) (taken, is)

-- a first part of one line was put
pub one_short : (x : Stop) (line : List ℕ) (n : ℕ) (a b : Option (List ℕ)) (p q : Progress) → n < length line
    → Appends a b (take n line) → q ≡ record { lines = p.lines; written = p.written + n } → Puts (Err x) a b p q (line ∷ [])
one_short x line n a b p q short taken is =
    rw (append-nil line) (n, omega arith, taken, ap (λ (t : Progress). t.written) is)

-- all was put, and then the output failed
pub put_whole : (x : Stop) (a b c : Option (List ℕ)) (p q : Progress) (lines : List (List ℕ))
    → Puts (Ok tt) a b p q lines → Keeps b c → Puts (Err x) a c p q lines
put_whole x a b c p q lines puts kept = (
  length (text_of lines),
  omega arith,
  rw (take-length (text_of lines)) (Appends-kept a b c (text_of lines) puts.0 kept),
  ap (λ (t : Progress). t.written) puts.1,
)

-- all was put, and then the output was ended, or failed
pub puts_ended : (r : Result (Unit {0}) Stop) (a b c : Option (List ℕ)) (p q : Progress) (lines : List (List ℕ))
    → Puts (Ok tt) a b p q lines → Keeps b c → Puts r a c p q lines
puts_ended (Ok x) a b c p q lines puts kept = (Appends-kept a b c (text_of lines) puts.0 kept, puts.1)
puts_ended (Err x) a b c p q lines puts kept = put_whole x a b c p q lines puts kept

-- if there is one text of a kind, what was put of it was put of each
pub puts_text : (IsText : List (List ℕ) → Type 0) (r : Result (Unit {0}) Stop) (a b : Option (List ℕ)) (p q : Progress)
    (lines : List (List ℕ))
    → IsText lines → ((other : List (List ℕ)) → IsText other → other ≡ lines) → Puts r a b p q lines → PutsText IsText r a b p q
puts_text IsText (Ok x) a b p q lines is one puts = (lines, is, puts)
puts_text IsText (Err x) a b p q lines is one puts = λ other text. rw (one other text) puts
