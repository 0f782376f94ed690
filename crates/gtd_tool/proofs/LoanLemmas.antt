-- What a device took that writes to a writer lent to it, the writer took.
use Rattle.std.proofs.Common.{◌≡◌, ◌∙◌, ◌≤◌, ◌+◌, ◌-◌, ℕ, List, [], ◌∷◌, ◌++◌, Option, Some, None, refl, sym, ap, append-nil, arith}
use Rattle.std.proofs.Common.{length, take, length-take, length-append}
use Rattle.std.specs.Prelude.{IfSome, Result, Ok, Err}
use Rattle.std.specs.Io.KnownBytes.{Appends, Keeps}
use Rattle.std.proofs.KnownBytes.{Appends-kept, Appends-nil}
use Rattle.gtd_roads.specs.Closing.{Restriction}
use Rattle.gtd_roads.specs.Run.{HasRun, PutsTextOf, TookFirstOf}
use Rattle.gtd_roads.specs.RunFault.{RunFault}
use Rattle.gtd_roads.specs.RunFault.TheVariants as run
use Rattle.gtd_tool.specs.Lending.{marked}

-- all that one took, the other took
abbrev pub Passes : Option (List ℕ) → Option (List ℕ) → Option (List ℕ) → Option (List ℕ) → Type 0
Passes a b c d = (bytes : List ℕ) → Appends a b bytes → Appends c d bytes

append_keeps : (a b : Option (List ℕ)) → Appends a b [] → Keeps a b
append_keeps None b h = tt
append_keeps (Some x) None h = absurd h
append_keeps (Some x) (Some y) h = h ∙ append-nil x

pub passes_kept : (a b c d : Option (List ℕ)) → Passes a b c d → Keeps a b → Keeps c d
passes_kept a b c d pass kept = append_keeps c d (pass [] (Appends-kept a a b [] (Appends-nil a) kept))

-- ---- the loan

-- bytes after two numbers that are added to keep the numbers
pub same_mark : (n m k l : ℕ) (x y bytes : List ℕ) → m ∷ l ∷ y ≡ (n ∷ k ∷ x) ++ bytes → (n ≡ m) × (k ≡ l) × (y ≡ x ++ bytes)
same_mark n m k l x y bytes e = (sym (ap front e), sym (ap second e), ap back e)
  where
    front : List ℕ → ℕ
    front [] = n
    front (z ∷ zs) = z

    second : List ℕ → ℕ
    second [] = k
    second (z ∷ []) = k
    second (z ∷ w ∷ zs) = w

    back : List ℕ → List ℕ
    back [] = []
    back (z ∷ []) = []
    back (z ∷ w ∷ zs) = zs

-- Where the device began with the writer's bytes after the loan's name, and ends with those of a writer that is the lender's
-- if the name is the same, the lender's bytes grew by all that the device took.
module _ {X : Type 0} (contents : X → Option (List ℕ)) (n m t : ℕ) where
  marked_passes : (a b : Option (List ℕ)) (v w : X) (bytes : List ℕ) → contents w ≡ b
      → (n ≡ m → v ≡ w) → Appends (marked n 0 a) (marked m t b) bytes → Appends a (contents v) bytes
  marked_passes None b v w bytes is same h = tt
  marked_passes (Some x) None v w bytes is same h = absurd h
  marked_passes (Some x) (Some y) v w bytes is same h =
      let kept = same_mark n m (length x - 0) (length y - t) x y bytes h in
      let value : contents v ≡ Some y = ap contents (same kept.0) ∙ is in
      rw value kept.2

  pub loan_passes : (began : Option (List ℕ)) (old v w : X) → began ≡ marked n 0 (contents old)
      → (n ≡ m → v ≡ w) → Passes began (marked m t (contents w)) (contents old) (contents v)
  loan_passes began old v w is same bytes h = marked_passes (contents old) (contents w) v w bytes refl same (rw is at h)

-- ---- runs

pub if_some : {A : Type 0} (o : Option A) (P Q : A → Type 0) → ((x : A) → P x → Q x) → IfSome o P → IfSome o Q
if_some None P Q f h = tt
if_some (Some x) P Q f h = f x h

pub if_some_all : {A : Type 0} (o : Option A) (P : A → Type 0) → ((x : A) → P x) → IfSome o P
if_some_all None P f = tt
if_some_all (Some x) P f = f x

module _ (IsAccepted : List Restriction → Type 0) (IsText : List Restriction → List (List ℕ) → Type 0) (a b c d : Option (List ℕ))
    (pass : Passes a b c d) where
  whole : (bytes : List ℕ) (answer : Result ℕ RunFault) → PutsTextOf IsAccepted IsText bytes a b answer
      → PutsTextOf IsAccepted IsText bytes c d answer
  whole bytes answer h = record {
    found = h.found;
    file = h.file;
    accepted = h.accepted;
    puts = record { lines = h.puts.lines; is_text = h.puts.is_text; taken = pass _ h.puts.taken; count = h.puts.count };
  }

  first : (n : ℕ) (bytes : List ℕ) → TookFirstOf IsAccepted IsText bytes a b n → TookFirstOf IsAccepted IsText bytes c d n
  first n bytes h = record {
    found = h.found;
    file = h.file;
    accepted = h.accepted;
    first = λ lines text. ((h.first lines text).0, pass _ (h.first lines text).1);
  }

  -- what a run did, it did to the writer
  pub passed_run : (answer : Result ℕ RunFault) (file : Option (List ℕ)) → HasRun IsAccepted IsText file a b answer
      → HasRun IsAccepted IsText file c d answer
  passed_run (Ok count) file h = if_some file _ _ (λ bytes x. whole bytes (Ok count) x) h
  passed_run (Err run.VehicleRange) file h = passes_kept a b c d pass h
  passed_run (Err run.YearRange) file h = passes_kept a b c d pass h
  passed_run (Err (run.Records why)) file h = (passes_kept a b c d pass h.0, h.1)
  passed_run (Err run.NoElement) file h = (passes_kept a b c d pass h.0, h.1)
  passed_run (Err (run.WriteFault n)) file h = if_some file _ _ (first n) h
  passed_run (Err (run.NoMemory n)) file h = if_some file _ _ (first n) h
