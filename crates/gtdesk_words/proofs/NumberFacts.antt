-- The numbers of a text, part by part.
use Rattle.std.proofs.Common.{◌≡◌, ◌∙◌, sym, ap, refl, ◌<◌, ◌≤◌, ◌+◌, ℕ, List, [], ◌∷◌, ◌++◌, length, get_or, drop}
use Rattle.std.proofs.Common.{append_assoc}
use Rattle.std.specs.Prelude.{Option, Some, None, option_map}
use Rattle.std.proofs.lemmas.List.{at_drop_more, at_drop_all, append-nil}
use Rattle.gtd_rows.specs.Columns.{number_of}
use Rattle.gtdesk_words.specs.Words.{and_number, numbers_of}

-- numbers in front of those of more parts
abbrev pub and_numbers : List ℕ → Option (List ℕ) → Option (List ℕ)
and_numbers numbers more = option_map (λ rest. numbers ++ rest) more

one_then : (numbers : List ℕ) (number : ℕ) (more : Option (List ℕ)) → and_numbers numbers (and_number (Some number) more)
    ≡ and_numbers (numbers ++ number ∷ []) more
one_then numbers number None = refl
one_then numbers number (Some rest) = ap Some (sym (append_assoc numbers (number ∷ []) rest))

module _ (parts : List (List ℕ)) (i : ℕ) (part : List ℕ) (at : (i < length parts) × (part ≡ get_or parts i part))
    (numbers : List ℕ) (so_far : numbers_of parts ≡ and_numbers numbers (numbers_of (drop i parts))) where
  this : numbers_of (drop i parts) ≡ and_number (number_of part) (numbers_of (drop (i + 1) parts))
  this = at_drop_more numbers_of parts i part at.0
      ∙ ap (λ (x : List ℕ). and_number (number_of x) (numbers_of (drop (i + 1) parts))) (sym at.1)

  pub no_number : number_of part ≡ None → numbers_of parts ≡ None
  no_number e =
      so_far ∙ ap (and_numbers numbers) (this ∙ ap (λ (o : Option ℕ). and_number o (numbers_of (drop (i + 1) parts))) e)

  pub one_more : (number : ℕ) → number_of part ≡ Some number → numbers_of parts
      ≡ and_numbers (numbers ++ number ∷ []) (numbers_of (drop (i + 1) parts))
  one_more number e =
      so_far
      ∙ ap (and_numbers numbers) (this ∙ ap (λ (o : Option ℕ). and_number o (numbers_of (drop (i + 1) parts))) e)
      ∙ one_then numbers number (numbers_of (drop (i + 1) parts))

pub all_numbers : (parts : List (List ℕ)) (i : ℕ) (numbers : List ℕ) → length parts ≤ i → numbers_of parts
    ≡ and_numbers numbers (numbers_of (drop i parts)) → numbers_of parts ≡ Some numbers
all_numbers parts i numbers past so_far =
    so_far ∙ ap (and_numbers numbers) (at_drop_all numbers_of parts i past) ∙ ap Some (append-nil numbers)
