-- The codes of a list, item by item.
use Rattle.std.proofs.Common.{◌≡◌, ◌∙◌, sym, ap, refl, ◌<◌, ◌≤◌, ◌+◌, ℕ, List, [], ◌∷◌, ◌++◌, length, get_or, drop}
use Rattle.std.proofs.Common.{append_assoc}
use Rattle.std.specs.Prelude.{Option, Some, None, option_map}
use Rattle.std.proofs.lemmas.List.{at_drop_more, at_drop_all, append-nil}
use Rattle.gtd_rows.specs.Columns.{and_code, codes_of, type_of}

-- codes in front of those of more items
abbrev pub and_codes : List ℕ → Option (List ℕ) → Option (List ℕ)
and_codes codes more = option_map (λ rest. codes ++ rest) more

one_then : (codes : List ℕ) (code : ℕ) (more : Option (List ℕ)) → and_codes codes (and_code (Some code) more)
    ≡ and_codes (codes ++ code ∷ []) more
one_then codes code None = refl
one_then codes code (Some rest) = ap Some (sym (append_assoc codes (code ∷ []) rest))

module _ (items : List (List ℕ)) (i : ℕ) (item : List ℕ) (at : (i < length items) × (item ≡ get_or items i item)) (codes : List ℕ)
    (so_far : codes_of items ≡ and_codes codes (codes_of (drop i items))) where
  this : codes_of (drop i items) ≡ and_code (type_of item) (codes_of (drop (i + 1) items))
  this = at_drop_more codes_of items i item at.0 ∙ ap (λ (x : List ℕ). and_code (type_of x) (codes_of (drop (i + 1) items)))
      (sym at.1)

  pub no_code : type_of item ≡ None → codes_of items ≡ None
  no_code e = so_far ∙ ap (and_codes codes) (this ∙ ap (λ (o : Option ℕ). and_code o (codes_of (drop (i + 1) items))) e)

  pub one_more : (code : ℕ) → type_of item ≡ Some code → codes_of items
      ≡ and_codes (codes ++ code ∷ []) (codes_of (drop (i + 1) items))
  one_more code e =
      so_far ∙ ap (and_codes codes) (this ∙ ap (λ (o : Option ℕ). and_code o (codes_of (drop (i + 1) items))) e)
      ∙ one_then codes code (codes_of (drop (i + 1) items))

pub all_codes : (items : List (List ℕ)) (i : ℕ) (codes : List ℕ) → length items ≤ i → codes_of items
    ≡ and_codes codes (codes_of (drop i items)) → codes_of items ≡ Some codes
all_codes items i codes past so_far = so_far ∙ ap (and_codes codes) (at_drop_all codes_of items i past)
    ∙ ap Some (append-nil codes)
