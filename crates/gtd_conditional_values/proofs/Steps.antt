-- One byte more of a text, in a loop that goes over it.
use Rattle.std.proofs.Common.{◌≡◌, ◌∙◌, ap, subst, refl, arith, ◌<◌, ◌≤◌, ◌+◌, ℕ, Bool, true, false, List, [], length}
use Rattle.std.proofs.Common.{get_or, drop}
use Rattle.std.specs.Prelude.{Option, Some, None, option_map}
use Rattle.std.proofs.lemmas.List.{drop_all, drop_more}
use Rattle.std.specs.Char.{is_ascii_alphanumeric}
use Rattle.gtd_conditional_values.specs.facts.FirstByte.{closes_here, closes_on, nests_here, nests_on, parts_here}
use Rattle.gtd_conditional_values.specs.facts.FirstByte.{parts_on, terms_here, terms_on}
use Rattle.gtd_conditional_values.specs.Nesting.{is_free, is_too_many, nested, quoted, unnested}
use Rattle.gtd_conditional_values.specs.Parts.{is_separator, part_length}
use Rattle.gtd_conditional_values.specs.Pieces.{closed_length, is_closing}
use Rattle.gtd_conditional_values.specs.Terms.{is_and, term_length}

-- a place that is counted one further
shift : (i : ℕ) (x : Option ℕ) → option_map (λ k. i + k) (option_map (λ k. k + 1) x) ≡ option_map (λ k. (i + 1) + k) x
shift i None = refl
shift i (Some k) = let e : i + (k + 1) ≡ (i + 1) + k = omega arith in ap (λ (n : ℕ). Some n) e

further : (i n : ℕ) → i + (n + 1) ≡ (i + 1) + n
further i n = omega arith

-- nothing is counted yet
same : (x : Option ℕ) → x ≡ option_map (λ k. 0 + k) x
same None = refl
same (Some k) = let e : k ≡ 0 + k = omega arith in ap (λ (n : ℕ). Some n) e

pub nested_start : (text : List ℕ) → unnested false 0 text ≡ option_map (λ k. 0 + k) (unnested false 0 (drop 0 text))
nested_start text = same (unnested false 0 text)

-- the end of a text
end_free : (comment : Bool) (depth : ℕ) → is_free comment depth ≡ true → unnested comment depth [] ≡ None
end_free comment depth free = rw free refl

end_open : (comment : Bool) (depth : ℕ) → is_free comment depth ≡ false → unnested comment depth [] ≡ Some 0
end_open comment depth other = rw other refl

-- ---- in the loop

module _ (text : List ℕ) (at : ℕ) (comment : Bool) (depth : ℕ) (less : at < length text) where
  pub more_nested : unnested false 0 text ≡ option_map (λ k. at + k) (unnested comment depth (drop at text))
      → is_too_many comment depth (get_or text at 0) ≡ false
      → unnested false 0 text
      ≡ option_map (λ k. (at + 1) + k)
      (unnested (quoted comment (get_or text at 0)) (nested comment depth (get_or text at 0)) (drop (at + 1) text))
  more_nested so_far other =
      so_far ∙ ap (λ (l : List ℕ). option_map (λ k. at + k) (unnested comment depth l)) (drop_more text at 0 less)
      ∙ ap (option_map (λ k. at + k)) (nests_on comment depth (get_or text at 0) (drop (at + 1) text) other)
      ∙ shift at (unnested (quoted comment (get_or text at 0)) (nested comment depth (get_or text at 0)) (drop (at + 1) text))

  pub nested_here : unnested false 0 text ≡ option_map (λ k. at + k) (unnested comment depth (drop at text))
      → is_too_many comment depth (get_or text at 0) ≡ true → unnested false 0 text ≡ Some at
  nested_here so_far met =
      let e : at + 0 ≡ at = omega arith in
      so_far ∙ ap (λ (l : List ℕ). option_map (λ k. at + k) (unnested comment depth l)) (drop_more text at 0 less)
      ∙ ap (option_map (λ k. at + k)) (nests_here comment depth (get_or text at 0) (drop (at + 1) text) met)
      ∙ ap (λ (n : ℕ). Some n) e

  pub more_of_part : part_length false 0 text ≡ at + part_length comment depth (drop at text)
      → is_separator comment depth (get_or text at 0) ≡ false
      → part_length false 0 text
      ≡ (at + 1) + part_length (quoted comment (get_or text at 0)) (nested comment depth (get_or text at 0)) (drop (at + 1) text)
  more_of_part so_far other =
      so_far ∙ ap (λ (l : List ℕ). at + part_length comment depth l) (drop_more text at 0 less)
      ∙ ap (λ (n : ℕ). at + n) (parts_on comment depth (get_or text at 0) (drop (at + 1) text) other)
      ∙ further at
      (part_length (quoted comment (get_or text at 0)) (nested comment depth (get_or text at 0)) (drop (at + 1) text))

  pub part_here : part_length false 0 text ≡ at + part_length comment depth (drop at text)
      → is_separator comment depth (get_or text at 0) ≡ true → part_length false 0 text ≡ at
  part_here so_far met =
      let e : at + 0 ≡ at = omega arith in
      so_far ∙ ap (λ (l : List ℕ). at + part_length comment depth l) (drop_more text at 0 less)
      ∙ ap (λ (n : ℕ). at + n) (parts_here comment depth (get_or text at 0) (drop (at + 1) text) met) ∙ e

  pub more_of_term : (joined : Bool) → term_length false false 0 text ≡ at + term_length joined comment depth (drop at text)
      → is_and joined comment depth (drop at text) ≡ false
      → term_length false false 0 text
      ≡ (at + 1) + term_length (is_ascii_alphanumeric (get_or text at 0)) (quoted comment (get_or text at 0))
      (nested comment depth (get_or text at 0)) (drop (at + 1) text)
  more_of_term joined so_far other =
      so_far ∙ ap (λ (l : List ℕ). at + term_length joined comment depth l) (drop_more text at 0 less)
      ∙ ap (λ (n : ℕ). at + n)
      (terms_on joined comment depth (get_or text at 0) (drop (at + 1) text)
      (subst (λ (l : List ℕ). is_and joined comment depth l ≡ false) (drop_more text at 0 less) other))
      ∙ further at
      (term_length (is_ascii_alphanumeric (get_or text at 0)) (quoted comment (get_or text at 0))
      (nested comment depth (get_or text at 0)) (drop (at + 1) text))

  pub term_here : (joined : Bool) → term_length false false 0 text ≡ at + term_length joined comment depth (drop at text)
      → is_and joined comment depth (drop at text) ≡ true → term_length false false 0 text ≡ at
  term_here joined so_far met =
      let e : at + 0 ≡ at = omega arith in
      so_far ∙ ap (λ (l : List ℕ). at + term_length joined comment depth l) (drop_more text at 0 less)
      ∙ ap (λ (n : ℕ). at + n)
      (terms_here joined comment depth (get_or text at 0) (drop (at + 1) text)
      (subst (λ (l : List ℕ). is_and joined comment depth l ≡ true) (drop_more text at 0 less) met)) ∙ e

  pub more_closed : closed_length false 0 text ≡ at + closed_length comment depth (drop at text)
      → is_closing comment depth (get_or text at 0) ≡ false
      → closed_length false 0 text
      ≡ (at + 1)
      + closed_length (quoted comment (get_or text at 0)) (nested comment depth (get_or text at 0)) (drop (at + 1) text)
  more_closed so_far other =
      so_far ∙ ap (λ (l : List ℕ). at + closed_length comment depth l) (drop_more text at 0 less)
      ∙ ap (λ (n : ℕ). at + n) (closes_on comment depth (get_or text at 0) (drop (at + 1) text) other)
      ∙ further at
      (closed_length (quoted comment (get_or text at 0)) (nested comment depth (get_or text at 0)) (drop (at + 1) text))

  pub closed_here : closed_length false 0 text ≡ at + closed_length comment depth (drop at text)
      → is_closing comment depth (get_or text at 0) ≡ true → closed_length false 0 text ≡ at
  closed_here so_far met =
      let e : at + 0 ≡ at = omega arith in
      so_far ∙ ap (λ (l : List ℕ). at + closed_length comment depth l) (drop_more text at 0 less)
      ∙ ap (λ (n : ℕ). at + n) (closes_here comment depth (get_or text at 0) (drop (at + 1) text) met) ∙ e

-- ---- after it

module _ (text : List ℕ) (at : ℕ) (comment : Bool) (depth : ℕ) (within : at ≤ length text) (all : length text ≤ at) where
  pub nested_free : unnested false 0 text ≡ option_map (λ k. at + k) (unnested comment depth (drop at text))
      → is_free comment depth ≡ true → unnested false 0 text ≡ None
  nested_free so_far free =
      so_far ∙ ap (λ (l : List ℕ). option_map (λ k. at + k) (unnested comment depth l)) (drop_all at text all)
      ∙ ap (option_map (λ k. at + k)) (end_free comment depth free)

  pub nested_open : unnested false 0 text ≡ option_map (λ k. at + k) (unnested comment depth (drop at text))
      → is_free comment depth ≡ false → unnested false 0 text ≡ Some (length text)
  nested_open so_far other =
      let e : at + 0 ≡ length text = omega arith in
      so_far ∙ ap (λ (l : List ℕ). option_map (λ k. at + k) (unnested comment depth l)) (drop_all at text all)
      ∙ ap (option_map (λ k. at + k)) (end_open comment depth other) ∙ ap (λ (n : ℕ). Some n) e

  pub part_all : part_length false 0 text ≡ at + part_length comment depth (drop at text)
      → part_length false 0 text ≡ length text
  part_all so_far =
      let e : at + 0 ≡ length text = omega arith in
      so_far ∙ ap (λ (l : List ℕ). at + part_length comment depth l) (drop_all at text all) ∙ e

  pub term_all : (joined : Bool) → term_length false false 0 text ≡ at + term_length joined comment depth (drop at text)
      → term_length false false 0 text ≡ length text
  term_all joined so_far =
      let e : at + 0 ≡ length text = omega arith in
      so_far ∙ ap (λ (l : List ℕ). at + term_length joined comment depth l) (drop_all at text all) ∙ e

  pub closed_all : closed_length false 0 text ≡ at + closed_length comment depth (drop at text)
      → closed_length false 0 text ≡ length text
  closed_all so_far =
      let e : at + 0 ≡ length text = omega arith in
      so_far ∙ ap (λ (l : List ℕ). at + closed_length comment depth l) (drop_all at text all) ∙ e
