-- How long the pieces of a part are.
use Rattle.std.proofs.Common.{arith, ◌≤◌, ◌+◌, ◌-◌, ℕ, List, length, drop, length-drop}
use Rattle.std.specs.List.{suffix_len}
use Rattle.std.proofs.lemmas.List.{length-take}
use Rattle.gtd_conditional_values.specs.Pieces.{front_spaces, is_space, trimmed}

-- what is trimmed stands behind the spaces at the front, within the text
pub trimmed_fits : (text : List ℕ) → front_spaces text ≤ length text → front_spaces text + length (trimmed text) ≤ length text
trimmed_fits text within =
    let behind = drop (front_spaces text) text in
    let cut = length-take (length behind - suffix_len is_space behind) behind in
    omega (arith, cut, length-drop (front_spaces text) text)
