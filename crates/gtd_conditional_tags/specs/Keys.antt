-- Keys of tags, by the names of a table of means.
use Rattle.std.specs.Prelude.{ℕ, ◌+◌, ◌-◌, Bool, ◌&&◌, not, true, if◌then◌else◌, List, [], ◌∷◌, length, take, nat_eq}
use Rattle.std.specs.Prelude.{codes, Option, Some, None, option_map, ◌==◌}
use Rattle.std.specs.List.{ends_with}
use Rattle.gtd_rows.specs.Columns.{is_word}
use Rattle.gtd_rows.specs.declared.direction.Direction.{Direction}
use Rattle.gtd_rows.specs.declared.direction.Direction.TheVariants.{Positive, Negative}
use Rattle.gtd_conditional_means.specs.Meanings.{is_row_of, meaning_of}
use Rattle.gtd_conditional_means.specs.Names.{is_there}
use Rattle.gtd_conditional_means.specs.declared.meaning.MeansKind.TheVariants as kind
use Rattle.gtd_conditional_means.specs.declared.meaning.MeansRow.{MeansRow}
use Rattle.gtd_conditional_tags.specs.declared.key.Key.{Key}

-- a text ends so; and the text without this end, if it has it
abbrev pub has_end : List ℕ → List ℕ → Bool
has_end end text = ends_with nat_eq text end

abbrev pub without : List ℕ → List ℕ → List ℕ
without end text = if has_end end text then take (length text - length end) text else text

-- whether the value of a key has conditions, and the key without the word that says so
abbrev pub is_conditional : List ℕ → Bool
is_conditional text = has_end (codes ":conditional") text

abbrev pub plain_of : List ℕ → List ℕ
plain_of text = without (codes ":conditional") text

-- the direction of such a key, and its name, which comes before the direction
abbrev pub direction_of : List ℕ → Option Direction
direction_of plain =
    if has_end (codes ":forward") plain then Some Positive
    else if has_end (codes ":backward") plain then Some Negative
    else None

abbrev pub name_of : List ℕ → List ℕ
name_of plain =
    if has_end (codes ":forward") plain then without (codes ":forward") plain else without (codes ":backward") plain

-- the number of rows before the first one of this mode, if so many rows come before these
abbrev pub mode_at : ℕ → List ℕ → List MeansRow → Option ℕ
mode_at count name [] = None
mode_at count name (row ∷ rows) = if is_row_of kind.Mode name row then Some count else mode_at (count + 1) name rows

-- of `oneway` there is no key with a direction
abbrev pub is_said : List ℕ → Option Direction → Bool
is_said name None = true
is_said name (Some direction) = not (is_word name (codes "oneway"))

-- the key that its parts are, if the table has its mode
abbrev pub key_with : List MeansRow → List ℕ → Option Direction → Bool → Option Key
key_with rows name direction conditional =
    if is_said name direction
    then option_map (λ mode. record { mode = mode; direction = direction; conditional = conditional }) (mode_at 0 name rows)
    else None

-- the key of a text, if it says when a way may be used
abbrev pub key_of : List MeansRow → List ℕ → Option Key
key_of rows text = key_with rows (name_of (plain_of text)) (direction_of (plain_of text)) (is_conditional text)

-- another key is at fault if it has conditions, and the table does not ignore its name
abbrev pub is_unknown : List MeansRow → List ℕ → Bool → Bool
is_unknown rows name conditional = conditional && not (is_there (meaning_of kind.Ignore name rows))

abbrev pub is_at_fault : List MeansRow → List ℕ → Bool
is_at_fault rows text = is_unknown rows (name_of (plain_of text)) (is_conditional text)

-- the forms of keys: of both directions or one, without conditions and with them
abbrev pub side_of : Option Direction → ℕ
side_of None = 0
side_of (Some Positive) = 2
side_of (Some Negative) = 4

abbrev pub form_of : Key → ℕ
form_of key = if key.conditional then side_of key.direction + 1 else side_of key.direction

-- both are of the same mode and form
abbrev pub is_same_key : Key → Key → Bool
is_same_key one other = (one.mode == other.mode) && (form_of one == form_of other)
