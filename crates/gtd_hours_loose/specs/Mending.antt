-- The strict form of a loosely written text: what is written for each of its tokens, and in place of what.
use Rattle.std.specs.Prelude.{ℕ, ◌≡◌, ◌+◌, ◌-◌, ◌==◌, nat_lt, not, Bool, List, [], ◌∷◌}
use Rattle.std.specs.Prelude.{◌++◌, length}
use Rattle.std.specs.Prelude.{drop, take, map, codes, bytes_eq, if◌then◌else◌}
use Rattle.std.specs.Char.{to_ascii_lowercase}
use Rattle.gtd_hours.specs.Written.{month_name, two_digits, weekday_name}
use Rattle.gtd_hours_loose.specs.declared.behind.Behind.{Behind}
use Rattle.gtd_hours_loose.specs.declared.behind.Behind.TheVariants as behind
use Rattle.gtd_hours_loose.specs.declared.behind.Fate.{Fate}
use Rattle.gtd_hours_loose.specs.declared.behind.Fate.TheVariants as fate
use Rattle.gtd_hours_loose.specs.declared.strict.Part.{Part}
use Rattle.gtd_hours_loose.specs.declared.strict.StrictForm.{StrictForm}
use Rattle.gtd_hours_loose_tokens.specs.declared.token.LooseKind.{LooseKind}
use Rattle.gtd_hours_loose_tokens.specs.declared.token.LooseKind.TheVariants as kind
use Rattle.gtd_hours_loose_tokens.specs.declared.token.LooseToken.{LooseToken}
use Rattle.gtd_hours_loose.specs.Behind.{after, fate_of, kind_here}
use Rattle.gtd_hours_loose_tokens.specs.Signs.{end_length, other_space}

-- From one place of a text up to but not including another.
abbrev pub stretch : List ℕ → ℕ → ℕ → List ℕ
stretch text from to = take (to - from) (drop from text)

-- What is written from one place of the text to another, and what stands for it in the strict form.
pub record Mended : Type 0 where
  pub from : ℕ
  pub to : ℕ
  pub form : List ℕ

-- ---- strict forms

-- What stands behind the first quote of a comment of a text processor, where the sign that ends it is put as a plain quote (34).
abbrev pub plain_end : List ℕ → List ℕ
plain_end [] = []
plain_end (byte ∷ rest) = if nat_lt 0 (end_length byte rest) then 34 ∷ [] else byte ∷ plain_end rest

-- The strict form of a token with this text. A comment is kept as it is, but that it stands in plain quotes; other words and
-- signs are in lower case.
abbrev pub form_of : LooseKind → List ℕ → List ℕ
form_of (kind.Month m) written = month_name m
form_of (kind.Weekday d) written = weekday_name d
form_of (kind.Time h m) written = two_digits h ++ 58 ∷ two_digits m
form_of kind.PublicHoliday written = codes "PH"
form_of kind.SchoolHoliday written = codes "SH"
form_of kind.Dash written = codes "-"
form_of kind.Comment written = written
form_of kind.Quoted written = 34 ∷ plain_end (drop 3 written)
form_of k written = map to_ascii_lowercase written

-- ---- from left to right

-- The spaces other than those of ASCII, of bytes that begin at a place: each is a space (32).
abbrev pub spaces_in : ℕ → List ℕ → List Mended
spaces_in place [] = []
spaces_in place (byte ∷ rest) =
    if nat_lt 0 (other_space byte rest)
    then record { from = place; to = place + other_space byte rest; form = 32 ∷ [] } ∷ spaces_in (place + 1) rest
    else spaces_in (place + 1) rest

abbrev pub by_fate : Fate → ℕ → ℕ → List ℕ → List Mended
by_fate fate.Kept from to form = record { from = from; to = to; form = form } ∷ []
by_fate fate.Dropped from to form = record { from = from; to = to; form = [] } ∷ []
by_fate fate.Joined from to form =
    record { from = from; to = from; form = codes "," } ∷ record { from = from; to = to; form = form } ∷ []

-- What a token stands for, and what becomes of it, where these come behind it.
abbrev pub kind_at : Behind → LooseToken → List LooseToken → LooseKind
kind_at b t ts = kind_here b t.kind (t ∷ ts)

abbrev pub fate_at : Behind → LooseToken → List LooseToken → Fate
fate_at b t ts = fate_of b (kind_at b t ts) ts

abbrev pub behind_at : Behind → LooseToken → List LooseToken → Behind
behind_at b t ts = after (fate_at b t ts) b t.kind (t ∷ ts)

abbrev pub mended_token : List ℕ → Behind → LooseToken → List LooseToken → List Mended
mended_token text b t ts = by_fate (fate_at b t ts) t.from t.to (form_of (kind_at b t ts) (stretch text t.from t.to))

-- The rest of a text, from this place on, where these tokens are left.
abbrev pub mended_from : List ℕ → ℕ → Behind → List LooseToken → List Mended
mended_from text place b [] = spaces_in place (stretch text place (length text))
mended_from text place b (t ∷ ts) =
    spaces_in place (stretch text place t.from)
    ++ (mended_token text b t ts ++ mended_from text t.to (behind_at b t ts) ts)

abbrev pub mended : List ℕ → List LooseToken → List Mended
mended text tokens = mended_from text 0 behind.Front tokens

-- ---- the strict text

-- The strict text: a space behind each form keeps tokens apart.
abbrev pub strict_text : List Mended → List ℕ
strict_text [] = []
strict_text (m ∷ ms) = m.form ++ 32 ∷ strict_text ms

-- The same by places in both texts, where the strict one has come to this place.
abbrev pub parts_from : ℕ → List Mended → List Part
parts_from place [] = []
parts_from place (m ∷ ms) =
    record { from = m.from; to = m.to; start = place; end = place + length m.form }
    ∷ parts_from (place + length m.form + 1) ms

-- The strict form holds what is mended.
pub record Holds (form : StrictForm) (ms : List Mended) : Type 0 where
  pub text : form.text.items ≡ strict_text ms
  pub parts : form.parts.items ≡ parts_from 0 ms

-- ---- places

-- Where the token is written that begins at this place of the strict text, and the end of the text for another place.
abbrev pub written_place : ℕ → ℕ → List Part → ℕ
written_place place end [] = end
written_place place end (p ∷ ps) = if p.start == place then p.from else written_place place end ps

-- Where the strict form begins of what is written at this place of the text, and the end of the strict text for another place.
abbrev pub strict_place : ℕ → ℕ → List Part → ℕ
strict_place place end [] = end
strict_place place end (p ∷ ps) = if p.from == place then p.start else strict_place place end ps

-- ---- loose parts

-- A part is written loosely exactly if its strict form is not what is written.
abbrev pub is_loose : List ℕ → List ℕ → Part → Bool
is_loose text strict p = not (bytes_eq (stretch text p.from p.to) (stretch strict p.start p.end))
