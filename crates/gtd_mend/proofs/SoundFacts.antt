-- A row that stands for a restriction stands for it when it is mended, too; it serves the law of sound rows.
use Rattle.std.proofs.Common.{◌≡◌, ◌∙◌, ap, refl, sym, subst, arith, cond, inl, inr, ℕ, zero, suc, ◌+◌, ◌-◌, ◌<◌, ◌≤◌}
use Rattle.std.proofs.Common.{Bool, true, false, List, [], ◌∷◌, ◌++◌, drop, take, get_or, length, Option, Some, None}
use Rattle.std.specs.Prelude.{◌==◌, ◌&&◌, ◌||◌, ◌≢◌, ⊤, Ok, Err, Result, MatchResult, map, nat_lt, reverse}
use Rattle.std.specs.Char.{is_ascii_digit, is_ascii_whitespace}
use Rattle.std.specs.List.{All, join_with_byte, list_all, prefix_len, suffix_len, take_while}
use Rattle.std.proofs.lemmas.Bool.Decides.{nat_tests}
use Rattle.std.proofs.lemmas.List.{drop_all, get_or-drop, get_or-reverse, length-drop, length-reverse, take-append-drop, take_all}
use Rattle.std.proofs.lemmas.List.Elements.{All-head, All-tail}
use Rattle.std.proofs.lemmas.List.Splits.{join_with_byte-slice_split}
use Rattle.std.proofs.lemmas.List.Sums.{prefix_len_passes, suffix_len-le-length, suffix_len_is}
use Rattle.csv.specs.Reading.{default_config, records, strip_bom}
use Rattle.gtd_core.specs.Trees.{Tree}
use Rattle.gtd_core.specs.declared.fault.TextFault.{TextFault}
use Rattle.gtd_text.specs.ComputedFields.{is_start_letter}
use Rattle.gtd_text.specs.ComputedLexing.{IsToken, Reads, field, sign}
use Rattle.gtd_text.specs.Lexing.{AreSpaces}
use Rattle.gtd_text.specs.Reading.{IsReading}
use Rattle.gtd_text.specs.declared.token.Token.{Token}
use Rattle.gtd_text.specs.facts.LexingForms.{tokens_in_parts}
use Rattle.gtd_records.specs.Closing.{Restriction}
use Rattle.gtd_rows.specs.Columns.{Fields}
use Rattle.gtd_records.specs.Row.{AreTypes, Column, IsDomain, IsNumber, IsRow, IsWordFor, items}
use Rattle.gtd_rows.specs.declared.direction.Closed.{Closed}
use Rattle.gtd_rows.specs.declared.direction.Closed.TheVariants.{One, Both}
use Rattle.gtd_rows.specs.declared.direction.Direction.TheVariants.{Positive, Negative}
use Rattle.gtd_records.specs.declared.fault.RecordFault.{RecordFault}
use Rattle.gtd_records.specs.declared.fault.RecordFault.TheVariants as fault
use Rattle.gtd_rows.specs.declared.vehicles.Vehicles.{Vehicles}
use Rattle.gtd_rows.specs.declared.vehicles.Vehicles.TheVariants.{Every, Only, AllBut}
use Rattle.gtd_rows.specs.declared.vehicles.Version.{Version}
use Rattle.gtd_rows.specs.declared.vehicles.Version.TheVariants as version
use Rattle.gtd_mend.specs.Fields.{are_zeros, front_quote, from_front, is_dash, mended_field, mended_row}
use Rattle.gtd_mend.specs.Fields.{mended_table, or_else, to_back}
use Rattle.gtd_mend.specs.Fields.{with_hyphens, without_decimals, without_quotes, without_spaces}
use Rattle.gtd_mend.specs.Mended.{HasHeader, IsRewritten}
use Rattle.gtd_mend.specs.Reading.{separated_by}
use Rattle.gtd_mend.specs.declared.change.FileChange.{FileChange}
use Rattle.gtd_mend.specs.declared.content.Content.TheVariants.{Domain, Number, Word}
use Rattle.gtd_mend.specs.declared.separator.Separator.{Separator}
use Rattle.gtd_mend.proofs.RowsFacts.{rows_kept}
use Rattle.gtd_mend.proofs.TrimFacts.{AllWhite, digit_solid, is_solid, letter_solid, sign_solid, without_white}

-- ---- numbers and lists of vehicle types

-- digits, `;` and `!`
abbrev is_listed : ℕ → Bool
is_listed c = is_ascii_digit c || (c == 59 || c == 33)

abbrev AllListed : List ℕ → Type 0
AllListed [] = ⊤
AllListed (c ∷ text) = (is_listed c ≡ true) × AllListed text

listed_not_white : (c : ℕ) → is_listed c ≡ true → is_ascii_whitespace c ≡ false
listed_not_white c h = grind (arith, nat_tests)

listed_no_point : (c : ℕ) → is_listed c ≡ true → (c == 46) ≡ false
listed_no_point c h = grind (arith, nat_tests)

digit_listed : (c : ℕ) → is_ascii_digit c ≡ true → is_listed c ≡ true
digit_listed c h = rw h refl

both : (a b : Bool) → (a && b) ≡ true → (a ≡ true) × (b ≡ true)
both true b h = (refl, h)
both false b h = absurd cc

digits_listed : (text : List ℕ) → list_all is_ascii_digit text ≡ true → AllListed text
digits_listed [] h = tt
digits_listed (c ∷ text) h =
    let p = both (is_ascii_digit c) (list_all is_ascii_digit text) h in (digit_listed c p.0, digits_listed text p.1)

joined_listed : (a b : List ℕ) → AllListed a → AllListed b → AllListed (a ++ b)
joined_listed [] b h k = k
joined_listed (c ∷ a) b h k = (h.0, joined_listed a b h.1 k)

abbrev IsItem : List ℕ → Type 0
IsItem item = (code : ℕ) × IsNumber 2 item code × (0 < code)

items_listed : (parts : List (List ℕ)) → All IsItem parts → AllListed (join_with_byte 59 parts)
items_listed [] each = tt
items_listed (part ∷ []) each = let one = All-head IsItem part [] each in digits_listed part one.1.2
items_listed (part ∷ next ∷ parts) each =
    let one = All-head IsItem part (next ∷ parts) each in
    joined_listed part (59 ∷ join_with_byte 59 (next ∷ parts)) (digits_listed part one.1.2)
    (refl, items_listed (next ∷ parts) (All-tail IsItem part (next ∷ parts) each))

list_listed : (text : List ℕ) → All IsItem (items text) → AllListed text
list_listed text each = subst AllListed (join_with_byte-slice_split 59 text) (items_listed (items text) each)

types_listed : (v : Version) (text : List ℕ) (types : Vehicles) → AreTypes v text types → AllListed text
types_listed version.One text Every is = digits_listed text is.2
types_listed version.Two text Every is = digits_listed text is.2
types_listed version.One text (Only types) is =
    let one = All-head IsItem text [] is.each in digits_listed text one.1.2
types_listed version.One text (AllBut types) is = absurd is
types_listed version.Two text (Only types) is = list_listed text is.each
types_listed version.Two text (AllBut types) is =
    subst AllListed (sym is.1) (refl, list_listed is.0 is.2.each)

-- ---- nothing is taken off them

no_front : (text : List ℕ) → AllListed text → prefix_len is_ascii_whitespace text ≡ 0
no_front [] all = refl
no_front (c ∷ text) all = rw (listed_not_white c all.0) refl

listed_at : (text : List ℕ) (k : ℕ) → AllListed text → k < length text → is_listed (get_or text k 0) ≡ true
listed_at [] k all lt = absurd (omega (arith, lt))
listed_at (c ∷ text) zero all lt = all.0
listed_at (c ∷ text) (suc k) all lt = listed_at text k all.1 (omega (arith, lt))

no_back : (text : List ℕ) → AllListed text → suffix_len is_ascii_whitespace text ≡ 0
no_back text all =
    let n = suffix_len_is is_ascii_whitespace text (length text) 0 (omega arith) (λ k le lt. absurd (omega (arith, le, lt)))
    (λ some. listed_not_white (get_or text (length text - 1) 0) (listed_at text (length text - 1) all (omega (arith, some)))) in
    n ∙ omega arith

or_itself : (text : List ℕ) → or_else text text ≡ text
or_itself [] = refl
or_itself (c ∷ text) = refl

no_spaces : (text : List ℕ) → AllListed text → without_spaces text ≡ text
no_spaces text all =
    let n : length text - 0 ≡ length text = omega arith in
    ap (λ (k : ℕ). or_else (to_back (drop k text)) text) (no_front text all)
    ∙ ap (λ (k : ℕ). or_else (take (length text - k) text) text) (no_back text all)
    ∙ ap (λ (k : ℕ). or_else (take k text) text) n
    ∙ ap (λ (l : List ℕ). or_else l text) (take_all (length text) text (omega arith))
    ∙ or_itself text

-- a field that begins with no quotation mark stays
abbrev BeginsPlain : List ℕ → Type 0
BeginsPlain [] = ⊤
BeginsPlain (c ∷ text) = (nat_lt c 128 ≡ true) × ((c == 34) ≡ false) × ((c == 39) ≡ false)

no_high : (c : ℕ) → nat_lt c 128 ≡ true → ((c == 194) ≡ false) × ((c == 226) ≡ false)
no_high c h = (grind (arith, nat_tests), grind (arith, nat_tests))

no_mark : (text : List ℕ) → BeginsPlain text → front_quote text ≡ 0
no_mark [] p = refl
no_mark (a ∷ []) p = rw (p.1, p.2) refl
no_mark (a ∷ b ∷ []) p = let n = no_high a p.0 in rw (p.1, p.2, n.0) refl
no_mark (a ∷ b ∷ c ∷ text) p = let n = no_high a p.0 in rw (p.1, p.2, n.0, n.1) refl

no_quotes : (text : List ℕ) → BeginsPlain text → without_quotes text ≡ text
no_quotes text p = rw (no_mark text p) refl

listed_plain : (c : ℕ) → is_listed c ≡ true → (nat_lt c 128 ≡ true) × ((c == 34) ≡ false) × ((c == 39) ≡ false)
listed_plain c h = (grind (arith, nat_tests), grind (arith, nat_tests), grind (arith, nat_tests))

begins_listed : (text : List ℕ) → AllListed text → BeginsPlain text
begins_listed [] all = tt
begins_listed (c ∷ text) all = listed_plain c all.0

no_zeros : (text : List ℕ) (n : ℕ) → AllListed text → are_zeros (drop n text) ≡ false
no_zeros [] zero all = refl
no_zeros [] (suc n) all = refl
no_zeros (c ∷ text) zero all = rw (listed_no_point c all.0) refl
no_zeros (c ∷ text) (suc n) all = no_zeros text n all.1

never : (a : Bool) (x y : List ℕ) → cond (a && false) x y ≡ y
never true x y = refl
never false x y = refl

no_decimals : (text : List ℕ) → AllListed text → without_decimals text ≡ text
no_decimals text all =
    rw (no_zeros text (prefix_len is_ascii_digit text) all)
    (never (nat_lt 0 (prefix_len is_ascii_digit text)) (take (prefix_len is_ascii_digit text) text) text)

number_stays : (text : List ℕ) → AllListed text → mended_field Number text ≡ text
number_stays text all =
    ap (λ (l : List ℕ). without_decimals (without_quotes l)) (no_spaces text all)
    ∙ ap without_decimals (no_quotes text (begins_listed text all)) ∙ no_decimals text all

-- ---- directions

word_stays : (text : List ℕ) (closed : Closed) → IsWordFor text closed → mended_field Word text ≡ text
word_stays text (One Positive) is = rw is refl
word_stays text (One Negative) is = rw is refl
word_stays text Both is = rw is refl

-- ---- domains

-- a byte of a domain, or a space
abbrev is_written : ℕ → Bool
is_written c = c == 32 || is_solid c

abbrev AllWritten : List ℕ → Type 0
AllWritten [] = ⊤
AllWritten (c ∷ text) = (is_written c ≡ true) × AllWritten text

solid_written : (c : ℕ) → is_solid c ≡ true → is_written c ≡ true
solid_written c h = grind (arith, nat_tests)

spaces_written : (n : ℕ) (text : List ℕ) (from : ℕ) → ((place : ℕ) → from ≤ place → place < from + n → get_or text place 0 ≡ 32)
    → AllWritten (drop (from + n) text) → AllWritten (drop from text)
spaces_written zero text from each all = subst (λ (k : ℕ). AllWritten (drop k text)) (omega arith) all
spaces_written (suc n) text from each all =
    let e : from + suc n ≡ suc from + n = omega arith in
    let here : from + 0 ≡ from = omega arith in
    one (drop from text) (get_or-drop from text 0 0 ∙ ap (λ (k : ℕ). get_or text k 0) here
    ∙ each from (omega arith) (omega arith)) (rest from text)
    (spaces_written n text (suc from) (λ place lo hi. each place (omega (arith, lo)) (omega (arith, hi)))
    (subst (λ (k : ℕ). AllWritten (drop k text)) e all))
  where
    rest : (k : ℕ) (l : List ℕ) → drop 1 (drop k l) ≡ drop (suc k) l
    rest zero l = refl
    rest (suc k) [] = refl
    rest (suc k) (c ∷ l) = rest k l

    one : (l : List ℕ) → get_or l 0 0 ≡ 32 → drop 1 l ≡ drop (suc from) text → AllWritten (drop (suc from) text) → AllWritten l
    one [] e same more = tt
    one (c ∷ l) e same more = (ap is_written e, subst AllWritten (sym same) more)

written_digits : (digits rest : List ℕ) → list_all is_ascii_digit digits ≡ true → AllWritten rest → AllWritten (digits ++ rest)
written_digits [] rest all h = h
written_digits (d ∷ digits) rest all h =
    let p = both (is_ascii_digit d) (list_all is_ascii_digit digits) all in
    (solid_written d (digit_solid d p.0), written_digits digits rest p.1 h)

after_front : (k : ℕ) (text : List ℕ) (c : ℕ) (rest : List ℕ) (n : ℕ) → drop k text ≡ c ∷ rest
    → drop (k + 1 + n) text ≡ drop n rest
after_front zero [] c rest n e = absurd cc
after_front (suc k) [] c rest n e = absurd cc
after_front zero (x ∷ text) c rest n e =
    let same : text ≡ rest = cc in
    let next : 0 + 1 + n ≡ suc n = omega arith in ap (λ (i : ℕ). drop i (x ∷ text)) next ∙ ap (drop n) same
after_front (suc k) (x ∷ text) c rest n e =
    let next : suc k + 1 + n ≡ suc (k + 1 + n) = omega arith in
    ap (λ (i : ℕ). drop i (x ∷ text)) next ∙ after_front k text c rest n e

drop_digits : (digits rest : List ℕ) → drop (length digits) (digits ++ rest) ≡ rest
drop_digits [] rest = refl
drop_digits (d ∷ digits) rest = drop_digits digits rest

token_written : (text : List ℕ) (token : Token) → IsToken text token → AllWritten (drop token.to text)
    → AllWritten (drop token.from text)
token_written text token (sign byte rest e is to) all =
    let left : drop token.to text ≡ rest =
    ap (λ (k : ℕ). drop k text) (to ∙ omega arith) ∙ after_front token.from text byte rest 0 e in
    subst AllWritten (sym e) (solid_written byte (sign_solid token.kind byte is), subst AllWritten left all)
token_written text token (field letter digits known h k to) all =
    let left : drop token.to text ≡ h.rest =
    ap (λ (k : ℕ). drop k text) to ∙ after_front token.from text letter (digits ++ h.rest) (length digits) h.stand
    ∙ drop_digits digits h.rest in
    subst AllWritten (sym h.stand) (
      solid_written letter (letter_solid letter known),
      written_digits digits h.rest h.all (subst AllWritten left all),
    )

gap_written : (text : List ℕ) (from to : ℕ) → AreSpaces text from to → AllWritten (drop to text) → AllWritten (drop from text)
gap_written text from to h all =
    let le = h.0 in
    let n : from + (to - from) ≡ to = omega (arith, le) in
    spaces_written (to - from) text from (λ place lo hi. h.1 place lo (omega (arith, hi, n)))
    (subst (λ (k : ℕ). AllWritten (drop k text)) (sym n) all)

reads_written : (text : List ℕ) (from : ℕ) (tokens : List Token) → Reads text from tokens (length text)
    → AllWritten (drop from text)
reads_written text from [] h =
    gap_written text from (length text) h (subst AllWritten (sym (drop_all (length text) text (omega arith))) tt)
reads_written text from (token ∷ tokens) h =
    gap_written text from token.from h.0 (token_written text token h.1 (reads_written text token.to tokens h.2))

reading_written : (text : List ℕ) (tree : Tree) → IsReading text (Ok tree) → AllWritten text
reading_written text tree is = reads_written text 0 is.0 (tokens_in_parts text is.0 is.1)

written_plain : (c : ℕ) → is_written c ≡ true → (nat_lt c 128 ≡ true) × ((c == 34) ≡ false) × ((c == 39) ≡ false)
written_plain c h = (grind (arith, nat_tests), grind (arith, nat_tests), grind (arith, nat_tests))

begins_written : (text : List ℕ) → AllWritten text → BeginsPlain text
begins_written [] all = tt
begins_written (c ∷ text) all = written_plain c all.0

no_dash : (a b c : ℕ) → is_written a ≡ true → is_dash a b c ≡ false
no_dash a b c h = let p = written_plain a h in let n = no_high a p.0 in rw n.1 refl

no_hyphens : (text : List ℕ) → AllWritten text → with_hyphens text ≡ text
unfolding with_hyphens
no_hyphens [] all = refl
no_hyphens (a ∷ []) all = refl
no_hyphens (a ∷ b ∷ []) all = refl
no_hyphens (a ∷ b ∷ c ∷ text) all =
    rw (no_dash a b c all.0) (ap (λ (l : List ℕ). a ∷ l) (no_hyphens (b ∷ c ∷ text) all.1))

domain_stays : (text : List ℕ) → AllWritten text → with_hyphens (without_quotes text) ≡ text
domain_stays text all = ap with_hyphens (no_quotes text (begins_written text all)) ∙ no_hyphens text all

-- ---- the white space around a domain

white_front : (text : List ℕ) → AllWhite (take (prefix_len is_ascii_whitespace text) text)
white_front [] = tt
white_front (c ∷ text) = by_test (is_ascii_whitespace c) refl (white_front text)
  where
    by_test : (b : Bool) → is_ascii_whitespace c ≡ b → AllWhite (take (prefix_len is_ascii_whitespace text) text)
        → AllWhite (take (cond b (1 + prefix_len is_ascii_whitespace text) 0) (c ∷ text))
    by_test true e more =
        let n : 1 + prefix_len is_ascii_whitespace text ≡ suc (prefix_len is_ascii_whitespace text) = omega arith in
        subst (λ (k : ℕ). AllWhite (take k (c ∷ text))) (sym n) (e, more)
    by_test false e more = tt

white_each : (text : List ℕ) → ((k : ℕ) → k < length text → is_ascii_whitespace (get_or text k 0) ≡ true) → AllWhite text
white_each [] each = tt
white_each (c ∷ text) each = (each 0 (omega arith), white_each text (λ k lt. each (suc k) (omega (arith, lt))))

white_back : (text : List ℕ) → AllWhite (drop (length text - suffix_len is_ascii_whitespace text) text)
white_back text =
    let j = suffix_len is_ascii_whitespace text in
    let few = suffix_len-le-length is_ascii_whitespace text in
    let m = length text - j in
    white_each (drop m text) (λ k lt.
    let size = length-drop m text in
    let back = length text - 1 - (m + k) in
    let at : length text - 1 - back ≡ m + k = omega (arith, lt, size, few) in
    ap is_ascii_whitespace (get_or-drop m text k 0 ∙ ap (λ (i : ℕ). get_or text i 0) (sym at)
    ∙ sym (get_or-reverse text back 0 (omega (arith, lt, size, few))))
    ∙ prefix_len_passes is_ascii_whitespace (reverse text) back 0 (omega (arith, lt, size, few)))

-- the text is white space, what is left of it, and white space
in_parts : (text : List ℕ) → text
    ≡ take (prefix_len is_ascii_whitespace text) text ++ (to_back (from_front text)
    ++ drop (length (from_front text) - suffix_len is_ascii_whitespace (from_front text)) (from_front text))
in_parts text =
    let front = from_front text in
    sym (take-append-drop (prefix_len is_ascii_whitespace text) text)
    ∙ ap (λ (l : List ℕ). take (prefix_len is_ascii_whitespace text) text ++ l)
    (sym (take-append-drop (length front - suffix_len is_ascii_whitespace front) front))

or_reading : (left text : List ℕ) (tree : Tree) → IsReading text (Ok tree) → IsReading left (Ok tree)
    → IsReading (or_else left text) (Ok tree)
or_reading [] text tree is also = is
or_reading (c ∷ left) text tree is also = also

trimmed : (text : List ℕ) (tree : Tree) → IsReading text (Ok tree) → IsReading (without_spaces text) (Ok tree)
trimmed text tree is =
    let front = from_front text in
    or_reading (to_back front) text tree is
    (without_white (take (prefix_len is_ascii_whitespace text) text) (to_back front)
    (drop (length front - suffix_len is_ascii_whitespace front) front) tree (white_front text) (white_back front)
    (subst (λ (l : List ℕ). IsReading l (Ok tree)) (in_parts text) is))

some_left : (left text : List ℕ) → text ≢ [] → or_else left text ≢ []
some_left [] text some = some
some_left (c ∷ left) text some = λ e. cc

mended_domain : (text : List ℕ) (domain : Option Tree) → IsDomain text (Ok domain)
    → (mended_field Domain text ≡ without_spaces text) × IsDomain (without_spaces text) (Ok domain)
mended_domain text None is = rw is (domain_stays [] tt, refl)
mended_domain text (Some tree) is =
    let also = trimmed text tree is.1 in (
      domain_stays (without_spaces text) (reading_written (without_spaces text) tree also),
      (some_left (to_back (from_front text)) text is.0, also),
    )

-- ---- rows

-- the row, with only the spaces around its domain taken off, stands for the restriction
pub record StaysSound (v : Version) (number : ℕ) (e d t text : List ℕ) (r : Restriction) : Type 0 where
  pub same : mended_row false (e ∷ d ∷ t ∷ text ∷ []) ≡ e ∷ d ∷ t ∷ without_spaces text ∷ []
  pub sound : IsRow v number (e ∷ d ∷ t ∷ without_spaces text ∷ []) (Ok r)

module _ (v : Version) (number : ℕ) (e d t text : List ℕ) (r : Restriction) where
  abbrev Made : List ℕ → ℕ → Closed → Vehicles → Type 0
  Made last x c types = (read : Result (Option Tree) TextFault) × IsDomain last read × MatchResult read
      (λ domain. ◌≡◌ {A = Result Restriction RecordFault} (Ok r)
      (Ok (record { element = x; closed = c; vehicles = types; domain = domain })))
      (λ why. ◌≡◌ {A = Result Restriction RecordFault} (Ok r) (Err (fault.Domain number why)))

  of_domain : (x : ℕ) (c : Closed) (types : Vehicles) → IsNumber 10 e x → IsWordFor d c → AreTypes v t types
      → Made text x c types → StaysSound v number e d t text r
  of_domain x c types p q s (Err why, is, same) = absurd cc
  of_domain x c types p q s (Ok domain, is, same) =
      let m = mended_domain text domain is in
      record {
        same = rw (number_stays e (digits_listed e p.2), word_stays d c q, number_stays t (types_listed v t types s), m.0) refl;
        sound = inl (x, p, inl (c, q, inl (types, s, (Ok domain, m.1, same))));
      }

  stays_sound : IsRow v number (e ∷ d ∷ t ∷ text ∷ []) (Ok r) → StaysSound v number e d t text r
  stays_sound (inr bad) = absurd (cc_of bad.1)
    where
      cc_of : ◌≡◌ {A = Result Restriction RecordFault} (Ok r) (Err (fault.Element number)) → ⊥
      cc_of h = cc
  stays_sound (inl (x, p, inr bad)) = absurd (cc_of bad.1)
    where
      cc_of : ◌≡◌ {A = Result Restriction RecordFault} (Ok r) (Err (fault.Direction number)) → ⊥
      cc_of h = cc
  stays_sound (inl (x, p, inl (c, q, inr bad))) = absurd (cc_of bad.1)
    where
      cc_of : ◌≡◌ {A = Result Restriction RecordFault} (Ok r) (Err (fault.Vehicle number)) → ⊥
      cc_of h = cc
  stays_sound (inl (x, p, inl (c, q, inl (types, s, made)))) = of_domain x c types p q s made

no_row : (r : Restriction) (number : ℕ)
    → ◌≡◌ {A = Result Restriction RecordFault} (Ok r) (Err (fault.FieldCount number)) → ⊥
no_row r number h = cc

-- a row that stands for a restriction has four fields
pub only_spaces : (v : Version) (number : ℕ) (e d t text : List ℕ) (r : Restriction)
    → IsRow v number (e ∷ d ∷ t ∷ text ∷ []) (Ok r)
    → mended_row false (e ∷ d ∷ t ∷ text ∷ []) ≡ e ∷ d ∷ t ∷ without_spaces text ∷ []
only_spaces v number e d t text r is = (stays_sound v number e d t text r is).same

pub meaning_kept : (v : Version) (number : ℕ) (row : Fields) (r : Restriction) → IsRow v number row (Ok r)
    → IsRow v number (mended_row false row) (Ok r)
meaning_kept v number [] r is = absurd (no_row r number is)
meaning_kept v number (e ∷ []) r is = absurd (no_row r number is)
meaning_kept v number (e ∷ d ∷ []) r is = absurd (no_row r number is)
meaning_kept v number (e ∷ d ∷ t ∷ []) r is = absurd (no_row r number is)
meaning_kept v number (e ∷ d ∷ t ∷ text ∷ []) r is =
    let s = stays_sound v number e d t text r is in
    subst (λ (l : Fields). IsRow v number l (Ok r)) (sym s.same) s.sound
meaning_kept v number (e ∷ d ∷ t ∷ text ∷ more ∷ row) r is = absurd (no_row r number is)

-- ---- files

others_kept : (v : Version) (number : ℕ) (r : Restriction) (rows : List Fields) (k : ℕ)
    → IsRow v number (get_or rows k []) (Ok r) → IsRow v number (get_or (map (mended_row false) rows) k []) (Ok r)
others_kept v number r [] k is = is
others_kept v number r (row ∷ rows) zero is = meaning_kept v number row r is
others_kept v number r (row ∷ rows) (suc k) is = others_kept v number r rows k is

table_kept : (v : Version) (number : ℕ) (r : Restriction) (rows : List Fields) (k : ℕ) → 0 < k
    → IsRow v number (get_or rows k []) (Ok r) → IsRow v number (get_or (mended_table rows) k []) (Ok r)
table_kept v number r [] k some is = is
table_kept v number r (head ∷ rows) zero some is = absurd (omega (arith, some))
table_kept v number r (head ∷ rows) (suc k) some is = others_kept v number r rows k is

pub kept_in_file : (path : List ℕ) (separator : Separator) (marks : List FileChange) (text mended : List ℕ)
    (lines : List (List ℕ)) (v : Version) (number : ℕ) (r : Restriction) → HasHeader separator text
    → IsRewritten path separator marks text mended lines → 0 < number
    → IsRow v number (get_or (records (separated_by separator) text) number []) (Ok r)
    → IsRow v number (get_or (records default_config (strip_bom mended)) number []) (Ok r)
kept_in_file path separator marks text mended lines v number r has is some sound =
    subst (λ (rows : List Fields). IsRow v number (get_or rows number []) (Ok r))
    (sym (rows_kept path separator marks text mended lines has is))
    (table_kept v number r (records (separated_by separator) text) number some sound)
