-- A range that is read is the first tokens, so many: its last token is the last of them.
use Rattle.std.proofs.Common.{◌≡◌, refl, sym, ap, subst, ◌∙◌, arith, ℕ, zero, suc, ◌+◌, ◌==◌}
use Rattle.std.proofs.Common.{Bool, true, false, not, ◌&&◌, ◌||◌, if◌then◌else◌, ◌⊎◌, inl, inr}
use Rattle.std.proofs.Common.{List, [], ◌∷◌, ◌++◌, length, Option, Some, None, Result, Ok, Err}
use Rattle.gtd_hours.specs.declared.hours.Selector.{Selector}
use Rattle.gtd_hours_days.specs.declared.easter_range.EasterRange.{EasterRange}
use Rattle.gtd_hours_grammar.specs.declared.fault.FaultKind.TheVariants as fault
use Rattle.gtd_hours_grammar.specs.declared.fault.HoursFault.{HoursFault}
use Rattle.gtd_hours_tokens.specs.declared.token.Token.{Token}
use Rattle.gtd_hours_tokens.specs.declared.token.TokenKind.{TokenKind}
use Rattle.gtd_hours_tokens.specs.declared.token.TokenKind.TheVariants as kind
use Rattle.gtd_hours_moving.specs.declared.front.MovingFront.TheVariants as front
use Rattle.gtd_hours_moving.specs.declared.read.ReadEnd.{ReadEnd}
use Rattle.gtd_hours_moving.specs.declared.read.ReadRange.{ReadRange}
use Rattle.gtd_hours_ranges.specs.declared.written.WrittenEnd.{WrittenEnd}
use Rattle.gtd_hours_ranges.specs.declared.written.WrittenEnd.TheVariants.{Day, Easter, Place}
use Rattle.gtd_hours_ranges.specs.declared.written.WrittenPlace.{WrittenPlace}
use Rattle.gtd_hours_moving.specs.Begins.{at_number, begins_offset, behind_brackets, behind_end, behind_month, behind_offset}
use Rattle.gtd_hours_moving.specs.Moving.{IsMovingFront, IsReadFront}
use Rattle.gtd_hours_moving.specs.Kinds.{begins, is_bracket, is_closing, is_dash, is_day, is_number, is_plus, is_sign}
use Rattle.gtd_hours_moving.specs.Kinds.{is_weekday, later}
use Rattle.gtd_hours_moving.specs.Words.{begins_easter}
use Rattle.gtd_hours_moving.specs.Reading.{◌>>=◌, behind_read, dated_end, day_end, days_front, easter_end, easter_offset}
use Rattle.gtd_hours_moving.specs.Reading.{end_front}
use Rattle.gtd_hours_moving.specs.Reading.{end_tokens, fault_at, is_easter_moved, is_moved, is_up_to, one_day, range_from}
use Rattle.gtd_hours_moving.specs.Reading.{length_in, last_year_front, misfit, month_end, month_front, moved_end}
use Rattle.gtd_hours_moving.specs.Reading.{number_at, offset_by}
use Rattle.gtd_hours_moving.specs.Reading.{offset_end, place_end, place_front, place_with, range_front, range_to, range_tokens}
use Rattle.gtd_hours_moving.specs.Reading.{suits, token_front, weekday_of, written_place, year_front, year_tokens}

-- ---- places of tokens

-- so many tokens come before this one
abbrev pub IsBehind : ℕ → List Token → Token → Type 0
IsBehind n [] t = ⊥
IsBehind zero (u ∷ ts) t = u ≡ t
IsBehind (suc n) (u ∷ ts) t = IsBehind n ts t

one_more : (n : ℕ) (ts : List Token) (t : Token) → IsBehind n (later ts) t → IsBehind (suc n) ts t
one_more n [] t h = absurd h
one_more n (u ∷ ts) t h = h

move : (n m : ℕ) (ts : List Token) (t : Token) → n ≡ m → IsBehind n ts t → IsBehind m ts t
move n m ts t e h = subst (λ (k : ℕ). IsBehind k ts t) e h

pub divided : (n : ℕ) (ts : List Token) (t : Token) → IsBehind n ts t
    → (before after : List Token) × (ts ≡ before ++ t ∷ after) × (length before ≡ n)
divided n [] t h = absurd h
divided zero (u ∷ ts) t h = ([], ts, ap (λ (x : Token). x ∷ ts) h, refl)
divided (suc n) (u ∷ ts) t h =
    let d = divided n ts t h in (u ∷ d.0, d.1, ap (λ (l : List Token). u ∷ l) d.2, ap suc d.3)

-- ---- steps

abbrev good : {A : Type 0} → A → Result A HoursFault
good x = Ok x

same_end : (x y : ReadEnd) → good x ≡ Ok y → x ≡ y
same_end x y e = cc

same_range : (x y : ReadRange) → good x ≡ Ok y → x ≡ y
same_range x y e = cc

same_place : (x y : WrittenPlace) → good x ≡ Ok y → x ≡ y
same_place x y e = cc

bind_ok : {A B : Type 0} (r : Result A HoursFault) (f : A → Result B HoursFault) (y : B) → (r >>= f) ≡ Ok y
    → (x : A) × (r ≡ Ok x) × (f x ≡ Ok y)
bind_ok (Ok x) f y e = (x, refl, e)
bind_ok (Err bad) f y e = absurd cc

token-case : (b : Bool) (u t : Token) (bad : HoursFault) → (if b then Ok u else Err bad) ≡ Ok t → u ≡ t
token-case true u t bad e = cc
token-case false u t bad e = absurd cc

token-first : (is : TokenKind → Bool) (ts : List Token) (end : ℕ) (t : Token) → token_front is ts end ≡ Ok t → IsBehind 0 ts t
token-first is [] end t e = absurd cc
token-first is (u ∷ ts) end t e = token-case (is u.kind) u t (misfit (u ∷ ts) end) e

then-case : (b : Bool) (r : Result ReadEnd HoursFault) (bad : HoursFault) (e : ReadEnd) → (if b then r else Err bad) ≡ Ok e
    → r ≡ Ok e
then-case true r bad e is = is
then-case false r bad e is = absurd cc

-- ---- offsets

not_zero : (digits most v c : ℕ) → is_up_to digits most v c ≡ true → (v == 0) ≡ false
not_zero digits most v c e = grind arith

number-case : (b : Bool) (v n : ℕ) (bad : HoursFault) → (if b then Ok v else Err bad) ≡ Ok n → (b ≡ true) × (v ≡ n)
number-case true v n bad e = (refl, cc)
number-case false v n bad e = absurd cc

some_number : (digits most from : ℕ) (k : TokenKind) (n : ℕ) → number_at digits most from k ≡ Ok n → (n == 0) ≡ false
some_number digits most from (kind.Number v c) n e =
    let is = number-case (is_up_to digits most v c) v n (fault_at fault.Range from) e in
    subst (λ (m : ℕ). (m == 0) ≡ false) is.1 (not_zero digits most v c is.0)
some_number digits most from k n e = absurd cc

else-case : (b : Bool) (r : Result ℕ HoursFault) (bad : HoursFault) (n : ℕ) → (if b then Err bad else r) ≡ Ok n → r ≡ Ok n
else-case true r bad n e = absurd cc
else-case false r bad n e = e

-- the days of an offset are some
some_days : (digits most : ℕ) (ts : List Token) (end n : ℕ) → days_front digits most ts end ≡ Ok n → (n == 0) ≡ false
some_days digits most [] end n e = absurd cc
some_days digits most (t ∷ ts) end n e =
    some_number digits most t.from t.kind n
    (else-case (is_weekday t.kind) (number_at digits most t.from t.kind) (fault_at fault.Unsupported t.from) n e)

moved_is : (moved : WrittenEnd) (ts : List Token) (end : ℕ) (e : ReadEnd) → moved_end moved ts end ≡ Ok e
    → (moved ≡ e.end) × IsBehind 0 ts e.last
moved_is moved ts end e is =
    let a = bind_ok (token_front is_day ts end) (λ day. Ok (record { end = moved; last = day })) e is in
    let same = same_end (record { end = moved; last = a.0 }) e a.2 in (
      ap (λ (x : ReadEnd). x.end) same,
      subst (λ (t : Token). IsBehind 0 ts t) (ap (λ (x : ReadEnd). x.last) same) (token-first is_day ts end a.0 a.1),
    )

offset_is : (place : WrittenPlace) (ts : List Token) (end : ℕ) (e : ReadEnd) → offset_end place ts end ≡ Ok e
    → (days : ℕ) × (before : Bool) × (Place place days before ≡ e.end) × ((days == 0) ≡ false) × IsBehind 2 ts e.last
offset_is place [] end e is = absurd cc
offset_is place (sign ∷ ts) end e is =
    let a = bind_ok (days_front 2 27 ts end) (λ days. offset_by place days sign (later ts) end) e is in
    let before = is_dash sign.kind in
    let moved = then-case (suits place a.0 before) (moved_end (Place place a.0 before) (later ts) end)
    (fault_at fault.Range sign.from) e a.2 in
    let there = moved_is (Place place a.0 before) (later ts) end e moved in
    (a.0, before, there.0, some_days 2 27 ts end a.0 a.1, one_more 0 ts e.last there.1)

-- ---- places

-- the last token of a place, with an offset behind its closing bracket or without
abbrev IsLast : Bool → List Token → Token → Token → Type 0
IsLast true ts closing t = IsBehind 2 ts t
IsLast false ts closing t = closing ≡ t

with_is : (moved : Bool) (place : WrittenPlace) (closing : Token) (ts : List Token) (end : ℕ) (e : ReadEnd)
    → place_with moved place closing ts end ≡ Ok e
    → (days : ℕ) × (before : Bool) × (Place place days before ≡ e.end) × ((days == 0) ≡ not moved)
    × IsLast moved ts closing e.last
with_is true place closing ts end e is = offset_is place ts end e is
with_is false place closing ts end e is =
    let same = same_end (record { end = Place place 0 false; last = closing }) e is in
    (0, false, ap (λ (x : ReadEnd). x.end) same, refl, ap (λ (x : ReadEnd). x.last) same)

abbrev place_of : ℕ → ℕ → List Token → ℕ → WrittenPlace
place_of month weekday ts number =
    record { month = month; weekday = weekday; number = number; is_back = begins is_dash (later ts) }

back_is : (month weekday : ℕ) (ts : List Token) (end : ℕ) (p : WrittenPlace) → written_place month weekday ts end ≡ Ok p
    → begins is_dash (later ts) ≡ p.is_back
back_is month weekday ts end p is =
    let a = bind_ok (token_front is_bracket ts end)
    (λ bracket. place_front (at_number ts) end >>= λ number. Ok (place_of month weekday ts number)) p is in
    let b = bind_ok (place_front (at_number ts) end) (λ number. Ok (place_of month weekday ts number)) p a.2 in
    ap (λ (x : WrittenPlace). x.is_back) (same_place (place_of month weekday ts b.0) p b.2)

-- What is known of a place that was read behind a month and a weekday.
record IsPlace (is_first : Bool) (ts : List Token) (e : ReadEnd) : Type 0 where
  pub place : WrittenPlace
  pub days : ℕ
  pub before : Bool
  pub closing : Token
  pub is : Place place days before ≡ e.end
  pub back : begins is_dash (later ts) ≡ place.is_back
  pub zero : (days == 0) ≡ not (is_moved is_first (behind_brackets ts))
  pub closes : IsBehind 0 (later (at_number ts)) closing
  pub last : IsLast (is_moved is_first (behind_brackets ts)) (behind_brackets ts) closing e.last

place_is : (is_first : Bool) (month weekday : ℕ) (ts : List Token) (end : ℕ) (e : ReadEnd)
    → place_end is_first month weekday ts end ≡ Ok e → IsPlace is_first ts e
place_is is_first month weekday ts end e is =
    let moved = is_moved is_first (behind_brackets ts) in
    let a = bind_ok (written_place month weekday ts end)
    (λ place. token_front is_closing (later (at_number ts)) end
    >>= λ closing. place_with moved place closing (behind_brackets ts) end) e is in
    let b = bind_ok (token_front is_closing (later (at_number ts)) end)
    (λ closing. place_with moved a.0 closing (behind_brackets ts) end) e a.2 in
    let there = with_is moved a.0 b.0 (behind_brackets ts) end e b.2 in
    record {
      place = a.0;
      days = there.0;
      before = there.1;
      closing = b.0;
      is = there.2;
      back = back_is month weekday ts end a.0 a.1;
      zero = there.3;
      closes = token-first is_closing (later (at_number ts)) end b.0 b.1;
      last = there.4;
    }

-- how many tokens a place is, by its dash and its offset
abbrev dashes : Bool → ℕ
dashes back = if back then 2 else 1

abbrev offsets : Bool → ℕ
offsets moved = if moved then 3 else 0

tokens_is : (is_first : Bool) (ts : List Token) (e : ReadEnd) → IsPlace is_first ts e
    → end_tokens e.end ≡ dashes (begins is_dash (later ts)) + 4 + offsets (is_moved is_first (behind_brackets ts))
tokens_is is_first ts e p =
    ap end_tokens (sym p.is)
    ∙ counted p.place.is_back (p.days == 0) (begins is_dash (later ts)) (is_moved is_first (behind_brackets ts)) p.back p.zero
  where
    counted : (b z back moved : Bool) → back ≡ b → z ≡ not moved
        → (if b then 6 else 5) + (if z then 0 else 3) ≡ dashes back + 4 + offsets moved
    counted b z back moved e f = grind arith

behind_dashes : (back : Bool) (n : ℕ) (ts : List Token) (t : Token) → IsBehind n (if back then later (later ts) else later ts) t
    → IsBehind (dashes back + n) ts t
behind_dashes true n ts t h =
    move (suc (suc n)) (2 + n) ts t (omega arith) (one_more (suc n) ts t (one_more n (later ts) t h))
behind_dashes false n ts t h = move (suc n) (1 + n) ts t (omega arith) (one_more n ts t h)

last_is : (moved : Bool) (ts : List Token) (closing t : Token) → IsBehind 0 ts closing → IsLast moved (later ts) closing t
    → IsBehind (offsets moved) ts t
last_is true ts closing t closes last = one_more 2 ts t last
last_is false ts closing t closes last = subst (λ (x : Token). IsBehind 0 ts x) last closes

place_last : (is_first : Bool) (ts : List Token) (e : ReadEnd) → IsPlace is_first ts e
    → (n : ℕ) × (end_tokens e.end ≡ suc (suc (suc n))) × IsBehind n ts e.last
place_last is_first ts e p =
    let back = begins is_dash (later ts) in
    let moved = is_moved is_first (behind_brackets ts) in
    let here = last_is moved (later (at_number ts)) p.closing e.last p.closes p.last in (
      dashes back + suc (offsets moved),
      tokens_is is_first ts e p ∙ counted (dashes back) (offsets moved),
      behind_dashes back (suc (offsets moved)) ts e.last (one_more (offsets moved) (at_number ts) e.last here),
    )
  where
    counted : (a b : ℕ) → a + 4 + b ≡ suc (suc (suc (a + suc b)))
    counted a b = omega arith

behind_offsets : (moved : Bool) (n : ℕ) (ts : List Token) (t : Token)
    → IsBehind n (if moved then later (later (later ts)) else ts) t → IsBehind (offsets moved + n) ts t
behind_offsets true n ts t h =
    move (suc (suc (suc n))) (3 + n) ts t (omega arith)
    (one_more (suc (suc n)) ts t (one_more (suc n) (later ts) t (one_more n (later (later ts)) t h)))
behind_offsets false n ts t h = move n (0 + n) ts t (omega arith) h

place_rest : (n : ℕ) (m u : Token) (ts : List Token) (t : Token) (e : ReadEnd) → IsPlace true ts e
    → IsBehind n (behind_offset (behind_brackets ts)) t → IsBehind (n + end_tokens e.end) (m ∷ u ∷ ts) t
place_rest n m u ts t e p h =
    let back = begins is_dash (later ts) in
    let moved = begins_offset (behind_brackets ts) in
    let a = behind_offsets moved n (behind_brackets ts) t h in
    let k : ℕ = offsets moved + n in
    let b = one_more (suc k) (at_number ts) t (one_more k (later (at_number ts)) t a) in
    let c = behind_dashes back (suc (suc k)) ts t b in
    move (suc (suc (dashes back + suc (suc k)))) (n + end_tokens e.end) (m ∷ u ∷ ts) t
    (counted (dashes back) (offsets moved) n (end_tokens e.end) (tokens_is true ts e p)) c
  where
    counted : (a b n k : ℕ) → k ≡ a + 4 + b → suc (suc (a + suc (suc (b + n)))) ≡ n + k
    counted a b n k e = omega (arith, e)

-- ---- ends

abbrev day_of : ℕ → Token → ℕ → ReadEnd
day_of month t day = record { end = Day month day; last = t }

day_is : (year : Option ℕ) (month : ℕ) (t : Token) (e : ReadEnd) → day_end year month t ≡ Ok e
    → (end_tokens e.end ≡ 2) × (t ≡ e.last)
day_is year month t e is =
    let a = bind_ok (number_at 2 (length_in year month) t.from t.kind) (λ day. Ok (day_of month t day)) e is in
    let same = same_end (day_of month t a.0) e a.2 in
    (sym (ap (λ (x : ReadEnd). end_tokens x.end) same), ap (λ (x : ReadEnd). x.last) same)

last-case : (b is_first : Bool) (year : Option ℕ) (month weekday : ℕ) (m u : Token) (ts : List Token) (end : ℕ) (e : ReadEnd)
    → (if b then place_end is_first month weekday ts end else day_end year month u) ≡ Ok e
    → (n : ℕ) × (end_tokens e.end ≡ suc n) × IsBehind n (m ∷ u ∷ ts) e.last
last-case true is_first year month weekday m u ts end e is =
    let p = place_last is_first ts e (place_is is_first month weekday ts end e is) in (suc (suc p.0), p.1, p.2)
last-case false is_first year month weekday m u ts end e is = let d = day_is year month u e is in (1, d.0, d.1)

dated_last : (is_first : Bool) (year : Option ℕ) (ts : List Token) (end : ℕ) (e : ReadEnd)
    → dated_end is_first year ts end ≡ Ok e → (n : ℕ) × (end_tokens e.end ≡ suc n) × IsBehind n ts e.last
dated_last is_first year [] end e is = absurd cc
dated_last is_first year (m ∷ []) end e is =
    let a = bind_ok (month_front (m ∷ []) end) (λ month. month_end is_first year month [] end) e is in absurd (none a.2)
  where
    none : Err (misfit [] end) ≡ Ok e → ⊥
    none e = absurd cc
dated_last is_first year (m ∷ u ∷ ts) end e is =
    let a = bind_ok (month_front (m ∷ u ∷ ts) end) (λ month. month_end is_first year month (u ∷ ts) end) e is in
    last-case (is_weekday u.kind) is_first year a.0 (weekday_of u.kind) m u ts end e a.2

rest-case : (b : Bool) (n : ℕ) (year : Option ℕ) (month weekday : ℕ) (m u : Token) (ts : List Token) (end : ℕ) (e : ReadEnd)
    (t : Token) → (if b then place_end true month weekday ts end else day_end year month u) ≡ Ok e
    → IsBehind n (if b then behind_offset (behind_brackets ts) else ts) t → IsBehind (n + end_tokens e.end) (m ∷ u ∷ ts) t
rest-case true n year month weekday m u ts end e t is h =
    place_rest n m u ts t e (place_is true month weekday ts end e is) h
rest-case false n year month weekday m u ts end e t is h =
    let d = day_is year month u e is in
    move (suc (suc n)) (n + end_tokens e.end) (m ∷ u ∷ ts) t (counted n (end_tokens e.end) d.0) h
  where
    counted : (n k : ℕ) → k ≡ 2 → suc (suc n) ≡ n + k
    counted n k e = omega (arith, e)

dated_rest : (n : ℕ) (year : Option ℕ) (ts : List Token) (end : ℕ) (e : ReadEnd) (t : Token)
    → dated_end true year ts end ≡ Ok e → IsBehind n (behind_month (later ts)) t → IsBehind (n + end_tokens e.end) ts t
dated_rest n year [] end e t is h = absurd cc
dated_rest n year (m ∷ []) end e t is h = absurd h
dated_rest n year (m ∷ u ∷ ts) end e t is h =
    let a = bind_ok (month_front (m ∷ u ∷ ts) end) (λ month. month_end true year month (u ∷ ts) end) e is in
    rest-case (is_weekday u.kind) n year a.0 (weekday_of u.kind) m u ts end e t a.2 h

-- ---- Easter

-- how many tokens `easter` is, without an offset or with one
abbrev easter_tokens : Bool → ℕ
easter_tokens none = if none then 1 else 4

-- What is known of Easter that was read, with an offset behind it or without.
easter_offset_is : (from : ℕ) (ts : List Token) (end : ℕ) (e : ReadEnd) → easter_offset from ts end ≡ Ok e
    → (end_tokens e.end ≡ 4) × IsBehind 2 ts e.last
easter_offset_is from [] end e is = absurd cc
easter_offset_is from (sign ∷ ts) end e is =
    let a = bind_ok (days_front 3 366 ts end) (λ days. moved_end (Easter days (is_dash sign.kind) from) (later ts) end) e is in
    let there = moved_is (Easter a.0 (is_dash sign.kind) from) (later ts) end e a.2 in (
      sym (ap end_tokens there.0) ∙ counted (a.0 == 0) (some_days 3 366 ts end a.0 a.1),
      one_more 0 ts e.last there.1,
    )
  where
    counted : (b : Bool) → b ≡ false → easter_tokens b ≡ 4
    counted true e = absurd cc
    counted false e = refl

easter-case : (b : Bool) (t : Token) (ts : List Token) (end : ℕ) (e : ReadEnd)
    → (if b then easter_offset t.from ts end else Ok (record { end = Easter 0 false t.from; last = t })) ≡ Ok e
    → (end_tokens e.end ≡ suc (offsets b)) × IsBehind (offsets b) (t ∷ ts) e.last
easter-case true t ts end e is = let a = easter_offset_is t.from ts end e is in (a.0, a.1)
easter-case false t ts end e is =
    let same = same_end (record { end = Easter 0 false t.from; last = t }) e is in
    (sym (ap (λ (x : ReadEnd). end_tokens x.end) same), ap (λ (x : ReadEnd). x.last) same)

easter_last : (is_first : Bool) (ts : List Token) (end : ℕ) (e : ReadEnd) → easter_end is_first ts end ≡ Ok e
    → (n : ℕ) × (end_tokens e.end ≡ suc n) × IsBehind n ts e.last
easter_last is_first [] end e is = absurd cc
easter_last is_first (t ∷ ts) end e is =
    let a = easter-case (is_easter_moved is_first ts) t ts end e is in (offsets (is_easter_moved is_first ts), a.0, a.1)

-- an offset that was read is a sign, a number and `day`, so it is what stands behind `easter`
number-is : (digits most from : ℕ) (k : TokenKind) (n : ℕ) → number_at digits most from k ≡ Ok n → is_number k ≡ true
number-is digits most from (kind.Number v c) n e = refl
number-is digits most from k n e = absurd cc

days-is : (digits most : ℕ) (ts : List Token) (end n : ℕ) → days_front digits most ts end ≡ Ok n → begins is_number ts ≡ true
days-is digits most [] end n e = absurd cc
days-is digits most (t ∷ ts) end n e =
    number-is digits most t.from t.kind n
    (else-case (is_weekday t.kind) (number_at digits most t.from t.kind) (fault_at fault.Unsupported t.from) n e)

token-is : (is : TokenKind → Bool) (ts : List Token) (end : ℕ) (t : Token) → token_front is ts end ≡ Ok t → begins is ts ≡ true
token-is is [] end t e = absurd cc
token-is is (u ∷ ts) end t e = taken (is u.kind) u t (misfit (u ∷ ts) end) e
  where
    taken : (b : Bool) (u t : Token) (bad : HoursFault) → (if b then Ok u else Err bad) ≡ Ok t → b ≡ true
    taken true u t bad e = refl
    taken false u t bad e = absurd cc

all-three : (a b c : Bool) → a ≡ true → b ≡ true → c ≡ true → (a && b && c) ≡ true
all-three a b c e f g = rw (e, f, g) refl

offset-there : (from : ℕ) (ts : List Token) (end : ℕ) (e : ReadEnd) → begins is_sign ts ≡ true → easter_offset from ts end ≡ Ok e
    → begins_offset ts ≡ true
offset-there from [] end e sign is = absurd cc
offset-there from (s ∷ ts) end e sign is =
    let a = bind_ok (days_front 3 366 ts end) (λ days. moved_end (Easter days (is_dash s.kind) from) (later ts) end) e is in
    let b = bind_ok (token_front is_day (later ts) end)
    (λ day. Ok (record { end = Easter a.0 (is_dash s.kind) from; last = day })) e a.2 in
    all-three (is_sign s.kind) (begins is_number ts) (begins is_day (later ts)) sign (days-is 3 366 ts end a.0 a.1)
    (token-is is_day (later ts) end b.0 b.1)

plus-sign : (k : TokenKind) → is_plus k ≡ true → is_sign k ≡ true
plus-sign kind.Plus e = refl
plus-sign k e = absurd cc

dash-sign : (k : TokenKind) → is_dash k ≡ true → is_sign k ≡ true
dash-sign kind.Dash e = refl
dash-sign k e = absurd cc

-- where an offset is read behind a first `easter`, a sign stands there
moved-sign : (ts : List Token) → is_easter_moved true ts ≡ true → begins is_sign ts ≡ true
moved-sign [] e = absurd cc
moved-sign (s ∷ ts) e =
    elim (cases (begins_offset (s ∷ ts)) (is_plus s.kind) (is_dash s.kind) (begins is_weekday ts) e) [
      | inl offset ↦ left_of (is_sign s.kind) (begins is_number ts) (begins is_day (later ts)) offset
      | inr (inl plus) ↦ plus-sign s.kind plus
      | inr (inr dash) ↦ dash-sign s.kind dash
    ]
  where
    cases : (a b c d : Bool) → (a || b || (c && d)) ≡ true → (a ≡ true) ⊎ ((b ≡ true) ⊎ (c ≡ true))
    cases true b c d e = inl refl
    cases false true c d e = inr (inl refl)
    cases false false true d e = inr (inr refl)
    cases false false false d e = absurd cc

    left_of : (a b c : Bool) → (a && b && c) ≡ true → a ≡ true
    left_of true b c e = refl
    left_of false b c e = absurd cc

easter-rest : (b : Bool) (n : ℕ) (t : Token) (ts : List Token) (end : ℕ) (e : ReadEnd) (u : Token)
    → is_easter_moved true ts ≡ b
    → (if b then easter_offset t.from ts end else Ok (record { end = Easter 0 false t.from; last = t })) ≡ Ok e
    → IsBehind n (behind_offset ts) u → IsBehind (n + end_tokens e.end) (t ∷ ts) u
easter-rest true n t ts end e u moved is h =
    let a = easter_offset_is t.from ts end e is in
    let there : IsBehind n (later (later (later ts))) u =
    rw (offset-there t.from ts end e (moved-sign ts moved) is) at h in
    move (suc (3 + n)) (n + end_tokens e.end) (t ∷ ts) u (counted n (end_tokens e.end) a.0) (behind_offsets true n ts u there)
  where
    counted : (n k : ℕ) → k ≡ 4 → suc (3 + n) ≡ n + k
    counted n k e = omega (arith, e)
easter-rest false n t ts end e u moved is h =
    let same = same_end (record { end = Easter 0 false t.from; last = t }) e is in
    let one : end_tokens e.end ≡ 1 = sym (ap (λ (x : ReadEnd). end_tokens x.end) same) in
    let none : begins_offset ts ≡ false =
    not_moved (begins_offset ts) (begins is_plus ts) (begins is_dash ts && begins is_weekday (later ts)) moved in
    let there : IsBehind n ts u = rw none at h in
    move (suc n) (n + end_tokens e.end) (t ∷ ts) u (counted n (end_tokens e.end) one) there
  where
    counted : (n k : ℕ) → k ≡ 1 → suc n ≡ n + k
    counted n k e = omega (arith, e)

    not_moved : (a b c : Bool) → (a || b || c) ≡ false → a ≡ false
    not_moved true b c e = absurd cc
    not_moved false b c e = refl

easter_rest : (n : ℕ) (ts : List Token) (end : ℕ) (e : ReadEnd) (u : Token) → easter_end true ts end ≡ Ok e
    → IsBehind n (behind_offset (later ts)) u → IsBehind (n + end_tokens e.end) ts u
easter_rest n [] end e u is h = absurd cc
easter_rest n (t ∷ ts) end e u is h = easter-rest (is_easter_moved true ts) n t ts end e u refl is h

-- ---- all ends

end-last-case : (b is_first : Bool) (year : Option ℕ) (ts : List Token) (end : ℕ) (e : ReadEnd)
    → (if b then easter_end is_first ts end else dated_end is_first year ts end) ≡ Ok e
    → (n : ℕ) × (end_tokens e.end ≡ suc n) × IsBehind n ts e.last
end-last-case true is_first year ts end e is = easter_last is_first ts end e is
end-last-case false is_first year ts end e is = dated_last is_first year ts end e is

end_last : (is_first : Bool) (year : Option ℕ) (text : List ℕ) (ts : List Token) (e : ReadEnd)
    → end_front is_first year text ts ≡ Ok e → (n : ℕ) × (end_tokens e.end ≡ suc n) × IsBehind n ts e.last
end_last is_first year text ts e is = end-last-case (begins_easter text ts) is_first year ts (length text) e is

end-rest-case : (b : Bool) (n : ℕ) (year : Option ℕ) (ts : List Token) (end : ℕ) (e : ReadEnd) (t : Token)
    → (if b then easter_end true ts end else dated_end true year ts end) ≡ Ok e
    → IsBehind n (if b then behind_offset (later ts) else behind_month (later ts)) t → IsBehind (n + end_tokens e.end) ts t
end-rest-case true n year ts end e t is h = easter_rest n ts end e t is h
end-rest-case false n year ts end e t is h = dated_rest n year ts end e t is h

-- what is behind the first end, by the kinds of the tokens, is behind as many tokens as it has
end_rest : (n : ℕ) (year : Option ℕ) (text : List ℕ) (ts : List Token) (e : ReadEnd) (t : Token)
    → end_front true year text ts ≡ Ok e → IsBehind n (behind_end text ts) t → IsBehind (n + end_tokens e.end) ts t
end_rest n year text ts e t is h = end-rest-case (begins_easter text ts) n year ts (length text) e t is h

-- ---- ranges

read_back : (year : Option ℕ) (n : ℕ) (ts : List Token) (t : Token) → IsBehind n (behind_read year ts) t
    → IsBehind (year_tokens year + n) ts t
read_back None n ts t h = move n (0 + n) ts t (omega arith) h
read_back (Some year) n ts t h = move (suc n) (1 + n) ts t (omega arith) (one_more n ts t h)

abbrev range_of : Option ℕ → WrittenEnd → Option ℕ → ReadEnd → ReadRange
range_of year first last_year last = record {
  range = record { year = year; first = first; last_year = last_year; last = last.end };
  is_one = false;
  last = last.last;
}

to_last : (year : Option ℕ) (first : WrittenEnd) (text : List ℕ) (ts : List Token) (r : ReadRange)
    → range_to year first text ts ≡ Ok r
    → (n : ℕ) × (range_tokens r ≡ year_tokens year + end_tokens first + suc (suc n)) × IsBehind n ts r.last
to_last year first text ts r is =
    let a = bind_ok (last_year_front year ts)
    (λ last_year. end_front false last_year text (behind_read last_year ts)
    >>= λ last. Ok (range_of year first last_year last)) r is in
    let b = bind_ok (end_front false a.0 text (behind_read a.0 ts)) (λ last. Ok (range_of year first a.0 last)) r a.2 in
    let same = same_range (range_of year first a.0 b.0) r b.2 in
    let here = end_last false a.0 text (behind_read a.0 ts) b.0 b.1 in (
      year_tokens a.0 + here.0,
      sym (ap range_tokens same)
          ∙ counted (year_tokens year) (end_tokens first) (year_tokens a.0) (end_tokens b.0.end) here.0 here.1,
      subst (λ (t : Token). IsBehind (year_tokens a.0 + here.0) ts t) (ap (λ (x : ReadRange). x.last) same)
          (read_back a.0 here.0 ts b.0.last here.2),
    )
  where
    counted : (a b c d n : ℕ) → d ≡ suc n → a + b + (1 + c + d) ≡ a + b + suc (suc (c + n))
    counted a b c d n e = omega (arith, e)

-- the last token, behind a year and a first end that are read
from-case : (b : Bool) (year : Option ℕ) (first : ReadEnd) (text : List ℕ) (dated : List Token) (r : ReadRange)
    → end_front true year text dated ≡ Ok first
    → (if b then range_to year first.end text (later (behind_end text dated)) else Ok (one_day year first)) ≡ Ok r
    → (n : ℕ) × (year_tokens year + n + 1 ≡ range_tokens r) × IsBehind n dated r.last
from-case true year first text dated r is to =
    let there = to_last year first.end text (later (behind_end text dated)) r to in
    let n : ℕ = there.0 in
    let dash = one_more n (behind_end text dated) r.last there.2 in (
      suc n + end_tokens first.end,
      counted (year_tokens year) (end_tokens first.end) n (range_tokens r) there.1,
      end_rest (suc n) year text dated first r.last is dash,
    )
  where
    counted : (a b n k : ℕ) → k ≡ a + b + suc (suc n) → a + (suc n + b) + 1 ≡ k
    counted a b n k e = omega (arith, e)
from-case false year first text dated r is to =
    let same = same_range (one_day year first) r to in
    let here = end_last true year text dated first is in (
      here.0,
      counted (year_tokens year) (end_tokens first.end) here.0 here.1 ∙ ap range_tokens same,
      subst (λ (t : Token). IsBehind here.0 dated t) (ap (λ (x : ReadRange). x.last) same) here.2,
    )
  where
    counted : (a b n : ℕ) → b ≡ suc n → a + n + 1 ≡ a + b + 0
    counted a b n e = omega (arith, e)

range_last : (text : List ℕ) (ts : List Token) (r : ReadRange) → range_front text ts ≡ Ok r
    → (n : ℕ) × (n + 1 ≡ range_tokens r) × IsBehind n ts r.last
range_last text ts r is =
    let a = bind_ok (year_front ts)
    (λ year. end_front true year text (behind_read year ts)
    >>= λ first. range_from year first text (behind_end text (behind_read year ts))) r is in
    let dated = behind_read a.0 ts in
    let b = bind_ok (end_front true a.0 text dated) (λ first. range_from a.0 first text (behind_end text dated)) r a.2 in
    let from = from-case (begins is_dash (behind_end text dated)) a.0 b.0 text dated r b.1 b.2 in
    (year_tokens a.0 + from.0, from.1, read_back a.0 from.0 ts r.last from.2)

abbrev IsFirst : List Token → ℕ → ℕ → Type 0
IsFirst tokens count to =
    (before after : List Token) × (last : Token) × (tokens ≡ before ++ last ∷ after) × (length before + 1 ≡ count)
    × (last.to ≡ to)

first_are : (text : List ℕ) (tokens : List Token) (r : ReadRange) (count to : ℕ) → range_front text tokens ≡ Ok r
    → count ≡ range_tokens r → to ≡ r.last.to → IsFirst tokens count to
first_are text tokens r count to is same end =
    let here = range_last text tokens r is in
    let d = divided here.0 tokens r.last here.2 in
    (d.0, d.1, r.last, d.2, ap (λ (n : ℕ). n + 1) d.3 ∙ here.1 ∙ sym same, sym end)

always-case : (read : Result ReadRange HoursFault) (days : Selector) (count to : ℕ)
    → IsReadFront read (front.Range days count to)
    → (r : ReadRange) × (read ≡ Ok r) × (count ≡ range_tokens r) × (to ≡ r.last.to)
always-case (Ok r) days count to h = (r, refl, h.1, h.2)
always-case (Err bad) days count to h = absurd cc

easter-front : (read : Result ReadRange HoursFault) (days : EasterRange) (place count to : ℕ)
    → IsReadFront read (front.Easter days place count to)
    → (r : ReadRange) × (read ≡ Ok r) × (count ≡ range_tokens r) × (to ≡ r.last.to)
easter-front (Ok r) days place count to h = (r, refl, h.2, h.3)
easter-front (Err bad) days place count to h = absurd cc

pub first_tokens : (text : List ℕ) (tokens : List Token) (days : Selector) (count to : ℕ)
    → IsMovingFront text tokens (Some (front.Range days count to)) → IsFirst tokens count to
first_tokens text tokens days count to h =
    let read = always-case (range_front text tokens) days count to h.1 in
    first_are text tokens read.0 count to read.1 read.2 read.3

pub first_easter : (text : List ℕ) (tokens : List Token) (days : EasterRange) (place count to : ℕ)
    → IsMovingFront text tokens (Some (front.Easter days place count to)) → IsFirst tokens count to
first_easter text tokens days place count to h =
    let read = easter-front (range_front text tokens) days place count to h.1 in
    first_are text tokens read.0 count to read.1 read.2 read.3
