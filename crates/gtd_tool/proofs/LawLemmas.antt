-- A command line has one answer.
use Rattle.std.proofs.Common.{◌≡◌, ◌∙◌, inl, inr, List, [], ◌∷◌, codes, Option, Some, None, is_some, refl, sym, ap}
use Rattle.std.proofs.Common.{subst, true≢false, arith, ℕ}
use Rattle.std.specs.Prelude.{unwrap_or, option_map, Result, Ok, Err, ℤ, is_ok}
use Rattle.std.proofs.lemmas.Int.{ints}
use Rattle.gtd_core.specs.Trees.{Tree, Single, Joined}
use Rattle.gtd_core.specs.Horizons.{IsHorizon, IsHorizonFault}
use Rattle.gtd_core.specs.declared.horizon.HorizonFault.{HorizonFault}
use Rattle.gtd_core.specs.declared.horizon.HorizonFault.TheVariants.{Empty, TooEarly, TooLate, TooLong}
use Rattle.gtd_core.specs.Whole.{from_day, to_day}
use Rattle.gtd_core.specs.declared.horizon.Horizon.{Horizon}
use Rattle.gtd_core.specs.declared.second.Sec.{Sec}
use Rattle.gtd_text.specs.Canonical.{canonical}
use Rattle.gtd_text.specs.facts.OneMeaning.{one_meaning}
use Rattle.gtd_text.specs.facts.ReadingLaws.{one_fault}
use Rattle.gtd_core.specs.Seconds.{day_of_second}
use Rattle.gtd_calendar.specs.Read.{date_in, stamp_in}
use Rattle.gtd_roads.specs.Columns.{direction_of, number_of}
use Rattle.gtd_roads.specs.Direction.{Direction}
use Rattle.gtd_tool.specs.Asked.{Asked, Text}
use Rattle.gtd_tool.specs.CommandLines.{reading_in}
use Rattle.gtd_tool.specs.Commands.Check as check
use Rattle.gtd_tool.specs.Commands.Canon as canon
use Rattle.gtd_tool.specs.Plans.{AsksFor}
use Rattle.gtd_tool.specs.Readings.{Asks, Gives, IsDomain, IsHorizonOf, IsHorizonTo, IsNumberUpTo, IsRead, IsValue}
use Rattle.gtd_tool.specs.Readings.{Reading, ValueOf}
use Rattle.gtd_tool.specs.Readings.{Part, NumberPart, NumberUpToPart, DirectionPart, DomainPart, MomentPart, DatePart}
use Rattle.gtd_tool.specs.Readings.{HorizonPart, DaysPart, at_most}
use Rattle.gtd_tool.specs.Refusals.{IsFaultOf, IsFaultless, IsFirstRefusal, IsRefusalOf, IsRefused}
use Rattle.gtd_tool.specs.declared.refusal.Refusal.{Refusal}
use Rattle.gtd_tool.specs.declared.refusal.Refusal.TheVariants as refusal
use Rattle.gtd_tool.proofs.HorizonLemmas.{same_horizon}

-- ---- results

abbrev value_or : {A E : Type 0} → A → Result A E → A
value_or x (Ok v) = v
value_or x (Err f) = x

abbrev error_or : {A E : Type 0} → E → Result A E → E
error_or x (Ok v) = x
error_or x (Err f) = f

one_value : {A E : Type 0} (r : Result A E) (x y : A) → r ≡ Ok x → r ≡ Ok y → x ≡ y
one_value r x y p q = ap (value_or x) (sym p ∙ q)

one_error : {A E : Type 0} (r : Result A E) (x y : E) → r ≡ Err x → r ≡ Err y → x ≡ y
one_error r x y p q = ap (error_or x) (sym p ∙ q)

pub ok_or_err : {A E : Type 0} (r : Result A E) (x : A) (f : E) → r ≡ Ok x → r ≡ Err f → ⊥
ok_or_err r x f p q = true≢false (ap is_ok (sym p ∙ q))

one_some : {A : Type 0} (o : Option A) (x y : A) → o ≡ Some x → o ≡ Some y → x ≡ y
one_some o x y p q = ap (λ (o : Option _). unwrap_or o x) (sym p ∙ q)

some_or_none : {A : Type 0} (o : Option A) (x : A) → o ≡ Some x → o ≡ None → ⊥
some_or_none o x p q = true≢false (ap is_some (sym p ∙ q))

-- ---- horizons

one_horizon_fault : (f g : HorizonFault) (from to : ℤ) → IsHorizonFault f from to → IsHorizonFault g from to → f ≡ g
one_horizon_fault Empty Empty from to p q = refl
one_horizon_fault Empty TooEarly from to p q = absurd (omega (arith, ints, p, q.0))
one_horizon_fault Empty TooLate from to p q = absurd (omega (arith, ints, p, q.0))
one_horizon_fault Empty TooLong from to p q = absurd (omega (arith, ints, p, q.0))
one_horizon_fault TooEarly Empty from to p q = absurd (omega (arith, ints, q, p.0))
one_horizon_fault TooEarly TooEarly from to p q = refl
one_horizon_fault TooEarly TooLate from to p q = absurd (omega (arith, ints, p.1, q.1))
one_horizon_fault TooEarly TooLong from to p q = absurd (omega (arith, ints, p.1, q.1))
one_horizon_fault TooLate Empty from to p q = absurd (omega (arith, ints, q, p.0))
one_horizon_fault TooLate TooEarly from to p q = absurd (omega (arith, ints, q.1, p.1))
one_horizon_fault TooLate TooLate from to p q = refl
one_horizon_fault TooLate TooLong from to p q = absurd (omega (arith, ints, p.2, q.2))
one_horizon_fault TooLong Empty from to p q = absurd (omega (arith, ints, q, p.0))
one_horizon_fault TooLong TooEarly from to p q = absurd (omega (arith, ints, q.1, p.1))
one_horizon_fault TooLong TooLate from to p q = absurd (omega (arith, ints, p.2, q.2))
one_horizon_fault TooLong TooLong from to p q = refl

faultless_horizon : (f : HorizonFault) (from to : ℤ) → IsHorizon from to → IsHorizonFault f from to → ⊥
faultless_horizon Empty from to h q = omega (arith, ints, h.0, q)
faultless_horizon TooEarly from to h q = omega (arith, ints, h.1, q.1)
faultless_horizon TooLate from to h q = omega (arith, ints, h.2, q.2)
faultless_horizon TooLong from to h q = omega (arith, ints, h.3, q.3)

horizon_is : (h : Horizon) → IsHorizon (from_day h) (to_day h)
horizon_is h = (h.not_empty, h.not_early, h.not_late, h.not_long)

-- ---- parts

one_fault_of : (p : Part) (r s : Refusal) → IsFaultOf p r → IsFaultOf p s → r ≡ s
one_fault_of (NumberPart text) r s a b = a.1 ∙ sym b.1
one_fault_of (NumberUpToPart limit text) r s a b = a.1 ∙ sym b.1
one_fault_of (DirectionPart text) r s a b = a.1 ∙ sym b.1
one_fault_of (DomainPart text) r s a b = a.2 ∙ ap refusal.Text (one_fault text a.0 b.0 a.1 b.1) ∙ sym b.2
one_fault_of (MomentPart text) r s a b = a.2 ∙ ap refusal.Moment (one_error (stamp_in text) a.0 b.0 a.1 b.1) ∙ sym b.2
one_fault_of (DatePart text) r s a b = a.2 ∙ ap refusal.Date (one_error (date_in text) a.0 b.0 a.1 b.1) ∙ sym b.2
one_fault_of (HorizonPart first second) r s (m, to, mi, ti, (f, has, is)) (n, so, ni, si, (g, has2, is2)) =
    let em : m ≡ n = one_value (stamp_in first) m n mi ni in
    let et : to ≡ so = one_value (date_in second) to so ti si in
    let other : IsHorizonFault g (day_of_second m.0) to = rw (em, et) has2 in
    is ∙ ap refusal.Horizon (one_horizon_fault f g (day_of_second m.0) to has other) ∙ sym is2
one_fault_of (DaysPart first second) r s (from, to, fi, ti, (f, has, is)) (other, so, oi, si, (g, has2, is2)) =
    let ef : from ≡ other = one_value (date_in first) from other fi oi in
    let et : to ≡ so = one_value (date_in second) to so ti si in
    let same : IsHorizonFault g from to = rw (ef, et) has2 in
    is ∙ ap refusal.Horizon (one_horizon_fault f g from to has same) ∙ sym is2

pub one_first_fault : (ps : List Part) (r s : Refusal) → IsFirstRefusal ps r → IsFirstRefusal ps s → r ≡ s
one_first_fault [] r s a b = absurd a
one_first_fault (p ∷ ps) r s (inl a) (inl b) = one_fault_of p r s a b
one_first_fault (p ∷ ps) r s (inl a) (inr b) = absurd (b.0 r a)
one_first_fault (p ∷ ps) r s (inr a) (inl b) = absurd (a.0 s b)
one_first_fault (p ∷ ps) r s (inr a) (inr b) = one_first_fault ps r s a.1 b.1

pub domain_faultless : (text : Text) (tree : Tree) → IsDomain text tree → IsFaultless (DomainPart text)
domain_faultless text tree d r h = d.faultless h.0 h.1

pub moment_faultless : (text : Text) (m : Sec) → stamp_in text ≡ Ok m → IsFaultless (MomentPart text)
moment_faultless text m e r h = ok_or_err (stamp_in text) m h.0 e h.1

pub date_faultless : (text : Text) (to : ℤ) → date_in text ≡ Ok to → IsFaultless (DatePart text)
date_faultless text to e r h = ok_or_err (date_in text) to h.0 e h.1

horizon_faultless : (first second : Text) (to : ℤ) → IsHorizonTo first second to → IsFaultless (HorizonPart first second)
horizon_faultless first second to h r (n, so, ni, si, (f, has, is)) =
    let em : h.moment ≡ n = one_value (stamp_in first) h.moment n h.moment_read ni in
    let et : to ≡ so = one_value (date_in second) to so h.date_read si in
    let other : IsHorizonFault f (day_of_second h.moment.0) to = rw (em, et) has in
    faultless_horizon f (day_of_second h.moment.0) to h.horizon other

pub number_faultless : (text : Text) (n : ℕ) → number_of text ≡ Some n → IsFaultless (NumberPart text)
number_faultless text n e r h = some_or_none (number_of text) n e h.0

pub number_up_to_faultless : (limit : ℕ) (text : Text) (n : ℕ) → IsNumberUpTo limit text n → IsFaultless (NumberPart text)
number_up_to_faultless limit text n e r h =
    some_or_none (option_map (at_most limit) (number_of text)) n e (ap (option_map (at_most limit)) h.0)

pub direction_faultless : (text : Text) (d : Direction) → direction_of text ≡ Some d → IsFaultless (DirectionPart text)
direction_faultless text d e r h = some_or_none (direction_of text) d e h.0

days_faultless : (first second : Text) (h : Horizon) → IsHorizonOf first second h → IsFaultless (DaysPart first second)
days_faultless first second h d r (from, to, fi, ti, (f, has, is)) =
    let ef : from_day h ≡ from = one_value (date_in first) (from_day h) from d.from_read fi in
    let et : to_day h ≡ to = one_value (date_in second) (to_day h) to d.to_read ti in
    let other : IsHorizonFault f (from_day h) (to_day h) =
    subst (λ (n : ℤ). IsHorizonFault f n (to_day h)) (sym ef) (subst (λ (n : ℤ). IsHorizonFault f from n) (sym et) has) in
    faultless_horizon f (from_day h) (to_day h) (horizon_is h) other

faultless : (p : Part) (v : ValueOf p) → IsValue p v → IsFaultless p
faultless (NumberPart text) n h = number_faultless text n h
faultless (NumberUpToPart limit text) n h = number_up_to_faultless limit text n h
faultless (DirectionPart text) d h = direction_faultless text d h
faultless (DomainPart text) tree h = domain_faultless text tree h
faultless (MomentPart text) m h = moment_faultless text m h
faultless (DatePart text) day h = date_faultless text day h
faultless (HorizonPart first second) to h = horizon_faultless first second to h
faultless (DaysPart first second) days h = days_faultless first second days h

-- ---- what is read

one_meaning_of : (p : Part) (v w : ValueOf p) → IsValue p v → IsValue p w → v ≡ w
one_meaning_of (NumberPart text) v w p q = one_some (number_of text) v w p q
one_meaning_of (NumberUpToPart limit text) v w p q = one_some (option_map (at_most limit) (number_of text)) v w p q
one_meaning_of (DirectionPart text) v w p q = one_some (direction_of text) v w p q
one_meaning_of (DomainPart text) v w p q = one_meaning text v w p.stands q.stands
one_meaning_of (MomentPart text) v w p q = one_value (stamp_in text) v w p q
one_meaning_of (DatePart text) v w p q = one_value (date_in text) v w p q
one_meaning_of (HorizonPart first second) v w p q = one_value (date_in second) v w p.date_read q.date_read
one_meaning_of (DaysPart first second) v w p q =
    same_horizon v w (one_value (date_in first) (from_day v) (from_day w) p.from_read q.from_read)
    (one_value (date_in second) (to_day v) (to_day w) p.to_read q.to_read)

one_reading : (ps : List Part) (f : Asks ps) (a b : Asked) → IsRead ps f a → IsRead ps f b → a ≡ b
one_reading [] f a b p q = p ∙ sym q
one_reading (part ∷ ps) f a b (v, p, more) (w, q, rest) =
    one_reading ps (f w) a b (subst (λ (u : ValueOf part). IsRead ps (f u) a) (one_meaning_of part v w p q) more) rest

read_or_fault : (ps : List Part) (f : Asks ps) (a : Asked) (r : Refusal) → IsRead ps f a → IsFirstRefusal ps r → ⊥
read_or_fault [] f a r read h = h
read_or_fault (part ∷ ps) f a r (v, p, more) (inl h) = faultless part v p r h
read_or_fault (part ∷ ps) f a r (v, p, more) (inr h) = read_or_fault ps (f v) a r more h.1

-- ---- command lines

one_given : (reading : Option Reading) (a b : Asked) → Gives reading a → Gives reading b → a ≡ b
one_given None a b p q = absurd p
one_given (Some reading) a b p q = one_reading reading.parts reading.asks a b p q

one_refused : (reading : Option Reading) (r s : Refusal) → IsRefused reading r → IsRefused reading s → r ≡ s
one_refused None r s p q = p ∙ sym q
one_refused (Some reading) r s p q = one_first_fault reading.parts r s p q

given_or_refused : (reading : Option Reading) (a : Asked) (r : Refusal) → Gives reading a → IsRefused reading r → ⊥
given_or_refused None a r p q = p
given_or_refused (Some reading) a r p q = read_or_fault reading.parts reading.asks a r p q

pub one_asked : (words : List Text) (a b : Asked) → AsksFor words a → AsksFor words b → a ≡ b
one_asked words a b p q = one_given (reading_in words) a b p q

pub one_refusal : (words : List Text) (r s : Refusal) → IsRefusalOf words r → IsRefusalOf words s → r ≡ s
one_refusal words r s p q = one_refused (reading_in words) r s p q

pub asked_apart : (words : List Text) (a : Asked) (r : Refusal) → AsksFor words a → IsRefusalOf words r → ⊥
asked_apart words a r p q = given_or_refused (reading_in words) a r p q

-- a word that begins with a bracket stands for itself
check_bracket : (rest : Text) → reading_in (codes "check" ∷ (91 ∷ rest) ∷ []) ≡ check.reading ((91 ∷ rest) ∷ [])
check_bracket [] = refl
check_bracket (byte ∷ bytes) = refl

canon_bracket : (rest : Text) → reading_in (codes "canon" ∷ (91 ∷ rest) ∷ []) ≡ canon.reading ((91 ∷ rest) ∷ [])
canon_bracket [] = refl
canon_bracket (byte ∷ bytes) = refl

pub check_canonical : (tree : Tree) → reading_in (codes "check" ∷ canonical tree ∷ []) ≡ check.reading (canonical tree ∷ [])
check_canonical (Single start duration) = check_bracket _
check_canonical (Joined op left right) = check_bracket _

pub canon_canonical : (tree : Tree) → reading_in (codes "canon" ∷ canonical tree ∷ []) ≡ canon.reading (canonical tree ∷ [])
canon_canonical (Single start duration) = canon_bracket _
canon_canonical (Joined op left right) = canon_bracket _
