-- A word has one reason at most to be refused, and none if it stands for something.
use Rattle.std.proofs.Common.{◌≡◌, ◌∙◌, ◌<◌, ◌≤◌, inl, inr, ap, ap₂, sym, subst, refl, true, false, Bool, true≢false}
use Rattle.std.proofs.Common.{List, [], ◌∷◌, ◌++◌, Option, None, is_some, arith, ℕ, take, drop}
use Rattle.std.proofs.lemmas.Int.{ints}
use Rattle.std.specs.Prelude.{ℤ, Result, Ok, Err, IsSome, suc, zero}
use Rattle.gtd_calendar.specs.Read.{date_in}
use Rattle.gtd_core.specs.Horizons.{IsHorizonFault}
use Rattle.gtd_core.specs.Limits.{most_basic_domains}
use Rattle.gtd_core.specs.Whole.{from_day, to_day}
use Rattle.gtd_core.specs.declared.horizon.Horizon.{Horizon}
use Rattle.gtd_core.specs.declared.horizon.HorizonFault.{HorizonFault}
use Rattle.gtd_core.specs.declared.horizon.HorizonFault.TheVariants.{Empty, TooEarly, TooLate, TooLong}
use Rattle.gtd_hours.specs.Cost.{counted, hours_cost}
use Rattle.gtd_hours.specs.declared.hours.Hours.{Hours}
use Rattle.gtd_hours_grammar.specs.facts.FirstFault.{hours_or_fault, one_first_fault}
use Rattle.gtd_hours_text.specs.Standing.{StandsFor}
use Rattle.gtd_hours_text.specs.facts.OneMeaning.{one_cost}
use Rattle.gtd_moments.specs.Moments.{moment_in}
use Rattle.gtd_rows.specs.Columns.{direction_of, number_of}
use Rattle.gtd_text.specs.facts.ReadingLaws.{one_fault}
use Rattle.gtd_warnings.specs.Days.{AreDaysFrom}
use Rattle.gtdesk_words.specs.ClockTexts.{event_in, open_end_in, points_in}
use Rattle.gtdesk_words.specs.Text.{Text}
use Rattle.gtdesk_words.specs.HoursWords.{HasDomain, IsNoDomainOf, plain_fault}
use Rattle.gtdesk_words.specs.Readings.{AllStand, AreStopped, IsFaultOf, IsFirstFault, IsReason, Reading, Stands, Word}
use Rattle.gtd_mistakes.specs.declared.rule.Rule.{Rule}
use Rattle.gtdesk_words.specs.Words.{AreDays, AreRules, HasNoRule, IsNoDay, day_names_in, language_in, numbers_of, parts_of}
use Rattle.gtdesk_words.specs.declared.refusal.NoDomain.{NoDomain}
use Rattle.gtdesk_words.specs.declared.refusal.NoDomain.TheVariants as none
use Rattle.gtdesk_words.specs.declared.refusal.Reason.{Reason}
use Rattle.gtdesk_words.specs.declared.refusal.Reason.TheVariants as reason
use Rattle.gtdesk_words.specs.declared.refusal.WordFault.{WordFault}
use Rattle.gtdesk_words.specs.declared.refusal.WordName.{WordName}
use Rattle.gtdesk_words.specs.declared.refusal.WordsRefusal.{WordsRefusal}
use Rattle.gtdesk_words.specs.declared.refusal.WordsRefusal.TheVariants as refusal

-- ---- what is read once is one

abbrev ok_or : {T E : Type 0} → Result T E → T → T
ok_or (Ok x) other = x
ok_or (Err why) other = other

abbrev err_or : {T E : Type 0} → Result T E → E → E
err_or (Ok x) other = other
err_or (Err why) other = why

abbrev is_ok : {T E : Type 0} → Result T E → Bool
is_ok (Ok x) = true
is_ok (Err why) = false

some_read : {T : Type 0} (o : Option T) → IsSome o → o ≡ None → ⊥
some_read o h e = true≢false (sym h ∙ ap is_some e)

ok_or_err : {T E : Type 0} (r : Result T E) (x : T) (why : E) → r ≡ Ok x → r ≡ Err why → ⊥
ok_or_err r x why e f = true≢false (ap is_ok (sym e ∙ f))

one_err : {T E : Type 0} (r : Result T E) (a b : E) → r ≡ Err a → r ≡ Err b → a ≡ b
one_err r a b e f = ap (λ (x : Result _ _). err_or x a) (sym e ∙ f)

one_ok : {T E : Type 0} (r : Result T E) (a b : T) → r ≡ Ok a → r ≡ Ok b → a ≡ b
one_ok r a b e f = ap (λ (x : Result _ _). ok_or x a) (sym e ∙ f)

-- ---- two dates

sound_days : (f : HorizonFault) (horizon : Horizon) → IsHorizonFault f (from_day horizon) (to_day horizon) → ⊥
sound_days Empty horizon h = omega (arith, ints, h, horizon.not_empty)
sound_days TooEarly horizon h = omega (arith, ints, h.1, horizon.not_early)
sound_days TooLate horizon h = omega (arith, ints, h.2, horizon.not_late)
sound_days TooLong horizon h = omega (arith, ints, h.3, horizon.not_long)

no_horizon_fault : (from to : Text) (f : HorizonFault) (first last : ℤ) (horizon : Horizon) → AreDays from to horizon
    → date_in from ≡ Ok first → date_in to ≡ Ok last → IsHorizonFault f first last → ⊥
no_horizon_fault from to f first last horizon are a b h =
    sound_days f horizon
    (subst (λ (n : ℤ). IsHorizonFault f n (to_day horizon)) (one_ok (date_in from) first (from_day horizon) a are.first)
    (subst (λ (n : ℤ). IsHorizonFault f first n) (one_ok (date_in to) last (to_day horizon) b are.last) h))

one_horizon_fault : (f g : HorizonFault) (from to : ℤ) → IsHorizonFault f from to → IsHorizonFault g from to → f ≡ g
one_horizon_fault Empty Empty from to p q = refl
one_horizon_fault Empty TooEarly from to p q = absurd (omega (arith, ints, p, q.0))
one_horizon_fault Empty TooLate from to p q = absurd (omega (arith, ints, p, q.0))
one_horizon_fault Empty TooLong from to p q = absurd (omega (arith, ints, p, q.0))
one_horizon_fault TooEarly Empty from to p q = absurd (omega (arith, ints, q, p.0))
one_horizon_fault TooEarly TooEarly from to p q = refl
one_horizon_fault TooEarly TooLate from to p q = absurd (omega (arith, ints, p.1, q.1))
one_horizon_fault TooEarly TooLong from to p q = absurd (omega (arith, ints, p.1, q.1))
one_horizon_fault TooLate Empty from to p q = absurd (omega (arith, ints, q, p.0))
one_horizon_fault TooLate TooEarly from to p q = absurd (omega (arith, ints, q.1, p.1))
one_horizon_fault TooLate TooLate from to p q = refl
one_horizon_fault TooLate TooLong from to p q = absurd (omega (arith, ints, p.2, q.2))
one_horizon_fault TooLong Empty from to p q = absurd (omega (arith, ints, q, p.0))
one_horizon_fault TooLong TooEarly from to p q = absurd (omega (arith, ints, q.1, p.1))
one_horizon_fault TooLong TooLate from to p q = absurd (omega (arith, ints, p.2, q.2))
one_horizon_fault TooLong TooLong from to p q = refl

same_horizon_fault : (from to : Text) (f g : HorizonFault) (a b c d : ℤ) → date_in from ≡ Ok a → date_in to ≡ Ok b
    → date_in from ≡ Ok c → date_in to ≡ Ok d → IsHorizonFault f a b → IsHorizonFault g c d → f ≡ g
same_horizon_fault from to f g a b c d first last start end h k =
    one_horizon_fault f g a b h
    (subst (λ (n : ℤ). IsHorizonFault g n b) (one_ok (date_in from) c a start first)
    (subst (λ (n : ℤ). IsHorizonFault g c n) (one_ok (date_in to) d b end last) k))

-- ---- opening hours

more_and_no_more : (n m most : ℕ) → n ≡ m → n ≤ most → most < m → ⊥
more_and_no_more n m most same few many = omega arith

-- hours that fit, and hours of the same text that do not
fits_or_not : (text : Text) (one other : Hours) → StandsFor text one → StandsFor text other
    → hours_cost one ≤ most_basic_domains → most_basic_domains < hours_cost other → ⊥
fits_or_not text one other a b few many =
    more_and_no_more (hours_cost one) (hours_cost other) most_basic_domains (one_cost text one other a b) few many

-- a text that has a domain has no reason to have none
no_reason : (text : Text) → HasDomain text → (why : NoDomain) → IsNoDomainOf text why → ⊥
no_reason text has (none.Fault bad) is = hours_or_fault text has.1.p is.0 has.1.is is.1
no_reason text has (none.TooMany needed) is = fits_or_not text has.0 is.0 has.1 is.1 has.2 is.2

-- a text has one reason
one_reason : (text : Text) (a b : NoDomain) → IsNoDomainOf text a → IsNoDomainOf text b → a ≡ b
one_reason text (none.Fault a) (none.Fault b) h k =
    ap none.Fault (h.2 ∙ ap plain_fault (one_first_fault text h.0 k.0 h.1 k.1) ∙ sym k.2)
one_reason text (none.Fault a) (none.TooMany b) h k = absurd (hours_or_fault text k.1.p h.0 k.1.is h.1)
one_reason text (none.TooMany a) (none.Fault b) h k = absurd (hours_or_fault text h.1.p k.0 h.1.is k.1)
one_reason text (none.TooMany a) (none.TooMany b) h k =
    ap none.TooMany (h.3 ∙ ap counted (one_cost text h.0 k.0 h.1 k.1) ∙ sym k.3)

-- ---- rules and days

-- texts that name rules, and one of them that does not
rules_or_none : (texts : List Text) (rules : List Rule) → AreRules texts rules → HasNoRule texts → ⊥
rules_or_none [] rules are none = none
rules_or_none (text ∷ texts) [] are none = are
rules_or_none (text ∷ texts) (rule ∷ rules) are (inl none) = none rule are.0
rules_or_none (text ∷ texts) (rule ∷ rules) are (inr none) = rules_or_none texts rules are.1 none

-- why a day is refused: one reason
abbrev IsDayReason : Text → Reason → Type 0
IsDayReason text why = IsReason (Reading.day text) why

one_day_reason : (text : Text) (a b : Reason) → IsDayReason text a → IsDayReason text b → a ≡ b
one_day_reason text a b (inl h) (inl k) = h.1 ∙ ap reason.Date (one_err (date_in text) h.0 k.0 h.2 k.2) ∙ sym k.1
one_day_reason text a b (inl h) (inr k) = absurd (ok_or_err (date_in text) k.1.0 h.0 k.1.1 h.2)
one_day_reason text a b (inr h) (inl k) = absurd (ok_or_err (date_in text) h.1.0 k.0 h.1.1 k.2)
one_day_reason text a b (inr h) (inr k) = h.0 ∙ sym k.0

day_or_none : (text : Text) (days : Horizon) (day : ℤ) → date_in text ≡ Ok day → AreDaysFrom day days → IsNoDay text → ⊥
day_or_none text days day e are none =
    none.2 days (subst (λ (n : ℤ). AreDaysFrom n days) (one_ok (date_in text) day none.0 e none.1) are)

no_day_reason : (text : Text) (days : Horizon) (day : ℤ) (why : Reason) → date_in text ≡ Ok day → AreDaysFrom day days
    → IsDayReason text why → ⊥
no_day_reason text days day why e are (inl h) = ok_or_err (date_in text) day h.0 e h.2
no_day_reason text days day why e are (inr h) = day_or_none text days day e are h.1

-- ---- a word

stands_or_not : (reading : Reading) (why : Reason) → Stands reading → IsReason reading why → ⊥
stands_or_not (Reading.element text) why s h = some_read (number_of text) s h.1
stands_or_not (Reading.language text) why s h = some_read (language_in text) s h.1
stands_or_not (Reading.day_names text) why s h = some_read (day_names_in text) s h.1
stands_or_not (Reading.years text) why s h = h.1 s.0.first s.0.last s.1 s.0.in_range
stands_or_not (Reading.open_end text) why s h = some_read (open_end_in text) s h.1
stands_or_not (Reading.points text) why s h = some_read (points_in text) s h.1
stands_or_not (Reading.event text) why s h = some_read (event_in text) s h.1
stands_or_not (Reading.elements text) why s h = some_read (numbers_of (parts_of text)) s h.1
stands_or_not (Reading.direction text) why s h = some_read (direction_of text) s h.1
stands_or_not (Reading.vehicle text) why s h = h.1 s.0 s.1.0 s.1.1
stands_or_not (Reading.year text) why s h = h.1 s.0 s.1.0 s.1.1
stands_or_not (Reading.moment text) why s h = ok_or_err (moment_in text) s.0 h.0 s.1 h.2
stands_or_not (Reading.date text) why s h = ok_or_err (date_in text) s.0 h.0 s.1 h.2
stands_or_not (Reading.days from to) why s h = no_horizon_fault from to h.0 h.1 h.2 s.0 s.1 h.4 h.5 h.6
stands_or_not (Reading.domain text) why s h = s h.0 h.2
stands_or_not (Reading.hours text) why s h = no_reason text s h.0 h.2
stands_or_not (Reading.rules text) why s h = rules_or_none (parts_of text) s.0 s.1 h.1
stands_or_not (Reading.zone text) why s h = true≢false (sym s ∙ h.1)
stands_or_not (Reading.day text) why s h = no_day_reason text s.0 s.1.0 why s.1.1 s.1.2 h

one_why : (reading : Reading) (a b : Reason) → IsReason reading a → IsReason reading b → a ≡ b
one_why (Reading.element text) a b h k = h.0 ∙ sym k.0
one_why (Reading.language text) a b h k = h.0 ∙ sym k.0
one_why (Reading.day_names text) a b h k = h.0 ∙ sym k.0
one_why (Reading.years text) a b h k = h.0 ∙ sym k.0
one_why (Reading.open_end text) a b h k = h.0 ∙ sym k.0
one_why (Reading.points text) a b h k = h.0 ∙ sym k.0
one_why (Reading.event text) a b h k = h.0 ∙ sym k.0
one_why (Reading.elements text) a b h k = h.0 ∙ sym k.0
one_why (Reading.direction text) a b h k = h.0 ∙ sym k.0
one_why (Reading.vehicle text) a b h k = h.0 ∙ sym k.0
one_why (Reading.year text) a b h k = h.0 ∙ sym k.0
one_why (Reading.moment text) a b h k = h.1 ∙ ap reason.Moment (one_err (moment_in text) h.0 k.0 h.2 k.2) ∙ sym k.1
one_why (Reading.date text) a b h k = h.1 ∙ ap reason.Date (one_err (date_in text) h.0 k.0 h.2 k.2) ∙ sym k.1
one_why (Reading.days from to) a b h k =
    h.3 ∙ ap reason.Horizon (same_horizon_fault from to h.0 k.0 h.1 h.2 k.1 k.2 h.4 h.5 k.4 k.5 h.6 k.6) ∙ sym k.3
one_why (Reading.domain text) a b h k = h.1 ∙ ap reason.Domain (one_fault text h.0 k.0 h.2 k.2) ∙ sym k.1
one_why (Reading.rules text) a b h k = h.0 ∙ sym k.0
one_why (Reading.zone text) a b h k = h.0 ∙ sym k.0
one_why (Reading.day text) a b h k = one_day_reason text a b h k
one_why (Reading.hours text) a b h k = h.1 ∙ ap reason.Hours (one_reason text h.0 k.0 h.2 k.2) ∙ sym k.1

-- ---- the words of a command

one_fault_of : (word : Word) (a b : WordFault) → IsFaultOf word a → IsFaultOf word b → a ≡ b
one_fault_of word a b h k =
    ap₂ (λ (w : WordName) (y : Reason). record { word = w; why = y }) (h.0 ∙ sym k.0)
    (one_why word.reading a.why b.why h.1 k.1)

pub no_first_fault : (words : List Word) (fault : WordFault) → AllStand words → IsFirstFault words fault → ⊥
no_first_fault [] fault s h = h
no_first_fault (word ∷ words) fault s (inl h) = stands_or_not word.reading fault.why s.0 h.1
no_first_fault (word ∷ words) fault s (inr h) = no_first_fault words fault s.1 h.1

pub one_first : (words : List Word) (a b : WordFault) → IsFirstFault words a → IsFirstFault words b → a ≡ b
one_first [] a b h k = absurd h
one_first (word ∷ words) a b (inl h) (inl k) = one_fault_of word a b h k
one_first (word ∷ words) a b (inl h) (inr k) = absurd (stands_or_not word.reading a.why k.0 h.1)
one_first (word ∷ words) a b (inr h) (inl k) = absurd (stands_or_not word.reading b.why h.0 k.1)
one_first (word ∷ words) a b (inr h) (inr k) = one_first words a b h.1 k.1

first_upto : (n : ℕ) (words : List Word) (fault : WordFault) → IsFirstFault (take n words) fault → IsFirstFault words fault
first_upto zero words fault h = absurd h
first_upto (suc n) [] fault h = absurd h
first_upto (suc n) (word ∷ words) fault (inl h) = inl h
first_upto (suc n) (word ∷ words) fault (inr h) = inr (h.0, first_upto n words fault h.1)

first_past : (n : ℕ) (words : List Word) (fault : WordFault) → AllStand (take n words) → IsFirstFault (drop n words) fault
    → IsFirstFault words fault
first_past zero words fault s h = h
first_past (suc n) [] fault s h = absurd h
first_past (suc n) (word ∷ words) fault s h = inr (s.0, first_past n words fault s.1 h)

-- a refusal of the first words
pub stopped_upto : (n : ℕ) (words : List Word) (r : WordsRefusal) → AreStopped (take n words) r → AreStopped words r
stopped_upto n words (refusal.Usage told meant) h = h
stopped_upto n words (refusal.Word fault) h = first_upto n words fault h
stopped_upto n words refusal.Memory h = h

-- a refusal behind first words that all stand for something
pub stopped_past : (n : ℕ) (words : List Word) (r : WordsRefusal) → AllStand (take n words) → AreStopped (drop n words) r
    → AreStopped words r
stopped_past n words (refusal.Usage told meant) s h = h
stopped_past n words (refusal.Word fault) s h = first_past n words fault s h
stopped_past n words refusal.Memory s h = h

-- a refusal of the next word
pub stopped_at : (n : ℕ) (words : List Word) (r : WordsRefusal) → AllStand (take n words)
    → AreStopped (take 1 (drop n words)) r → AreStopped words r
stopped_at n words r s h = stopped_past n words r s (stopped_upto 1 (drop n words) r h)

-- two lists of words of which each stands for something
pub both_stand : (words others : List Word) → AllStand words → AllStand others → AllStand (words ++ others)
both_stand [] others s t = t
both_stand (word ∷ words) others s t = (s.0, both_stand words others s.1 t)

-- a refusal of the first of two lists of words, and of the second where all of the first stand for something
first_in_front : (words others : List Word) (fault : WordFault) → IsFirstFault words fault → IsFirstFault (words ++ others) fault
first_in_front [] others fault h = absurd h
first_in_front (word ∷ words) others fault (inl h) = inl h
first_in_front (word ∷ words) others fault (inr h) = inr (h.0, first_in_front words others fault h.1)

first_behind : (words others : List Word) (fault : WordFault) → AllStand words → IsFirstFault others fault
    → IsFirstFault (words ++ others) fault
first_behind [] others fault s h = h
first_behind (word ∷ words) others fault s h = inr (s.0, first_behind words others fault s.1 h)

pub stopped_in_front : (words others : List Word) (r : WordsRefusal) → AreStopped words r → AreStopped (words ++ others) r
stopped_in_front words others (refusal.Usage told meant) h = h
stopped_in_front words others (refusal.Word fault) h = first_in_front words others fault h
stopped_in_front words others refusal.Memory h = h

pub stopped_behind : (words others : List Word) (r : WordsRefusal) → AllStand words → AreStopped others r
    → AreStopped (words ++ others) r
stopped_behind words others (refusal.Usage told meant) s h = h
stopped_behind words others (refusal.Word fault) s h = first_behind words others fault s h
stopped_behind words others refusal.Memory s h = h
