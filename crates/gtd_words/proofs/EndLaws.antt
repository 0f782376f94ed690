-- The end that words say is that of each stretch.
use Rattle.std.proofs.Common.{◌≡◌, ◌≢◌, ℕ, ◌+◌, ◌/◌, ◌%◌, ◌^◌, ◌<◌, ◌≤◌, Bool, true, false, cond, List, [], ◌∷◌, ◌++◌, Option}
use Rattle.std.proofs.Common.{Some, None, refl, sym, ap, subst, ◌∙◌, arith, append_assoc, ◌⊎◌, inl, inr}
use Rattle.std.specs.Prelude.{◌==◌, ◌||◌, ◌↔◌, IfSome, IsTrue, is_some}
use Rattle.std.proofs.lemmas.Bool.{false≢true, eqb-false, eq-eqb}
use Rattle.std.proofs.lemmas.List.{append-nil}
use Rattle.gtd_core.specs.Ranges.{HasSixDigits, IsDuration, IsStart}
use Rattle.gtd_core.specs.declared.duration.DurationParts.{DurationParts}
use Rattle.gtd_core.specs.declared.start.StartParts.{StartParts}
use Rattle.gtd_ends.specs.Anchors.{has_clock}
use Rattle.gtd_ends.specs.Endings.{ending, is_all_day, is_written, usual}
use Rattle.gtd_ends.specs.Ends.{AllEndAt, IsEnd}
use Rattle.gtd_ends.specs.declared.end.End.{End}
use Rattle.gtd_ends.specs.declared.end.End.TheVariants.{Clock, Date, Weekday, WithDate, WithFebruary, WithWeekday}
use Rattle.gtd_phrases.specs.Grammar.{Group, IsEndLine, IsIn, IsLine, NoMonth, closers, each, end_closers, of_units}
use Rattle.gtd_phrases.specs.Pieces.{after, before, comma, figures_of, phrase_text, text}
use Rattle.gtd_phrases.specs.Ranges.{IsWritten}
use Rattle.gtd_languages.specs.declared.word.Counted.TheVariants.{DaysLater, EndMinute, EndSecond}
use Rattle.gtd_languages.specs.declared.word.Fixed.TheVariants.{AllDay, Included, NextDay}
use Rattle.gtd_phrases.specs.declared.phrase.Language.{Language}
use Rattle.gtd_phrases.specs.declared.phrase.Phrase.{Phrase}
use Rattle.gtd_phrases.specs.declared.phrase.Phrase.TheVariants.{Also, Lasting, Numbered, Said, UntilFebruary}
use Rattle.gtd_phrases.specs.declared.phrase.Piece.{Piece}
use Rattle.gtd_languages.specs.declared.word.Unit.{Unit as TimeUnit}
use Rattle.gtd_languages.specs.declared.word.Unit.TheVariants.{Days, Hours, Minutes, Months, Seconds, Weeks, Years}
use Rattle.gtd_words.specs.Durations.{clock_sum, date_pieces, date_sum, duration_pieces, number_pieces, time_pieces}
use Rattle.gtd_words.specs.Said.{SayAnEnd, SayEnd}
use Rattle.gtd_words.specs.Starts.{count, say, start_pieces}
use Rattle.gtd_words.specs.Untils.{day_after, minute_of_end, rest_pieces, tail_pieces, until_pieces, until_words}
use Rattle.gtd_words.specs.Words.{basic_pieces, basic_words}
use Rattle.gtd_words.proofs.Paths.{InRange, alone_ends, line_of_rest, until_line}
use Rattle.gtd_words.proofs.RestReading.{both_read, lasting, same_end, zeros}

-- what is known of a language, and of ends
pub record Facts (l : Language) : Type 0 where
  pub ends : InRange
  pub right : (start : StartParts) (duration : DurationParts) → IsStart start → IsDuration duration
      → IfSome (ending start duration) (λ end. AllEndAt start duration end)
  pub read : (group : Group) (x y : List Piece) (r s : List ℕ) → IsLine group x → IsLine group y
      → text l x ++ 10 ∷ r ≡ text l y ++ 10 ∷ s → (x ≡ y) × (r ≡ s)
  pub one : (a b : List Piece) (x y : List ℕ) → IsEndLine a → IsEndLine b → x ++ text l a ≡ y ++ text l b
      → text l a ≡ text l b
  pub none : (p q : Piece) (x y : List ℕ) → IsIn p.phrase closers → IsIn q.phrase end_closers
      → IsWritten (figures_of p.phrase) p.number → IsWritten (figures_of q.phrase) q.number
      → x ++ phrase_text l p.phrase p.number ≡ y ++ phrase_text l q.phrase q.number → ⊥

text-append : (l : Language) (P Q : List Piece) → text l (P ++ Q) ≡ text l P ++ text l Q
text-append l [] Q = refl
text-append l (p ∷ P) Q =
    ap (λ (x : List ℕ). phrase_text l p.phrase p.number ++ x) (text-append l P Q)
    ∙ sym (append_assoc (phrase_text l p.phrase p.number) (text l P) (text l Q))

-- ---- the last piece

-- Pieces close with a phrase of a list.
pub record Closed (ps : List Phrase) (P : List Piece) : Type 0 where
  pub front : List Piece
  pub last : Piece
  pub whole : P ≡ front ++ last ∷ []
  pub is_in : IsIn last.phrase ps
  pub written : IsWritten (figures_of last.phrase) last.number

closed-append : (ps : List Phrase) (P Q : List Piece) → Closed ps Q → Closed ps (P ++ Q)
closed-append ps P Q c = record {
  front = P ++ c.front;
  last = c.last;
  whole = ap (λ (R : List Piece). P ++ R) c.whole ∙ sym (append_assoc P c.front (c.last ∷ []));
  is_in = c.is_in;
  written = c.written;
}

abbrev MayClose : List Phrase → List Piece → Type 0
MayClose ps P = Closed ps P ⊎ (P ≡ [])

may-append : (ps : List Phrase) (P Q : List Piece) → MayClose ps P → MayClose ps Q → MayClose ps (P ++ Q)
may-append ps P Q h (inl c) = inl (closed-append ps P Q c)
may-append ps P Q (inl c) (inr e) =
    inl (subst (λ (R : List Piece). Closed ps R)
    (sym (append-nil P) ∙ ap (λ (R : List Piece). P ++ R) (sym e)) c)
may-append ps P Q (inr d) (inr e) = inr (ap (λ (R : List Piece). R ++ Q) d ∙ e)

one_closed : (ps : List Phrase) (p : Phrase) (n : ℕ) → IsIn p ps → IsWritten (figures_of p) n → Closed ps (count p n ∷ [])
one_closed ps p n i h = record { front = []; last = count p n; whole = refl; is_in = i; written = h }

lasting_in : (u : TimeUnit) → IsIn (Lasting u) closers
lasting_in Years = inr (inl refl)
lasting_in Months = inr (inr (inl refl))
lasting_in Weeks = inr (inr (inr (inl refl)))
lasting_in Days = inr (inr (inr (inr (inl refl))))
lasting_in Hours = inr (inr (inr (inr (inr (inl refl)))))
lasting_in Minutes = inr (inr (inr (inr (inr (inr (inl refl))))))
lasting_in Seconds = inr (inr (inr (inr (inr (inr (inr (inl refl)))))))

also_in : (u : TimeUnit) → IsIn (Also u) closers
also_in Years = inr (inr (inr (inr (inr (inr (inr (inr (inl refl))))))))
also_in Months = inr (inr (inr (inr (inr (inr (inr (inr (inr (inl refl)))))))))
also_in Weeks = inr (inr (inr (inr (inr (inr (inr (inr (inr (inr (inl refl))))))))))
also_in Days = inr (inr (inr (inr (inr (inr (inr (inr (inr (inr (inr (inl refl)))))))))))
also_in Hours = inr (inr (inr (inr (inr (inr (inr (inr (inr (inr (inr (inr (inl refl))))))))))))
also_in Minutes = inr (inr (inr (inr (inr (inr (inr (inr (inr (inr (inr (inr (inr (inl refl)))))))))))))
also_in Seconds = inr (inr (inr (inr (inr (inr (inr (inr (inr (inr (inr (inr (inr (inr (inl refl))))))))))))))

number_by : (b c : Bool) (n : ℕ) (u : TimeUnit) → n < 2 ^ 64
    → MayClose closers (cond b [] (cond c (count (Lasting u) n) (count (Also u) n) ∷ []))
unfolding figures_of
number_by true c n u h = inr refl
number_by false true n u h = inl (one_closed closers (Lasting u) n (lasting_in u) h)
number_by false false n u h = inl (one_closed closers (Also u) n (also_in u) h)

six : (n : ℕ) → n ≤ 999999 → n < 2 ^ 64
six n h = omega (arith, h)

may_number : (b n : ℕ) (u : TimeUnit) → n ≤ 999999 → MayClose closers (number_pieces b n u)
may_number b n u h = number_by (n == 0) (b == 0) n u (six n h)

may_dates : (d : DurationParts) → HasSixDigits d → MayClose closers (date_pieces d)
unfolding date_pieces
may_dates d h =
    may-append closers (number_pieces 0 d.years Years ++ number_pieces d.years d.months Months
    ++ number_pieces (d.years + d.months) d.weeks Weeks) (number_pieces (d.years + d.months + d.weeks) d.days Days)
    (may-append closers (number_pieces 0 d.years Years ++ number_pieces d.years d.months Months)
    (number_pieces (d.years + d.months) d.weeks Weeks)
    (may-append closers (number_pieces 0 d.years Years) (number_pieces d.years d.months Months)
    (may_number 0 d.years Years h.years) (may_number d.years d.months Months h.months))
    (may_number (d.years + d.months) d.weeks Weeks h.weeks))
    (may_number (d.years + d.months + d.weeks) d.days Days h.days)

may_times : (d : DurationParts) → HasSixDigits d → MayClose closers (time_pieces d)
unfolding time_pieces
may_times d h =
    may-append closers (number_pieces (date_sum d) d.hours Hours ++ number_pieces (date_sum d + d.hours) d.minutes Minutes)
    (number_pieces (date_sum d + d.hours + d.minutes) d.seconds Seconds)
    (may-append closers (number_pieces (date_sum d) d.hours Hours) (number_pieces (date_sum d + d.hours) d.minutes Minutes)
    (may_number (date_sum d) d.hours Hours h.hours) (may_number (date_sum d + d.hours) d.minutes Minutes h.minutes))
    (may_number (date_sum d + d.hours + d.minutes) d.seconds Seconds h.seconds)

-- it has pieces, if its numbers are not all 0
none_zero : (d : DurationParts) → date_pieces d ++ time_pieces d ≡ [] → date_sum d + clock_sum d ≡ 0
none_zero d e = sum_of (sym (ap (λ (P : List Piece). lasting P zeros) e) ∙ both_read d)
  where
    sum_of : zeros ≡ d → date_sum d + clock_sum d ≡ 0
    sum_of same = sym (ap (λ (x : DurationParts). date_sum x + clock_sum x) same)

closed_by : (b : Bool) (d : DurationParts) → (date_sum d + clock_sum d == 0) ≡ b → HasSixDigits d
    → Closed closers (cond b (count (Lasting Seconds) 0 ∷ []) (date_pieces d ++ time_pieces d))
unfolding figures_of
closed_by true d e h = one_closed closers (Lasting Seconds) 0 (lasting_in Seconds) (omega arith)
closed_by false d e h =
    some (may-append closers (date_pieces d) (time_pieces d) (may_dates d h) (may_times d h))
  where
    some : MayClose closers (date_pieces d ++ time_pieces d) → Closed closers (date_pieces d ++ time_pieces d)
    some (inl c) = c
    some (inr none) = absurd (eqb-false (date_sum d + clock_sum d) 0 e (none_zero d none))

duration_closed : (d : DurationParts) → HasSixDigits d → Closed closers (duration_pieces d)
unfolding duration_pieces
duration_closed d h = closed_by (date_sum d + clock_sum d == 0) d refl h

day_closed : Closed closers (say (Said AllDay) ∷ [])
unfolding figures_of
day_closed = one_closed closers (Said AllDay) 0 (inl refl) refl

-- ---- the last piece of an end

minute_closed : (b : Bool) (m s : ℕ) → m < 100 → s < 100
    → Closed end_closers (count (Numbered EndMinute) m ∷ cond b [] (count (Numbered EndSecond) s ∷ []))
unfolding figures_of
minute_closed true m s h k = one_closed end_closers (Numbered EndMinute) m (inr (inr (inr (inl refl)))) h
minute_closed false m s h k =
    closed-append end_closers (count (Numbered EndMinute) m ∷ []) (count (Numbered EndSecond) s ∷ [])
    (one_closed end_closers (Numbered EndSecond) s (inr (inr (inr (inr (inl refl))))) k)

end_minute : (t : ℕ) → Closed end_closers (minute_of_end t)
end_minute t = minute_closed (t % 60 == 0) (t / 60 % 60) (t % 60) (omega arith) (omega arith)

days_closed : (b c : Bool) (n : ℕ) → n < 2 ^ 64
    → MayClose end_closers (cond b [] (cond c (say (Said NextDay)) (count (Numbered DaysLater) n) ∷ []))
unfolding figures_of
days_closed true c n h = inr refl
days_closed false true n h = inl (one_closed end_closers (Said NextDay) 0 (inr (inl refl)) refl)
days_closed false false n h =
    inl (one_closed end_closers (Numbered DaysLater) n (inr (inr (inr (inr (inr (inl refl)))))) h)

surely : (P : List Piece) (Q : List Piece) → Closed end_closers P → MayClose end_closers Q → Closed end_closers (P ++ Q)
surely P Q c (inl k) = closed-append end_closers P Q k
surely P Q c (inr e) =
    subst (λ (R : List Piece). Closed end_closers R)
    (sym (append-nil P) ∙ ap (λ (R : List Piece). P ++ R) (sym e)) c

after_one : (p : Piece) (P : List Piece) → Closed end_closers P → Closed end_closers (p ∷ P)
after_one p P c = closed-append end_closers (p ∷ []) P c

included : (p : Piece) → Closed end_closers (p ∷ say (Said Included) ∷ [])
unfolding figures_of
included p = after_one p (say (Said Included) ∷ []) (one_closed end_closers (Said Included) 0 (inr (inr (inl refl))) refl)

until_closed : (end : End) → IsEnd end → Closed end_closers (until_pieces false end)
unfolding until_pieces figures_of
until_closed (Clock end) h =
    after_one _ (minute_of_end end.1 ++ day_after end.0)
    (surely (minute_of_end end.1) (day_after end.0) (end_minute end.1)
    (days_closed (end.0 == 0) (end.0 == 1) end.0 h.0))
until_closed (Weekday end) h = after_one _ _ (after_one _ (minute_of_end end.1) (end_minute end.1))
until_closed (WithWeekday end) h = included _
until_closed (Date end) h = after_one _ _ (after_one _ (minute_of_end end.2) (end_minute end.2))
until_closed (WithDate end) h = included _
until_closed WithFebruary h = one_closed end_closers (UntilFebruary false) 0 (inl refl) refl

-- ---- words without an end

close_text : (l : Language) (P front : List Piece) (p : Piece) → P ≡ front ++ p ∷ []
    → text l P ≡ text l front ++ phrase_text l p.phrase p.number
close_text l P front p e =
    ap (λ (R : List Piece). text l R) e ∙ text-append l front (p ∷ [])
    ∙ ap (λ (x : List ℕ). text l front ++ x) (append-nil (phrase_text l p.phrase p.number))

no_end : (l : Language) → Facts l → (P : List Piece) (end : End) → Closed closers P → SayEnd l (text l P) end → ⊥
no_end l f P end c say =
    let k = until_closed end say.is_end in
    f.none c.last k.last (text l c.front) (say.before ++ text l k.front) c.is_in k.is_in c.written k.written
    (sym (close_text l P c.front c.last c.whole) ∙ say.whole
    ∙ ap (λ (x : List ℕ). say.before ++ x) (close_text l (until_pieces false end) k.front k.last k.whole)
    ∙ sym (append_assoc say.before (text l k.front) (phrase_text l k.last.phrase k.last.number)))

-- ---- words with an end

-- after a duration, with a comma between them
comma_text : (l : Language) (end : End) → text l (until_pieces true end) ≡ comma l true ++ until_words l end
unfolding until_pieces phrase_text before after figures_of
comma_text l (Clock end) = simp append_assoc
comma_text l (Weekday end) = simp append_assoc
comma_text l (WithWeekday end) = simp append_assoc
comma_text l (Date end) = simp append_assoc
comma_text l (WithDate end) = simp append_assoc
comma_text l WithFebruary = simp append_assoc

-- the words of pieces that close with an end close with its words
record Ends (l : Language) (P : List Piece) (end : End) : Type 0 where
  first : List ℕ
  whole : text l P ≡ first ++ until_words l end

ends_by : (l : Language) (S : List Piece) (b : Bool) (d : DurationParts) (end : End)
    → Ends l (S ++ cond b (until_pieces false end) (duration_pieces d ++ until_pieces true end)) end
ends_by l S true d end = record { first = text l S; whole = text-append l S (until_pieces false end) }
ends_by l S false d end = record {
  first = text l S ++ (text l (duration_pieces d) ++ comma l true);
  whole = text-append l S (duration_pieces d ++ until_pieces true end)
      ∙ ap (λ (x : List ℕ). text l S ++ x) (text-append l (duration_pieces d) (until_pieces true end)
      ∙ ap (λ (x : List ℕ). text l (duration_pieces d) ++ x) (comma_text l end)
      ∙ sym (append_assoc (text l (duration_pieces d)) (comma l true) (until_words l end)))
      ∙ sym (append_assoc (text l S) (text l (duration_pieces d) ++ comma l true) (until_words l end));
}

same_said : (l : Language) → Facts l → (P : List Piece) (found end : End) → IsEnd found → Ends l P found
    → SayEnd l (text l P) end → found ≡ end
same_said l f P found end h e say =
    let one = f.one (until_pieces false found) (until_pieces false end) e.first say.before (alone_ends found h)
    (alone_ends end say.is_end) (sym e.whole ∙ say.whole) in
    same_end false false found end
    (f.read NoMonth (until_pieces false found) (until_pieces false end) [] []
    (line_of_rest (until_pieces false found) (until_line false found h))
    (line_of_rest (until_pieces false end) (until_line false end say.is_end))
    (ap (λ (x : List ℕ). x ++ 10 ∷ []) one)).0

-- ---- the laws

abbrev named : StartParts → DurationParts → List Piece
named x d = start_pieces (has_clock x || is_all_day x d) x

by_end : (l : Language) → Facts l → (S : List Piece) (o : Option End) (x : StartParts) (d : DurationParts) (end : End)
    → HasSixDigits d → IfSome o IsEnd → IfSome o (λ end. AllEndAt x d end)
    → SayEnd l (text l (S ++ tail_pieces x d o)) end → AllEndAt x d end
by_end l f S None x d end h is_end right say =
    absurd (no_end l f (S ++ duration_pieces d) end (closed-append closers S (duration_pieces d) (duration_closed d h)) say)
by_end l f S (Some found) x d end h is_end right say =
    subst (λ (z : End). AllEndAt x d z)
    (same_said l f (S ++ tail_pieces x d (Some found)) found end is_end
    (ends_by l S (is_written d (usual x found)) d found) say)
    right

by_day : (l : Language) → Facts l → (S : List Piece) (t : Bool) (x : StartParts) (d : DurationParts) (end : End)
    → IsStart x → IsDuration d
    → SayEnd l (text l (S ++ cond t (say (Said AllDay) ∷ []) (tail_pieces x d (ending x d)))) end → AllEndAt x d end
by_day l f S true x d end p q say =
    absurd (no_end l f (S ++ count (Said AllDay) 0 ∷ []) end
    (closed-append closers S (count (Said AllDay) 0 ∷ []) day_closed) say)
by_day l f S false x d end p q say = by_end l f S (ending x d) x d end q.0 (f.ends x d p q) (f.right x d p q) say

pub right_end : (l : Language) → Facts l → (x : StartParts) (d : DurationParts) (end : End) → IsStart x → IsDuration d
    → SayEnd l (basic_words l x d) end → AllEndAt x d end
unfolding basic_pieces rest_pieces
right_end l f x d end p q say = by_day l f (named x d) (is_all_day x d) x d end p q say

said_or_not : (l : Language) → Facts l → (S : List Piece) (o : Option End) (x : StartParts) (d : DurationParts)
    → HasSixDigits d → IfSome o IsEnd → IsTrue (is_some o) ↔ SayAnEnd l (text l (S ++ tail_pieces x d o))
said_or_not l f S None x d h is_end = (
  λ k. absurd (false≢true k),
  λ k. absurd (no_end l f (S ++ duration_pieces d) k.0
      (closed-append closers S (duration_pieces d) (duration_closed d h)) k.1),
)
said_or_not l f S (Some end) x d h is_end =
    let e = ends_by l S (is_written d (usual x end)) d end in (
      λ k. (end, record { is_end = is_end; before = e.first; whole = e.whole }),
      λ k. refl,
    )

said_by_day : (l : Language) → Facts l → (S : List Piece) (t : Bool) (x : StartParts) (d : DurationParts) → IsStart x
    → IsDuration d → t ≡ false
    → IsTrue (is_some (ending x d)) ↔ SayAnEnd l (text l (S ++ cond t (say (Said AllDay) ∷ []) (tail_pieces x d (ending x d))))
said_by_day l f S true x d p q h = absurd (false≢true (sym h))
said_by_day l f S false x d p q h = said_or_not l f S (ending x d) x d q.0 (f.ends x d p q)

pub said_end : (l : Language) → Facts l → (x : StartParts) (d : DurationParts) → IsStart x → IsDuration d
    → is_all_day x d ≡ false → IsTrue (is_some (ending x d)) ↔ SayAnEnd l (basic_words l x d)
unfolding basic_pieces rest_pieces
said_end l f x d p q h = said_by_day l f (named x d) (is_all_day x d) x d p q h
