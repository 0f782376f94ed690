-- A text has one first fault at most, and none where it is opening hours.
use Rattle.std.proofs.Common.{◌≡◌, ℕ, List, [], ◌∷◌, ◌++◌, length, refl, sym, ap, subst, ◌∙◌, append_assoc}
use Rattle.std.proofs.lemmas.List.{append-nil}
use Rattle.gtd_hours_tokens.specs.Lexing.{AreTokens}
use Rattle.gtd_hours_tokens.specs.facts.WholeText.{apart, one_fault, one_list}
use Rattle.gtd_hours_tokens.specs.declared.token.TokenKind.TheVariants as token
use Rattle.gtd_hours_grammar.specs.declared.fault.FaultKind.{FaultKind}
use Rattle.gtd_hours_grammar.specs.declared.fault.FaultKind.TheVariants as fault
use Rattle.gtd_hours_grammar.specs.declared.fault.HoursFault.{HoursFault}
use Rattle.gtd_hours_moves.specs.Terms.{Token, TokenKind, Piece}
use Rattle.gtd_hours_moves.specs.declared.stage.Stage.{Stage}
use Rattle.gtd_hours_moves.specs.declared.stage.Stage.TheVariants as stage
use Rattle.gtd_hours_moves.specs.Grammar.{AreHours, CanGoOn, Follow, IsDates, IsMonthDays, IsWeeks, IsYears, Listed, More}
use Rattle.gtd_hours_moves.specs.Grammar.{in_full, so_far}
use Rattle.gtd_hours_parts.specs.Pieces.{day_behind}
use Rattle.gtd_hours_parts.specs.declared.piece.WrittenDate.{WrittenDate}
use Rattle.gtd_hours_grammar.specs.Faults.{IsFirstFault, IsHoursText, IsMisfit, IsMisfitKind, kinds, told_at}

-- ---- what is a text in full can go on

dates : (later : List Piece) (rest : List TokenKind) (x : WrittenDate) (p : List Piece) (ts : List TokenKind)
    → IsDates in_full later rest x p ts → IsDates so_far later rest x p ts
dates later rest x p ts (IsDates.one y last q us a b h) = IsDates.one x last p ts a b h
dates later rest x p ts (IsDates.also y last n o q ss us a b h k more) =
    IsDates.also x last n p q ts us a b h k (dates later rest (day_behind x last n) q us more)
dates later rest x p ts (IsDates.cut y year m q us e a b c f g h) = absurd cc
dates later rest x p ts (IsDates.any_day y last q us e a b c f g h) = absurd cc

month_days : (p : List Piece) (ts : List TokenKind) (later : List Piece) (rest : List TokenKind)
    → IsMonthDays in_full p ts later rest → IsMonthDays so_far p ts later rest
month_days p ts later rest (IsMonthDays.month m a b h) = IsMonthDays.month m a b h
month_days p ts later rest (IsMonthDays.months m n a b h k) = IsMonthDays.months m n a b h k
month_days p ts later rest (IsMonthDays.dates x us a h k) = IsMonthDays.dates x us a h (dates later rest x p us k)
month_days p ts later rest (IsMonthDays.of_years a b m l d e f g h) = IsMonthDays.of_years a b m l d e f g h
month_days p ts later rest (IsMonthDays.cut a b m d e f g h k) = absurd cc
month_days p ts later rest (IsMonthDays.any_month a b m l d e f g h k) = absurd cc

more_days : (later : List Piece) (rest : List TokenKind) (p : List Piece) (ts : List TokenKind)
    → More (IsMonthDays in_full) later rest p ts → More (IsMonthDays so_far) later rest p ts
more_days later rest p ts (More.none q us a b) = More.none p ts a b
more_days later rest p ts (More.comma o q u us vs a h more) =
    More.comma p q ts us vs a (month_days o us q vs h) (more_days later rest q vs more)

listed_days : (p : List Piece) (ts : List TokenKind) (later : List Piece) (rest : List TokenKind)
    → Listed (IsMonthDays in_full) p ts later rest → Listed (IsMonthDays so_far) p ts later rest
listed_days p ts later rest l = record {
  q = l.q;
  us = l.us;
  one = month_days p ts l.q l.us l.one;
  more = more_days later rest l.q l.us l.more;
}

weeks : (p : List Piece) (ts : List TokenKind) (later : List Piece) (rest : List TokenKind) → IsWeeks in_full p ts later rest
    → IsWeeks so_far p ts later rest
weeks p ts later rest (IsWeeks.one n a b h) = IsWeeks.one n a b h
weeks p ts later rest (IsWeeks.range m n a b h) = IsWeeks.range m n a b h
weeks p ts later rest (IsWeeks.every m n k a b h s) = IsWeeks.every m n k a b h s
weeks p ts later rest (IsWeeks.back m n a b h) = IsWeeks.back m n a b h
weeks p ts later rest (IsWeeks.back_step m n e a b c h) = absurd cc

more_weeks : (later : List Piece) (rest : List TokenKind) (p : List Piece) (ts : List TokenKind)
    → More (IsWeeks in_full) later rest p ts → More (IsWeeks so_far) later rest p ts
more_weeks later rest p ts (More.none q us a b) = More.none p ts a b
more_weeks later rest p ts (More.comma o q u us vs a h more) =
    More.comma p q ts us vs a (weeks o us q vs h) (more_weeks later rest q vs more)

listed_weeks : (p : List Piece) (ts : List TokenKind) (later : List Piece) (rest : List TokenKind)
    → Listed (IsWeeks in_full) p ts later rest → Listed (IsWeeks so_far) p ts later rest
listed_weeks p ts later rest l = record {
  q = l.q;
  us = l.us;
  one = weeks p ts l.q l.us l.one;
  more = more_weeks later rest l.q l.us l.more;
}

years : (p : List Piece) (ts : List TokenKind) (later : List Piece) (rest : List TokenKind) → IsYears in_full p ts later rest
    → IsYears so_far p ts later rest
years p ts later rest (IsYears.one n a b h) = IsYears.one n a b h
years p ts later rest (IsYears.range m n a b h) = IsYears.range m n a b h
years p ts later rest (IsYears.every m n k a b h s) = IsYears.every m n k a b h s
years p ts later rest (IsYears.on n a b h) = IsYears.on n a b h
years p ts later rest (IsYears.every_on n k a b h s) = IsYears.every_on n k a b h s
years p ts later rest (IsYears.many n k e a b c h s) = absurd cc

more_years : (later : List Piece) (rest : List TokenKind) (p : List Piece) (ts : List TokenKind)
    → More (IsYears in_full) later rest p ts → More (IsYears so_far) later rest p ts
more_years later rest p ts (More.none q us a b) = More.none p ts a b
more_years later rest p ts (More.comma o q u us vs a h more) =
    More.comma p q ts us vs a (years o us q vs h) (more_years later rest q vs more)

listed_years : (p : List Piece) (ts : List TokenKind) (later : List Piece) (rest : List TokenKind)
    → Listed (IsYears in_full) p ts later rest → Listed (IsYears so_far) p ts later rest
listed_years p ts later rest l = record {
  q = l.q;
  us = l.us;
  one = years p ts l.q l.us l.one;
  more = more_years later rest l.q l.us l.more;
}

goes_on : (s : Stage) (p : List Piece) (ts : List TokenKind) → Follow in_full s p ts → Follow so_far s p ts
goes_on s p ts (Follow.always a b c us e h f) = Follow.always s p ts us e h (goes_on stage.Always p us f)
goes_on s p ts (Follow.years a b q l c r h k e x f) =
    Follow.years s p q l ts r h k e (listed_years q ts l r x) (goes_on stage.Years l r f)
goes_on s p ts (Follow.month_days a b q l c r h e x f) =
    Follow.month_days s p q l ts r h e (listed_days q ts l r x) (goes_on stage.MonthDays l r f)
goes_on s p ts (Follow.weeks a b q l c us r h d e x f) =
    Follow.weeks s p q l ts us r h d e (listed_weeks q us l r x) (goes_on stage.Weeks l r f)
goes_on s p ts (Follow.colon a b c us h k e f) = Follow.colon s p ts us h k e (goes_on stage.Colon p us f)
goes_on s p ts (Follow.weekdays a b q l c r h e x f) = Follow.weekdays s p q l ts r h e x (goes_on stage.Weekdays l r f)
goes_on s p ts (Follow.times a b l c r h x f) = Follow.times s p l ts r h x (goes_on stage.Times l r f)
goes_on s p ts (Follow.opens a b c us h e f) = Follow.opens s p ts us h e (goes_on stage.Modifier p us f)
goes_on s p ts (Follow.closes a b q c us h e d f) = Follow.closes s p q ts us h e d (goes_on stage.Modifier q us f)
goes_on s p ts (Follow.ends a b c h e d) = Follow.ends s p ts h e d
goes_on s p ts (Follow.instead a b q c us h e d f) = Follow.instead s p q ts us h e d (goes_on stage.Front q us f)
goes_on s p ts (Follow.also a b q c us h e g d f) = Follow.also s p q ts us h e g d (goes_on stage.Front q us f)

-- ---- tokens that begin a text

can_begin : (a b : List TokenKind) → CanGoOn (a ++ b) → CanGoOn a
can_begin a b go = record {
  p = go.p;
  after = b ++ go.after;
  follow = subst (λ (l : List TokenKind). Follow so_far stage.Front go.p l) (append_assoc a b go.after) go.follow;
}

can_go_on : (p : List Piece) (ts : List TokenKind) → AreHours p ts → CanGoOn ts
can_go_on p ts hours = record {
  p = p;
  after = [];
  follow = subst (λ (l : List TokenKind). Follow so_far stage.Front p l) (sym (append-nil ts)) (goes_on stage.Front p ts hours);
}

kinds_append : (a b : List Token) → kinds (a ++ b) ≡ kinds a ++ kinds b
kinds_append [] b = refl
kinds_append (t ∷ a) b = ap (λ (l : List TokenKind). t.kind ∷ l) (kinds_append a b)

-- where the tokens up to one are among those that can go on, that one goes on
goes_further : (a : List Token) (t : Token) (c tokens : List Token) → tokens ≡ a ++ t ∷ c → CanGoOn (kinds tokens)
    → CanGoOn (kinds a ++ t.kind ∷ [])
goes_further a t c tokens e go =
    can_begin (kinds a ++ t.kind ∷ []) (kinds c) (subst (λ (l : List TokenKind). CanGoOn l)
    (ap kinds e ∙ kinds_append a (t ∷ c) ∙ sym (append_assoc (kinds a) (t.kind ∷ []) (kinds c))) go)

-- ---- two ways to split a list

data Split (a b : List Token) (t u : Token) : Type 0 where
  same : a ≡ b → t ≡ u → Split a b t u
  shorter : (c : List Token) → b ≡ a ++ t ∷ c → Split a b t u
  longer : (c : List Token) → a ≡ b ++ u ∷ c → Split a b t u

split_more : (x : Token) (a b : List Token) (t u : Token) → Split a b t u → Split (x ∷ a) (x ∷ b) t u
split_more x a b t u (Split.same e f) = Split.same (ap (λ (l : List Token). x ∷ l) e) f
split_more x a b t u (Split.shorter c e) = Split.shorter c (ap (λ (l : List Token). x ∷ l) e)
split_more x a b t u (Split.longer c e) = Split.longer c (ap (λ (l : List Token). x ∷ l) e)

heads : (x y : Token) (a b : List Token) → x ∷ a ≡ y ∷ b → x ≡ y
heads x y a b e = cc

behind : (x y : Token) (a b : List Token) → x ∷ a ≡ y ∷ b → a ≡ b
behind x y a b e = cc

splits : (a b c d : List Token) (t u : Token) → a ++ t ∷ c ≡ b ++ u ∷ d → Split a b t u
splits [] [] c d t u e = Split.same refl (heads t u c d e)
splits [] (y ∷ b) c d t u e = Split.shorter b (ap (λ (x : Token). x ∷ b) (sym (heads t y c (b ++ u ∷ d) e)))
splits (x ∷ a) [] c d t u e = Split.longer a (ap (λ (y : Token). y ∷ a) (heads x u (a ++ t ∷ c) d e))
splits (x ∷ a) (y ∷ b) c d t u e =
    subst (λ (z : Token). Split (x ∷ a) (z ∷ b) t u) (heads x y (a ++ t ∷ c) (b ++ u ∷ d) e)
    (split_more x a b t u (splits a b c d t u (behind x y (a ++ t ∷ c) (b ++ u ∷ d) e)))

-- ---- one fault

same_kind : (before : List TokenKind) (t : TokenKind) (a b : FaultKind) → IsMisfitKind before t a → IsMisfitKind before t b
    → a ≡ b
same_kind before token.Unsupported a b h k = h ∙ sym k
same_kind before token.Plus a b h k = h ∙ sym k
same_kind before token.Dash a b h k = h ∙ sym k
same_kind before token.Day a b h k = h ∙ sym k
same_kind before (token.Weekday w) a b h k = h ∙ sym k
same_kind before (token.Number v d) fault.BadToken b h k = absurd h
same_kind before (token.Number v d) fault.Unsupported b h k = absurd h
same_kind before (token.Number v d) fault.Incomplete b h k = absurd h
same_kind before (token.Number v d) fault.Years fault.Years h k = refl
same_kind before (token.Number v d) fault.Range fault.Range h k = refl
same_kind before (token.Number v d) fault.Unexpected fault.Unexpected h k = refl
same_kind before (token.Number v d) fault.Years fault.Range h k = absurd (k.1 h)
same_kind before (token.Number v d) fault.Years fault.Unexpected h k = absurd (k.1 h)
same_kind before (token.Number v d) fault.Range fault.Years h k = absurd (h.1 k)
same_kind before (token.Number v d) fault.Unexpected fault.Years h k = absurd (h.1 k)
same_kind before (token.Number v d) fault.Range fault.Unexpected h k = absurd (k.0 h.0)
same_kind before (token.Number v d) fault.Unexpected fault.Range h k = absurd (h.0 k.0)
same_kind before t fault.Range fault.Range h k = refl
same_kind before t fault.Unexpected fault.Unexpected h k = refl
same_kind before t fault.Range fault.Unexpected h k = absurd (k h)
same_kind before t fault.Unexpected fault.Range h k = absurd (h k)
same_kind before t a fault.BadToken h k = absurd k
same_kind before t a fault.Unsupported h k = absurd k
same_kind before t a fault.Incomplete h k = absurd k
same_kind before t a fault.Years h k = absurd k
same_kind before t a b h k = absurd h

same_fault : (a b : HoursFault) → a.kind ≡ b.kind → a.place ≡ b.place → a ≡ b
same_fault a b h k =
    let make : FaultKind → ℕ → HoursFault = λ kind n. record { kind = kind; place = n } in
    ap (λ (kind : FaultKind). make kind a.place) h ∙ ap (make b.kind) k

two_misfits : (text : List ℕ) (a b : HoursFault) → (x : IsMisfit text a) → (y : IsMisfit text b)
    → Split x.before y.before x.here y.here → a ≡ b
two_misfits text a b x y (Split.same e f) =
    let kind = subst (λ (l : List Token). IsMisfitKind (kinds l) x.here.kind a.kind) e x.kind in
    let there = subst (λ (t : Token). IsMisfitKind (kinds y.before) t.kind a.kind) f kind in
    let same = same_kind (kinds y.before) y.here.kind a.kind b.kind there y.kind in
    same_fault a b same
    (x.place ∙ ap (λ (l : List Token). told_at l x.here a.kind) e ∙ ap (λ (t : Token). told_at y.before t a.kind) f
    ∙ ap (told_at y.before y.here) same ∙ sym y.place)
two_misfits text a b x y (Split.shorter c e) = absurd (x.no_further (goes_further x.before x.here c y.before e y.goes))
two_misfits text a b x y (Split.longer c e) = absurd (y.no_further (goes_further y.before y.here c x.before e x.goes))

-- a misfit is among tokens that cannot all go on
no_misfit : (text : List ℕ) (bad : HoursFault) (x : IsMisfit text bad) (tokens : List Token) → AreTokens text tokens
    → CanGoOn (kinds tokens) → ⊥
no_misfit text bad x tokens are go =
    x.no_further (goes_further x.before x.here x.after tokens
    (one_list text 0 tokens (x.before ++ x.here ∷ x.after) (length text) are x.are) go)

pub one_first_fault : (text : List ℕ) (a b : HoursFault) → IsFirstFault text a → IsFirstFault text b → a ≡ b
one_first_fault text a b (IsFirstFault.bad_token h k) (IsFirstFault.bad_token f g) =
    same_fault a b (h ∙ sym f) (one_fault text a.place b.place k g)
one_first_fault text a b (IsFirstFault.bad_token h k) (IsFirstFault.misfit y) =
    absurd (apart text (y.before ++ y.here ∷ y.after) a.place y.are k)
one_first_fault text a b (IsFirstFault.bad_token h k) (IsFirstFault.incomplete y) = absurd (apart text y.tokens a.place y.are k)
one_first_fault text a b (IsFirstFault.misfit x) (IsFirstFault.bad_token f g) =
    absurd (apart text (x.before ++ x.here ∷ x.after) b.place x.are g)
one_first_fault text a b (IsFirstFault.misfit x) (IsFirstFault.misfit y) =
    two_misfits text a b x y (splits x.before y.before x.after y.after x.here y.here
    (one_list text 0 (x.before ++ x.here ∷ x.after) (y.before ++ y.here ∷ y.after) (length text) x.are y.are))
one_first_fault text a b (IsFirstFault.misfit x) (IsFirstFault.incomplete y) =
    absurd (no_misfit text a x y.tokens y.are y.goes)
one_first_fault text a b (IsFirstFault.incomplete x) (IsFirstFault.bad_token f g) = absurd (apart text x.tokens b.place x.are g)
one_first_fault text a b (IsFirstFault.incomplete x) (IsFirstFault.misfit y) =
    absurd (no_misfit text b y x.tokens x.are x.goes)
one_first_fault text a b (IsFirstFault.incomplete x) (IsFirstFault.incomplete y) =
    same_fault a b (x.kind ∙ sym y.kind) (x.place ∙ sym y.place)

pub hours_or_fault : (text : List ℕ) (p : List Piece) (bad : HoursFault) → IsHoursText text p → IsFirstFault text bad → ⊥
hours_or_fault text p bad is (IsFirstFault.bad_token h k) = apart text is.tokens bad.place is.are k
hours_or_fault text p bad is (IsFirstFault.misfit x) =
    no_misfit text bad x is.tokens is.are (can_go_on p (kinds is.tokens) is.hours)
hours_or_fault text p bad is (IsFirstFault.incomplete x) =
    x.no_hours p (subst (λ (l : List Token). AreHours p (kinds l)) (one_list text 0 is.tokens x.tokens (length text) is.are x.are)
    is.hours)
