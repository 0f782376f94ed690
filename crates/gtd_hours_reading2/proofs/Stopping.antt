-- Where a run stops: for the law that each reading goes on.
use Rattle.std.proofs.Common.{◌≡◌, ◌∙◌, ◌⊎◌, inl, inr, refl, sym, ap, ℕ, List, [], ◌∷◌, ◌++◌, length}
use Rattle.std.specs.Prelude.{Result, Ok, Err, Some}
use Rattle.gtd_hours_grammar2.specs.Endings.{IsFirstFault, IsLongest, leads, step_to}
use Rattle.gtd_hours_grammar2.specs.Machine.{next}
use Rattle.gtd_hours_grammar2.specs.Steps.{Next}
use Rattle.gtd_hours_grammar2.specs.declared.class.Class.{Class}
use Rattle.gtd_hours_grammar2.specs.declared.class.Class.TheVariants as class
use Rattle.gtd_hours_grammar2.specs.declared.state.State.{State}
use Rattle.gtd_hours_grammar2.specs.declared.state.State.TheVariants as state
use Rattle.gtd_hours_grammar2.specs.declared.step.Step.{Step}
use Rattle.gtd_hours_grammar2.specs.declared.step.Wrong.{Wrong}
use Rattle.gtd_hours_tokens2.specs.Tokens.{Lexed, Tokens, tokens_of}
use Rattle.gtd_hours_tokens2.specs.declared.token.DayNames.{DayNames}
use Rattle.gtd_hours_tokens2.specs.declared.token.Token.{Token}
use Rattle.gtd_hours_text2.specs.Parts.{class_of}
use Rattle.gtd_hours_reading2.specs.Longest.{IsWhyUnread, at_longest, at_tokens, class_at, classes, in_range, offset_at}
use Rattle.gtd_hours_reading2.specs.Reading.{Run, RulesRead, at_fault, beginning, completed, cut_step, ended, fault_at, fault_of}
use Rattle.gtd_hours_reading2.specs.Reading.{finish, read, read_from, run, take_up, taken, then_run, token_step}
use Rattle.gtd_hours_reading2.specs.declared.fault.HoursFault.{HoursFault}
use Rattle.gtd_hours_reading2.specs.declared.fault.HoursFaultKind.TheVariants as fault

-- From a state on tokens lead to another one, and what comes next leads nowhere.
record StopsFrom (size : ℕ) (s : State) (ts : List Token) (why : HoursFault) : Type 0 where
  pub before : List Token
  pub rest : List Token
  pub parted : ts ≡ before ++ rest
  pub there : why.offset ≡ offset_at size rest
  pub end : State
  pub goes : leads (classes before) s ≡ Some end
  pub w : Wrong
  pub stops : next end (class_at rest) ≡ Err w

abbrev Stops : ℕ → State → List Token → HoursFault → Type 0
Stops size s ts why = (why.kind ≡ fault.Range) ⊎ StopsFrom size s ts why

fault_is : (a b : HoursFault) → ◌≡◌ {A = Run} (Err a) (Err b) → a ≡ b
fault_is a b e = cc

range_end : (step : Step) (x : Result RulesRead ℕ) (why : HoursFault) → ended step x ≡ Err why → why.kind ≡ fault.Range
range_end step (Ok u) why e = absurd cc
range_end step (Err offset) why e = ap (λ (h : HoursFault). h.kind) (sym (fault_is (at_fault fault.Range offset) why e))

at_end : (size : ℕ) (s : State) (r : RulesRead) (why : HoursFault) (n : Next) → next s class.End ≡ n
    → finish size n r ≡ Err why → Stops size s [] why
at_end size s r why (Ok step) is e = inl (range_end step (cut_step step 0 r) why e)
at_end size s r why (Err w) is e = inr (record {
  before = [];
  rest = [];
  parted = refl;
  there = ap (λ (h : HoursFault). h.offset) (sym (fault_is (at_fault fault.Incomplete size) why e));
  end = s;
  goes = refl;
  w = w;
  stops = is;
})

one_more : (size : ℕ) (s : State) (t : Token) (ts : List Token) (why : HoursFault) (step : Step)
    → next s (class_of t.kind) ≡ Ok step → Stops size step.to ts why → Stops size s (t ∷ ts) why
one_more size s t ts why step is (inl h) = inl h
one_more size s t ts why step is (inr x) = inr (record {
  before = t ∷ x.before;
  rest = x.rest;
  parted = ap (λ (l : List Token). t ∷ l) x.parted;
  there = x.there;
  end = x.end;
  goes = ap (step_to (leads (classes x.before))) is ∙ x.goes;
  w = x.w;
  stops = x.stops;
})

-- the rest of the tokens, from a state on
abbrev Later : List ℕ → List Token → HoursFault → Type 0
Later text ts why = (s : State) (r : RulesRead) → run text ts s r ≡ Err why → Stops (length text) s ts why

after_cut : (text : List ℕ) (s : State) (t : Token) (ts : List Token) (why : HoursFault) (step : Step)
    → Later text ts why → next s (class_of t.kind) ≡ Ok step → (x : Result RulesRead ℕ)
    → then_run (run text ts) (taken text step t x) ≡ Err why → Stops (length text) s (t ∷ ts) why
after_cut text s t ts why step later is (Ok u) e =
    one_more (length text) s t ts why step is (later step.to (take_up text step.way t u) e)
after_cut text s t ts why step later is (Err offset) e =
    inl (ap (λ (h : HoursFault). h.kind) (sym (fault_is (at_fault fault.Range offset) why e)))

at_token : (text : List ℕ) (s : State) (r : RulesRead) (t : Token) (ts : List Token) (why : HoursFault) → Later text ts why
    → (n : Next) → next s (class_of t.kind) ≡ n → then_run (run text ts) (token_step text t n r) ≡ Err why
    → Stops (length text) s (t ∷ ts) why
at_token text s r t ts why later (Ok step) is e = after_cut text s t ts why step later is (cut_step step t.from r) e
at_token text s r t ts why later (Err w) is e = inr (record {
  before = [];
  rest = t ∷ ts;
  parted = refl;
  there = ap (λ (h : HoursFault). h.offset) (sym (fault_is (at_fault (fault_of w) t.from) why e));
  end = s;
  goes = refl;
  w = w;
  stops = is;
})

run_stops : (text : List ℕ) (ts : List Token) (why : HoursFault) → Later text ts why
run_stops text [] why s r e = at_end (length text) s r why (next s class.End) refl e
run_stops text (t ∷ ts) why s r e = at_token text s r t ts why (run_stops text ts why) (next s (class_of t.kind)) refl e

-- the law of the grammar
abbrev pub GoesOn : Type 0
GoesOn = (before : List Class) (c : Class) (w : Wrong) → IsFirstFault before c w → IsLongest before c

stopped : GoesOn → (names : DayNames) (text : List ℕ) (why : HoursFault) (x : Tokens) → tokens_of names text ≡ Ok x
    → Stops (length text) state.Front x.tokens why → IsWhyUnread names text why
stopped law names text why x is (inl h) = in_range h
stopped law names text why x is (inr y) = at_longest x is (record {
  before = y.before;
  rest = y.rest;
  parted = y.parted;
  there = y.there;
  longest = law (classes y.before) (class_at y.rest) y.w (record { s = y.end; goes = y.goes; stops = y.stops });
})

unread : GoesOn → (names : DayNames) (text : List ℕ) (why : HoursFault) (x : Tokens) → tokens_of names text ≡ Ok x → (z : Run)
    → run text x.tokens state.Front beginning ≡ z → completed z ≡ Err why → IsWhyUnread names text why
unread law names text why x is (Ok r) same e = absurd cc
unread law names text why x is (Err other) same e =
    let h : other ≡ why = cc in
    stopped law names text why x is
    (run_stops text x.tokens why state.Front beginning (same ∙ ap (λ (f : HoursFault). Err f) h))

by_tokens : GoesOn → (names : DayNames) (text : List ℕ) (why : HoursFault) (l : Lexed) → tokens_of names text ≡ l
    → read_from text state.Front beginning l ≡ Err why → IsWhyUnread names text why
by_tokens law names text why (Ok x) is e =
    unread law names text why x is (run text x.tokens state.Front beginning) refl e
by_tokens law names text why (Err bad) is e = at_tokens bad is (let h : fault_at bad ≡ why = cc in sym h)

pub why_unread : GoesOn → (names : DayNames) (text : List ℕ) (why : HoursFault) → read names text ≡ Err why
    → IsWhyUnread names text why
why_unread law names text why e = by_tokens law names text why (tokens_of names text) refl e
