-- Which rules a text means, or what its first fault is: its tokens go through the grammar, and what this cuts off are parts.
use Rattle.std.specs.Prelude.{ℕ, Bool, true, false, List, [], ◌∷◌, ◌++◌, length, take, drop, replicate, Option, Some, None}
use Rattle.std.specs.Prelude.{Result, Ok, Err, if◌then◌else◌, ◌==◌, ◌+◌, ◌-◌}
use Rattle.gtd_hours_grammar2.specs.Machine.{next}
use Rattle.gtd_hours_grammar2.specs.Steps.{code}
use Rattle.gtd_hours_grammar2.specs.declared.class.Class.TheVariants as class
use Rattle.gtd_hours_grammar2.specs.declared.state.State.{State}
use Rattle.gtd_hours_grammar2.specs.declared.state.State.TheVariants as state
use Rattle.gtd_hours_grammar2.specs.declared.step.Cut.{Cut}
use Rattle.gtd_hours_grammar2.specs.declared.step.Cut.TheVariants as cut
use Rattle.gtd_hours_grammar2.specs.declared.step.Step.{Step}
use Rattle.gtd_hours_grammar2.specs.declared.step.Way.{Way}
use Rattle.gtd_hours_grammar2.specs.declared.step.Way.TheVariants as way
use Rattle.gtd_hours_grammar2.specs.declared.step.Wrong.{Wrong}
use Rattle.gtd_hours_grammar2.specs.declared.step.Wrong.TheVariants as wrongs
use Rattle.gtd_hours_tokens2.specs.Tokens.{Lexed, tokens_of}
use Rattle.gtd_hours_tokens2.specs.declared.token.DayNames.{DayNames}
use Rattle.gtd_hours_tokens2.specs.declared.token.Token.{Token}
use Rattle.gtd_hours_tokens2.specs.declared.token.TokenFault.{TokenFault}
use Rattle.gtd_hours_tokens2.specs.declared.token.TokenFaultKind.{TokenFaultKind}
use Rattle.gtd_hours_tokens2.specs.declared.token.TokenFaultKind.TheVariants as bad
use Rattle.gtd_hours_tokens2.specs.declared.token.TokenKind.{TokenKind}
use Rattle.gtd_hours_tokens2.specs.declared.token.TokenKind.TheVariants as token
use Rattle.gtd_hours_tokens2.specs.declared.token.Word.{Word}
use Rattle.gtd_hours_tokens2.specs.declared.token.Word.TheVariants as said
use Rattle.gtd_hours2.specs.Rules.{Rule}
use Rattle.gtd_hours2.specs.declared.values.CommentRange.{CommentRange}
use Rattle.gtd_hours2.specs.declared.values.RuleHead.{RuleHead}
use Rattle.gtd_hours2.specs.declared.values.RuleLink.{RuleLink}
use Rattle.gtd_hours2.specs.declared.values.RuleLink.TheVariants as link
use Rattle.gtd_hours2.specs.declared.values.RulePart.{RulePart}
use Rattle.gtd_hours2.specs.declared.values.RuleWord.{RuleWord}
use Rattle.gtd_hours2.specs.declared.values.RuleWord.TheVariants as word
use Rattle.gtd_hours_text2.specs.Parts.{◌>>=◌, class_of, last_part, last_place, parts_of, place_of, pushed}
use Rattle.gtd_hours_reading2.specs.declared.fault.HoursFault.{HoursFault}
use Rattle.gtd_hours_reading2.specs.declared.fault.HoursFaultKind.{HoursFaultKind}
use Rattle.gtd_hours_reading2.specs.declared.fault.HoursFaultKind.TheVariants as fault
use Rattle.gtd_hours_reading2.specs.declared.places.LooseForm.{LooseForm}
use Rattle.gtd_hours_reading2.specs.declared.places.PartPlace.{PartPlace}
use Rattle.gtd_hours_reading2.specs.declared.places.RulePlace.{RulePlace}

-- What has been read: the rules before and their places, the places of all parts, the rule that is being read and its place, the
-- tokens of its next part, the last sign between parts, and what is written loosely beside tokens.
pub record RulesRead : Type 0 where
  pub rules : List Rule
  pub rule_places : List RulePlace
  pub part_places : List PartPlace
  pub head : RuleHead
  pub parts : List RulePart
  pub place : RulePlace
  pub item : List Token
  pub sign : ℕ
  pub loose : List LooseForm

-- ---- parts and rules

abbrev pub head_from : RuleLink → RuleHead
head_from l = record { link = l; leads = false; is_always = false; word = None; comment = None }

abbrev pub place_from : ℕ → RulePlace
place_from offset = record { from = offset; said = 0 }

-- a part is where its tokens are
abbrev pub placed : List Token → PartPlace
placed ts = record { from = place_of ts; last = last_place ts }

-- the rule with more parts, and a place of each that is new
abbrev pub with_parts : RulesRead → List Token → List Token → Result (List RulePart) ℕ → Result RulesRead ℕ
with_parts r ts rest (Ok parts) = Ok (record r {
  parts = parts;
  part_places = r.part_places ++ replicate (length parts - length r.parts) (placed ts);
  item = rest;
})
with_parts r ts rest (Err offset) = Err offset

-- the first so many tokens are a part
abbrev pub cut_tokens : Cut → ℕ → RulesRead → Result RulesRead ℕ
cut_tokens k n r =
    with_parts r (take n r.item) (drop n r.item) (pushed r.parts (parts_of k (last_part r.parts) (take n r.item)))

-- a rule is complete, and another one begins
abbrev pub begin : RuleLink → ℕ → RulesRead → RulesRead
begin l offset r = record r {
  rules = r.rules ++ record { head = r.head; parts = r.parts } ∷ [];
  rule_places = r.rule_places ++ r.place ∷ [];
  head = head_from l;
  parts = [];
  place = place_from offset;
}

abbrev pub leading : RulesRead → RulesRead
leading r = record r { head = record r.head { leads = true } }

abbrev pub always : RulesRead → RulesRead
always r = record r { head = record r.head { is_always = true } }

-- how many tokens a year and a month, or a month, are
abbrev pub front_length : List Token → ℕ
front_length [] = 2
front_length (t ∷ ts) = if code (class_of t.kind) == code class.Month then 1 else 2

-- what is complete before a token at an offset
abbrev pub cut_by : Cut → ℕ → RulesRead → Result RulesRead ℕ
cut_by cut.Instead offset r = Ok (begin link.Instead offset r)
cut_by cut.Also offset r = Ok (begin link.Also offset r)
cut_by cut.Fallback offset r = Ok (begin link.Fallback offset r)
cut_by cut.Leads offset r = Ok (leading r)
cut_by cut.Before offset r = cut_tokens cut.MonthDays (front_length r.item) r
cut_by cut.Always offset r = cut_tokens cut.Always (length r.item) (always r)
cut_by k offset r = cut_tokens k (length r.item) r

abbrev pub cut_off : Option Cut → ℕ → RulesRead → Result RulesRead ℕ
cut_off None offset r = Ok r
cut_off (Some k) offset r = cut_by k offset r

-- ---- words and comments

abbrev pub word_of : Word → RuleWord
word_of said.Open = word.Open
word_of said.Off = word.Off
word_of said.Unknown = word.Unknown

-- A comment begins with a plain quote (34) or with one of three bytes, and ends with either.
abbrev pub begins_plain : List ℕ → Bool
begins_plain [] = false
begins_plain (b ∷ bytes) = b == 34

abbrev pub comment_of : List ℕ → Token → CommentRange
comment_of text t = record {
  from = t.from + (if t.is_loose then 3 else 1);
  to = t.to - (if begins_plain (drop (t.to - 1) text) then 1 else 3);
}

-- where the rule says something: at its word or, without one, at its comment
abbrev pub said_at : Option RuleWord → ℕ → ℕ → ℕ
said_at None before offset = offset
said_at (Some w) before offset = before

-- a word or a comment of the rule
abbrev pub marked : List ℕ → Token → TokenKind → RulesRead → RulesRead
marked text t (token.Word w) r =
    record r { head = record r.head { word = Some (word_of w) }; place = record r.place { said = t.from } }
marked text t kind r = record r {
  head = record r.head { comment = Some (comment_of text t) };
  place = record r.place { said = said_at r.head.word r.place.said t.from };
}

abbrev pub loosely : ℕ → Bool → RulesRead → RulesRead
loosely offset is_comma r = record r { loose = r.loose ++ record { offset = offset; is_comma = is_comma } ∷ [] }

abbrev pub add_token : Token → RulesRead → RulesRead
add_token t r = record r { item = r.item ++ t ∷ [] }

-- what becomes of a token
abbrev pub take_up : List ℕ → Way → Token → RulesRead → RulesRead
take_up text way.Push t r = add_token t r
take_up text way.Skip t r = record r { sign = t.from }
take_up text way.Mark t r = marked text t t.kind r
take_up text way.Dropped t r = loosely t.from false r
take_up text way.Missing t r = loosely t.from true (add_token t r)

-- ---- the run

abbrev pub at_fault : HoursFaultKind → ℕ → HoursFault
at_fault kind offset = record { kind = kind; offset = offset }

abbrev pub fault_of : Wrong → HoursFaultKind
fault_of wrongs.Unexpected = fault.Unexpected
fault_of wrongs.Ambiguous = fault.Ambiguous
fault_of wrongs.Unsupported = fault.Unsupported

-- what is cut off at an offset, where a rule may begin
abbrev pub cut_step : Step → ℕ → RulesRead → Result RulesRead ℕ
cut_step step offset r = cut_off step.first offset r >>= cut_off step.second offset

abbrev pub Run : Type 0
Run = Result RulesRead HoursFault

-- at the end, a sign that is left out is the last one
abbrev pub dropped_last : Way → RulesRead → RulesRead
dropped_last way.Dropped r = loosely r.sign false r
dropped_last w r = r

abbrev pub ended : Step → Result RulesRead ℕ → Run
ended step (Ok r) = Ok (dropped_last step.way r)
ended step (Err offset) = Err (at_fault fault.Range offset)

-- No rule begins at the end.
abbrev pub finish : ℕ → Result Step Wrong → RulesRead → Run
finish size (Ok step) r = ended step (cut_step step 0 r)
finish size (Err w) r = Err (at_fault fault.Incomplete size)

-- where a token leads, and what has been read then
abbrev pub Stepped : Type 0
Stepped = Result (State × RulesRead) HoursFault

abbrev pub taken : List ℕ → Step → Token → Result RulesRead ℕ → Stepped
taken text step t (Ok r) = Ok (step.to, take_up text step.way t r)
taken text step t (Err offset) = Err (at_fault fault.Range offset)

-- what is cut off, and then the token is taken up
abbrev pub token_step : List ℕ → Token → Result Step Wrong → RulesRead → Stepped
token_step text t (Ok step) r = taken text step t (cut_step step t.from r)
token_step text t (Err w) r = Err (at_fault (fault_of w) t.from)

abbrev pub then_run : (State → RulesRead → Run) → Stepped → Run
then_run later (Ok x) = later x.0 x.1
then_run later (Err why) = Err why

-- tokens of a text from a state on
abbrev pub run : List ℕ → List Token → State → RulesRead → Run
run text [] s r = finish (length text) (next s class.End) r
run text (t ∷ ts) s r = then_run (run text ts) (token_step text t (next s (class_of t.kind)) r)

abbrev pub beginning : RulesRead
beginning = record {
  rules = [];
  rule_places = [];
  part_places = [];
  head = head_from link.Instead;
  parts = [];
  place = place_from 0;
  item = [];
  sign = 0;
  loose = [];
}

-- A text that is read: its rules, where each is and where it says something, where the parts of all of them are, and what is
-- written loosely beside its tokens.
pub record TextRead : Type 0 where
  pub rules : List Rule
  pub rule_places : List RulePlace
  pub part_places : List PartPlace
  pub loose : List LooseForm

-- the last rule is complete
abbrev pub text_read : RulesRead → TextRead
text_read r = record {
  rules = r.rules ++ record { head = r.head; parts = r.parts } ∷ [];
  rule_places = r.rule_places ++ r.place ∷ [];
  part_places = r.part_places;
  loose = r.loose;
}

abbrev pub completed : Run → Result TextRead HoursFault
completed (Ok r) = Ok (text_read r)
completed (Err why) = Err why

abbrev pub token_fault : TokenFaultKind → HoursFaultKind
token_fault bad.BadToken = fault.BadToken
token_fault bad.Ambiguous = fault.Ambiguous
token_fault bad.TooLong = fault.TooLong

abbrev pub fault_at : TokenFault → HoursFault
fault_at why = at_fault (token_fault why.kind) why.place

-- tokens of a text, or their fault, from a state on
abbrev pub read_from : List ℕ → State → RulesRead → Lexed → Result TextRead HoursFault
read_from text s r (Ok x) = completed (run text x.tokens s r)
read_from text s r (Err why) = Err (fault_at why)

-- The rules that a text means, or its first fault: that of its tokens, or else the first token that cannot come, or whose number
-- is out of range when its part is complete.
abbrev pub read : DayNames → List ℕ → Result TextRead HoursFault
read names text = read_from text state.Front beginning (tokens_of names text)
