-- The word that a refusal keeps.
use Rattle.std.proofs.Common.{◌≡◌, ◌∙◌, ◌⊎◌, ◌++◌, inl, inr, ap, sym, subst, refl, List, [], ◌∷◌, Option, Some, None}
use Rattle.std.specs.Prelude.{Result, Ok, Err, IfErr, MatchResult, codes, string_bytes, unwrap_or}
use Rattle.clap.specs.Walk.{Row, first_of}
use Rattle.gtdesk_plans.specs.Arguments.{Text}
use Rattle.gtdesk_plans.specs.Commands.{words_of}
use Rattle.gtdesk_plans.specs.Commands.Now.{vehicle_word, view_words}
use Rattle.gtdesk_plans.specs.DayNames.{day_names_words}
use Rattle.gtdesk_plans.specs.Given.{Give, Given}
use Rattle.gtdesk_plans.specs.Plans.{AreRefused, AskFor, Asks, IsRefused, IsWordFault, IsWordless, KeepsWord}
use Rattle.gtdesk_plans.specs.Refused.{IsKept, IsRefusedText, text_in, word_at, word_of}
use Rattle.gtdesk_plans.specs.Rows.{text_of}
use Rattle.gtdesk_plans.specs.TextOptions.{option_words}
use Rattle.gtdesk_plans.proofs.PlanFacts.{first_word, only_asked, planned_words}
use Rattle.gtdesk_plans.specs.declared.forms.Form.{Form}
use Rattle.gtdesk_plans.specs.declared.forms.Form.TheVariants as form
use Rattle.gtdesk_plans.specs.declared.plans.Plan.{Plan}
use Rattle.gtdesk_plans.specs.declared.refused.LineRefusal.{LineRefusal}
use Rattle.gtdesk_words.specs.Readings.{AreStopped, IsFirstFault, Reading, Word, if_given, word_as}
use Rattle.gtdesk_words.specs.declared.refusal.WordFault.{WordFault}
use Rattle.gtdesk_words.specs.declared.refusal.WordName.{WordName}
use Rattle.gtdesk_words.specs.declared.refusal.WordName.TheVariants as name
use Rattle.gtdesk_words.specs.declared.refusal.WordsRefusal.{WordsRefusal}
use Rattle.gtdesk_words.specs.declared.refusal.WordsRefusal.TheVariants as refusal

-- ---- a refusal without its word

abbrev pub whys : Result Plan LineRefusal → Result Plan WordsRefusal
whys (Ok p) = Ok p
whys (Err r) = Err r.why

module _ (P : Plan → Type 0) (Q : WordsRefusal → Type 0) where
  pub to_whys : (result : Result Plan LineRefusal) → MatchResult result P (λ r. Q r.why) → MatchResult (whys result) P Q
  to_whys (Ok p) h = h
  to_whys (Err r) h = h

  pub from_whys : (result : Result Plan LineRefusal) → MatchResult (whys result) P Q → MatchResult result P (λ r. Q r.why)
  from_whys (Ok p) h = h
  from_whys (Err r) h = h

-- ---- the texts of the words of a command

abbrev AllNamed : (WordName → Text) → List Word → Type 0
AllNamed text [] = Unit {0}
AllNamed text (word ∷ words) = (text word.name ≡ text_in word.reading) × AllNamed text words

module _ (text : WordName → Text) where
  given_named : (o : Option Text) (n : WordName) (reading : Text → Reading) → text n ≡ unwrap_or o []
      → ((t : Text) → text_in (reading t) ≡ t) → AllNamed text (if_given o (λ t. word_as n (reading t)))
  given_named None n reading e is = tt
  given_named (Some t) n reading e is = (e ∙ sym (is t), tt)

  both_named : (words others : List Word) → AllNamed text words → AllNamed text others → AllNamed text (words ++ others)
  both_named [] others a b = b
  both_named (word ∷ words) others a b = (a.0, both_named words others a.1 b)

  refused_text : (words : List Word) (fault : WordFault) → AllNamed text words → IsFirstFault words fault
      → IsRefusedText words fault (text fault.word)
  refused_text [] fault named is = absurd is
  refused_text (word ∷ words) fault named (inl is) = inl (is, ap text is.0 ∙ named.0)
  refused_text (word ∷ words) fault named (inr is) = inr (is.0, refused_text words fault named.1 is.1)

abbrev kept_as : Form → List Row → WordName → Text
kept_as f rows n = word_of f n rows

day_names_named : (f : Form) (rows : List Row) → kept_as f rows name.Names ≡ text_of (codes "day-names") rows
    → AllNamed (kept_as f rows) (day_names_words rows)
day_names_named f rows e =
    given_named (kept_as f rows) (first_of (codes "day-names") rows) name.Names Reading.day_names e (λ t. refl)

option_named : (f : Form) (rows : List Row) → kept_as f rows name.Names ≡ text_of (codes "day-names") rows
    → kept_as f rows name.Years ≡ text_of (codes "years") rows
    → kept_as f rows name.OpenEnd ≡ text_of (codes "open-end") rows
    → kept_as f rows name.Points ≡ text_of (codes "points") rows
    → kept_as f rows name.Sunrise ≡ text_of (codes "sunrise") rows
    → kept_as f rows name.Sunset ≡ text_of (codes "sunset") rows
    → kept_as f rows name.Dawn ≡ text_of (codes "dawn") rows
    → kept_as f rows name.Dusk ≡ text_of (codes "dusk") rows
    → AllNamed (kept_as f rows) (option_words rows)
option_named f rows names years open_end points sunrise sunset dawn dusk =
    let text = kept_as f rows in
    both_named text _ _ (day_names_named f rows names)
    (both_named text _ _ (given_named text (first_of (codes "years") rows) name.Years Reading.years years (λ t. refl))
    (both_named text _ _ (given_named text (first_of (codes "open-end") rows) name.OpenEnd Reading.open_end open_end (λ t. refl))
    (both_named text _ _ (given_named text (first_of (codes "points") rows) name.Points Reading.points points (λ t. refl))
    (both_named text _ _ (given_named text (first_of (codes "sunrise") rows) name.Sunrise Reading.event sunrise (λ t. refl))
    (both_named text _ _ (given_named text (first_of (codes "sunset") rows) name.Sunset Reading.event sunset (λ t. refl))
    (both_named text _ _ (given_named text (first_of (codes "dawn") rows) name.Dawn Reading.event dawn (λ t. refl))
    (given_named text (first_of (codes "dusk") rows) name.Dusk Reading.event dusk (λ t. refl))))))))

all_named : (f : Form) (rows : List Row) → AllNamed (kept_as f rows) (words_of f rows)
all_named form.Now rows = (
  refl,
  (
    refl,
    given_named (kept_as form.Now rows) (first_of (codes "element") rows) name.Element Reading.elements refl
        (λ t. refl),
  ),
)
all_named form.NowIn rows =
    both_named (kept_as form.NowIn rows) (view_words rows (vehicle_word rows)) _ (
      refl,
      given_named (kept_as form.NowIn rows) (first_of (codes "element") rows) name.Element Reading.elements refl
          (λ t. refl),
    ) (refl, tt)
all_named form.Faults rows =
    both_named (kept_as form.Faults rows) _ _
    (given_named (kept_as form.Faults rows) (first_of (codes "allow") rows) name.Rule Reading.rules refl (λ t. refl))
    (given_named (kept_as form.Faults rows) (first_of (codes "at") rows) name.Day Reading.day refl (λ t. refl))
all_named form.Words rows =
    (refl, given_named (kept_as form.Words rows) (first_of (codes "lang") rows) name.Language Reading.language refl (λ t. refl))
all_named form.Hours rows = option_named form.Hours rows refl refl refl refl refl refl refl refl
all_named form.HoursOf rows = (refl, tt)
all_named form.Same rows = (
  refl,
  (
    refl,
    given_named (kept_as form.Same rows) (first_of (codes "from") rows) name.Moment Reading.moment refl
        (λ t. refl),
  ),
)
all_named form.SameHours rows = (
  refl,
  (
    refl,
    given_named (kept_as form.SameHours rows) (first_of (codes "from") rows) name.Moment Reading.moment refl
        (λ t. refl),
  ),
)
all_named form.SameRows rows = tt
all_named form.Diff rows = (refl, (refl, (refl, (refl, tt))))
all_named form.Ask rows = tt
all_named form.Records rows = option_named form.Records rows refl refl refl refl refl refl refl refl
all_named form.Conditions rows = option_named form.Conditions rows refl refl refl refl refl refl refl refl
all_named form.Mend rows = tt
all_named form.MendHours rows = day_names_named form.MendHours rows refl
all_named form.Picture rows = (refl, (refl, (refl, (refl, tt))))
all_named form.PictureDomain rows = (refl, (refl, tt))

-- ---- what a refusal of a command keeps

kept_at : (f : Form) (rows : List Row) (why : WordsRefusal) → AreStopped (words_of f rows) why
    → IsKept (words_of f rows) why (word_at f why rows)
kept_at f rows (refusal.Usage told meant) is = absurd is
kept_at f rows (refusal.Word fault) is = refused_text (kept_as f rows) (words_of f rows) fault (all_named f rows) is
kept_at f rows refusal.Memory is = refl

-- the refusal that keeps a text, or memory was refused for it
abbrev Keeps : WordsRefusal → Text → WordsRefusal → Text → Type 0
Keeps why text new kept = ((new ≡ why) × (kept ≡ text)) ⊎ ((new ≡ refusal.Memory) × (kept ≡ []))

pub stopped_as : (words : List Word) (why new : WordsRefusal) (text kept : Text) → Keeps why text new kept
    → AreStopped words why → AreStopped words new
stopped_as words why new text kept (inl is) stopped = subst (AreStopped words) (sym is.0) stopped
stopped_as words why new text kept (inr is) stopped = subst (AreStopped words) (sym is.0) tt

kept_of : (words : List Word) (why new : WordsRefusal) (text kept : Text) → Keeps why text new kept
    → IsKept words why text → IsKept words new kept
kept_of words why new text kept (inl is) has =
    subst (λ (r : WordsRefusal). IsKept words r kept) (sym is.0) (subst (IsKept words why) (sym is.1) has)
kept_of words why new text kept (inr is) has = subst (λ (r : WordsRefusal). IsKept words r kept) (sym is.0) is.1

pub kept_by : (f : Form) (rows : List Row) (why new : WordsRefusal) (text kept : Text) → Keeps why text new kept
    → text ≡ word_at f why rows → AreStopped (words_of f rows) why → IsKept (words_of f rows) new kept
kept_by f rows why new text kept keeps is stopped =
    kept_of (words_of f rows) why new text kept keeps
    (subst (IsKept (words_of f rows) why) (sym is) (kept_at f rows why stopped))

-- ---- what a refusal of a command line keeps

pub keeps_word : (words : List Text) (given : Given) (why : WordsRefusal) (text : Text) → Give words given
    → IsKept (words_of given.form given.rows) why text → KeepsWord words why text
keeps_word words given (refusal.Usage told meant) text give has = has
keeps_word words given (refusal.Word fault) text give has = (given, give, has)
keeps_word words given refusal.Memory text give has = has

pub kept_answer : (words : List Text) (given : Given) (result : Result Plan LineRefusal) → Give words given
    → IfErr result (λ r. IsKept (words_of given.form given.rows) r.why (string_bytes r.text))
    → IfErr result (λ r. KeepsWord words r.why (string_bytes r.text))
kept_answer words given (Ok p) give has = tt
kept_answer words given (Err r) give has = keeps_word words given r.why (string_bytes r.text) give has

-- ---- what a refusal with its word is, from what it is without

module _ (words : List Text) (result : Result Plan LineRefusal)
    (answer : MatchResult result (AskFor words) (λ r. AreRefused words r.why)) (given : Given) (give : Give words given) where
  only_why : MatchResult (whys result) (Asks given) (IsRefused given)
  only_why = only_asked words (whys result) (to_whys (AskFor words) (AreRefused words) result answer) given give

  pub only_refused : MatchResult result (Asks given) (λ r. IsRefused given r.why)
  only_refused = from_whys (Asks given) (IsRefused given) result only_why

  pub first_refused : (r : WordsRefusal) → IsWordFault given r
      → MatchResult result (λ p. ⊥) (λ s. (s.why ≡ refusal.Memory) ⊎ (s.why ≡ r))
  first_refused r is =
      from_whys (λ p. ⊥) (λ s. (s ≡ refusal.Memory) ⊎ (s ≡ r)) result (first_word given (whys result) only_why r is)

  pub planned_refused : ((r : WordsRefusal) → IsWordFault given r → ⊥)
      → MatchResult result (Asks given) (λ s. s.why ≡ refusal.Memory)
  planned_refused none =
      from_whys (Asks given) (λ s. s ≡ refusal.Memory) result (planned_words given (whys result) only_why none)

-- ---- a refusal of memory is for no word

pub memory_alone : (P : Plan → Type 0) (result : Result Plan WordsRefusal) → MatchResult result P (λ r. r ≡ refusal.Memory)
    → IfErr result IsWordless
memory_alone P (Ok p) h = tt
memory_alone P (Err r) h = subst IsWordless (sym h) tt
