-- Tags in the order of their modes: those of the first mode, and what the others say.
use Rattle.std.specs.Prelude.{⊤}
use Rattle.std.specs.List.{prefix_len}
use Rattle.std.specs.List.Sorted.{IsNonDecreasingBy}
use Rattle.std.proofs.Common.{◌≡◌, ◌∙◌, ap, refl, sym, subst, ℕ, zero, suc, ◌+◌, ◌<◌, ◌≤◌, ◌⊎◌, inl, inr, Bool, true, false}
use Rattle.std.proofs.Common.{List, [], ◌∷◌, ◌++◌, take, drop, if◌then◌else◌, arith, Option, Some, None, ◌==◌, nat_lt}
use Rattle.std.proofs.lemmas.Bool.{cases_Bool, cases_lt}
use Rattle.std.proofs.lemmas.Bool.Decides.{nat_tests}
use Rattle.std.proofs.lemmas.List.{append-nil}
use Rattle.std.proofs.lemmas.List.Sorted.{IsNonDecreasingBy-drop}
use Rattle.gtd_conditional_means.specs.declared.meaning.MeansRow.{MeansRow}
use Rattle.gtd_conditional_parts.specs.declared.said.Subject.{Subject}
use Rattle.gtd_conditional_steps.specs.Modes.{is_of_mode, next_mode}
use Rattle.gtd_conditional_steps.specs.Sayings.{is_of_key, mode_types, said_before, said_by_key, said_by_parts, said_by_types}
use Rattle.gtd_rows.specs.declared.direction.Direction.{Direction}
use Rattle.gtd_conditional_steps.specs.declared.tag.Tag.{Tag}
use Rattle.gtd_rows.specs.declared.vehicles.Vehicles.{Vehicles}

-- no tag has a mode before this one, nor before that of an earlier tag
abbrev pub AreFrom : ℕ → List Tag → Type 0
AreFrom from [] = ⊤
AreFrom from (tag ∷ tags) = (from ≤ tag.mode) × AreFrom tag.mode tags

are_from : (from : ℕ) (tags : List Tag) → IsNonDecreasingBy (λ (t : Tag). t.mode) tags
    → ((tag : Tag) (more : List Tag) → tags ≡ tag ∷ more → from ≤ tag.mode) → AreFrom from tags
are_from from [] up low = tt
are_from from (tag ∷ tags) up low =
    let later = IsNonDecreasingBy-drop (λ (t : Tag). t.mode) 1 (tag ∷ tags) up in
    (low tag tags refl, are_from tag.mode tags later (next tag tags up))
  where
    next : (tag : Tag) (tags : List Tag) → IsNonDecreasingBy (λ (t : Tag). t.mode) (tag ∷ tags)
        → (later : Tag) (more : List Tag) → tags ≡ later ∷ more → tag.mode ≤ later.mode
    next tag [] up later more is = cc
    next tag (other ∷ others) up later more is =
        let same : other.mode ≡ later.mode = (let e : other ≡ later = cc in ap (λ (t : Tag). t.mode) e) in
        let here : tag.mode ≤ other.mode = up 0 1 tag (omega arith) (omega arith) in
        subst (λ (n : ℕ). tag.mode ≤ n) same here

pub in_order : (tags : List Tag) → IsNonDecreasingBy (λ (t : Tag). t.mode) tags → AreFrom 0 tags
in_order tags up = are_from 0 tags up (λ tag more is. omega arith)

-- ---- a mode that no tag has

abbrev pub SaysNothing : ℕ → List Tag → Type 0
SaysNothing n tags = (types : Vehicles) (way : Option Direction) (conditional : Bool)
    → said_by_key types n way conditional tags ≡ []

other_mode : (mode : ℕ) (way : Option Direction) (conditional : Bool) (tag : Tag) → (tag.mode == mode) ≡ false
    → is_of_key mode way conditional tag ≡ false
other_mode mode way conditional tag differ = rw differ refl

-- a mode before all
pub nothing_before : (n from : ℕ) (tags : List Tag) → n < from → AreFrom from tags → SaysNothing n tags
nothing_before n from [] less are types way conditional = refl
nothing_before n from (tag ∷ tags) less are types way conditional =
    let near = are.0 in
    let differ : (tag.mode == n) ≡ false = grind (arith, nat_tests) in
    rw (other_mode n way conditional tag differ)
    (nothing_before n tag.mode tags (omega (arith, near)) are.1 types way conditional)

-- ---- the tags of the first mode, and those behind them

pub record IsSplit (mode : ℕ) (tags : List Tag) (count : ℕ) : Type 0 where
  pub here : (types : Vehicles) (way : Option Direction) (conditional : Bool)
      → said_by_key types mode way conditional (take count tags) ≡ said_by_key types mode way conditional tags
  pub later : (n : ℕ) → mode < n → (types : Vehicles) (way : Option Direction) (conditional : Bool)
      → said_by_key types n way conditional (drop count tags) ≡ said_by_key types n way conditional tags
  pub order : AreFrom (mode + 1) (drop count tags)

first_here : (mode : ℕ) (tag : Tag) (tags : List Tag) → tag.mode ≡ mode → (tag.mode == mode) ≡ true
    → IsSplit mode tags (prefix_len (is_of_mode mode) tags)
    → IsSplit mode (tag ∷ tags) (prefix_len (is_of_mode mode) (tag ∷ tags))
first_here mode tag tags same yes' m =
    let count = prefix_len (is_of_mode mode) tags in
    let one : prefix_len (is_of_mode mode) (tag ∷ tags) ≡ suc count = rw yes' (omega arith) in
    subst (λ (c : ℕ). IsSplit mode (tag ∷ tags) c) (sym one) (record {
      here = λ types way conditional.
          ap (λ l. (if is_of_key mode way conditional tag then said_by_parts types tag.value.parts.items else []) ++ l)
          (m.here types way conditional);
      later = λ n less types way conditional.
          let differ : (tag.mode == n) ≡ false = grind (arith, nat_tests) in
          m.later n less types way conditional
          ∙ sym (ap (λ (b : Bool). (if b then said_by_parts types tag.value.parts.items else [])
          ++ said_by_key types n way conditional tags) (other_mode n way conditional tag differ));
      order = m.order;
    })

pub split : (mode : ℕ) (tags : List Tag) → AreFrom mode tags → IsSplit mode tags (prefix_len (is_of_mode mode) tags)
split mode [] are = record { here = λ types way conditional. refl; later = λ n less types way conditional. refl; order = tt }
split mode (tag ∷ tags) are =
    by_test mode tag tags are (λ (same : tag.mode ≡ mode). split mode tags (subst (λ (n : ℕ). AreFrom n tags) same are.1))
    (cases_Bool (tag.mode == mode)) where
      by_test : (mode : ℕ) (tag : Tag) (tags : List Tag) → AreFrom mode (tag ∷ tags)
          → (tag.mode ≡ mode → IsSplit mode tags (prefix_len (is_of_mode mode) tags))
          → ((tag.mode == mode) ≡ true) ⊎ ((tag.mode == mode) ≡ false)
          → IsSplit mode (tag ∷ tags) (prefix_len (is_of_mode mode) (tag ∷ tags))
      by_test mode tag tags are more (inl yes') =
          let same : tag.mode ≡ mode = grind (arith, nat_tests) in
          first_here mode tag tags same yes' (more same)
      by_test mode tag tags are more (inr no') =
          let low = are.0 in
          let far : mode + 1 ≤ tag.mode = grind (arith, nat_tests) in
          rw no' (record {
            here = λ types way conditional.
                sym (nothing_before mode (mode + 1) (tag ∷ tags) (omega arith) (far, are.1) types way conditional);
            later = λ n less types way conditional. refl;
            order = (far, are.1);
          })

-- ---- the next mode

pub most : (end : ℕ) (tags : List Tag) → next_mode end tags ≤ end
most end [] = omega arith
most end (tag ∷ tags) = by_test (nat_lt tag.mode end) refl where
  by_test : (b : Bool) → nat_lt tag.mode end ≡ b → (if b then tag.mode else end) ≤ end
  by_test true e = grind (arith, nat_tests)
  by_test false e = omega arith

pub least : (from end : ℕ) (tags : List Tag) → from ≤ end → AreFrom from tags → from ≤ next_mode end tags
least from end [] low are = low
least from end (tag ∷ tags) low are = by_test (nat_lt tag.mode end) where
  by_test : (b : Bool) → from ≤ (if b then tag.mode else end)
  by_test true = are.0
  by_test false = low

pub raised : (from end : ℕ) (tags : List Tag) → AreFrom from tags → AreFrom (next_mode end tags) tags
raised from end [] are = tt
raised from end (tag ∷ tags) are = (by_test (nat_lt tag.mode end) refl, are.1) where
  by_test : (b : Bool) → nat_lt tag.mode end ≡ b → (if b then tag.mode else end) ≤ tag.mode
  by_test true e = omega arith
  by_test false e = grind (arith, nat_tests)

-- ---- rows of modes that no tag has say nothing more

none_said : (types : Option Vehicles) (n : ℕ) (way : Direction) (tags : List Tag) → SaysNothing n tags
    → said_by_types types n way tags ≡ []
none_said None n way tags none = refl
none_said (Some types) n way tags none =
    rw (none types None false, none types None true, none types (Some way) false, none types (Some way) true) refl

pub skipped : (a b : ℕ) (subject : Subject) (rows : List MeansRow) (way : Direction) (tags : List Tag) → a ≤ b
    → ((n : ℕ) → a ≤ n → n < b → SaysNothing n tags) → said_before a subject rows way tags ≡ said_before b subject rows way tags
skipped a zero subject rows way tags low none =
    let e : a ≡ zero = omega (arith, low) in
    ap (λ (n : ℕ). said_before n subject rows way tags) e
skipped a (suc b) subject rows way tags low none =
    by_order (cases_lt b a) (λ here. skipped a b subject rows way tags here (λ n from to. none n from (omega (arith, to))))
  where
    by_order : ((b < a) ⊎ (a ≤ b)) → (a ≤ b → said_before a subject rows way tags ≡ said_before b subject rows way tags)
        → said_before a subject rows way tags ≡ said_before (suc b) subject rows way tags
    by_order (inr here) same =
        rw (
          none_said (mode_types subject rows b) b way tags (none b here (omega (arith))),
          append-nil (said_before b subject rows way tags),
        ) (same here)
    by_order (inl past) same =
        let e : a ≡ suc b = omega (arith, low, past) in
        ap (λ (n : ℕ). said_before n subject rows way tags) e

-- what the tags that are left say is what all do, of the modes from this one on
abbrev pub SayTheRest : ℕ → List Tag → List Tag → Type 0
SayTheRest from left all = (n : ℕ) → from ≤ n → (types : Vehicles) (way : Option Direction) (conditional : Bool)
    → said_by_key types n way conditional left ≡ said_by_key types n way conditional all

-- the rows before one say what those before the next mode do
pub passed_on : (from end : ℕ) (subject : Subject) (rows : List MeansRow) (way : Direction) (left all : List Tag) → from ≤ end
    → AreFrom from left → SayTheRest from left all
    → said_before from subject rows way all ≡ said_before (next_mode end left) subject rows way all
passed_on from end subject rows way left all low are rest =
    skipped from (next_mode end left) subject rows way all (least from end left low are)
    (λ n after before types way' conditional. sym (rest n after types way' conditional)
    ∙ nothing_before n (next_mode end left) left before (raised from end left are) types way' conditional)

-- what is said of the mode is said by its tags alone
pub said_here : (types : Option Vehicles) (mode count : ℕ) (way : Direction) (left all : List Tag) → IsSplit mode left count
    → SayTheRest mode left all → said_by_types types mode way (take count left) ≡ said_by_types types mode way all
said_here None mode count way left all is rest = refl
said_here (Some types) mode count way left all is rest =
    let one = λ (w : Option Direction) (c : Bool). is.here types w c ∙ rest mode (omega arith) types w c in
    rw (one None false, one None true, one (Some way) false, one (Some way) true) refl

pub later_rest : (mode count : ℕ) (left all : List Tag) → IsSplit mode left count → SayTheRest mode left all
    → SayTheRest (mode + 1) (drop count left) all
later_rest mode count left all is rest = λ n after types way conditional.
    is.later n (omega (arith, after)) types way conditional ∙ rest n (omega (arith, after)) types way conditional
