-- The strict form, one part after another.
use Rattle.std.proofs.Common.{◌≡◌, ℕ, ◌+◌, ◌<◌, ◌≤◌, Bool, true, false, List, [], ◌∷◌, ◌++◌, length, refl}
use Rattle.std.proofs.Common.{sym, ap, subst}
use Rattle.std.proofs.Common.{◌∙◌, arith, append_assoc, length-append}
use Rattle.std.proofs.lemmas.Bool.{le-ltb, lt-ltb}
use Rattle.std.proofs.lemmas.List.{append-nil}
use Rattle.std.specs.Prelude.{if◌then◌else◌, nat_lt}
use Rattle.gtd_hours_loose.specs.declared.behind.Behind.{Behind}
use Rattle.gtd_hours_loose.specs.declared.strict.Part.{Part}
use Rattle.gtd_hours_loose.specs.declared.strict.StrictForm.{StrictForm}
use Rattle.gtd_hours_loose_tokens.specs.declared.token.LooseToken.{LooseToken}
use Rattle.gtd_hours_loose.specs.Mending.{Holds, Mended, behind_at, mended_from, mended_token, parts_from}
use Rattle.gtd_hours_loose.specs.Mending.{spaces_in}
use Rattle.gtd_hours_loose.specs.Mending.{stretch, strict_text}
use Rattle.gtd_hours_loose_tokens.specs.Signs.{other_space}
use Rattle.gtd_hours_loose.specs.StrictForms.{IsPushed}

strict_more : (ms : List Mended) (m : Mended) → strict_text (ms ++ m ∷ []) ≡ strict_text ms ++ (m.form ++ 32 ∷ [])
strict_more [] m = refl
strict_more (x ∷ ms) m =
    ap (λ (l : List ℕ). x.form ++ 32 ∷ l) (strict_more ms m)
    ∙ sym (append_assoc x.form (32 ∷ strict_text ms) (m.form ++ 32 ∷ []))

-- a part whose strict form begins at a place
abbrev pub part_at : ℕ → Mended → Part
part_at place m = record { from = m.from; to = m.to; start = place; end = place + length m.form }

parts_more : (place : ℕ) (ms : List Mended) (m : Mended)
    → parts_from place (ms ++ m ∷ []) ≡ parts_from place ms ++ part_at (place + length (strict_text ms)) m ∷ []
parts_more place [] m = let e : place ≡ place + 0 = omega arith in ap (λ (n : ℕ). part_at n m ∷ []) e
parts_more place (x ∷ ms) m =
    let e : place + length x.form + 1 + length (strict_text ms) ≡ place + length (x.form ++ 32 ∷ strict_text ms) =
    omega (arith, length-append x.form (32 ∷ strict_text ms)) in
    ap (λ (l : List Part). part_at place x ∷ l) (parts_more (place + length x.form + 1) ms m)
    ∙ ap (λ (n : ℕ). part_at place x ∷ (parts_from (place + length x.form + 1) ms ++ part_at n m ∷ [])) e

-- a part is put behind the others
pub holds_more : (old new : StrictForm) (ms : List Mended) (m : Mended) → Holds old ms
    → new.text.items ≡ old.text.items ++ (m.form ++ 32 ∷ [])
    → new.parts.items ≡ old.parts.items ++ part_at (length old.text.items) m ∷ [] → Holds new (ms ++ m ∷ [])
holds_more old new ms m h t p = record {
  text = t ∙ ap (λ (l : List ℕ). l ++ (m.form ++ 32 ∷ [])) h.text ∙ sym (strict_more ms m);
  parts =
      let n : length old.text.items ≡ 0 + length (strict_text ms) = ap length h.text ∙ omega arith in
      p ∙ ap (λ (l : List Part). l ++ part_at (length old.text.items) m ∷ []) h.parts
      ∙ ap (λ (k : ℕ). parts_from 0 ms ++ part_at k m ∷ []) n ∙ sym (parts_more 0 ms m);
}

-- and so it is where the strict text had its form, and then a space
pub part_ended : (old new : StrictForm) (ms : List Mended) (m : Mended) (text : List ℕ) (start : ℕ) → Holds old ms
    → text ≡ old.text.items ++ m.form → start ≡ length old.text.items → new.text.items ≡ text ++ 32 ∷ []
    → new.parts.items ≡ old.parts.items ++ record { from = m.from; to = m.to; start = start; end = length text } ∷ []
    → Holds new (ms ++ m ∷ [])
part_ended old new ms m text start h form begins space part =
    let make : ℕ → ℕ → Part = λ a b. record { from = m.from; to = m.to; start = a; end = b } in
    let ends : length text ≡ length old.text.items + length m.form =
    ap length form ∙ length-append old.text.items m.form in
    holds_more old new ms m h
    (space ∙ ap (λ (l : List ℕ). l ++ 32 ∷ []) form ∙ append_assoc old.text.items m.form (32 ∷ []))
    (part ∙ ap (λ (a : ℕ). old.parts.items ++ make a (length text) ∷ []) begins
    ∙ ap (λ (b : ℕ). old.parts.items ++ make (length old.text.items) b ∷ []) ends)

-- ---- spaces

if_true : {A : Type 0} (b : Bool) (x y : A) → b ≡ true → (if b then x else y) ≡ x
if_true true x y e = refl
if_true false x y e = absurd cc

if_false : {A : Type 0} (b : Bool) (x y : A) → b ≡ false → (if b then x else y) ≡ y
if_false false x y e = refl
if_false true x y e = absurd cc

lt_true : (n : ℕ) → 0 < n → nat_lt 0 n ≡ true
lt_true n h = lt-ltb 0 n h

lt_false : (n : ℕ) → n ≤ 0 → nat_lt 0 n ≡ false
lt_false n h = le-ltb 0 n h

-- What is held so far, where these spaces are left.
abbrev pub HoldsSpaces : StrictForm → StrictForm → ℕ → List ℕ → List Mended → Type 0
HoldsSpaces old form at rest all =
    (ms : List Mended) → Holds old ms → (done : List Mended) × Holds form (ms ++ done) × (done ++ spaces_in at rest ≡ all)

pub spaces_begin : (form : StrictForm) (at : ℕ) (bytes : List ℕ) → HoldsSpaces form form at bytes (spaces_in at bytes)
spaces_begin form at bytes ms h = ([], subst (Holds form) (sym (append-nil ms)) h, refl)

pub spaces_skip : (old form : StrictForm) (at byte : ℕ) (rest : List ℕ) (all : List Mended) → other_space byte rest ≤ 0
    → HoldsSpaces old form at (byte ∷ rest) all → HoldsSpaces old form (at + 1) rest all
spaces_skip old form at byte rest all none h ms k =
    let x = h ms k in
    let e : spaces_in at (byte ∷ rest) ≡ spaces_in (at + 1) rest =
    if_false (nat_lt 0 (other_space byte rest)) _ _ (lt_false (other_space byte rest) none) in
    (x.0, x.1, subst (λ (l : List Mended). x.0 ++ l ≡ all) e x.2)

pub spaces_more : (old form new : StrictForm) (at byte : ℕ) (rest : List ℕ) (all : List Mended) → 0 < other_space byte rest
    → ((ms : List Mended) → Holds form ms
    → Holds new (ms ++ record { from = at; to = at + other_space byte rest; form = 32 ∷ [] } ∷ []))
    → HoldsSpaces old form at (byte ∷ rest) all → HoldsSpaces old new (at + 1) rest all
spaces_more old form new at byte rest all some push h ms k =
    let x = h ms k in
    let m : Mended = record { from = at; to = at + other_space byte rest; form = 32 ∷ [] } in
    let e : spaces_in at (byte ∷ rest) ≡ m ∷ spaces_in (at + 1) rest =
    if_true (nat_lt 0 (other_space byte rest)) _ _ (lt_true (other_space byte rest) some) in (
      x.0 ++ m ∷ [],
      subst (Holds new) (append_assoc ms x.0 (m ∷ [])) (push (ms ++ x.0) x.1),
      append_assoc x.0 (m ∷ []) (spaces_in (at + 1) rest) ∙ subst (λ (l : List Mended). x.0 ++ l ≡ all) e x.2,
    )

-- where the first byte and the rest stand by themselves
pub space_put : (old form new : StrictForm) (at n byte : ℕ) (later rest : List ℕ) (all : List Mended) → rest ≡ byte ∷ later
    → n ≡ other_space byte later → 0 < n
    → ((ms : List Mended) → Holds form ms → Holds new (ms ++ record { from = at; to = at + n; form = 32 ∷ [] } ∷ []))
    → HoldsSpaces old form at rest all → HoldsSpaces old new (at + 1) later all
space_put old form new at n byte later rest all e k some push h =
    let P : ℕ → Type 0 = λ m. (0 < m)
    × ((ms : List Mended) → Holds form ms → Holds new (ms ++ record { from = at; to = at + m; form = 32 ∷ [] } ∷ [])) in
    let x = subst P k (some, push) in
    spaces_more old form new at byte later all x.0 x.1 (subst (λ (l : List ℕ). HoldsSpaces old form at l all) e h)

pub byte_passed : (old form : StrictForm) (at n byte : ℕ) (later rest : List ℕ) (all : List Mended) → rest ≡ byte ∷ later
    → n ≡ other_space byte later → n ≤ 0 → HoldsSpaces old form at rest all → HoldsSpaces old form (at + 1) later all
byte_passed old form at n byte later rest all e k none h =
    spaces_skip old form at byte later all (subst (λ (m : ℕ). m ≤ 0) k none)
    (subst (λ (l : List ℕ). HoldsSpaces old form at l all) e h)

pub spaces_end : (old form : StrictForm) (at : ℕ) (rest : List ℕ) (all ms : List Mended) → length rest ≤ 0
    → HoldsSpaces old form at rest all → Holds old ms → Holds form (ms ++ all)
spaces_end old form at [] all ms none h k =
    let x = h ms k in subst (λ (l : List Mended). Holds form (ms ++ l)) (sym (append-nil x.0) ∙ x.2) x.1
spaces_end old form at (byte ∷ rest) all ms none h k = absurd (omega arith)

-- ---- tokens

-- What is held so far, where these tokens are left.
abbrev pub HoldsTokens : StrictForm → List ℕ → ℕ → Behind → List LooseToken → List Mended → Type 0
HoldsTokens form text place b rest all = (done : List Mended) × Holds form done × (done ++ mended_from text place b rest ≡ all)

pub token_more : (form spaced new : StrictForm) (text : List ℕ) (place : ℕ) (b next : Behind) (t : LooseToken)
    (ts : List LooseToken) (all : List Mended) → HoldsTokens form text place b (t ∷ ts) all
    → ((ms : List Mended) → Holds form ms → Holds spaced (ms ++ spaces_in place (stretch text place t.from)))
    → IsPushed text b (t ∷ ts) spaced new next → HoldsTokens new text t.to next ts all
token_more form spaced new text place b next t ts all h spaces pushed =
    let s = spaces_in place (stretch text place t.from) in
    let m = mended_token text b t ts in
    let rest = mended_from text t.to (behind_at b t ts) ts in
    let held = pushed.1 (h.0 ++ s) (spaces h.0 h.1) in
    let whole : ((h.0 ++ s) ++ m) ++ rest ≡ all =
    append_assoc (h.0 ++ s) m rest ∙ append_assoc h.0 s (m ++ rest) ∙ h.2 in
    ((h.0 ++ s) ++ m, held, subst (λ (n : Behind). ((h.0 ++ s) ++ m) ++ mended_from text t.to n ts ≡ all) (sym pushed.0) whole)

pub tokens_end : (form new : StrictForm) (text : List ℕ) (place : ℕ) (b : Behind) (rest : List LooseToken) (all : List Mended)
    → length rest ≤ 0 → HoldsTokens form text place b rest all
    → ((ms : List Mended) → Holds form ms → Holds new (ms ++ spaces_in place (stretch text place (length text)))) → Holds new all
tokens_end form new text place b [] all none h spaces = subst (Holds new) h.2 (spaces h.0 h.1)
tokens_end form new text place b (t ∷ ts) all none h spaces = absurd (omega arith)
