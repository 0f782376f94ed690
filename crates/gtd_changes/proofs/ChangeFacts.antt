-- Changes that are handed out one by one: what is put of their lines, how long these are, and how many there are.
use Rattle.std.proofs.Common.{◌≡◌, ◌∙◌, ap, ap₂, sym, arith, ◌≤◌, ◌+◌, ℕ, List, []}
use Rattle.std.proofs.Common.{◌∷◌, ◌++◌}
use Rattle.std.proofs.Common.{length, append_assoc, inl, inr, Option, Some, None}
use Rattle.std.specs.Prelude.{ℤ, pos, ◌+ℤ◌, ◌-ℤ◌, ◌≤ℤ◌, ◌<ℤ◌, OnOk, Result, Ok, Err, codes}
use Rattle.std.proofs.lemmas.Int.{ints}
use Rattle.gtd_calendar.specs.Stamp.{stamp_text}
use Rattle.gtd_core.specs.Seconds.{Interval}
use Rattle.gtd_core.specs.Whole.{whole}
use Rattle.gtd_core.specs.declared.horizon.Horizon.{Horizon}
use Rattle.gtd_eval.specs.Membership.{IsNormalOver}
use Rattle.gtd_rows.specs.declared.direction.Direction.{Direction}
use Rattle.gtd_report.specs.facts.PutFacts.{puts_cut, puts_none, puts_then}
use Rattle.gtd_report.specs.Putting.{Puts, most_direction_lines}
use Rattle.gtd_report.specs.declared.output.Progress.{Progress}
use Rattle.gtd_report.specs.declared.output.Stop.{Stop}
use Rattle.gtd_schedule.specs.Lines.{line_head}
use Rattle.gtd_spans.specs.Normal.{AllBeginAfter, AllBeginFrom, Holds, IsNormal}
use Rattle.gtd_spans.specs.facts.NormalFor.{normal-of}
use Rattle.gtd_changes.specs.Changes.{change_line, change_word, span_of}
use Rattle.gtd_changes.specs.Merging.{by_from, with_ahead}
use Rattle.gtd_changes.specs.Rows.{change_start}
use Rattle.gtd_changes.specs.facts.MergeFacts.{long_lists, of_both}
use Rattle.gtd_spans.specs.Sweeping.{Takes}
use Rattle.gtd_changes.specs.declared.change.Change.{Change}

-- What is put of the lines that are left makes what is put of all.
abbrev pub Carries : Option (List ℕ) → Progress → List (List ℕ) → Option (List ℕ) → Progress → List (List ℕ) → Type 0
Carries a p all b q left = (r : Result (Unit {0}) Stop) (c : Option (List ℕ)) (s : Progress) → Puts r b c q s left
    → Puts r a c p s all

module _ (a b d : Option (List ℕ)) (p q t : Progress) (all left more : List (List ℕ)) (line : List ℕ) where
  -- one line more
  pub carries_one : Carries a p all b q left → left ≡ line ∷ more → Puts (Ok tt) b d q t (line ∷ []) → Carries a p all d t more
  carries_one carries is one = λ r c s others. carries r c s (rw is (puts_then r b d c q t s (line ∷ []) more one others))

  -- the putting stopped within the next line
  pub carries_short : (e : Stop) → Carries a p all b q left → left ≡ line ∷ more → Puts (Err e) b d q t (line ∷ [])
      → Puts (Err e) a d p t all
  carries_short e carries is short = carries (Err e) d t (rw is (puts_cut e b d q t (line ∷ []) more short))

-- no line is left
pub carries_none : (a b : Option (List ℕ)) (p q : Progress) (all left : List (List ℕ)) → Carries a p all b q left → left ≡ []
    → Puts (Ok tt) a b p q all
carries_none a b p q all left carries is = carries (Ok tt) b q (rw is (puts_none b q))

-- ---- a line, from the parts that it is written in

grouped : (h w f u end : List ℕ) → h ++ (w ++ (44 ∷ [])) ++ (f ++ (44 ∷ [])) ++ (u ++ end)
    ≡ (h ++ (w ++ codes "," ++ f ++ codes "," ++ u)) ++ end
grouped h w f u end = simp append_assoc

parts : (element : ℕ) (direction : Direction) (vehicle : ℕ) (c : Change)
    → line_head element direction vehicle ++ (change_word c ++ codes "," ++ stamp_text (span_of c).from ++ codes ","
    ++ stamp_text (span_of c).until) ≡ change_start element direction vehicle c
parts element direction vehicle c = simp append_assoc

pub start_of : (element : ℕ) (direction : Direction) (vehicle : ℕ) (c : Change) (span : Interval) (from until : ℤ)
    (one two three all end : List ℕ)
    → span ≡ span_of c → from ≡ span.from → until ≡ span.until → one ≡ line_head element direction vehicle
    → two ≡ one ++ (change_word c ++ (44 ∷ [])) → three ≡ two ++ (stamp_text from ++ (44 ∷ []))
    → all ≡ three ++ (stamp_text until ++ end) → all ≡ change_start element direction vehicle c ++ end
start_of element direction vehicle c span from until one two three all end s f u a b d e =
    e
    ∙ ap₂ (λ (x : List ℕ) (t : ℤ). x ++ (stamp_text t ++ end)) (d
    ∙ ap₂ (λ (x : List ℕ) (t : ℤ). x ++ (stamp_text t ++ (44 ∷ []))) (b
    ∙ ap (λ (x : List ℕ). x ++ (change_word c ++ (44 ∷ []))) a) (f ∙ ap (λ (x : Interval). x.from) s))
    (u ∙ ap (λ (x : Interval). x.until) s)
    ∙ grouped (line_head element direction vehicle) (change_word c) (stamp_text (span_of c).from) (stamp_text
    (span_of c).until) end
    ∙ ap (λ (x : List ℕ). x ++ end) (parts element direction vehicle c)

-- a line without rows is that start and the LF
pub line_of : (element : ℕ) (direction : Direction) (vehicle : ℕ) (c : Change)
    → change_start element direction vehicle c ++ (10 ∷ []) ≡ change_line element direction vehicle c
line_of element direction vehicle c = simp append_assoc

pub on_ok : {T E : Type 0} (r : Result T E) (A B : Type 0) → (A → B) → OnOk r A → OnOk r B
on_ok (Ok x) A B f a = f a
on_ok (Err x) A B f a = tt

-- ---- there are at most half as many spans as seconds

next : (b : ℤ) (xs : List Interval) → AllBeginAfter b xs → AllBeginFrom (b +ℤ pos 1) xs
next b [] a = tt
next b (x ∷ xs) a = (omega (arith, ints, a.0), next b xs a.1)

few_from : (from until : ℤ) (xs : List Interval) → from ≤ℤ (until +ℤ pos 1) → IsNormal xs → AllBeginFrom from xs
    → ((t : ℤ) → Holds xs t → t <ℤ until)
    → (from +ℤ (pos (length xs) +ℤ pos (length xs))) ≤ℤ (until +ℤ pos 1)
few_from from until [] room n after inside = omega (arith, ints, room)
few_from from until (x ∷ xs) room n after inside =
    let last = inside (x.until -ℤ pos 1) (inl (omega (arith, ints, n.0), omega (arith, ints))) in
    let more = few_from (x.until +ℤ pos 1) until xs (omega (arith, ints, last)) n.2 (next x.until xs n.1)
    (λ t h. inside t (inr h)) in
    omega (arith, ints, more, n.0, after.0)

begin_from : (from : ℤ) (xs : List Interval) → IsNormal xs → ((t : ℤ) → Holds xs t → from ≤ℤ t) → AllBeginFrom from xs
begin_from from [] n inside = tt
begin_from from (x ∷ xs) n inside =
    (inside x.from (inl (omega (arith, ints), n.0)), begin_from from xs n.2 (λ t h. inside t (inr h)))

half : (n : ℕ) → n + n ≤ 12622867201 → n + n ≤ most_direction_lines
half n h = omega (arith, h)

pub few_normal : (set : ℤ → Type 0) (horizon : Horizon) (spans : List Interval) → IsNormalOver set horizon spans
    → length spans + length spans ≤ most_direction_lines
few_normal set horizon spans normal =
    let n = normal-of set (whole horizon).from (whole horizon).until spans normal in
    let few = few_from (whole horizon).from (whole horizon).until spans (omega (arith, ints, horizon.not_empty)) n
    (begin_from (whole horizon).from spans n (λ t h. (normal.inside t h).0)) (λ t h. (normal.inside t h).1) in
    half (length spans) (omega (arith, ints, few, horizon.not_long))

-- so two lists together have no more of them than seconds
pub few_both : (a b : ℕ) → a + a ≤ most_direction_lines → b + b ≤ most_direction_lines → a + b ≤ most_direction_lines
few_both a b h k = omega (arith, h, k)

pub many_both : (opened closed : List Interval) → length (by_from opened closed) ≡ length opened + length closed
many_both opened closed =
    let both = of_both opened closed in
    let o = ap length both.0 in
    let c = ap length both.1 in
    let long = long_lists (by_from opened closed) in
    omega (arith, o, c, long)

-- what was taken from a source stands before what it still gives
pub ahead_of : (before after : List Interval) (told : Option Interval) → Takes before told after → with_ahead told after ≡ before
ahead_of before after None t = sym t.0
ahead_of before after (Some x) t = sym t
