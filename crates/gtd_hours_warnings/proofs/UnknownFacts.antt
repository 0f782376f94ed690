-- Warnings that are put among others, where these are gone through once.
use Rattle.std.proofs.Common.{◌≡◌, ◌∙◌, ◌+◌, ◌<◌, ◌≤◌, sym, ap, subst, arith, refl, cond, ℕ, suc, Bool, true, false}
use Rattle.std.proofs.Common.{drop, List, [], ◌∷◌, ◌++◌, Option, Some, None, length}
use Rattle.std.proofs.lemmas.Bool.{le-leb, lt-leb}
use Rattle.std.proofs.lemmas.List.{append_assoc}
use Rattle.std.proofs.Math.Seq.{drop-append_seam, take-append_seam}
use Rattle.std.specs.List.{insert, prefix_len}
use Rattle.gtd_hours_warnings.specs.Marks.{AddsNotKnown, IsNotKnownWarning}
use Rattle.gtd_hours_warnings.specs.Unknowns.{AreBy, BeginsAt, IsBefore}
use Rattle.gtd_hours_warnings.specs.Warnings.{is_by, put_in}
use Rattle.gtd_hours_warnings.specs.declared.warnings.Warning.{Warning}

-- they are not behind a later place
pub by_later : (p q : ℕ) (ws : List Warning) → p ≤ q → AreBy p ws → AreBy q ws
by_later p q [] le are = tt
by_later p q (w ∷ ws) le are = let first = are.0 in (omega (arith, first, le), by_later p q ws le are.1)

pub by_more : (p : ℕ) (ws : List Warning) (w : Warning) → AreBy p ws → w.place ≤ p → AreBy p (ws ++ w ∷ [])
by_more p [] w are le = (le, tt)
by_more p (v ∷ ws) w are le = (are.0, by_more p ws w are.1 le)

one-add : (n : ℕ) → 1 + n ≡ suc n
one-add n = omega arith

-- all of them come before one that is not before that place, and none of those behind it do
count_all : (p : ℕ) (all more : List Warning) → AreBy p all → prefix_len (is_by p) more ≡ 0
    → prefix_len (is_by p) (all ++ more) ≡ length all
count_all p [] more by none = none
count_all p (a ∷ all) more by none =
    let yes : is_by p a ≡ true = le-leb a.place p by.0 in
    ap (λ (b : Bool). cond b (1 + prefix_len (is_by p) (all ++ more)) 0) yes
    ∙ ap (λ (n : ℕ). 1 + n) (count_all p all more by.1 none) ∙ one-add (length all)

count_none : (p : ℕ) (next : Option ℕ) (more : List Warning) → IsBefore p next → BeginsAt next more
    → prefix_len (is_by p) more ≡ 0
count_none p None more before begins = ap (prefix_len (is_by p)) begins
count_none p (Some next) more before begins =
    let x = begins.0 in
    let ws = begins.1 in
    let place = begins.3 in
    let behind : p < x.place = omega (arith, before, place) in
    let no : is_by p x ≡ false = lt-leb x.place p behind in
    ap (prefix_len (is_by p)) begins.2 ∙ ap (λ (b : Bool). cond b (1 + prefix_len (is_by p) ws) 0) no

-- so it is put between them
pub put_next : (next : Option ℕ) (all more : List Warning) (w : Warning) → AreBy w.place all → IsBefore w.place next
    → BeginsAt next more → put_in w (all ++ more) ≡ (all ++ w ∷ []) ++ more
put_next next all more w by before begins =
    ap (λ (n : ℕ). insert (all ++ more) n w) (count_all w.place all more by (count_none w.place next more before begins))
    ∙ ap (λ (l : List Warning). l ++ w ∷ drop (length all) (all ++ more)) (take-append_seam all more)
    ∙ ap (λ (l : List Warning). all ++ w ∷ l) (drop-append_seam all more)
    ∙ sym (append_assoc all (w ∷ []) more)

-- one warning more, and those that the other places add
pub not_known_left : (all more : List ℕ) (place : ℕ) (w : Warning) (before after found : List Warning)
    → all ≡ place ∷ more → IsNotKnownWarning place w → after ≡ put_in w before → AddsNotKnown more after found
    → AddsNotKnown all before found
not_known_left all more place w before after found e is put adds =
    subst (λ (l : List ℕ). AddsNotKnown l before found) (sym e)
    (w, is, subst (λ (l : List Warning). AddsNotKnown more l found) put adds)

pub ready_left : (places later : List ℕ) (place : ℕ) (next : Option ℕ) (latest : ℕ) (w : Warning) (all more found : List Warning)
    → places ≡ place ∷ later → IsNotKnownWarning place w → latest ≤ place → IsBefore place next → BeginsAt next more
    → AreBy latest all → AddsNotKnown later ((all ++ w ∷ []) ++ more) found → AddsNotKnown places (all ++ more) found
ready_left places later place next latest w all more found e is le before begins by adds =
    let own = by_later latest place all le by in
    let put = put_next next all more w (subst (λ (p : ℕ). AreBy p all) (sym is.at) own)
    (subst (λ (p : ℕ). IsBefore p next) (sym is.at) before) begins in
    not_known_left places later place w (all ++ more) ((all ++ w ∷ []) ++ more) found e is (sym put) adds
