-- Which rule hides hours of a rule: the first that takes its days, or none.
use Rattle.std.proofs.Common.{◌≡◌, sym, ap, subst, ◌<◌, ◌≤◌, ◌+◌, ◌++◌, ◌↔◌, inl, inr, ℕ, zero, suc, Bool, true, false}
use Rattle.std.proofs.Common.{List, [], ◌∷◌, length, get_or, arith, below_more}
use Rattle.std.specs.Prelude.{Some, None, slice_get}
use Rattle.std.specs.List.{Contains}
use Rattle.std.proofs.lemmas.List.Elements.{Contains-append_left, Contains-append_right, Contains-append_cases}
use Rattle.gtd_hours.specs.declared.hours.Rule.{Rule}
use Rattle.gtd_hours_hidden.specs.Hides.{HasOtherHours, Hides, HidesOf, can_be_hidden, takes_days}

-- ---- rules by their numbers

pub is_at : (rules : List Rule) (k : ℕ) (rule : Rule) → k < length rules → rule ≡ get_or rules k rule
    → slice_get rules k ≡ Some rule
is_at [] k rule h e = absurd (omega arith)
is_at (x ∷ rules) zero rule h e = ap Some (sym e)
is_at (x ∷ rules) (suc k) rule h e = is_at rules k rule (omega arith) e

pub is_within : (rules : List Rule) (k : ℕ) (rule : Rule) → slice_get rules k ≡ Some rule → k < length rules
is_within [] k rule e = absurd (cc)
is_within (x ∷ rules) zero rule e = omega arith
is_within (x ∷ rules) (suc k) rule e = let h = is_within rules k rule e in omega arith

-- two rules of one number are the same
same : (rules : List Rule) (k : ℕ) (x y : Rule) → slice_get rules k ≡ Some x → slice_get rules k ≡ Some y → x ≡ y
same rules k x y a b = cc

differ : (x : Bool) → x ≡ true → x ≡ false → ⊥
differ x a b = cc

-- ---- the first rule that takes the days

-- no rule after this one and before number k takes its days
abbrev pub IsFree : List Rule → ℕ → Rule → ℕ → Type 0
IsFree rules place earlier k =
    (i : ℕ) (rule : Rule) → place < i → i < k → slice_get rules i ≡ Some rule → takes_days rule earlier ≡ false

pub free-more : (rules : List Rule) (place : ℕ) (earlier : Rule) (k : ℕ) (later : Rule) → IsFree rules place earlier k
    → slice_get rules k ≡ Some later → takes_days later earlier ≡ false → IsFree rules place earlier (k + 1)
free-more rules place earlier k later free at other i rule a b e =
    below_more (λ (i : ℕ). place < i → slice_get rules i ≡ Some rule → takes_days rule earlier ≡ false) k
    (λ i b a e. free i rule a b e)
    (λ a e. subst (λ (x : Rule). takes_days x earlier ≡ false) (same rules k later rule at e) other)
    i b a e

-- what hides does so of this rule
is-earlier : (rules : List Rule) (place n : ℕ) (earlier : Rule) → slice_get rules place ≡ Some earlier
    → (h : HidesOf rules place n) → h.earlier ≡ earlier
is-earlier rules place n earlier at h = same rules place h.earlier earlier h.is_earlier at

takes : (rules : List Rule) (place n : ℕ) (earlier : Rule) → slice_get rules place ≡ Some earlier → (h : HidesOf rules place n)
    → takes_days h.later earlier ≡ true
takes rules place n earlier at h =
    subst (λ (x : Rule). takes_days h.later x ≡ true) (is-earlier rules place n earlier at h) h.days

-- it does not come before the first that takes the days
pub not-before : (rules : List Rule) (place n k : ℕ) (earlier : Rule) → slice_get rules place ≡ Some earlier
    → IsFree rules place earlier k → HidesOf rules place n → n < k → ⊥
not-before rules place n k earlier at free h lt =
    differ (takes_days h.later earlier) (takes rules place n earlier at h) (free n h.later h.order lt h.is_later)

-- nor after it
not-after : (rules : List Rule) (place n k : ℕ) (earlier later : Rule) → slice_get rules place ≡ Some earlier
    → slice_get rules k ≡ Some later → takes_days later earlier ≡ true → place < k → HidesOf rules place n → k < n → ⊥
not-after rules place n k earlier later at later-at days order h lt =
    differ (takes_days later earlier) days
    (subst (λ (x : Rule). takes_days later x ≡ false) (is-earlier rules place n earlier at h) (h.first k later order lt later-at))

equal : (n k : ℕ) → (n < k → ⊥) → (k < n → ⊥) → k ≡ n
equal n k a b = grind arith

first : (rules : List Rule) (place n k : ℕ) (earlier later : Rule) → slice_get rules place ≡ Some earlier
    → slice_get rules k ≡ Some later → takes_days later earlier ≡ true → place < k → IsFree rules place earlier k
    → HidesOf rules place n → k ≡ n
first rules place n k earlier later at later-at days order free h =
    equal n k (not-before rules place n k earlier at free h)
    (not-after rules place n k earlier later at later-at days order h)

-- ---- what is answered

-- the rule hides hours if it has others
pub hides : (rules : List Rule) (place k : ℕ) (earlier later : Rule) → slice_get rules place ≡ Some earlier
    → can_be_hidden earlier ≡ true → slice_get rules k ≡ Some later → takes_days later earlier ≡ true → place < k
    → IsFree rules place earlier k → HasOtherHours later earlier → (n : ℕ) → (Some k ≡ Some n) ↔ HidesOf rules place n
hides rules place k earlier later at hours later-at days order free others n = (
  λ e. subst (λ (m : ℕ). HidesOf rules place m) (number e) (record {
    earlier = earlier;
    later = later;
    is_earlier = at;
    is_later = later-at;
    order = order;
    hours = hours;
    days = days;
    others = others;
    first = free;
  }),
  λ h. ap Some (first rules place n k earlier later at later-at days order free h),
)
  where
    number : Some k ≡ Some n → k ≡ n
    number e = cc

-- none does if the first that takes the days has no others
pub hides-not : (rules : List Rule) (place k : ℕ) (earlier later : Rule) → slice_get rules place ≡ Some earlier
    → slice_get rules k ≡ Some later → takes_days later earlier ≡ true → place < k → IsFree rules place earlier k
    → (HasOtherHours later earlier → ⊥) → (n : ℕ) → (None ≡ Some n) ↔ HidesOf rules place n
hides-not rules place k earlier later at later-at days order free none n = (λ e. absurd (cc), λ h. absurd (none (others h)))
  where
    others : HidesOf rules place n → HasOtherHours later earlier
    others h =
        let here = first rules place n k earlier later at later-at days order free h in
        let one = same rules k h.later later
        (subst (λ (m : ℕ). slice_get rules m ≡ Some h.later) (sym here) h.is_later) later-at in
        subst (λ (x : Rule). HasOtherHours x earlier) one
        (subst (λ (x : Rule). HasOtherHours h.later x) (is-earlier rules place n earlier at h) h.others)

-- nor if none takes the days
pub hides-none : (rules : List Rule) (place : ℕ) (earlier : Rule) → slice_get rules place ≡ Some earlier
    → (k : ℕ) → length rules ≤ k → IsFree rules place earlier k → (n : ℕ) → (None ≡ Some n) ↔ HidesOf rules place n
hides-none rules place earlier at k long free n = (
  λ e. absurd (cc),
  λ h. absurd (let l = is_within rules n h.later h.is_later in
      not-before rules place n k earlier at free h (omega arith)),
)

-- ---- all that hide

-- they are those that hide hours of the first rules
pub record AreHiders (rules : List Rule) (many : ℕ) (places : List ℕ) : Type 0 where
  pub sound : (k : ℕ) → Contains places k → (j : ℕ) × (j < many) × HidesOf rules j k
  pub complete : (j k : ℕ) → j < many → HidesOf rules j k → Contains places k

pub hiders-none : (rules : List Rule) (many : ℕ) (places : List ℕ) → AreHiders rules many places
    → ((k : ℕ) → (None ≡ Some k) ↔ HidesOf rules many k) → AreHiders rules (many + 1) places
hiders-none rules many places so none = record {
  sound = λ k c. let s = so.sound k c in (s.0, (let l = s.1 in omega arith), s.2);
  complete = λ j k h d. below_more (λ (i : ℕ). HidesOf rules i k → Contains places k) many (λ i l e. so.complete i k l e)
      (λ e. absurd (never ((none k).1 e))) j h d;
}
  where
    never : {k : ℕ} → None ≡ Some k → ⊥
    never e = cc

single : (x k i : ℕ) → i < length (x ∷ []) → get_or (x ∷ []) i k ≡ k → x ≡ k
single x k zero h e = e
single x k (suc i) h e = absurd (omega arith)

pub hiders-one : (rules : List Rule) (many : ℕ) (places : List ℕ) (x : ℕ) → AreHiders rules many places
    → ((k : ℕ) → (Some x ≡ Some k) ↔ HidesOf rules many k) → AreHiders rules (many + 1) (places ++ x ∷ [])
hiders-one rules many places x so one = record {
  sound = λ k c. elim (Contains-append_cases places (x ∷ []) k c) [
    | inl a ↦ (let s = so.sound k a in (s.0, (let l = s.1 in omega arith), s.2))
    | inr b ↦ (many, omega arith, (one k).0 (ap Some (single x k b.0 b.1 b.2)))
  ];
  complete = λ j k h d. below_more (λ (i : ℕ). HidesOf rules i k → Contains (places ++ x ∷ []) k) many
      (λ i l e. Contains-append_left places (x ∷ []) k (so.complete i k l e))
      (λ e. Contains-append_right places (x ∷ []) k (here k ((one k).1 e))) j h d;
}
  where
    number : (k : ℕ) → Some x ≡ Some k → x ≡ k
    number k e = cc

    here : (k : ℕ) → Some x ≡ Some k → Contains (x ∷ []) k
    here k e = (0, omega arith, number k e)

pub hiders-all : (rules : List Rule) (many : ℕ) (places : List ℕ) → length rules ≤ many → AreHiders rules many places → (k : ℕ)
    → Contains places k ↔ Hides rules k
hiders-all rules many places long so k = (
  λ c. let s = so.sound k c in (s.0, s.2),
  λ h. so.complete h.0 k (let l = is_within rules h.0 h.1.earlier h.1.is_earlier in omega arith) h.1,
)
