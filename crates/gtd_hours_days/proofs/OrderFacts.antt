-- The order of groups, and each of them once.
use Rattle.std.proofs.Common.{◌≡◌, ◌∙◌, sym, refl, subst, arith, ◌<◌, ◌⊎◌, inl, inr, ◌+◌, ◌*◌, ◌++◌, List, [], ◌∷◌, ℕ}
use Rattle.std.proofs.Common.{append_assoc, Option, Some, None}
use Rattle.std.proofs.lemmas.List.{append-nil}
use Rattle.gtd_calendar.specs.facts.DateLemmas.{month_length_bounds}
use Rattle.std.specs.Prelude.{MatchOption, pos, ⊤}
use Rattle.gtd_hours_days.specs.Groups.{AreGroups, AreNoneAfter, ComesAfter, IsBefore, IsNextGroup, IsOneOf}
use Rattle.gtd_hours_days.specs.declared.group.Group.{Group}

pub not_itself : (a : Group) → IsBefore a a → ⊥
not_itself a h = elim h [
  | inl lt ↦ omega (arith, lt)
  | inr x ↦ elim (x.1) [ inl lt ↦ omega (arith, lt) | inr y ↦ (let lt = y.1 in omega (arith, lt)) ]
]

pub before_both : (a b c : Group) → IsBefore a b → IsBefore b c → IsBefore a c
before_both a b c h g = elim h [
  | inl lt ↦ elim g [
    | inl low ↦ inl (omega (arith, lt, low))
    | inr y ↦ inl (let e = y.0 in omega (arith, lt, e))
  ]
  | inr x ↦ let same = x.0 in elim g [
    | inl low ↦ inl (omega (arith, same, low))
    | inr y ↦ inr (
      same ∙ y.0,
      elim (x.1) [
        | inl lt ↦ elim (y.1) [
          | inl low ↦ inl (omega (arith, lt, low))
          | inr z ↦ inl (let e = z.0 in omega (arith, lt, e))
        ]
        | inr w ↦ let e = w.0 in elim (y.1) [
          | inl low ↦ inl (omega (arith, e, low))
          | inr z ↦ inr (e ∙ z.0, (let p = w.1 in let q = z.1 in omega (arith, p, q)))
        ]
      ],
    )
  ]
]

-- ---- one more group

pub one_of_more : (x group : Group) (found : List Group) → IsOneOf x (found ++ group ∷ []) → IsOneOf x found ⊎ (x ≡ group)
one_of_more x group [] (inl e) = inr e
one_of_more x group [] (inr h) = absurd h
one_of_more x group (g ∷ found) (inl e) = inl (inl e)
one_of_more x group (g ∷ found) (inr h) = elim (one_of_more x group found h) [ inl y ↦ inl (inr y) | inr e ↦ inr e ]

pub still_one_of : (x group : Group) (found : List Group) → IsOneOf x found → IsOneOf x (found ++ group ∷ [])
still_one_of x group [] h = absurd h
still_one_of x group (g ∷ found) (inl e) = inl e
still_one_of x group (g ∷ found) (inr h) = inr (still_one_of x group found h)

pub last_one_of : (group : Group) (found : List Group) → IsOneOf group (found ++ group ∷ [])
last_one_of group [] = inl refl
last_one_of group (g ∷ found) = inr (last_one_of group found)

-- what is the first of groups, or that there is none
abbrev pub IsBest : List Group → Option Group → Option Group → Type 0
IsBest found after best = MatchOption best (AreNoneAfter found after) (IsNextGroup found after)

pub nearer_now : (found : List Group) (after best : Option Group) (group : Group) → ComesAfter after group
    → MatchOption best ⊤ (IsBefore group) → IsBest found after best
    → IsNextGroup (found ++ group ∷ []) after group
nearer_now found after None group later lt none = record {
  is = last_one_of group found;
  later = later;
  first = λ x is follows low. elim (one_of_more x group found is) [
    | inl old ↦ none x old follows
    | inr e ↦ not_itself group (subst (λ (y : Group). IsBefore y group) e low)
  ];
}
nearer_now found after (Some best) group later lt next = record {
  is = last_one_of group found;
  later = later;
  first = λ x is follows low. elim (one_of_more x group found is) [
    | inl old ↦ next.first x old follows (before_both x group best low lt)
    | inr e ↦ not_itself group (subst (λ (y : Group). IsBefore y group) e low)
  ];
}

pub no_nearer : (found : List Group) (after best : Option Group) (group : Group)
    → (ComesAfter after group → MatchOption best ⊤ (IsBefore group) → ⊥) → IsBest found after best
    → IsBest (found ++ group ∷ []) after best
no_nearer found after None group not none = λ x is follows. elim (one_of_more x group found is) [
  | inl old ↦ none x old follows
  | inr e ↦ not (subst (ComesAfter after) e follows) tt
]
no_nearer found after (Some best) group not next = record {
  is = still_one_of best group found next.is;
  later = next.later;
  first = λ x is follows low. elim (one_of_more x group found is) [
    | inl old ↦ next.first x old follows low
    | inr e ↦ not (subst (ComesAfter after) e follows) (subst (λ (y : Group). IsBefore y best) e low)
  ];
}

-- ---- all groups

-- with the groups after one, the groups so far are all
abbrev pub AreJoined : List Group → Option Group → List Group → Type 0
AreJoined found after groups = (rest : List Group) → AreGroups found after rest → AreGroups found None (groups ++ rest)

pub joined_more : (found groups : List Group) (after : Option Group) (group : Group) → AreJoined found after groups
    → IsNextGroup found after group → AreJoined found (Some group) (groups ++ group ∷ [])
joined_more found groups after group joins next rest are =
    subst (AreGroups found None) (sym (append_assoc groups (group ∷ []) rest)) (joins (group ∷ rest) (next, are))

pub all_joined : (found groups : List Group) (after : Option Group) → AreJoined found after groups → AreNoneAfter found after
    → AreGroups found None groups
all_joined found groups after joins none = subst (AreGroups found None) (append-nil groups) (joins [] none)

-- how far a group is in the order
abbrev pub rank : Option Group → ℕ
rank None = 0
rank (Some group) = 16384 * group.month + 512 * group.day + group.days

pub rank_below : (group : Group) → rank (Some group) < 16384 * 13
rank_below group =
    let range = group.in_range in
    let long = (month_length_bounds (pos 2001) group.month).0 in
    let m = range.0.0.1 in
    let d = range.0.1.1 in
    let k = range.2 in
    omega (arith, long, m, d, k)

pub rank_grows : (after : Option Group) (group : Group) → ComesAfter after group → rank after < rank (Some group)
rank_grows None group later =
    let low = group.in_range.0.0.0 in omega (arith, low)
rank_grows (Some a) group later =
    let long = (month_length_bounds (pos 2001) a.month).0 in
    let d = a.in_range.0.1.1 in
    let k = a.in_range.2 in
    elim later [
      | inl lt ↦ omega (arith, lt, long, d, k)
      | inr x ↦ (let e = x.0 in elim (x.1) [
        | inl lt ↦ omega (arith, e, lt, k)
        | inr y ↦ (let f = y.0 in let lt = y.1 in omega (arith, e, f, lt))
      ])
    ]
