-- Sets of vehicle types, as lists of flags, and domains that are the same.
use Rattle.std.proofs.Common.{◌≡◌, ◌↔◌, ◌⊎◌, ℕ, Bool, true, false, List, [], ◌∷◌, Option, Some, None, refl, sym, ap, ◌∙◌}
use Rattle.std.proofs.Common.{get_or, inl, inr, IsTrue}
use Rattle.std.proofs.Math.ListN.{replicate}
use Rattle.std.proofs.lemmas.Bool.{cases_lt, and_parts, and_from}
use Rattle.std.proofs.lemmas.List.{get_or-replicate, get_or_past, length-replicate}
use Rattle.gtd_core.specs.Parts.{domain_tree}
use Rattle.gtd_core.specs.declared.domain.Domain.{Domain}
use Rattle.gtd_core.specs.facts.EqualTrees.{tree_equal, equal_same}
use Rattle.gtd_conditional_rows.specs.Flags.{same_flag, same_flags}
use Rattle.gtd_conditional_rows.specs.Rows.{same_domain, same_row}
use Rattle.gtd_conditional_rows.specs.Times.{Times, Never, Within}
use Rattle.gtd_conditional_rows.specs.Timing.{domain_times}
use Rattle.gtd_conditional_rows.specs.declared.row.Row.{Row}

-- the lists are the same
flag-same : (a b : Bool) → same_flag a b ≡ true → a ≡ b
flag-same true true e = refl
flag-same true false e = cc
flag-same false true e = cc
flag-same false false e = refl

same-flag : (a : Bool) → same_flag a a ≡ true
same-flag true = refl
same-flag false = refl

pub flags-same : (xs ys : List Bool) → same_flags xs ys ≡ true → xs ≡ ys
flags-same [] [] e = refl
flags-same [] (y ∷ ys) e = cc
flags-same (x ∷ xs) [] e = cc
flags-same (x ∷ xs) (y ∷ ys) e =
    let parts = and_parts (same_flag x y) (same_flags xs ys) e in
    let first = flag-same x y parts.0 in
    let rest = flags-same xs ys parts.1 in
    cc

pub same-flags : (xs : List Bool) → same_flags xs xs ≡ true
same-flags [] = refl
same-flags (x ∷ xs) = and_from (same_flag x x) (same_flags xs xs) (same-flag x) (same-flags xs)

-- the domains are the same
pub domain-same : (a b : Option Domain) → same_domain a b ≡ true → domain_times a ≡ domain_times b
domain-same None None e = refl
domain-same None (Some b) e = cc
domain-same (Some a) None e = cc
domain-same (Some a) (Some b) e = ap Within (tree_equal (domain_tree a) (domain_tree b) e)

pub same-domain : (a b : Option Domain) → domain_times a ≡ domain_times b → same_domain a b ≡ true
same-domain None None e = refl
same-domain None (Some b) e = cc
same-domain (Some a) None e = cc
same-domain (Some a) (Some b) e =
    let same : domain_tree a ≡ domain_tree b = cc in equal_same (domain_tree a) (domain_tree b) same

pub never-domain : (d : Option Domain) → Never ≡ domain_times d → ⊥
never-domain None e = cc
never-domain (Some d) e = cc

-- the rows have the same types and the same domain
pub row-same : (a b : Row) → same_row a b ≡ true
    → (a.types.has ≡ b.types.has) × (domain_times a.domain ≡ domain_times b.domain)
row-same a b e =
    let parts = and_parts (same_flags a.types.has b.types.has) (same_domain a.domain b.domain) e in
    (flags-same _ _ parts.0, domain-same _ _ parts.1)

pub same-row : (a b : Row) → a.types.has ≡ b.types.has → domain_times a.domain ≡ domain_times b.domain → same_row a b ≡ true
same-row a b has domain =
    let flags : same_flags a.types.has b.types.has ≡ true = rw has (same-flags b.types.has) in
    and_from (same_flags a.types.has b.types.has) (same_domain a.domain b.domain) flags (same-domain _ _ domain)

-- a flag is true or false
pub either : (b : Bool) → (b ≡ true) ⊎ (b ≡ false)
either true = inl refl
either false = inr refl

-- no type
pub none-has : (n t : ℕ) → IsTrue (get_or (replicate n false) t false) → ⊥
none-has n t e = elim (cases_lt t n) [
  | inl lt ↦ (let no : false ≡ true = sym (get_or-replicate n t false false lt) ∙ e in cc)
  | inr le ↦ (let no : false ≡ true = sym (get_or_past (replicate n false) t false (rw (length-replicate n false) le)) ∙ e in cc)
]

-- whether the times are those of a domain
pub is-domain : (r : Bool) (own domain : Option Domain) (times : Times) → r ≡ same_domain own domain → domain_times own ≡ times
    → IsTrue r ↔ (times ≡ domain_times domain)
is-domain r own domain times e same = (
  (λ x. sym same ∙ domain-same own domain (sym e ∙ x)),
  (λ x. e ∙ same-domain own domain (same ∙ x)),
)
