-- What the ends of a span of one row say of another.
use Rattle.std.proofs.Common.{◌≡◌, ◌↔◌, arith, Option, Some, Bool, true, false, not, IsTrue}
use Rattle.std.specs.Prelude.{ℤ, pos, ◌-ℤ◌, ◌<ℤ◌}
use Rattle.std.proofs.lemmas.Int.{ints}
use Rattle.gtd_core.specs.Parts.{domain_tree}
use Rattle.gtd_core.specs.Seconds.{Interval, IsHorizonSecond, Within}
use Rattle.gtd_core.specs.Trees.{Tree}
use Rattle.gtd_core.specs.declared.domain.Domain.{Domain}
use Rattle.gtd_difference.specs.Difference.{IsHeldSpan}
use Rattle.gtd_eval.specs.Membership.{InDomain}
use Rattle.gtd_records.specs.Closing.{HoldsAt}
use Rattle.gtd_repeats.specs.Sameness.{HoldsWithin}

not_both : (b : Bool) → IsTrue (not b) → IsTrue b → ⊥
not_both true h k = let e : false ≡ true = h in cc
not_both false h k = let e : false ≡ true = k in cc

-- the last second of a span that another row does not have
pub end_alone : (domain : Option Tree) (other : Domain) (x : Interval) (last : ℤ) (b : Bool) → IsHeldSpan (HoldsAt domain) x
    → x.from <ℤ x.until → last ≡ x.until -ℤ pos 1 → IsTrue b ↔ InDomain other last → IsTrue (not b)
    → HoldsWithin domain (Some (domain_tree other)) → ⊥
end_alone domain other x last b held some e member denied all =
    let m = held.moment in
    let n = held.ended in
    let there : Within x last = (omega (arith, ints, e, some), omega (arith, ints, e)) in
    let in_range : IsHorizonSecond last = (omega (arith, ints, e, some, m.0), omega (arith, ints, e, n)) in
    not_both b denied (member.1 (all last in_range (held.held last there)))
