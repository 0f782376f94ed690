-- Facts of the leaves of cursors that keep spans.
use Rattle.std.proofs.Common.{◌+◌, ◌*◌, ◌≤◌, arith}
use Rattle.gtd_recur.specs.facts.StretchFacts.{runs_between-normal}
use Rattle.gtd_spans.specs.Normal.{IsNormal}
use Rattle.gtd_eval.specs.Keeping.{part_list, part_whole, part_size, part_kept, part_told}
use Rattle.gtd_eval.specs.facts.CursorFacts.{whole-normal, cursor-small}
use Rattle.gtd_eval.specs.facts.RunsFacts.{runs-small}
use Rattle.gtd_eval.specs.declared.kept.Part.{Part}
use Rattle.gtd_eval.specs.declared.kept.Part.TheVariants.{Basic, Repeating}

pub part-normal : (part : Part) → IsNormal (part_list part)
part-normal (Basic runs) = runs_between-normal _ _ _ _
part-normal (Repeating kept) = kept.kept.normal

pub part-whole-normal : (part : Part) → IsNormal (part_whole part)
part-whole-normal (Basic runs) = runs_between-normal _ _ _ _
part-whole-normal (Repeating kept) = whole-normal (λ runs. runs_between-normal _ _ _ _) kept.inner

pub part-small : (part : Part) → (part_size part).work ≤ 20000000000 * (part_size part).nodes
part-small (Basic runs) = runs-small runs
part-small (Repeating kept) = cursor-small runs-small kept.inner

pub part-kept-few : (part : Part) → part_kept part ≤ 4096 * (part_size part).periods
part-kept-few (Basic runs) = omega arith
part-kept-few (Repeating kept) = omega (arith, kept.again.few, kept.again.within)

pub part-kept-by-nodes : (part : Part) → part_kept part ≤ 16 * ((part_size part).nodes + 1)
part-kept-by-nodes (Basic runs) = omega arith
part-kept-by-nodes (Repeating kept) = omega (arith, kept.again.within, kept.room)

pub part-told-few : (part : Part) → part_told part ≤ 16 * ((part_size part).nodes + 1) + 2 * (part_size part).periods
part-told-few (Basic runs) = omega arith
part-told-few (Repeating kept) = omega (arith, kept.again.told_within, kept.room)

pub part-few : (part : Part) → (part_size part).periods ≤ (part_size part).nodes
part-few (Basic runs) = omega arith
part-few (Repeating kept) = kept.some
