-- First intervals of a list that are left out, and then more of them.
use Rattle.std.proofs.Common.{◌∙◌, ap, sym, List, [], ◌∷◌, ◌++◌, append_assoc}
use Rattle.std.specs.Prelude.{ℤ}
use Rattle.gtd_core.specs.Seconds.{Interval}
use Rattle.gtd_spans.specs.Skipping.{AllEndBy, LeavesOut}

end-both : (b : ℤ) (xs ys : List Interval) → AllEndBy b xs → AllEndBy b ys → AllEndBy b (xs ++ ys)
end-both b [] ys e f = f
end-both b (x ∷ xs) ys e f = (e.0, end-both b xs ys e.1 f)

pub leaves-more : (b : ℤ) (xs ys zs : List Interval) → LeavesOut b xs ys → LeavesOut b ys zs → LeavesOut b xs zs
leaves-more b xs ys zs (first, is, ends) (more, also, end) = (
  first ++ more,
  is ∙ ap (λ (l : List Interval). first ++ l) also ∙
      sym (append_assoc first more zs),
  end-both b first more ends end,
)
