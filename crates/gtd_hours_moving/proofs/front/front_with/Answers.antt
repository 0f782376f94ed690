use Rattle.std.proofs.Common.{refl}
use Rattle.gtd_hours_moving.proofs.front.front_with.Goals as goal

pub returns-in-Always : goal.returns-in-Always
returns-in-Always c = λ h. (rw c.in-Always.is at h, c.range_tokens.ensures, refl)

pub returns-in-Easter : goal.returns-in-Easter
returns-in-Easter c = λ h. (rw c.in-Easter.is at h, c.easter_place.ensures.place, c.range_tokens-in-Easter.ensures, refl)
