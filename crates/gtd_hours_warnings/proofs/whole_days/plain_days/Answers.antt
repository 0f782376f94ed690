-- The rules of a text that is read are looked through; one with a byte with which no token begins has none.
use Rattle.std.proofs.Common.{refl}
use Rattle.gtd_hours_warnings.specs.WholeDays.{read, unread}
use Rattle.gtd_hours_warnings.proofs.whole_days.plain_days.Goals as goal

pub returns-in-Ok : goal.returns-in-Ok
returns-in-Ok c = read c.in-Ok.read c.in-Ok.ensures.text refl

pub returns-in-Err-BadToken : goal.returns-in-Err-BadToken
returns-in-Err-BadToken c =
    let bad = rw c.in-Err-BadToken.field-0-is at c.in-Err-BadToken.ensures.fault in
    unread c.in-Err-BadToken.field-0-0 bad c.new.ensures.items
