-- The rules of the strict form are looked through.
use Rattle.gtd_hours_warnings.proofs.MarkFacts.{whole_days_put}
use Rattle.gtd_hours_warnings.proofs.whole_days.add_whole_days.Goals as goal

pub returns : goal.returns
returns c =
    whole_days_put c.args.text.now c.args.form.now c.strict_text.result.now c.as_slice.result.now c.in_ok-places.places.items
    c.add_whole_days_at.result c.args.warnings.now.items c.add_whole_days_at.new.warnings.items c.strict_text.ensures
    c.in_ok-places.ensures c.as_slice.ensures.value c.add_whole_days_at.ensures
