-- The bytes that are put are those of the text.
use Rattle.std.proofs.Common.{◌≡◌}
use Rattle.gtdesk_tool.proofs.RunningFacts.{put_as}
use Rattle.gtdesk_tool.proofs.performer.print_text.Goals as goal

pub returns-clause-put : goal.returns-clause-put
returns-clause-put g c =
    put_as (λ t. t ≡ c.args.text.now) _ _ _ _ _ _ c.as_bytes.ensures.value c.print_bytes.ensures.put
