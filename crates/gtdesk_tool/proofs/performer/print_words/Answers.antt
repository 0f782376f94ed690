-- What is put is the words of the domain in the language; without memory nothing is put.
use Rattle.std.proofs.Common.{◌≡◌, ◌∙◌}
use Rattle.gtd_core.specs.Parts.{domain_tree}
use Rattle.gtd_words.specs.Words.{words_in}
use Rattle.gtdesk_tool.proofs.RunningFacts.{put_as}
use Rattle.gtdesk_tool.proofs.performer.print_words.Goals as goal

pub returns-in-Ok-clause-put : goal.returns-in-Ok-clause-put
returns-in-Ok-clause-put g c =
    put_as (λ t. t ≡ words_in c.args.plan.now.language (domain_tree c.args.plan.now.domain)) _ _ _ _ _ _
    (c.as_str.ensures.value ∙ c.in-Ok.ensures.exact)
    c.print_text.ensures.put
