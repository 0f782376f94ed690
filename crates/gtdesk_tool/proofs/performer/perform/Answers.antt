-- A plan that reads no file tells of no failure of the input, since nothing that it answers is one.
use Rattle.gtdesk_tool.proofs.RunningFacts.{of_hours, of_memory, of_none, unread_picture, unread_text}
use Rattle.gtdesk_tool.proofs.ComparingFacts.{unread_comparison}
use Rattle.gtdesk_tool.proofs.LooseFacts.{of_unmended}
use Rattle.gtdesk_tool.proofs.performer.perform.Goals as goal

pub returns-in-DomainPicture-clause-read_faults : goal.returns-in-DomainPicture-clause-read_faults
returns-in-DomainPicture-clause-read_faults g c = unread_picture _ _ _ _ _ _ _ _ c.print_domain.ensures.ran

pub returns-in-Words-clause-read_faults : goal.returns-in-Words-clause-read_faults
returns-in-Words-clause-read_faults g c = unread_text _ _ _ _ _ _ (of_memory _) _ c.print_words.ensures.put

pub returns-in-HoursOf-clause-read_faults : goal.returns-in-HoursOf-clause-read_faults
returns-in-HoursOf-clause-read_faults g c = unread_text _ _ _ _ _ _ (of_hours _) _ c.print_hours_of.ensures.put

pub returns-in-MendHours-clause-read_faults : goal.returns-in-MendHours-clause-read_faults
returns-in-MendHours-clause-read_faults g c =
    unread_text _ _ _ _ _ _ (of_unmended _ _ _) _ c.print_mended_hours.ensures.put

pub returns-in-Same-clause-read_faults : goal.returns-in-Same-clause-read_faults
returns-in-Same-clause-read_faults g c = unread_comparison _ _ _ _ _ _ _ _ c.print_comparison.ensures.compared

pub returns-in-Show-clause-read_faults : goal.returns-in-Show-clause-read_faults
returns-in-Show-clause-read_faults g c = unread_text _ _ _ _ _ _ (of_none _) _ c.print_text.ensures.put
