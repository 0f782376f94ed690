-- The exit status of a refusal: 1 if a word is refused, but 2 if that names no rule; 2 for usage, 3 if memory was refused.
use Rattle.std.specs.Prelude.{ℕ}
use Rattle.gtdesk_words.specs.declared.refusal.Reason.{Reason}
use Rattle.gtdesk_words.specs.declared.refusal.Reason.TheVariants as reason
use Rattle.gtdesk_words.specs.declared.refusal.WordsRefusal.{WordsRefusal}
use Rattle.gtdesk_words.specs.declared.refusal.WordsRefusal.TheVariants as refusal

abbrev pub reason_status : Reason → ℕ
reason_status reason.Rule = 2
reason_status other = 1

abbrev pub words_status : WordsRefusal → ℕ
words_status (refusal.Usage told meant) = 2
words_status (refusal.Word fault) = reason_status fault.why
words_status refusal.Memory = 3
