-- The table of each language is good.
use Rattle.std.proofs.Common.{◌≡◌, true}
use Rattle.gtd_phrases.specs.declared.phrase.Language.{Language}
use Rattle.gtd_phrases.specs.declared.phrase.Language.TheVariants.{English, German, French}
use Rattle.gtd_phrases.proofs.Beginnings.{is_begun}
use Rattle.gtd_phrases.proofs.Closers.{is_closed}
use Rattle.gtd_phrases.proofs.EnglishWords.{english_good, english_tried}
use Rattle.gtd_phrases.proofs.FrenchWords.{french_good, french_tried}
use Rattle.gtd_phrases.proofs.GermanWords.{german_good, german_tried}
use Rattle.gtd_phrases.proofs.Marks.{is_marked}
use Rattle.gtd_phrases.proofs.Tables.{Good}

pub all_good : (l : Language) → Good l
all_good English = english_good
all_good German = german_good
all_good French = french_good

pub all_closed : (l : Language) → is_closed l ≡ true
all_closed English = english_tried.1
all_closed German = german_tried.1
all_closed French = french_tried.1

pub all_marked : (l : Language) → is_marked l ≡ true
all_marked English = english_tried.2
all_marked German = german_tried.2
all_marked French = french_tried.2

pub all_begun : (l : Language) → is_begun l ≡ true
all_begun English = english_tried.0
all_begun German = german_tried.0
all_begun French = french_tried.0
