-- Pictures as texts.
use Rattle.std.specs.Prelude.{◌≡◌, ℕ, List}
use Rattle.gtd_core.specs.Parts.{domain_tree}
use Rattle.gtd_core.specs.declared.domain.Domain.{Domain}
use Rattle.gtd_text.specs.Canonical.{canonical}
use Rattle.gtd_picture.specs.Domain.{IsDomainPicture}
use Rattle.gtd_report.specs.Putting.{text_of}

-- the bytes are the picture of the year of the domain, with its canonical text as the title
pub record IsPictureText (found : Domain) (year : ℕ) (bytes : List ℕ) : Type 0 where
  pub lines : List (List ℕ)
  pub picture : IsDomainPicture found (canonical (domain_tree found)) year lines
  pub text : bytes ≡ text_of lines
