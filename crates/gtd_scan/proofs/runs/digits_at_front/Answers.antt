-- Every byte of the front part that was cut off is a digit.
use Rattle.std.proofs.Common.{ℕ, ap, ◌∙◌, take}
use Rattle.std.specs.Char.{is_ascii_digit}
use Rattle.std.specs.List.{list_all}
use Rattle.gtd_scan.specs.facts.Runs.{front_all}
use Rattle.gtd_scan.proofs.runs.digits_at_front.Goals as goal

pub returns-clause-all : goal.returns-clause-all
returns-clause-all c =
    ap (λ (n : ℕ). list_all is_ascii_digit (take n c.args.bytes.now)) c.digit_count.ensures.count
    ∙ front_all is_ascii_digit c.args.bytes.now
