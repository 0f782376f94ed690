-- What is over is over for each second to come, what repeats does so at all times, and what ends by its years ends before 2700.
use Rattle.std.proofs.Common.{arith}
use Rattle.std.proofs.lemmas.Int.{ints}
use Rattle.gtd_eval.specs.Extent.{first_second}
use Rattle.gtd_warnings.proofs.EndFacts.{ends_by_years}
use Rattle.gtd_warnings.proofs.OverFacts.{none_from_any}
use Rattle.gtd_warnings.proofs.laws.said_for_ever.Goals as goal

pub returns : goal.returns
returns c = record {
  never = λ tree t over from. over.1 t from;
  never_ever = λ tree t over none h. none_from_any tree none first_second t over.1 t (omega (arith, ints)) h;
  always = λ tree t always. always.1 t;
  past = λ days tree t over from. over.1 t from;
  soon = λ days tree t soon from. soon.1.1 t from;
  years = λ tree t valid years h. ends_by_years tree valid years t h;
}
