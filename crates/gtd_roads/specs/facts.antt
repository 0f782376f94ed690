pub use Rattle.gtd_records.specs.facts.OneAnswer
pub use Rattle.gtd_report.specs.facts.RunFacts
pub use Rattle.gtd_schedule.specs.facts.ShownFacts
