use Rattle.std.proofs.Common.{◌≡◌, ◌⊎◌, ◌<◌, inl, inr, refl, sym, subst, Option, Some, None}
use Rattle.std.specs.Prelude.{Result, Ok, Err, IfErr, IfSome}
use Rattle.std.proofs.lemmas.Result.{IfOk-weaker}
use Rattle.gtd_core.specs.Limits.{most_basic_domains}
use Rattle.gtd_core.specs.declared.domain.Domain.{Domain}
use Rattle.gtd_hours.specs.Cost.{hours_cost}
use Rattle.gtd_hours.specs.declared.hours.Hours.{Hours}
use Rattle.gtd_hours_text.specs.Standing.{StandsFor}
use Rattle.gtdesk_words.specs.Text.{Text}
use Rattle.gtdesk_words.specs.HoursWords.{IsHoursDomain, IsNoDomainOf, IsTranslation, too_many}
use Rattle.gtdesk_words.specs.declared.refusal.NoDomain.{NoDomain}
use Rattle.gtdesk_words.proofs.hours.hours_domain.Goals as goal

-- what refuses hours refuses a text that stands for them
reason_of_text : (text : Text) (hours : Hours) (r : Result Domain (Option NoDomain)) → StandsFor text hours
    → IfErr r (λ why. (why ≡ None) ⊎ ((why ≡ Some (too_many hours)) × (most_basic_domains < hours_cost hours)))
    → IfErr r (λ why. IfSome why (IsNoDomainOf text))
reason_of_text text hours (Ok domain) stands h = tt
reason_of_text text hours (Err why) stands (inl memory) =
    subst (λ (x : Option NoDomain). IfSome x (IsNoDomainOf text)) (sym memory) tt
reason_of_text text hours (Err why) stands (inr large) =
    subst (λ (x : Option NoDomain). IfSome x (IsNoDomainOf text)) (sym large.0) (hours, stands, large.1, refl)

pub returns-clause-domain : goal.returns-clause-domain
returns-clause-domain c =
    IfOk-weaker c.domain_with.result (IsTranslation c.in-Ok.hours) (IsHoursDomain c.args.text.now)
    (λ domain is. (c.in-Ok.hours, c.in-Ok.ensures.stands, is)) c.domain_with.ensures.same

pub returns-clause-refused : goal.returns-clause-refused
returns-clause-refused c =
    reason_of_text c.args.text.now c.in-Ok.hours c.domain_with.result c.in-Ok.ensures.stands c.domain_with.ensures.cause
