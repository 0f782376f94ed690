-- The rules of a text, one after another.
use Rattle.std.proofs.Common.{◌≡◌, refl, sym, subst, inl, inr, arith, length, ℕ, List, [], ◌∷◌, ◌++◌, append_assoc, drop}
use Rattle.std.proofs.lemmas.List.{append-nil}
use Rattle.gtd_hours_grammar.specs.declared.fault.HoursFault.{HoursFault}
use Rattle.gtd_hours_holiday_rules.specs.declared.rules.HolidayRule.{HolidayRule}
use Rattle.gtd_hours_known.specs.Rules.{IsRuleFault}
use Rattle.gtd_hours_times.specs.declared.moment.TimeForm.{TimeForm}
use Rattle.gtd_hours_writing.specs.declared.rule.MendedRule.{MendedRule}
use Rattle.gtd_hours_mended.specs.Making.{AreMade, IsMade, IsMakeStop, IsOwnStop, comment_in, first_comment, times_in}
use Rattle.gtd_hours_mended.specs.declared.comments.Stretch.{Stretch}
use Rattle.gtd_hours_mended.specs.declared.making.MakeStop.{MakeStop}
use Rattle.gtd_hours_mended.specs.declared.making.MakeStop.TheVariants as stop

-- The rules so far, with those of the rules of the text that are left, are all; and so is a fault of one that is left.
pub record AreJoined (text : List ℕ) (all : List HolidayRule) (comments : List Stretch) (forms : List TimeForm)
    (rest : List HolidayRule) (comments_left : List Stretch) (forms_left : List TimeForm) (made : List MendedRule) : Type 0 where
  pub rules : (others : List MendedRule) → AreMade text rest comments_left forms_left others
      → AreMade text all comments forms (made ++ others)
  pub fault : (bad : HoursFault) → IsRuleFault rest bad → IsRuleFault all bad

-- Of no rules that have come, all are left.
pub none_joined : (text : List ℕ) (all : List HolidayRule) (comments : List Stretch) (forms : List TimeForm)
    → AreJoined text all comments forms all comments forms []
none_joined text all comments forms = record { rules = λ others are. are; fault = λ bad is. is }

-- One rule more has come.
pub more_joined : (text : List ℕ) (all rest more : List HolidayRule) (from : HolidayRule) (comments left later : List Stretch)
    (forms forms_left forms_later : List TimeForm) (made : List MendedRule) (rule : MendedRule) → rest ≡ from ∷ more
    → later ≡ drop 1 left → forms_later ≡ drop (times_in rule.own) forms_left
    → IsMade (comment_in text (first_comment left)) from forms_left rule
    → AreJoined text all comments forms rest left forms_left made
    → AreJoined text all comments forms more later forms_later (made ++ rule ∷ [])
more_joined text all rest more from comments left later forms forms_left forms_later made rule e c f is joined = record {
  rules = λ others are. subst (AreMade text all comments forms) (sym (append_assoc made (rule ∷ []) others))
      (joined.rules (rule ∷ others) (subst (λ (rs : List HolidayRule). AreMade text rs left forms_left (rule ∷ others)) (sym e) (
        rule,
        others,
        refl,
        is,
        subst (λ (cs : List Stretch). AreMade text more cs (drop (times_in rule.own) forms_left) others) c
            (subst (λ (fs : List TimeForm). AreMade text more later fs others) f are),
      )));
  fault = λ bad worse. joined.fault bad
      (subst (λ (rs : List HolidayRule). IsRuleFault rs bad) (sym e) (inr ((is.own.p, is.own.is), worse)));
}

-- All have come.
pub all_joined : (text : List ℕ) (all rest : List HolidayRule) (comments left : List Stretch) (forms forms_left : List TimeForm)
    (made : List MendedRule) → rest ≡ [] → AreJoined text all comments forms rest left forms_left made
    → AreMade text all comments forms made
all_joined text all rest comments left forms forms_left made e joined =
    subst (AreMade text all comments forms) (append-nil made)
    (joined.rules [] (subst (λ (rs : List HolidayRule). AreMade text rs left forms_left []) (sym e) refl))

-- The rule that comes next is not made.
pub joined_stop : (text : List ℕ) (all rest more : List HolidayRule) (from : HolidayRule) (comments left : List Stretch)
    (forms forms_left : List TimeForm) (made : List MendedRule) (why : MakeStop) → rest ≡ from ∷ more
    → AreJoined text all comments forms rest left forms_left made → IsOwnStop from why → IsMakeStop all why
joined_stop text all rest more from comments left forms forms_left made (stop.Own bad) e joined is =
    joined.fault bad (subst (λ (rs : List HolidayRule). IsRuleFault rs bad) (sym e) (inl is))
joined_stop text all rest more from comments left forms forms_left made stop.NoMemory e joined is = tt

-- The first and the others of no rules are none.
pub no_rules : (rest : List HolidayRule) → length rest ≡ 0 → rest ≡ []
no_rules [] none = refl
no_rules (from ∷ more) none = absurd (omega (arith, none))
