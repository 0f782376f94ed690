-- Each is a case of what is handed on.
use Rattle.std.proofs.Common.{refl, inl, inr}
use Rattle.gtd_eval.proofs.laws.spans_are_handed_on_one_by_one.Goals as goal

pub returns : goal.returns
returns g c = record {
  next = record {
    none = λ before after into taker h. rw h.0 (refl, refl, refl, refl);
    more = λ before after left x into next end taker more then all h t rest. rw h (inr (next, more, t, rest));
    last = λ before after x into end taker then h t. rw h (inl (t, refl, refl));
  };
}
