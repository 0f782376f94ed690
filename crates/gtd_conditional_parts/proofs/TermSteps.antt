-- One term more of a condition, in a loop that goes over it.
use Rattle.std.proofs.Common.{◌≡◌, ◌∙◌, ap, sym, subst, refl, arith, ◌≤◌, ◌<◌, ◌+◌, ℕ, List, [], ◌∷◌, ◌++◌, length, append_assoc}
use Rattle.std.proofs.Common.{take, drop}
use Rattle.std.specs.Prelude.{Result, Ok, Err}
use Rattle.gtd_hours_options.specs.Readings.{HowRead}
use Rattle.gtd_conditional_means.specs.declared.meaning.MeansRow.{MeansRow}
use Rattle.gtd_conditional_values.specs.declared.term.Term.{Term}
use Rattle.gtd_conditional_values.specs.declared.term.TermFault.{TermFault}
use Rattle.gtd_conditional_values.specs.declared.term.UnreadTerm.{UnreadTerm}
use Rattle.gtd_conditional_values.specs.declared.term.UnreadTerm.TheVariants as unread
use Rattle.gtd_conditional_parts.specs.Conditions.{AreTerms, IsTermAt, IsTermsFault, IsTermsStop, last, more, here, later}
use Rattle.gtd_conditional_parts.specs.Cuts.{first_term, term_bytes}

module _ (how : HowRead) (rows : List MeansRow) (place : ℕ) (text : List ℕ) where
  -- the terms before a place, with those from there on, are all
  abbrev pub GoesOn : List Term → ℕ → List ℕ → Type 0
  GoesOn before at rest =
      (behind : List Term) → AreTerms how rows at rest behind → AreTerms how rows place text (before ++ behind)

  -- a fault from there on is the first
  abbrev pub FailsOn : ℕ → List ℕ → Type 0
  FailsOn at rest = (why : TermFault) → IsTermsFault how rows at rest why → IsTermsFault how rows place text why

  pub goes_start : (before : List Term) → before ≡ [] → GoesOn before place text
  goes_start before e = λ behind h. subst (λ (xs : List Term). AreTerms how rows place text (xs ++ behind)) (sym e) h

  module _ (at n : ℕ) (rest : List ℕ) (cut : n ≡ term_bytes rest) where
    first : (answer : Result Term UnreadTerm) → IsTermAt how rows at (take n rest) answer
        → IsTermAt how rows at (first_term rest) answer
    first answer is = subst (λ (k : ℕ). IsTermAt how rows at (take k rest) answer) cut is

    pub goes_more : (before after : List Term) (term : Term) → after ≡ before ++ term ∷ [] → n + 3 ≤ length rest
        → IsTermAt how rows at (take n rest) (Ok term) → GoesOn before at rest → (left : List ℕ) → left ≡ drop (n + 3) rest
        → GoesOn after (at + (n + 3)) left
    goes_more before after term put long is goes left same_left = λ behind g.
        let h = subst (λ (l : List ℕ). AreTerms how rows (at + (n + 3)) l behind) same_left g in
        let same = ap (λ (xs : List Term). xs ++ behind) put ∙ append_assoc before (term ∷ []) behind in
        let room : term_bytes rest + 3 ≤ length rest = omega (arith, cut, long) in
        let moved = subst (λ (k : ℕ). AreTerms how rows (at + (k + 3)) (drop (k + 3) rest) behind) cut h in
        subst (λ (xs : List Term). AreTerms how rows place text xs) (sym same)
        (goes (term ∷ behind) (more at rest term behind (term ∷ behind) room (first (Ok term) is) moved refl))

    pub fails_more : (term : Term) → n + 3 ≤ length rest → IsTermAt how rows at (take n rest) (Ok term) → FailsOn at rest
        → (left : List ℕ) → left ≡ drop (n + 3) rest → FailsOn (at + (n + 3)) left
    fails_more term long is fails left same_left = λ why g.
        let h = subst (λ (l : List ℕ). IsTermsFault how rows (at + (n + 3)) l why) same_left g in
        let room : term_bytes rest + 3 ≤ length rest = omega (arith, cut, long) in
        let moved = subst (λ (k : ℕ). IsTermsFault how rows (at + (k + 3)) (drop (k + 3) rest) why) cut h in
        fails why (later at rest why term room (first (Ok term) is) moved)

    pub goes_last : (before after : List Term) (term : Term) → after ≡ before ++ term ∷ [] → length rest < n + 3
        → IsTermAt how rows at (take n rest) (Ok term) → GoesOn before at rest → AreTerms how rows place text after
    goes_last before after term put short is goes =
        let end : length rest < term_bytes rest + 3 = omega (arith, cut, short) in
        subst (λ (xs : List Term). AreTerms how rows place text xs) (sym put)
        (goes (term ∷ []) (last at rest term (term ∷ []) end (first (Ok term) is) refl))

    pub fails_here : (why : UnreadTerm) → IsTermAt how rows at (take n rest) (Err why) → FailsOn at rest
        → IsTermsStop how rows place text why
    fails_here (unread.Fault why) is fails = fails why (here at rest why (first (Err (unread.Fault why)) is))
    fails_here unread.NoMemory is fails = tt
