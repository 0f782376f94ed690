-- What is known of a text is known of an equal one, and of a copy of its domain.
use Rattle.std.proofs.Common.{◌≡◌, sym, subst, List, ℕ}
use Rattle.gtd_core.specs.Trees.{Tree}
use Rattle.gtd_text.specs.Reading.{HasNoFault, StandsFor}

pub moved : (one other : List ℕ) (copy tree : Tree) → one ≡ other → copy ≡ tree → StandsFor one tree × HasNoFault one
    → StandsFor other copy × HasNoFault other
moved one other copy tree same is known =
    subst (λ (text : List ℕ). StandsFor text copy × HasNoFault text) same
    (subst (λ (t : Tree). StandsFor one t × HasNoFault one) (sym is) known)
