-- How the bytes that a writer took grow.
use Rattle.std.proofs.Common.{◌≡◌, ◌∙◌, ℕ, true, List, [], ◌++◌, Option, refl, sym, ap, subst, append_assoc, append-nil, length}
use Rattle.std.proofs.Common.{take, drop, take-append-drop, eqb-true, get_or, ◌<◌, suc}
use Rattle.std.proofs.lemmas.List.{nil_from_length}
use Rattle.std.specs.Prelude.{◌==◌}
use Rattle.std.specs.Io.KnownBytes.{Appends, Keeps}
use Rattle.std.proofs.KnownBytes.{Appends-kept, Appends-nil, Appends-trans}
use Rattle.std.proofs.lemmas.Grind.{flat_map-append}
use Rattle.std.proofs.Math.Seq.{drop-cons}
use Rattle.std.specs.Borrow.{Bor}
use Rattle.gtd_tool.specs.Writing.{AppendsPart, TakesBefore, joined}

pub takes_none : (a : Option (List ℕ)) (bytes : List ℕ) → TakesBefore a a bytes bytes
takes_none a bytes = record { part = []; before = refl; taken = Appends-nil a }

pub takes_more : (a b c : Option (List ℕ)) (bytes rest : List ℕ) (n : ℕ) → TakesBefore a b bytes rest → Appends b c (take n rest)
    → TakesBefore a c bytes (drop n rest)
takes_more a b c bytes rest n so more = record {
  part = so.part ++ take n rest;
  before = so.before ∙ ap (λ (r : List ℕ). so.part ++ r) (sym (take-append-drop n rest))
      ∙ sym (append_assoc so.part (take n rest) (drop n rest));
  taken = Appends-trans a b c so.part (take n rest) so.taken more;
}

pub takes_kept : (a b c : Option (List ℕ)) (bytes rest : List ℕ) → TakesBefore a b bytes rest → Keeps b c
    → TakesBefore a c bytes rest
takes_kept a b c bytes rest so kept = record {
  part = so.part;
  before = so.before;
  taken =
      Appends-kept a b c so.part so.taken kept;
}

pub takes_all : (a b : Option (List ℕ)) (bytes rest : List ℕ) → TakesBefore a b bytes rest → (length rest == 0) ≡ true
    → Appends a b bytes
takes_all a b bytes rest so none =
    let all : bytes ≡ so.part = so.before ∙ ap (λ (r : List ℕ). so.part ++ r) (nil_from_length rest (eqb-true _ _ none))
    ∙ append-nil so.part in
    subst (Appends a b) (sym all) so.taken

pub part_of : (a b : Option (List ℕ)) (bytes rest : List ℕ) → TakesBefore a b bytes rest → AppendsPart a b bytes
part_of a b bytes rest so = record { rest = rest; takes = so }

-- nothing is a first part
pub part_none : (a : Option (List ℕ)) (bytes : List ℕ) → AppendsPart a a bytes
part_none a bytes = part_of a a bytes bytes (takes_none a bytes)

-- a first part of the next bytes
pub part_more : (a b c : Option (List ℕ)) (front bytes back : List ℕ) → Appends a b front → AppendsPart b c bytes
    → AppendsPart a c (front ++ (bytes ++ back))
part_more a b c front bytes back before next = record {
  rest = next.rest ++ back;
  takes = record {
    part = front ++ next.takes.part;
    before = ap (λ (x : List ℕ). front ++ (x ++ back)) next.takes.before
        ∙ ap (λ (x : List ℕ). front ++ x) (append_assoc next.takes.part next.rest back)
        ∙ sym (append_assoc front next.takes.part (next.rest ++ back));
    taken = Appends-trans a b c front next.takes.part before next.takes.taken;
  };
}

-- the texts before one, this one, and those after it
pub joined-at : (texts : List (Bor (List ℕ))) (i : ℕ) (text : Bor (List ℕ)) → i < length texts
    → joined texts ≡ joined (take i texts) ++ ((get_or texts i text).now ++ joined (drop (suc i) texts))
joined-at texts i text inside =
    ap joined (sym (take-append-drop i texts)) ∙ flat_map-append (λ t. t.now) (take i texts) (drop i texts)
    ∙ ap (λ (ts : List (Bor (List ℕ))). joined (take i texts) ++ joined ts) (drop-cons texts i text inside)

-- a first part of the bytes that come first
pub part_front : (a b : Option (List ℕ)) (bytes back : List ℕ) → AppendsPart a b bytes → AppendsPart a b (bytes ++ back)
part_front a b bytes back next = record {
  rest = next.rest ++ back;
  takes = record {
    part = next.takes.part;
    before = ap (λ (x : List ℕ). x ++ back) next.takes.before ∙ append_assoc next.takes.part next.rest back;
    taken = next.takes.taken;
  };
}

-- a first part of the bytes that come last
pub part_then : (a b c : Option (List ℕ)) (front bytes : List ℕ) → Appends a b front → AppendsPart b c bytes
    → AppendsPart a c (front ++ bytes)
part_then a b c front bytes before next = record {
  rest = next.rest;
  takes = record {
    part = front ++ next.takes.part;
    before = ap (λ (x : List ℕ). front ++ x) next.takes.before ∙ sym (append_assoc front next.takes.part next.rest);
    taken = Appends-trans a b c front next.takes.part before next.takes.taken;
  };
}
