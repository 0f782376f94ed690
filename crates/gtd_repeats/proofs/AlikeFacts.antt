-- The ways in which rows are alike are likenesses.
use Rattle.std.proofs.Common.{◌≡◌, ◌∙◌, sym, refl, ℕ, List}
use Rattle.std.specs.Prelude.{Option}
use Rattle.gtd_core.specs.Trees.{Tree}
use Rattle.gtd_records.specs.Closing.{Restriction}
use Rattle.gtd_repeats.specs.Firsts.{IsLikeness}
use Rattle.gtd_repeats.specs.Sameness.{AreAlike, AreAlikeIn, HoldSame, row_at}
use Rattle.gtd_repeats.specs.declared.alike.Kind.{Kind}
use Rattle.gtd_repeats.specs.declared.alike.Kind.TheVariants as kind

hold_back : (a b : Option Tree) → HoldSame a b → HoldSame b a
hold_back a b h t in_range = ((h t in_range).1, (h t in_range).0)

hold_on : (a b c : Option Tree) → HoldSame a b → HoldSame b c → HoldSame a c
hold_on a b c h k t in_range = (
  (λ x. (k t in_range).0 ((h t in_range).0 x)),
  (λ x. (h t in_range).1 ((k t in_range).1 x)),
)

-- one text has the same seconds
pub hold_text : (a b : Option Tree) → a ≡ b → HoldSame a b
hold_text a b e = rw e (λ t in_range. ((λ x. x), (λ x. x)))

back : (k : Kind) (r s : Restriction) → AreAlike k r s → AreAlike k s r
back kind.Text r s h = sym h
back kind.Seconds r s h = hold_back r.domain s.domain h
back kind.Row r s h = record {
  element = sym h.element;
  closed = sym h.closed;
  vehicles = λ v is. ((h.vehicles v is).1, (h.vehicles v is).0);
  seconds = hold_back r.domain s.domain h.seconds;
}

on : (k : Kind) (r s u : Restriction) → AreAlike k r s → AreAlike k s u → AreAlike k r u
on kind.Text r s u h i = h ∙ i
on kind.Seconds r s u h i = hold_on r.domain s.domain u.domain h i
on kind.Row r s u h i = record {
  element = h.element ∙ i.element;
  closed = h.closed ∙ i.closed;
  vehicles = λ v is. (
    (λ x. (i.vehicles v is).0 ((h.vehicles v is).0 x)),
    (λ x. (h.vehicles v is).1 ((i.vehicles v is).1 x)),
  );
  seconds = hold_on r.domain s.domain u.domain h.seconds i.seconds;
}

pub likeness : (rows : List Restriction) (k : Kind) → IsLikeness (AreAlikeIn rows k)
likeness rows k = record {
  symmetric = λ i j h. (h.1, h.0, back k (row_at rows i) (row_at rows j) h.2);
  transitive = λ i j l h m. (h.0, m.1, on k (row_at rows i) (row_at rows j) (row_at rows l) h.2 m.2);
}

-- each row is like itself
pub itself : (k : Kind) (r : Restriction) → AreAlike k r r
itself kind.Text r = refl
itself kind.Seconds r = hold_text r.domain r.domain refl
itself kind.Row r = record {
  element = refl;
  closed = refl;
  vehicles = λ v is. ((λ x. x), (λ x. x));
  seconds = hold_text r.domain r.domain refl;
}

-- rows with one text have the same seconds
pub of_text : (rows : List Restriction) (j k : ℕ) → AreAlikeIn rows kind.Text j k → AreAlikeIn rows kind.Seconds j k
of_text rows j k h = (h.0, h.1, hold_text (row_at rows j).domain (row_at rows k).domain h.2)
