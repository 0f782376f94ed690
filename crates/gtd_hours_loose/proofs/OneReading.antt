-- A text is read in one way, or has one first fault.
use Rattle.std.proofs.Common.{◌≡◌, ◌∙◌, sym, ap, subst, ℕ, List, length}
use Rattle.std.specs.Prelude.{Some, None, Ok, Err}
use Rattle.gtd_hours.specs.declared.hours.Hours.{Hours}
use Rattle.gtd_hours_grammar.specs.Faults.{IsFirstFault, IsHoursText}
use Rattle.gtd_hours_moves.specs.Terms.{Piece}
use Rattle.gtd_hours_grammar.specs.declared.fault.HoursFault.{HoursFault}
use Rattle.gtd_hours_text.specs.Standing.{StandsFor}
use Rattle.gtd_hours_loose.specs.declared.manner.Manner.{Manner}
use Rattle.gtd_hours_loose.specs.declared.manner.Manner.TheVariants as manner
use Rattle.gtd_hours_loose.specs.declared.reader.LooseFault.{LooseFault}
use Rattle.gtd_hours_loose.specs.declared.reader.LooseFault.TheVariants as loose
use Rattle.gtd_hours_loose.specs.declared.reader.LooseHours.{LooseHours}
use Rattle.gtd_hours_loose.specs.declared.strict.Part.{Part}
use Rattle.gtd_hours_loose.specs.declared.strict.StrictForm.{StrictForm}
use Rattle.gtd_hours_loose_tokens.specs.declared.token.DayNames.{DayNames}
use Rattle.gtd_hours_loose_tokens.specs.declared.token.LooseToken.{LooseToken}
use Rattle.gtd_hours_loose_tokens.specs.declared.token.TokenFault.{TokenFault}
use Rattle.gtd_hours_loose_tokens.specs.declared.token.TokenFault.TheVariants as fault
use Rattle.gtd_hours_loose.specs.Manners.{IsFaultIn, IsReadingIn}
use Rattle.gtd_hours_loose.specs.Mending.{mended as mended_tokens, parts_from, strict_text}
use Rattle.gtd_hours_loose.specs.Pairs.{pair_fault}
use Rattle.gtd_hours_loose.specs.Reading.{IsLooseReading, IsMendedFault, placed_fault, strict, mended, token, hours, token_fault}
use Rattle.gtd_hours_loose.specs.StrictForms.{IsLooseFault, IsStrictForm, pair, text_tokens, token as of_token}

-- ---- one strict form

one_list : (names : DayNames) (text : List ℕ) (xs ys : List LooseToken) → text_tokens names text ≡ Ok xs
    → text_tokens names text ≡ Ok ys → xs ≡ ys
one_list names text xs ys p q = cc

same_tokens : (names : DayNames) (text : List ℕ) (a b : StrictForm) (p : IsStrictForm names text a)
    (q : IsStrictForm names text b) → p.tokens ≡ q.tokens
same_tokens names text a b p q = one_list names text p.tokens q.tokens p.are q.are

same_text : (names : DayNames) (text : List ℕ) (a b : StrictForm) → IsStrictForm names text a → IsStrictForm names text b
    → a.text.items ≡ b.text.items
same_text names text a b p q =
    p.holds.text
    ∙ ap (λ (ts : List LooseToken). strict_text (mended_tokens text ts)) (same_tokens names text a b p q)
    ∙ sym q.holds.text

same_parts : (names : DayNames) (text : List ℕ) (a b : StrictForm) → IsStrictForm names text a → IsStrictForm names text b
    → a.parts.items ≡ b.parts.items
same_parts names text a b p q =
    p.holds.parts
    ∙ ap (λ (ts : List LooseToken). parts_from 0 (mended_tokens text ts)) (same_tokens names text a b p q)
    ∙ sym q.holds.parts

-- ---- one fault of the tokens

ok_or_err : (names : DayNames) (text : List ℕ) (xs : List LooseToken) (bad : TokenFault) → text_tokens names text ≡ Ok xs
    → text_tokens names text ≡ Err bad → ⊥
ok_or_err names text xs bad p q = cc

one_err : (names : DayNames) (text : List ℕ) (v w : TokenFault) → text_tokens names text ≡ Err v
    → text_tokens names text ≡ Err w → v ≡ w
one_err names text v w p q = cc

one_place : (xs ys : List LooseToken) (i j : ℕ) → xs ≡ ys → pair_fault xs ≡ Some i → pair_fault ys ≡ Some j → i ≡ j
one_place xs ys i j same p q = cc

no_place : (xs ys : List LooseToken) (i : ℕ) → xs ≡ ys → pair_fault xs ≡ Some i → pair_fault ys ≡ None → ⊥
no_place xs ys i same p q = cc

one_token_fault : (names : DayNames) (text : List ℕ) (v w : TokenFault) → IsLooseFault names text v → IsLooseFault names text w
    → v ≡ w
one_token_fault names text v w (of_token e) (of_token f) = one_err names text v w e f
one_token_fault names text v w (of_token e) (pair ys j f g is) = absurd (ok_or_err names text ys v f e)
one_token_fault names text v w (pair xs i e h is) (of_token f) = absurd (ok_or_err names text xs w e f)
one_token_fault names text v w (pair xs i e h is) (pair ys j f g so) =
    is ∙ ap (λ (n : ℕ). fault.Ambiguous n) (one_place xs ys i j (one_list names text xs ys e f) h g) ∙ sym so

-- a text with a fault of its tokens has no strict form
no_form : (names : DayNames) (text : List ℕ) (form : StrictForm) (w : TokenFault) → IsStrictForm names text form
    → IsLooseFault names text w → ⊥
no_form names text form w p (of_token e) = ok_or_err names text p.tokens w p.are e
no_form names text form w p (pair ys j e g is) =
    no_place ys p.tokens j (one_list names text ys p.tokens e p.are) g p.sure

-- ---- one reading

module _ (one_fault : (text : List ℕ) (one other : HoursFault) → IsFirstFault text one → IsFirstFault text other → one ≡ other)
    (divided : (text : List ℕ) (p : List Piece) (bad : HoursFault) → IsHoursText text p → IsFirstFault text bad → ⊥) where
  one_hours_fault : (names : DayNames) (text : List ℕ) (a b : StrictForm) (x y : HoursFault) → IsStrictForm names text a
      → IsStrictForm names text b → IsFirstFault a.text.items x → IsFirstFault b.text.items y
      → placed_fault x (length text) a.parts.items ≡ placed_fault y (length text) b.parts.items
  one_hours_fault names text a b x y p q f g =
      let same = one_fault b.text.items x y (subst (λ (l : List ℕ). IsFirstFault l x) (same_text names text a b p q) f) g in
      ap (λ (l : List Part). placed_fault x (length text) l) (same_parts names text a b p q)
      ∙ ap (λ (z : HoursFault). placed_fault z (length text) b.parts.items) same

  one_mended_fault : (names : DayNames) (text : List ℕ) (v w : LooseFault) → IsMendedFault names text v
      → IsMendedFault names text w → v ≡ w
  one_mended_fault names text v w (token x f is) (token y g so) =
      is ∙ ap token_fault (one_token_fault names text x y f g) ∙ sym so
  one_mended_fault names text v w (token x f is) (hours form y q g so) = absurd (no_form names text form x q f)
  one_mended_fault names text v w (hours form x p f is) (token y g so) = absurd (no_form names text form y p g)
  one_mended_fault names text v w (hours a x p f is) (hours b y q g so) =
      is ∙ one_hours_fault names text a b x y p q f g ∙ sym so

  pub one_fault_in : (m : Manner) (text : List ℕ) (v w : LooseFault) → IsFaultIn m text v → IsFaultIn m text w → v ≡ w
  one_fault_in manner.Strict text (loose.Hours x) (loose.Hours y) p q =
      ap (λ (z : HoursFault). loose.Hours z) (one_fault text x y p q)
  one_fault_in manner.Strict text (loose.Hours x) (loose.Ambiguous j) p q = absurd q
  one_fault_in manner.Strict text (loose.Ambiguous i) w p q = absurd p
  one_fault_in (manner.Loose names) text v w p q = one_mended_fault names text v w p.1 q.1

  no_mended_fault : (names : DayNames) (text : List ℕ) (form : StrictForm) (found : Hours) (bad : LooseFault)
      → IsStrictForm names text form → StandsFor form.text.items found → IsMendedFault names text bad → ⊥
  no_mended_fault names text form found bad p stands (token x f is) = no_form names text form x p f
  no_mended_fault names text form found bad p stands (hours b y q g is) =
      divided form.text.items stands.p y stands.is
      (subst (λ (l : List ℕ). IsFirstFault l y) (same_text names text b form q p) g)

  not_both : (names : DayNames) (text : List ℕ) (read : LooseHours) (bad : LooseFault) → IsLooseReading names text read
      → IsFaultIn (manner.Loose names) text bad → ⊥
  not_both names text read bad (strict none stands) f = f.0 (stands.p, stands.is)
  not_both names text read bad (mended form other e p stands) f =
      no_mended_fault names text form read.hours bad p stands f.1

  pub apart : (m : Manner) (text : List ℕ) (read : LooseHours) (bad : LooseFault) → IsReadingIn m text read
      → IsFaultIn m text bad → ⊥
  apart manner.Strict text read (loose.Hours x) p q = divided text p.0.p x p.0.is q
  apart manner.Strict text read (loose.Ambiguous i) p q = q
  apart (manner.Loose names) text read bad p q = not_both names text read bad p q

-- What is the same of all hours that a text stands for as it is written is the same of all that are read of it.
module _ (Same : Hours → Hours → Type 0) (one_meaning : (text : List ℕ) (one other : Hours) → StandsFor text one
    → StandsFor text other → Same one other) where
  one_loose : (names : DayNames) (text : List ℕ) (a b : LooseHours) → IsLooseReading names text a
      → IsLooseReading names text b → Same a.hours b.hours
  one_loose names text a b (strict none p) (strict nor q) = one_meaning text a.hours b.hours p q
  one_loose names text a b (strict none p) (mended form other e is q) = absurd (other (p.p, p.is))
  one_loose names text a b (mended form other e is p) (strict nor q) = absurd (other (q.p, q.is))
  one_loose names text a b (mended form other e is p) (mended also another f so q) =
      one_meaning also.text.items a.hours b.hours
      (subst (λ (l : List ℕ). StandsFor l a.hours) (same_text names text form also is so) p) q

  pub one_reading : (m : Manner) (text : List ℕ) (a b : LooseHours) → IsReadingIn m text a → IsReadingIn m text b
      → Same a.hours b.hours
  one_reading manner.Strict text a b p q = one_meaning text a.hours b.hours p.0 q.0
  one_reading (manner.Loose names) text a b p q = one_loose names text a b p q
