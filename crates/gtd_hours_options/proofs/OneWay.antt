-- Where a text has one reading and one first fault as it is written, it has one in each manner.
use Rattle.std.proofs.Common.{◌≡◌, ◌∙◌, sym, ap, subst, ℕ, List, length}
use Rattle.std.specs.Prelude.{Ok, Err}
use Rattle.gtd_hours_known.specs.Manners.{token_fault}
use Rattle.gtd_hours_known.specs.declared.known.KnownHours.{KnownHours}
use Rattle.gtd_hours_loose.specs.Mending.{mended as mended_tokens, parts_from, strict_text}
use Rattle.gtd_hours_loose.specs.Pairs.{pair_fault}
use Rattle.gtd_hours_loose.specs.StrictForms.{IsLooseFault, IsStrictForm, text_tokens}
use Rattle.gtd_hours_loose.specs.declared.manner.Manner.{Manner}
use Rattle.gtd_hours_loose.specs.declared.manner.Manner.TheVariants as manner
use Rattle.gtd_hours_loose.specs.declared.strict.Part.{Part}
use Rattle.gtd_hours_loose.specs.declared.strict.StrictForm.{StrictForm}
use Rattle.gtd_hours_loose_tokens.specs.declared.token.DayNames.{DayNames}
use Rattle.gtd_hours_loose_tokens.specs.declared.token.LooseToken.{LooseToken}
use Rattle.gtd_hours_loose_tokens.specs.declared.token.TokenFault.{TokenFault}
use Rattle.gtd_hours_loose_tokens.specs.declared.token.TokenFault.TheVariants as token
use Rattle.gtd_hours_options.specs.Manners.{IsLooseReading, IsMendedFault, IsReadFaultWithIn, IsReadingWithIn, placed_fault}
use Rattle.gtd_hours_options.specs.Reading.{IsOptionsFault, StandsWith}
use Rattle.gtd_hours_options.specs.declared.fault.OptionsFault.{OptionsFault}
use Rattle.gtd_hours_options.specs.declared.fault.OptionsFault.TheVariants as wrong
use Rattle.gtd_hours_options.specs.declared.fault.OptionsReadFault.TheVariants as reading
use Rattle.gtd_hours_options.specs.declared.options.Options.{Options}
use Rattle.gtd_hours_options.specs.Readings.{AreReadInOneWay}
use Rattle.gtd_hours_options.proofs.OneRules.{not_both, the_one}
use Rattle.gtd_hours_options.proofs.Alike.{AreAllAlike, hours_of, same_cost, same_opening}

-- ---- one strict form

one_list : (names : DayNames) (text : List ℕ) (xs ys : List LooseToken) → text_tokens names text ≡ Ok xs
    → text_tokens names text ≡ Ok ys → xs ≡ ys
one_list names text xs ys p q = cc

same_tokens : (names : DayNames) (text : List ℕ) (a b : StrictForm) (p : IsStrictForm names text a)
    (q : IsStrictForm names text b) → p.tokens ≡ q.tokens
same_tokens names text a b p q = one_list names text p.tokens q.tokens p.are q.are

pub same_form_text : (names : DayNames) (text : List ℕ) (a b : StrictForm) → IsStrictForm names text a → IsStrictForm names text b
    → a.text.items ≡ b.text.items
same_form_text names text a b p q =
    p.holds.text
    ∙ ap (λ (ts : List LooseToken). strict_text (mended_tokens text ts)) (same_tokens names text a b p q)
    ∙ sym q.holds.text

pub same_parts : (names : DayNames) (text : List ℕ) (a b : StrictForm) → IsStrictForm names text a → IsStrictForm names text b
    → a.parts.items ≡ b.parts.items
same_parts names text a b p q =
    p.holds.parts
    ∙ ap (λ (ts : List LooseToken). parts_from 0 (mended_tokens text ts)) (same_tokens names text a b p q)
    ∙ sym q.holds.parts

ok_or_err : (names : DayNames) (text : List ℕ) (xs : List LooseToken) (bad : TokenFault) → text_tokens names text ≡ Ok xs
    → text_tokens names text ≡ Err bad → ⊥
ok_or_err names text xs bad p q = cc

one_err : (names : DayNames) (text : List ℕ) (v w : TokenFault) → text_tokens names text ≡ Err v
    → text_tokens names text ≡ Err w → v ≡ w
one_err names text v w p q = cc

pub one_token_fault : (names : DayNames) (text : List ℕ) (v w : TokenFault) → IsLooseFault names text v
    → IsLooseFault names text w → v ≡ w
one_token_fault names text v w (IsLooseFault.token e) (IsLooseFault.token f) = one_err names text v w e f
one_token_fault names text v w (IsLooseFault.token e) (IsLooseFault.pair ys j f g is) = absurd (ok_or_err names text ys v f e)
one_token_fault names text v w (IsLooseFault.pair xs i e h is) (IsLooseFault.token f) = absurd (ok_or_err names text xs w e f)
one_token_fault names text v w (IsLooseFault.pair xs i e h is) (IsLooseFault.pair ys j f g so) =
    let same = ap pair_fault (one_list names text xs ys e f) in
    is ∙ ap (λ (n : ℕ). token.Ambiguous n) (the_one (pair_fault xs) (pair_fault ys) i j same h g) ∙ sym so

pub no_form : (names : DayNames) (text : List ℕ) (form : StrictForm) (w : TokenFault) → IsStrictForm names text form
    → IsLooseFault names text w → ⊥
no_form names text form w p (IsLooseFault.token e) = ok_or_err names text p.tokens w p.are e
no_form names text form w p (IsLooseFault.pair ys j e g is) =
    not_both (pair_fault p.tokens) (pair_fault ys) j (ap pair_fault (one_list names text p.tokens ys p.are e)) p.sure g

module _ (options : Options)
    (same : (text : List ℕ) (one other : KnownHours) → StandsWith options text one → StandsWith options text other
    → AreAllAlike one.hours.rules.items other.hours.rules.items)
    (one_fault : (text : List ℕ) (one other : OptionsFault) → IsOptionsFault options text one
    → IsOptionsFault options text other → one ≡ other)
    (apart : (text : List ℕ) (read : KnownHours) (bad : OptionsFault) → StandsWith options text read
    → IsOptionsFault options text bad → ⊥) where
  -- ---- faults

  one_mended_fault : (names : DayNames) (text : List ℕ) (a b : OptionsFault) → IsMendedFault names options text a
      → IsMendedFault names options text b → a ≡ b
  one_mended_fault names text a b (IsMendedFault.token v p e) (IsMendedFault.token w q d) =
      e ∙ ap (λ (bad : TokenFault). wrong.Known (token_fault bad)) (one_token_fault names text v w p q) ∙ sym d
  one_mended_fault names text a b (IsMendedFault.token v p e) (IsMendedFault.form g y q k d) = absurd (no_form names text g v q p)
  one_mended_fault names text a b (IsMendedFault.form f x p k e) (IsMendedFault.token w q d) = absurd (no_form names text f w p q)
  one_mended_fault names text a b (IsMendedFault.form f x p k e) (IsMendedFault.form g y q l d) =
      let one = one_fault g.text.items x y
      (subst (λ (t : List ℕ). IsOptionsFault options t x) (same_form_text names text f g p q) k) l in
      e
      ∙ ap (placed_fault (length text) f.parts.items) one
      ∙ ap (λ (parts : List Part). placed_fault (length text) parts y) (same_parts names text f g p q)
      ∙ sym d

  one_fault_in : (m : Manner) (text : List ℕ) (a b : OptionsFault) → IsReadFaultWithIn m options text (reading.Fault a)
      → IsReadFaultWithIn m options text (reading.Fault b) → a ≡ b
  one_fault_in manner.Strict text a b p q = one_fault text a b p q
  one_fault_in (manner.Loose names) text a b p q = one_mended_fault names text a b p.2 q.2

  -- ---- hours and faults

  mended_apart : (names : DayNames) (text : List ℕ) (form : StrictForm) (own : KnownHours) (bad : OptionsFault)
      → IsStrictForm names text form → StandsWith options form.text.items own → IsMendedFault names options text bad → ⊥
  mended_apart names text form own bad s k (IsMendedFault.token w q d) = no_form names text form w s q
  mended_apart names text form own bad s k (IsMendedFault.form g y q l d) =
      apart form.text.items own y k
      (subst (λ (t : List ℕ). IsOptionsFault options t y) (same_form_text names text g form q s) l)

  loose_apart : (names : DayNames) (text : List ℕ) (read : KnownHours) (first bad : OptionsFault)
      → IsLooseReading names options text read → IsOptionsFault options text first → IsMendedFault names options text bad → ⊥
  loose_apart names text read first bad (IsLooseReading.written e s) f q = apart text read first s f
  loose_apart names text read first bad (IsLooseReading.mended x form own n s k placed) f q =
      mended_apart names text form own bad s k q

  apart_in : (m : Manner) (text : List ℕ) (read : KnownHours) (bad : OptionsFault) → IsReadingWithIn m options text read
      → IsReadFaultWithIn m options text (reading.Fault bad) → ⊥
  apart_in manner.Strict text read bad p q = apart text read bad p.0 q
  apart_in (manner.Loose names) text read bad p q = loose_apart names text read q.0 bad p q.1 q.2

  -- ---- hours

  loose_same : (names : DayNames) (text : List ℕ) (one other : KnownHours) → IsLooseReading names options text one
      → IsLooseReading names options text other → AreAllAlike one.hours.rules.items other.hours.rules.items
  loose_same names text one other (IsLooseReading.written e s) (IsLooseReading.written d t) = same text one other s t
  loose_same names text one other (IsLooseReading.written e s) (IsLooseReading.mended y form own g t k placed) =
      absurd (apart text one y s g)
  loose_same names text one other (IsLooseReading.mended x form own f s k placed) (IsLooseReading.written d t) =
      absurd (apart text other x t f)
  loose_same names text one other (IsLooseReading.mended x form a f s k p) (IsLooseReading.mended y also b g t l q) =
      hours_of one other a b p.hours q.hours
      (same also.text.items a b
      (subst (λ (u : List ℕ). StandsWith options u a) (same_form_text names text form also s t) k) l)

  same_in : (m : Manner) (text : List ℕ) (one other : KnownHours) → IsReadingWithIn m options text one
      → IsReadingWithIn m options text other → AreAllAlike one.hours.rules.items other.hours.rules.items
  same_in manner.Strict text one other p q = same text one other p.0 q.0
  same_in (manner.Loose names) text one other p q = loose_same names text one other p q

  pub one_way : (m : Manner) → AreReadInOneWay (record { manner = m; options = options })
  one_way m = record {
    seconds = λ text one other p q. same_opening one.hours other.hours (same_in m text one other p q);
    cost = λ text one other p q. same_cost one.hours other.hours (same_in m text one other p q);
    fault = one_fault_in m;
    apart = apart_in m;
  }
