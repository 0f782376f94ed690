-- Where a text has one reading and one first fault without options for times, it has one with them.
use Rattle.std.proofs.Common.{◌≡◌, ◌∙◌, sym, ap, subst, ℕ, false, List, length}
use Rattle.std.specs.Prelude.{if◌then◌else◌}
use Rattle.gtd_hours_known.specs.Reading.{IsKnownFault, KnownStandsFor}
use Rattle.gtd_hours_known.specs.declared.fault.KnownFault.{KnownFault}
use Rattle.gtd_hours_known.specs.declared.fault.KnownFault.TheVariants as of_text
use Rattle.gtd_hours_known.specs.declared.known.KnownHours.{KnownHours}
use Rattle.gtd_hours_times.specs.Tokens.{AreTimeTokens, IsTimeFault}
use Rattle.gtd_hours_times.specs.declared.times.TimeToken.{TimeToken}
use Rattle.gtd_hours_moments.specs.Parts.{parts_of}
use Rattle.gtd_hours_moments.specs.Places.{places_from, written_place}
use Rattle.gtd_hours_moments.specs.Plain.{plain_puts}
use Rattle.gtd_hours_moments.specs.Reading.{IsMomentText, IsPlainText}
use Rattle.gtd_hours_moments.specs.Told.{is_incomplete, told_there}
use Rattle.gtd_hours_moments.specs.declared.clocks.Clocks.{Clocks}
use Rattle.gtd_hours_moments.specs.declared.placed.Placed.{Placed}
use Rattle.gtd_hours_moments.specs.declared.placed.PlacedText.{PlacedText}
use Rattle.gtd_hours_moments.specs.declared.text.MomentText.{MomentText}
use Rattle.gtd_hours_options.specs.First.{checked_fault, first_of, has_times, needed, or_time, time_fault}
use Rattle.gtd_hours_options.specs.Misfits.{first_misfit, with_misfits}
use Rattle.gtd_hours_options.specs.Reading.{IsGiven, IsOptionsFault, IsOtherFault, IsPlainReading, IsTimesFault}
use Rattle.gtd_hours_options.specs.Reading.{StandsWith}
use Rattle.gtd_hours_options.specs.Told.{bad_token, placed_fault, told}
use Rattle.gtd_hours_options.specs.declared.fault.OptionsFault.{OptionsFault}
use Rattle.gtd_hours_options.specs.declared.fault.OptionsFault.TheVariants as wrong
use Rattle.gtd_hours_options.specs.declared.options.Options.{Options}
use Rattle.gtd_hours_options.proofs.OneRules.{not_both, the_one}
use Rattle.gtd_hours_options.proofs.Alike.{AreAllAlike, hours_of}

-- ---- a text with times

-- two lists of times that are read of the same text
record Same (m n : MomentText) : Type 0 where
  checked : m.checked.text.items ≡ n.checked.text.items
  places : m.checked.places.items ≡ n.checked.places.items
  told : m.told.items ≡ n.told.items
  forms : m.forms.items ≡ n.forms.items

told_same : (end : ℕ) (m n : MomentText) (bad : KnownFault) → Same m n → told end m bad ≡ told end n bad
told_same end m n (of_text.Hours bad) same = λ i.
    of_text.Hours (if is_incomplete bad.kind then record { kind = bad.kind; place = end }
    else told_there bad.kind (written_place bad.place end (same.places i)) (same.told i))
told_same end m n (of_text.Ambiguous place) same =
    ap (λ (l : List Placed). placed_fault end l (of_text.Ambiguous place)) same.places
told_same end m n (of_text.Holidays place) same =
    ap (λ (l : List Placed). placed_fault end l (of_text.Holidays place)) same.places
told_same end m n (of_text.Years place) same = ap (λ (l : List Placed). placed_fault end l (of_text.Years place)) same.places
told_same end m n (of_text.Uncovered place day) same =
    ap (λ (l : List Placed). placed_fault end l (of_text.Uncovered place day)) same.places
told_same end m n (of_text.Unknown place) same =
    ap (λ (l : List Placed). placed_fault end l (of_text.Unknown place)) same.places

checked_same : (end : ℕ) (m n : MomentText) (clocks : Clocks) (bad : KnownFault) → Same m n
    → checked_fault end m clocks bad ≡ checked_fault end n clocks bad
checked_same end m n clocks bad same =
    let tells = told_same end m n bad same in λ i. first_of (same.forms i) clocks (with_misfits (same.told i) (tells i))

time_same : (m n : MomentText) (clocks : Clocks) → Same m n → time_fault m clocks ≡ time_fault n clocks
time_same m n clocks same = λ i. or_time (first_misfit (same.told i)) (needed (same.forms i) clocks)

module _ (options : Options)
    (known_same : (text : List ℕ) (one other : KnownHours) → KnownStandsFor options.known text one
    → KnownStandsFor options.known text other → AreAllAlike one.hours.rules.items other.hours.rules.items)
    (known_fault : (text : List ℕ) (one other : KnownFault) → IsKnownFault options.known text one
    → IsKnownFault options.known text other → one ≡ other)
    (known_apart : (text : List ℕ) (read : KnownHours) (bad : KnownFault) → KnownStandsFor options.known text read
    → IsKnownFault options.known text bad → ⊥)
    (one_list : (text : List ℕ) (one other : List TimeToken) → AreTimeTokens text one → AreTimeTokens text other → one ≡ other)
    (one_place : (text : List ℕ) (one other : ℕ) → IsTimeFault text one → IsTimeFault text other → one ≡ other)
    (no_place : (text : List ℕ) (tokens : List TimeToken) (place : ℕ) → AreTimeTokens text tokens → IsTimeFault text place → ⊥)
    (one_checked : (text : List ℕ) (one other : MomentText) → IsMomentText text one → IsMomentText text other
    → one.checked.text.items ≡ other.checked.text.items)
    (one_places : (text : List ℕ) (one other : MomentText) → IsMomentText text one → IsMomentText text other
    → one.checked.places.items ≡ other.checked.places.items)
    (one_told : (text : List ℕ) (one other : MomentText) → IsMomentText text one → IsMomentText text other
    → one.told.items ≡ other.told.items)
    (one_forms : (text : List ℕ) (one other : MomentText) → IsMomentText text one → IsMomentText text other
    → one.forms.items ≡ other.forms.items)
    (one_plain : (clocks : Clocks) (text : List ℕ) (one other : PlacedText) → IsPlainText clocks text one
    → IsPlainText clocks text other → one.text.items ≡ other.text.items)
    (only_known : (text : List ℕ) (moments : MomentText) (read : KnownHours) → IsMomentText text moments
    → has_times moments ≡ false → StandsWith options text read → KnownStandsFor options.known text read)
    (only_fault : (text : List ℕ) (moments : MomentText) (bad : OptionsFault) → IsMomentText text moments
    → has_times moments ≡ false → IsOptionsFault options text bad
    → (first : KnownFault) × IsKnownFault options.known text first × (bad ≡ wrong.Known first)) where
  same_moments : (text : List ℕ) (m n : MomentText) → IsMomentText text m → IsMomentText text n → Same m n
  same_moments text m n p q = record {
    checked = one_checked text m n p q;
    places = one_places text m n p q;
    told = one_told text m n p q;
    forms = one_forms text m n p q;
  }

  plain_places : (text : List ℕ) (a b : PlacedText) → IsPlainText options.clocks text a → IsPlainText options.clocks text b
      → a.places.items ≡ b.places.items
  plain_places text a b p q =
      p.holds.places
      ∙ ap (λ (ts : List TimeToken). places_from 0 (plain_puts options.clocks text (parts_of ts)))
      (one_list text p.tokens q.tokens p.are q.are)
      ∙ sym q.holds.places

  no_checked : (text : List ℕ) (m n : MomentText) (read : KnownHours) (bad : KnownFault) → Same m n
      → KnownStandsFor options.known m.checked.text.items read → IsKnownFault options.known n.checked.text.items bad → ⊥
  no_checked text m n read bad same p q =
      known_apart n.checked.text.items read bad
      (subst (λ (t : List ℕ). KnownStandsFor options.known t read) same.checked p) q

  plain_fault : (text : List ℕ) (a b : PlacedText) (x y : KnownFault) → IsPlainText options.clocks text a
      → IsPlainText options.clocks text b → IsKnownFault options.known a.text.items x
      → IsKnownFault options.known b.text.items y → x ≡ y
  plain_fault text a b x y p q f g =
      known_fault b.text.items x y
      (subst (λ (t : List ℕ). IsKnownFault options.known t x) (one_plain options.clocks text a b p q) f) g

  one_times_fault : (text : List ℕ) (a b : OptionsFault) → IsTimesFault options text a → IsTimesFault options text b → a ≡ b
  one_times_fault text a b (IsTimesFault.token i p e) (IsTimesFault.token j q d) =
      e ∙ ap bad_token (one_place text i j p q) ∙ sym d
  one_times_fault text a b (IsTimesFault.token i p e) (IsTimesFault.checked n y h g d) =
      absurd (no_place text h.is.tokens i h.is.are p)
  one_times_fault text a b (IsTimesFault.token i p e) (IsTimesFault.time n h r d) =
      absurd (no_place text h.is.tokens i h.is.are p)
  one_times_fault text a b (IsTimesFault.token i p e) (IsTimesFault.plain n v y h w g d) =
      absurd (no_place text h.has.is.tokens i h.has.is.are p)
  one_times_fault text a b (IsTimesFault.checked m x h f e) (IsTimesFault.token j q d) =
      absurd (no_place text h.is.tokens j h.is.are q)
  one_times_fault text a b (IsTimesFault.checked m x h f e) (IsTimesFault.checked n y k g d) =
      let same = same_moments text m n h.is k.is in
      let one = known_fault n.checked.text.items x y
      (subst (λ (t : List ℕ). IsKnownFault options.known t x) same.checked f) g in
      e
      ∙ ap (checked_fault (length text) m options.clocks) one
      ∙ checked_same (length text) m n options.clocks y same
      ∙ sym d
  one_times_fault text a b (IsTimesFault.checked m x h f e) (IsTimesFault.time n k r d) =
      absurd (no_checked text n m r.0 x (same_moments text n m k.is h.is) r.1 f)
  one_times_fault text a b (IsTimesFault.checked m x h f e) (IsTimesFault.plain n v y k w g d) =
      absurd (no_checked text n m k.checked.0 x (same_moments text n m k.has.is h.is) k.checked.1 f)
  one_times_fault text a b (IsTimesFault.time m h r e) (IsTimesFault.token j q d) =
      absurd (no_place text h.is.tokens j h.is.are q)
  one_times_fault text a b (IsTimesFault.time m h r e) (IsTimesFault.checked n y k g d) =
      absurd (no_checked text m n r.0 y (same_moments text m n h.is k.is) r.1 g)
  one_times_fault text a b (IsTimesFault.time m h r e) (IsTimesFault.time n k s d) =
      the_one (time_fault m options.clocks) (time_fault n options.clocks) a b
      (time_same m n options.clocks (same_moments text m n h.is k.is)) e d
  one_times_fault text a b (IsTimesFault.time m h r e) (IsTimesFault.plain n v y k w g d) =
      absurd (not_both (time_fault n options.clocks) (time_fault m options.clocks) a
      (time_same n m options.clocks (same_moments text n m k.has.is h.is)) k.given e)
  one_times_fault text a b (IsTimesFault.plain m u x h v f e) (IsTimesFault.token j q d) =
      absurd (no_place text h.has.is.tokens j h.has.is.are q)
  one_times_fault text a b (IsTimesFault.plain m u x h v f e) (IsTimesFault.checked n y k g d) =
      absurd (no_checked text m n h.checked.0 y (same_moments text m n h.has.is k.is) h.checked.1 g)
  one_times_fault text a b (IsTimesFault.plain m u x h v f e) (IsTimesFault.time n k s d) =
      absurd (not_both (time_fault m options.clocks) (time_fault n options.clocks) b
      (time_same m n options.clocks (same_moments text m n h.has.is k.is)) h.given d)
  one_times_fault text a b (IsTimesFault.plain m u x h v f e) (IsTimesFault.plain n w y k z g d) =
      e
      ∙ ap (λ (bad : KnownFault). wrong.Known (placed_fault (length text) u.places.items bad)) (plain_fault text u w x y v z f g)
      ∙ ap (λ (l : List Placed). wrong.Known (placed_fault (length text) l y)) (plain_places text u w v z)
      ∙ sym d

  -- ---- any text

  pub one_options_fault : (text : List ℕ) (a b : OptionsFault) → IsOptionsFault options text a → IsOptionsFault options text b
      → a ≡ b
  one_options_fault text a b (x, f, IsOtherFault.without m is none e) q =
      let other = only_fault text m b is none q in
      e ∙ ap (λ (bad : KnownFault). wrong.Known bad) (known_fault text x other.0 f other.1) ∙ sym other.2
  one_options_fault text a b (x, f, IsOtherFault.within p) (y, g, IsOtherFault.without n is none d) =
      let other = only_fault text n a is none (x, f, IsOtherFault.within p) in
      other.2 ∙ ap (λ (bad : KnownFault). wrong.Known bad) (known_fault text other.0 y other.1 g) ∙ sym d
  one_options_fault text a b (x, f, IsOtherFault.within p) (y, g, IsOtherFault.within q) = one_times_fault text a b p q

  timed_apart : (text : List ℕ) (m : MomentText) (read : KnownHours) (bad : OptionsFault) → IsGiven options text m
      → IsPlainReading options text read → IsTimesFault options text bad → ⊥
  timed_apart text m read bad h r (IsTimesFault.token j q d) = no_place text h.has.is.tokens j h.has.is.are q
  timed_apart text m read bad h r (IsTimesFault.checked n y k g d) =
      no_checked text m n h.checked.0 y (same_moments text m n h.has.is k.is) h.checked.1 g
  timed_apart text m read bad h r (IsTimesFault.time n k s d) =
      not_both (time_fault m options.clocks) (time_fault n options.clocks) bad
      (time_same m n options.clocks (same_moments text m n h.has.is k.is)) h.given d
  timed_apart text m read bad h r (IsTimesFault.plain n w y k z g d) =
      known_apart w.text.items r.own y
      (subst (λ (t : List ℕ). KnownStandsFor options.known t r.own) (one_plain options.clocks text r.plain w r.is z) r.stands) g

  pub options_apart : (text : List ℕ) (read : KnownHours) (bad : OptionsFault) → StandsWith options text read
      → IsOptionsFault options text bad → ⊥
  options_apart text read bad (StandsWith.known stands) q = known_apart text read q.0 stands q.1
  options_apart text read bad (StandsWith.timed x m f h r) (y, g, IsOtherFault.without n is none d) =
      known_apart text read y (only_known text n read is none (StandsWith.timed x m f h r)) g
  options_apart text read bad (StandsWith.timed x m f h r) (y, g, IsOtherFault.within q) = timed_apart text m read bad h r q

  pub options_same : (text : List ℕ) (one other : KnownHours) → StandsWith options text one → StandsWith options text other
      → AreAllAlike one.hours.rules.items other.hours.rules.items
  options_same text one other (StandsWith.known p) (StandsWith.known q) = known_same text one other p q
  options_same text one other (StandsWith.known p) (StandsWith.timed y n g k s) = absurd (known_apart text one y p g)
  options_same text one other (StandsWith.timed x m f h r) (StandsWith.known q) = absurd (known_apart text other x q f)
  options_same text one other (StandsWith.timed x m f h r) (StandsWith.timed y n g k s) =
      hours_of one other r.own s.own r.placed.hours s.placed.hours
      (known_same s.plain.text.items r.own s.own
      (subst (λ (t : List ℕ). KnownStandsFor options.known t r.own) (one_plain options.clocks text r.plain s.plain r.is s.is)
      r.stands) s.stands)
