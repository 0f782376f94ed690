-- Texts that are made piece by piece.
use Rattle.std.proofs.Common.{◌≡◌, ◌∙◌, sym, ap, refl, ◌+◌, ◌-◌, ◌*◌, ℕ, List, [], ◌++◌, append_assoc, add-one, arith}
use Rattle.std.specs.Prelude.{ℤ}
use Rattle.std.proofs.lemmas.List.{append-nil}
use Rattle.gtd_calendar.specs.Calendar.{days_of_months}
use Rattle.gtd_picture.specs.Picture.{hour_text, hours_text, month_text, months_text, plot_end_text}

-- one piece, and then another
pub then : (a b c x y : List ℕ) → b ≡ a ++ x → c ≡ b ++ y → c ≡ a ++ (x ++ y)
then a b c x y p q = q ∙ ap (λ (l : List ℕ). l ++ y) p ∙ append_assoc a x y

pub three : (a b c d x y z : List ℕ) → b ≡ a ++ x → c ≡ b ++ y → d ≡ c ++ z → d ≡ a ++ (x ++ y ++ z)
three a b c d x y z p q r = then a c d (x ++ y) z (then a b c x y p q) r

pub five : (a b c d e f v w x y z : List ℕ) → b ≡ a ++ v → c ≡ b ++ w → d ≡ c ++ x → e ≡ d ++ y → f ≡ e ++ z
    → f ≡ a ++ (v ++ w ++ x ++ y ++ z)
five a b c d e f v w x y z p q r s t = three a d e f (v ++ w ++ x) y z (three a b c d v w x p q r) s t

-- four pieces, and nothing before them
pub four_alone : (a b c d e w x y z : List ℕ) → a ≡ [] → b ≡ a ++ w → c ≡ b ++ x → d ≡ c ++ y → e ≡ d ++ z → e ≡ w ++ x ++ y ++ z
four_alone a b c d e w x y z none p q r s =
    s ∙ ap (λ (l : List ℕ). l ++ z) (r ∙ ap (λ (l : List ℕ). l ++ y) (q ∙ ap (λ (l : List ℕ). l ++ x) (p
    ∙ ap (λ (l : List ℕ). l ++ w) none)))

-- one piece, and then three
pub then_three : (a b c x y z : List ℕ) → b ≡ a → c ≡ b ++ (x ++ y ++ z) → c ≡ a ++ x ++ y ++ z
then_three a b c x y z p q =
    q ∙ ap (λ (l : List ℕ). l ++ (x ++ y ++ z)) p ∙ sym (append_assoc a (x ++ y) z)
    ∙ ap (λ (l : List ℕ). l ++ z) (sym (append_assoc a x y))

-- a piece in two
pub cut_piece : (a b c f d e : List ℕ) → b ≡ a ++ (f ++ d) → c ≡ b ++ e → c ≡ a ++ (f ++ (d ++ e))
cut_piece a b c f d e p q =
    q ∙ ap (λ (l : List ℕ). l ++ e) p ∙ append_assoc a (f ++ d) e ∙ ap (λ (l : List ℕ). a ++ l) (append_assoc f d e)

hours_more : (n : ℕ) → hours_text (n + 1) ≡ hours_text n ++ hour_text (6 * n)
unfolding hours_text
hours_more n = rw (add-one n) refl

-- no hour yet
pub no_hours : (a : List ℕ) → a ≡ a ++ hours_text 0
unfolding hours_text
no_hours a = sym (append-nil a)

-- one hour more
pub one_hour : (a line more : List ℕ) (n hour : ℕ) → line ≡ a ++ hours_text n → hour ≡ 6 * n → more ≡ line ++ hour_text hour
    → more ≡ a ++ hours_text (n + 1)
one_hour a line more n hour is at made =
    then a line more (hours_text n) (hour_text (6 * n)) is (made ∙ ap (λ (h : ℕ). line ++ hour_text h) at)
    ∙ ap (λ (l : List ℕ). a ++ l) (sym (hours_more n))

months_none : (y : ℤ) → months_text y 0 ≡ []
unfolding months_text
months_none y = refl

months_more : (y : ℤ) (n : ℕ) → months_text y (n + 1) ≡ months_text y n ++ month_text (n + 1) (days_of_months y n)
unfolding months_text
months_more y n = rw (add-one n) refl

-- no month yet
pub foot_none : (y : ℤ) (a line : List ℕ) → a ≡ [] → line ≡ a ++ plot_end_text → line ≡ plot_end_text ++ months_text y 0
foot_none y a line none is =
    is ∙ ap (λ (l : List ℕ). l ++ plot_end_text) none ∙ sym (append-nil plot_end_text)
    ∙ ap (λ (l : List ℕ). plot_end_text ++ l) (sym (months_none y))

-- one month more
pub foot_more : (y : ℤ) (n place : ℕ) (line more : List ℕ) → line ≡ plot_end_text ++ months_text y n
    → place ≡ days_of_months y (n + 1 - 1) → more ≡ line ++ month_text (n + 1) place → more ≡ plot_end_text
    ++ months_text y (n + 1)
foot_more y n place line more is at made =
    let same : n + 1 - 1 ≡ n = omega arith in
    let there : place ≡ days_of_months y n = at ∙ ap (days_of_months y) same in
    then plot_end_text line more (months_text y n) (month_text (n + 1) (days_of_months y n)) is
    (made ∙ ap (λ (k : ℕ). line ++ month_text (n + 1) k) there)
    ∙ ap (λ (l : List ℕ). plot_end_text ++ l) (sym (months_more y n))
