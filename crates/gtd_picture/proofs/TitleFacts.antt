-- Where the title stands in a picture.
use Rattle.std.proofs.Common.{◌≡◌, ◌∙◌, ap, ◌<◌, ℕ, ℤ, List, [], ◌∷◌, ◌++◌, append_assoc}
use Rattle.std.specs.Prelude.{All, codes, flat_map, pos}
use Rattle.gtd_calendar.specs.Calendar.{first_day, year_length}
use Rattle.gtd_picture.specs.Picture.{IsPicture, dark_text, day_lines, foot_text, head_text, hours_text, key_text, light_text}
use Rattle.gtd_picture.specs.Picture.{opening_text, plot_text}
use Rattle.gtd_picture.specs.Titles.{IsTitled}
use Rattle.gtd_picture.specs.Words.{escape, title_text}
use Rattle.gtd_picture.proofs.WordFacts.{words_read}

-- what follows the title in a style
abbrev style_rest : List ℕ
style_rest =
    codes "<style>" ++ light_text ++ dark_text
    ++ codes "</style><path class='page' d='M0 0h1242v600h-1242z'/><text x='72' y='44' font-size='18'>"

abbrev shown : List ℕ → List ℕ
shown title = title_text title (codes "</text><g text-anchor='end'>")

abbrev after_title : List ℕ → List ℕ → List ℕ → ℕ → List ℕ
after_title title inside outside days =
    style_rest ++ (shown title ++ (hours_text 5 ++ (key_text inside outside ++ plot_text days)))

head_is : (title inside outside : List ℕ) (days : ℕ) → head_text title inside outside days
    ≡ opening_text ++ flat_map escape title ++ codes "</title>" ++ after_title title inside outside days
head_is title inside outside days =
    apart opening_text (flat_map escape title) (codes "</title>") style_rest (shown title) (hours_text 5)
    (key_text inside outside) (plot_text days)
  where
    apart : (a b c d e f g h : List ℕ) → (a ++ (b ++ (c ++ d)) ++ e) ++ f ++ g ++ h ≡ a ++ b ++ c ++ (d ++ (e ++ (f ++ (g ++ h))))
    apart a b c d e f g h = simp append_assoc

pub titled : (set : ℤ → Type 0) (title inside outside : List ℕ) (year : ℕ) (lines : List (List ℕ))
    → All (λ (b : ℕ). b < 256) title → IsPicture set title inside outside year lines → IsTitled lines title
titled set title inside outside year lines bytes is =
    let others = day_lines (first_day (pos year)) 0 is.columns ++ (foot_text (pos year) ∷ []) in
    let head = head_is title inside outside (year_length (pos year)) in
    record {
      text = flat_map escape title;
      read = words_read title bytes;
      rest = after_title title inside outside (year_length (pos year));
      others = others;
      whole = is.whole ∙ ap (λ (l : List ℕ). l ∷ others) head;
    }
