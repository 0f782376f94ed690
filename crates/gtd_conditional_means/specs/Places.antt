-- Where the names of a table stand among its rows, as it is kept.
use Rattle.std.specs.Prelude.{◌≡◌, ℕ, List, Option, Vec}
use Rattle.std.specs.BTreeMap.{BTreeMap, get_by}
use Rattle.std.specs.Cmp.Lexicographic.{slice_cmp}
use Rattle.std.specs.Ordering.{nat_cmp}
use Rattle.std.specs.declared.alloc.Global.{Global}
use Rattle.gtd_conditional_means.specs.Meanings.{place_of}
use Rattle.gtd_conditional_means.specs.declared.meaning.MeansKind.{MeansKind}
use Rattle.gtd_conditional_means.specs.declared.meaning.MeansKind.TheVariants as kind
use Rattle.gtd_conditional_means.specs.declared.meaning.MeansRow.{MeansRow}
use Rattle.gtd_conditional_means.specs.declared.places.Places.{Places}

-- a name with the number of rows before it
abbrev pub NamePlaces : Type 0
NamePlaces = BTreeMap (Vec ℕ Global) ℕ

-- the place that is kept of a name
abbrev pub place_in : NamePlaces → List ℕ → Option ℕ
place_in places name = get_by (λ key. slice_cmp nat_cmp name key.items) places

-- those of a kind
abbrev pub places_of : MeansKind → Places → NamePlaces
places_of kind.Mode places = places.modes
places_of kind.Condition places = places.conditions
places_of kind.Value places = places.values
places_of kind.Ignore places = places.ignored

-- Of each name of the kind, or of every kind, the place of the first row is kept.
abbrev pub AreOfKind : MeansKind → List MeansRow → NamePlaces → Type 0
AreOfKind kind rows places = (name : List ℕ) → place_in places name ≡ place_of 0 kind name rows

abbrev pub AreOf : List MeansRow → Places → Type 0
AreOf rows places = (kind : MeansKind) → AreOfKind kind rows (places_of kind places)
