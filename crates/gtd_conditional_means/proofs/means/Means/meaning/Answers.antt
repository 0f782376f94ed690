-- What stands at the place.
use Rattle.std.proofs.Common.{◌≡◌, ◌∙◌, sym, ap, refl, List}
use Rattle.std.specs.Prelude.{Some, None, option_map, slice_get}
use Rattle.std.proofs.lemmas.Option.{slice_get_past, slice_get_read}
use Rattle.gtd_conditional_means.specs.declared.meaning.MeansRow.{MeansRow}
use Rattle.gtd_conditional_means.proofs.PlaceFacts.{none_said, said_at}
use Rattle.gtd_conditional_means.proofs.means.Means.meaning.Goals as goal

pub returns-in_default : goal.returns-in_default
returns-in_default c = record {
  said =
      none_said c.args.kind c.args.name.now c.args.self.now.rows.items
      (sym (c.args.self.now.placed c.args.kind c.args.name.now) ∙ sym c.of.ensures ∙ c.in_default.is);
}

pub returns-in-Some-get : goal.returns-in-Some-get
returns-in-Some-get c =
    let there : slice_get c.args.self.now.rows.items c.in-Some.place ≡ Some c.in-Some-get.row.now =
    ap (λ (rows : List MeansRow). slice_get rows c.in-Some.place) (sym c.as_slice.ensures.value)
    ∙ slice_get_read c.as_slice.result.now _ c.in-Some.place c.in-Some-get.row.now refl
    c.in-Some-get.ensures.lookup.3.0 c.in-Some-get.ensures.lookup.1 in
    record {
      said =
          said_at c.args.kind c.args.name.now c.args.self.now.rows.items c.in-Some.place
          (sym (c.args.self.now.placed c.args.kind c.args.name.now) ∙ sym c.of.ensures ∙ c.in-Some.is)
          ∙ ap (option_map (λ (r : MeansRow). r.meaning)) there;
    }

pub returns-in-None : goal.returns-in-None
returns-in-None c =
    let past : slice_get c.args.self.now.rows.items c.in-Some.place ≡ None =
    ap (λ (rows : List MeansRow). slice_get rows c.in-Some.place) (sym c.as_slice.ensures.value)
    ∙ slice_get_past c.as_slice.result.now c.in-Some.place c.in-None.ensures.lookup.3 in
    record {
      said =
          said_at c.args.kind c.args.name.now c.args.self.now.rows.items c.in-Some.place
          (sym (c.args.self.now.placed c.args.kind c.args.name.now) ∙ sym c.of.ensures ∙ c.in-Some.is)
          ∙ ap (option_map (λ (r : MeansRow). r.meaning)) past;
    }
