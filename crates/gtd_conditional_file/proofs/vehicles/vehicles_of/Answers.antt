-- The types that a list leaves out are named, and are some.
use Rattle.gtd_conditional_rows.specs.declared.listing.Listing.TheVariants as listing
use Rattle.gtd_conditional_file.proofs.NumberFacts.{some_left_out}
use Rattle.gtd_conditional_file.proofs.vehicles.vehicles_of.Goals as goal

pub returns-in-Ok-codes_of : goal.returns-in-Ok-codes_of
returns-in-Ok-codes_of c =
    let rest = c.in-AllBut.ensures.listing in
    let numbers = c.in-Ok-codes_of.ensures.codes in
    record {
      listed = listing.AllBut c.in-AllBut.listed;
      listing = rest;
      written = numbers;
      same = λ t v. (
        (λ out. (c.in-AllBut.ensures.same t v).0 (λ has. out ((numbers.same t v).1 has))),
        (λ has x. (c.in-AllBut.ensures.same t v).1 has ((numbers.same t v).0 x)),
      );
      some_other = some_left_out c.args.types.now c.in-AllBut.listed c.in-Ok-codes_of.codes c.args.types.now.long
          c.args.types.now.no_type rest.1 rest.2 numbers;
    }
