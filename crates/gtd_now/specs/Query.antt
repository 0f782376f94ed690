-- What is asked about the elements of a file, and how it is printed.
use Rattle.std.specs.Prelude.{ℕ, ℤ, Bool, List}
use Rattle.gtd_now.specs.declared.asked.Asked.{Asked}
use Rattle.gtd_now.specs.declared.asked.Form.{Form}

-- the vehicle type, the second, whether closed elements alone are asked about, the elements that are (all, if none is named), the
-- form, and whether the rows that close an element are told with it
pub record Query : Type 0 where
  pub vehicle : ℕ
  pub second : ℤ
  pub closed : Bool
  pub wanted : List ℕ
  pub form : Form
  pub why : Bool

-- what a value asks
abbrev pub query_of : Asked → Query
query_of a = record {
  vehicle = a.vehicle;
  second = a.second.0;
  closed = a.closed;
  wanted = a.elements.now;
  form = a.form;
  why = a.why;
}
