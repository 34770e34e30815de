-- Which machines a plain machine stands for.
use Rattle.std.specs.Prelude.{◌≡◌}
use Rattle.scql_model.specs.Machine.{Machine}
use Rattle.scql_model.specs.Touched.{without_touched}

-- those that are as it is seen, but for the records that an open transaction touched: a plain machine keeps none of them
abbrev pub StandsFor : Machine → Machine → Type 0
StandsFor seen m = without_touched m ≡ seen
