-- The machine without the records that its open transaction touched: the octets that are written go by them, and no answer does.
use Rattle.std.specs.Prelude.{[], option_map}
use Rattle.scql_model.specs.Machine.{Machine, Transaction}

-- nothing is touched; all else is as it was
abbrev pub without_touched : Machine → Machine
without_touched m = record m { transaction = option_map (λ (t : Transaction). record t { touched = [] }) m.transaction }
