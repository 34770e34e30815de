-- A machine without the records that its transaction touched is valid.
use Rattle.std.proofs.Common.{ℕ, Option, Some, None}
use Rattle.std.specs.Prelude.{IfSome}
use Rattle.scql_model.specs.Machine.{Machine, Transaction, base_of}
use Rattle.scql_model.specs.Sessions.{reading_of}
use Rattle.scql_model.specs.Touched.{without_touched}
use Rattle.scql_model.specs.ValidMachine.{IsReadingOf, IsValidMachine, IsValidWork}

pub IsValidMachine-without_touched : (m : Machine) → IsValidMachine m → IsValidMachine (without_touched m)
IsValidMachine-without_touched m valid = go m.transaction valid.transaction valid.readings
  where
    go : (transaction : Option Transaction) → IfSome transaction (IsValidWork m) → ((channel : ℕ) → IsReadingOf (base_of transaction m.committed channel) (reading_of m channel))
        → IsValidMachine (without_touched (record m { transaction = transaction }))
    go None work readings = record { committed = valid.committed; presented = valid.presented; transaction = tt; readings = readings; basic = valid.basic }
    go (Some t) work readings = record {
      committed = valid.committed;
      presented = valid.presented;
      transaction = record { working = work.working; limit = work.limit; follows = work.follows; presented = work.presented };
      readings = readings;
      basic = valid.basic;
    }
