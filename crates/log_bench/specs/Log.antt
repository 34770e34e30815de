-- The writes of a log, and its room.
use Rattle.std.specs.Prelude.{ℕ, ◌-◌, min, List, map, slice_range, vec_len, vec_capacity}
use Rattle.log_bench.specs.Writes.{Write}
use Rattle.log_bench.specs.declared.log.Entry.{Entry}
use Rattle.log_bench.specs.declared.log.Log.{Log}

-- the write of an entry, whose octets are among these
abbrev pub write_of : List ℕ → List ℕ → Entry → Write
write_of octets replaced e = record { at = e.at; octets = slice_range octets e.from e.to; replaced = slice_range replaced e.from e.to }

abbrev pub writes_in : Log → List Write
writes_in log = map (write_of log.octets.items log.replaced.items) log.entries.items

-- how many more writes, and octets of them, find room without more memory
abbrev pub room_for_writes : Log → ℕ
room_for_writes log = vec_capacity log.entries - vec_len log.entries

abbrev pub room_for_octets : Log → ℕ
room_for_octets log = min (vec_capacity log.octets - vec_len log.octets) (vec_capacity log.replaced - vec_len log.replaced)
