-- Which calls of a fake are to fail: those whose numbers, from 0 on, it was given.
use Rattle.std.specs.Prelude.{ℕ, ◌+◌, min, ◌==◌, Bool, List}
use Rattle.std.specs.List.{list_any}
use Rattle.eeprom.specs.declared.plan.Calls.{Calls}
use Rattle.eeprom.specs.declared.plan.FaultPlan.{FaultPlan}

-- the calls of one kind: the numbers of those that fail, and how many were made
pub record Planned : Type 0 where
  pub failing : List ℕ
  pub made : ℕ

-- those that a fake has
abbrev pub calls_of : Calls → Planned
calls_of calls = record { failing = calls.failing.items; made = calls.made }

-- none was made
abbrev pub none_made : List ℕ → Planned
none_made failing = record { failing = failing; made = 0 }

-- one more was made; the count stands still at the last value of a usize
abbrev pub next_made : Planned → Planned
next_made calls = record calls { made = min (calls.made + 1) 18446744073709551615 }

-- the number of the next call is one of those that fail
abbrev pub is_next_failing : Planned → Bool
is_next_failing calls = list_any (λ number. number == calls.made) calls.failing

-- the calls of each kind of a bench, and the octet that a failing write leaves
pub record Plan : Type 0 where
  pub reads : Planned
  pub writes : Planned
  pub gives : Planned
  pub fill : ℕ

-- no call was made yet
abbrev pub plan_from : FaultPlan → Plan
plan_from plan = record { reads = none_made plan.reads.items; writes = none_made plan.writes.items; gives = none_made plan.gives.items; fill = plan.fill }

-- one read more; one write more; one piece of output more
abbrev pub after_read : Plan → Plan
after_read plan = record plan { reads = next_made plan.reads }

abbrev pub after_write : Plan → Plan
after_write plan = record plan { writes = next_made plan.writes }

abbrev pub after_give : Plan → Plan
after_give plan = record plan { gives = next_made plan.gives }
