-- What C's handle owns.
use Rattle.std.specs.Prelude.{Option, None, Some}
use base.Fml.{Fml, ftrue}
use denote.RattleType.{RattleType}
use denote.RawPtr.{Ptr}
use mir.Syntax.{Ty}
use Rattle.std.specs.declared.alloc.Global.{Global}
use Rattle.std.specs.contracts.impls.GlobalAllocator.TheImpl.{ghosts}
use Rattle.std_alloc.specs.Box.Ownership.{box_owns}

-- the allocator
abbrev pub heap : Global
heap = record { memory = record { seal = tt } }

-- the right to free a block
abbrev pub token : Ty → Ptr → Fml
token = ghosts.dealloc_token heap

-- what is held at an address, if anything is
abbrev pub held_at : (R : RattleType) → Ptr → Option R.Denot → Fml
held_at R p None = ftrue
held_at R p (Some x) = box_owns token R p x
