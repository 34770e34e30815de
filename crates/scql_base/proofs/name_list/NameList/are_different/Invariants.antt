use Rattle.std.proofs.Common.{◌≡◌, length}
use Rattle.scql_base.specs.Different as different
use Rattle.scql_base.proofs.name_list.NameList.are_different.Given as goal

abbrev pub invariant-loop-rest : goal.invariant-loop-rest
invariant-loop-rest l = different.are_different l.rest ≡ different.are_different l.fn.self

abbrev pub decreases-loop-rest : goal.decreases-loop-rest
decreases-loop-rest l = length l.rest
