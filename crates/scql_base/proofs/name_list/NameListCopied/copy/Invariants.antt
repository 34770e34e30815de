-- So many are copied as were passed.
use Rattle.std.proofs.Common.{◌≡◌, ◌≤◌, length, take}
use Rattle.scql_base.proofs.name_list.NameListCopied.copy.Given as goal

abbrev pub invariant-loop-name : goal.invariant-loop-name
invariant-loop-name l = record {
  copied : l.held.items ≡ take l.name-index l.name-items;
  fits : length l.name-items ≤ 15;
}
