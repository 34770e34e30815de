use Rattle.std.proofs.Common.{◌≡◌, drop}
use Rattle.row_join.specs.Joins.{compare_values}
use Rattle.row_join.specs.Links.{key_of, probe_of}
use Rattle.row_join.specs.Places.{row_at, rows_of}
use Rattle.row_join.proofs.index.Probe.compare.Given as goal

-- what is left decides
abbrev pub invariant-loop-link : goal.invariant-loop-link
invariant-loop-link l =
    compare_values (key_of (drop l.link-index l.self.links.now) (row_at l.self.rows.now l.place)) (probe_of (drop l.link-index l.self.links.now) (rows_of l.self.before.now l.self.combination.now.places))
    ≡ compare_values (key_of l.self.links.now (row_at l.self.rows.now l.place)) (probe_of l.self.links.now (rows_of l.self.before.now l.self.combination.now.places))
