-- A row that is cut to the columns of a cursor is a row.
use Rattle.std.proofs.Common.{◌≡◌, ℕ, ◌+◌, ◌<◌, ◌≤◌, false, List, [], ◌∷◌, get_or, length, map, take, Ok, Err, Option, Some, None, refl, sym, ap, ◌∙◌, arith}
use Rattle.std.specs.Prelude.{◌==◌, is_ok, IfErr, IfSome, Result}
use Rattle.std.specs.List.{find, sum_by}
use Rattle.std.proofs.lemmas.Bool.{and_parts, leb-true}
use Rattle.std.proofs.lemmas.List.{length-map, length-take-le}
use Rattle.std.proofs.lemmas.List.Sums.{sum_by-cons, sum_by_more_le}
use Rattle.std.proofs.lemmas.Option.{same_Some}
use Rattle.scql_base.specs.Row.{row_size, with_value}
use Rattle.scql_base.specs.declared.cursor.Cursor.{Cursor}
use Rattle.scql_base.specs.declared.records.Object.{Object}
use Rattle.scql_base.specs.declared.records.RowRecord.{RowRecord}
use Rattle.scql_base.specs.declared.row_refusal.RowRefusal.{RowRefusal}
use Rattle.scql_model.specs.Contents.{cut_to}
use Rattle.scql_model.specs.Cursors.{IsCursorOf}
use Rattle.scql_model.specs.Database.{Database, IsValid, are_among, object_stamped}
use Rattle.scql_model.specs.Matching.{Columns}
use Rattle.scql_model.specs.Objects.{columns_of}
use Rattle.scql_model.specs.Resolving.{AreKnown, Resolved, resolved_of}
use Rattle.scql_model.specs.Rules.{is_within_limit}
use Rattle.scql_model.proofs.CutRows.{size-cut}
use Rattle.scql_model.proofs.KeepsRows.{within_largest}
use Rattle.scql_model.proofs.KnownNames.{IsKnown-resolved_of, among-within, names-valid}
use Rattle.scql_model.proofs.LongerLists.{find-all}
use Rattle.scql_model.proofs.SeenThrough.{IsSeenThrough-resolved_of}
use Rattle.plain_database.specs.Sought.{is_sought}
use Rattle.plain_database.specs.declared.sought.Sought.{Sought}
use Rattle.plain_database.proofs.AssignedRows.{refused-long}
use Rattle.plain_database.proofs.Reached.{has_its_table}
use Rattle.plain_database.proofs.SoughtRows.{cursor-named, found-among, found-in_table}

-- a row takes each of the values of a row that isn't too long
pub cut-fits : (f : List ℕ → List ℕ) (wanted : Columns) (i : ℕ) (name : List ℕ) (result : Result (Unit {0}) RowRefusal) → i < length wanted → name ≡ get_or wanted i name → length wanted ≤ 15
    → row_size (map f wanted) ≤ 1020 → length (f name) ≤ 200 → is_ok result ≡ false → IfErr result (λ refusal. with_value (map f (take i wanted)) (f name) ≡ Err refusal) → ⊥
cut-fits f wanted i name (Ok done) within is few size short failed refused = absurd cc
cut-fits f wanted i name (Err refusal) within is few size short failed refused =
    let so_far : length (map f (take i wanted)) ≡ i = rw length-map (length-take-le i wanted (omega arith)) in
    let long = refused-long (map f (take i wanted)) (f name) refusal (omega arith) short refused in
    let most = sum_by_more_le (λ (n : List ℕ). length (f n) + 1) wanted i name within in
    let own = ap (λ (n : List ℕ). length (f n)) is in
    omega (arith, long, most, own, sizes wanted, sizes (take i wanted))
  where
    sizes : (names : Columns) → row_size (map f names) ≡ sum_by (λ (n : List ℕ). length (f n) + 1) names
    sizes [] = refl
    sizes (n ∷ names) = omega (arith, sizes names, sum_by-cons (λ (v : List ℕ). length v + 1) (f n) (map f names), sum_by-cons (λ (n : List ℕ). length (f n) + 1) n names)

-- no row that a cursor shows is too long
cut-within : (db : Database) (c : Cursor) (r : Resolved) (s : RowRecord) → IsValid db → IsCursorOf db c → resolved_of db.objects c.object ≡ Some r → find (λ (t : RowRecord). t.stamp == s.stamp) db.rows ≡ Some s
    → s.table ≡ r.table → row_size (cut_to r.all c.columns s.row) ≤ 1020
cut-within db c r s valid of is found same =
    let known = IsKnown-resolved_of db c.object r valid is in
    let table = has_its_table db s valid found in
    let one : table.table ≡ known.table = same_Some table.table known.table (sym table.there ∙ (ap (object_stamped db.objects) same ∙ known.found_table)) in
    let many : length r.all ≡ length s.row = ap length (sym known.all) ∙ (ap (λ (o : Object). length (columns_of o.kind)) (sym one) ∙ table.many) in
    let seen = IsSeenThrough-resolved_of db c.object r (names-valid db valid) is in
    let named = rw seen.columns at (cursor-named db c r of is) in
    let among = among-within c.columns r.columns r.all known.within (and_parts (are_among c.columns r.columns) (AreKnown r.columns c.conditions) named).0 in
    let size = size-cut r.all c.columns s.row of.different among many in
    let limit = within_largest db (row_size s.row) valid (find-all (is_within_limit db.limit) (λ (t : RowRecord). t.stamp == s.stamp) db.rows s valid.rows.lengths found) in
    omega (arith, size, leb-true (row_size s.row) 1020 limit)

pub sought-within : (db : Database) (c : Cursor) (r : Resolved) (sought : Sought) → IsValid db → IsCursorOf db c → resolved_of db.objects c.object ≡ Some r
    → IfSome (find (is_sought r c.conditions sought) db.rows) (λ (s : RowRecord). row_size (cut_to r.all c.columns s.row) ≤ 1020)
sought-within db c r sought valid of is =
    go (find (is_sought r c.conditions sought) db.rows) (found-among (λ (s : RowRecord). s.stamp) (is_sought r c.conditions sought) db.rows valid.rows.rises) (found-in_table r c.conditions sought db.rows)
  where
    go : (found : Option RowRecord) → IfSome found (λ (s : RowRecord). find (λ (t : RowRecord). t.stamp == s.stamp) db.rows ≡ Some s) → IfSome found (λ (s : RowRecord). s.table ≡ r.table)
        → IfSome found (λ (s : RowRecord). row_size (cut_to r.all c.columns s.row) ≤ 1020)
    go None found same = tt
    go (Some s) found same = cut-within db c r s valid of is found same
