-- The row is that of the record that was found, and as short as a row.
use Rattle.std.proofs.Common.{◌≡◌, Some, None, sym, ◌∙◌, arith}
use Rattle.std.specs.Prelude.{◌&&◌, option_copied}
use Rattle.std.specs.List.{find}
use Rattle.scql_model.specs.Dictionaries.{tells_of}
use Rattle.scql_model.proofs.CutRows.{size-cut}
use Rattle.plain_reading.proofs.ToldRows.{is_sought_row, shown-told, told-admitted}
use Rattle.plain_reading.proofs.dictionary.Dictionary.find_shown.Goals as goal

pub returns-in_err-found : goal.returns-in_err-found
returns-in_err-found g c =
    let d = c.args.self.now in
    let found : option_copied c.find_among.result ≡ find (λ r. tells_of d.owner (g.R.Told.owned_by d.database.now r) && is_sought_row d.columns.now c.args.cursor.now.conditions c.args.sought (g.R.Told.told d.database.now r)) c.args.records.now.records.now =
    c.find_among.ensures
    ∙ (rw c.admitted.ensures
    (told-admitted (λ r. tells_of d.owner (g.R.Told.owned_by d.database.now r)) (g.R.Told.told d.database.now) g.R.Stamped.stamp_of d.columns.now c.args.cursor.now.conditions c.args.sought c.args.records.now.records.now
    (g.met.R.Told.same_stamp d.database.now))) in
    rw c.from_residual.ensures
    (shown-told (λ r. tells_of d.owner (g.R.Told.owned_by d.database.now r)) (g.R.Told.told d.database.now) d.columns.now c.args.cursor.now.columns c.args.cursor.now.conditions c.args.sought c.args.records.now.records.now
    None (rw c.in_err-found.was at found))

pub cut_to-requires : goal.cut_to-requires
cut_to-requires g c =
    let d = c.args.self.now in
    let many = rw (sym c.values-values.ensures) at (c.requires.many c.in_ok-found.found.now) in
    let size = size-cut d.columns.now c.args.cursor.now.columns c.values-values.result c.requires.wanted.different c.requires.wanted.among (sym many) in
    omega (arith, size, c.len.ensures.row.size)

pub returns : goal.returns
returns g c =
    let d = c.args.self.now in
    let found : option_copied c.find_among.result ≡ find (λ r. tells_of d.owner (g.R.Told.owned_by d.database.now r) && is_sought_row d.columns.now c.args.cursor.now.conditions c.args.sought (g.R.Told.told d.database.now r)) c.args.records.now.records.now =
    c.find_among.ensures
    ∙ (rw c.admitted.ensures
    (told-admitted (λ r. tells_of d.owner (g.R.Told.owned_by d.database.now r)) (g.R.Told.told d.database.now) g.R.Stamped.stamp_of d.columns.now c.args.cursor.now.conditions c.args.sought c.args.records.now.records.now
    (g.met.R.Told.same_stamp d.database.now))) in
    rw (c.stamp.ensures, ← g.met.R.Told.same_stamp d.database.now c.in_ok-found.found.now, c.cut_to.ensures, c.values-values.ensures)
    (shown-told (λ r. tells_of d.owner (g.R.Told.owned_by d.database.now r)) (g.R.Told.told d.database.now) d.columns.now c.args.cursor.now.columns c.args.cursor.now.conditions c.args.sought c.args.records.now.records.now
    (Some c.in_ok-found.found.now) (rw c.in_ok-found.was at found))
