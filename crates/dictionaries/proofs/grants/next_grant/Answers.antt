-- The next grant of which the dictionary tells, and the row that it has.
use Rattle.std.proofs.Common.{◌+◌, ◌*◌, List, [], ◌∷◌, ℕ, Some, None, refl, ap, ◌∙◌, arith}
use Rattle.scql_base.specs.declared.words.Subject.TheVariants.{Grants}
use Rattle.scql_model.specs.Dictionaries.{grant_told, object_name, rows_told}
use Rattle.catalog_codec.specs.Catalog.{grant_kind, object_kind}
use Rattle.record_table.specs.Listed.{cells_marked}
use Rattle.record_table.proofs.Asking.{SameSide-then, same-held}
use Rattle.record_table.proofs.ReadingCosts.{ReadsSide-told, ReadsSide-then, ReadsSide-both}
use Rattle.dictionaries.specs.Told.{name_or_none, tells_of_grant}
use Rattle.dictionaries.proofs.ToldRows.{IsNext-written, told-next}
use Rattle.dictionaries.proofs.grants.next_grant.Goals as goal

pub returns-in_default-clause-next : goal.returns-in_default-clause-next
returns-in_default-clause-next g c = λ db held.
    told-next grant_kind.key (grant_told db) (tells_of_grant db c.args.owner) db.grants c.args.stamp None (λ x. refl) (rw c.in_default.is at (c.in_ok-grant.ensures.next db held))

pub returns-clause-next : goal.returns-clause-next
returns-clause-next g c = λ db held.
    let x = c.in-Some.grant in
    let object = c.in_ok-object.ensures.name db (same-held c.in_ok-grant.ensures.reads.goes_on c.in_ok-grant.ensures.reads.frame.same held) in
    let grantee = c.in_ok-grantee.ensures.name db (same-held (SameSide-then c.in_ok-grant.ensures.reads.goes_on c.in_ok-object.ensures.reads.goes_on) (c.in_ok-object.ensures.reads.frame.same ∙ c.in_ok-grant.ensures.reads.frame.same) held) in
    IsNext-written (rows_told db c.args.owner Grants) c.args.stamp x.stamp (grant_told db x).values c.grant_row.result
    (told-next grant_kind.key (grant_told db) (tells_of_grant db c.args.owner) db.grants c.args.stamp (Some x) (λ x. refl) (rw c.in-Some.is at (c.in_ok-grant.ensures.next db held)))
    (c.grant_row.ensures ∙ (ap (λ (object : List ℕ). object ∷ name_or_none c.in_ok-grantee.grantee ∷ (x.privileges ∷ []) ∷ []) object ∙ ap (λ (grantee : List ℕ). object_name db x.object ∷ grantee ∷ (x.privileges ∷ []) ∷ []) grantee))

pub returns-in_default-clause-reads : goal.returns-in_default-clause-reads
returns-in_default-clause-reads g c = ReadsSide-told c.in_ok-grant.ensures.reads (λ slots. omega arith)

pub returns-clause-reads : goal.returns-clause-reads
returns-clause-reads g c =
    let n = c.args.reader.now.store.now.chains.cells in
    ReadsSide-both (ReadsSide-then {all = λ slots. cells_marked grant_kind slots + (n + 1) * cells_marked object_kind slots} c.in_ok-grant.ensures.reads c.in_ok-object.ensures.reads (λ slots. omega arith)) c.in_ok-grantee.ensures.reads (λ slots. omega arith)
