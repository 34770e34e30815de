-- The next object of which the dictionary tells, and the row that it has.
use Rattle.std.proofs.Common.{◌≡◌, ◌+◌, List, [], ◌∷◌, ℕ, Some, None, filter, refl, ap, ◌∙◌, arith}
use Rattle.std.specs.List.{find}
use Rattle.eeprom.specs.Slots.{is_after}
use Rattle.scql_base.specs.declared.records.Object.{Object}
use Rattle.scql_base.specs.declared.words.Subject.TheVariants.{Objects}
use Rattle.scql_model.specs.Dictionaries.{columns_told, kind_letter, object_told, rows_told, tells_of, user_name}
use Rattle.catalog_codec.specs.Catalog.{object_kind, user_kind}
use Rattle.record_table.specs.Listed.{cells_marked}
use Rattle.record_table.proofs.Asking.{SameSide-then, same-held}
use Rattle.record_table.proofs.ReadingCosts.{FindsNext-reads, ReadsSide-told, ReadsSide-then, ReadsSide-both}
use Rattle.dictionaries.specs.Told.{base_named}
use Rattle.dictionaries.proofs.ToldRows.{IsNext-written, held-list, told-next}
use Rattle.dictionaries.proofs.objects.next_object.Goals as goal

pub returns-in_default-clause-next : goal.returns-in_default-clause-next
returns-in_default-clause-next g c = λ db held.
    told-next object_kind.key (object_told db) (λ (o : Object). tells_of c.args.owner o.owner) db.objects c.args.stamp None (λ o. refl)
    (held-list object_kind db.objects (λ objects. None ≡ find (is_after object_kind.key c.args.stamp) (filter (λ (o : Object). tells_of c.args.owner o.owner) objects)) c.args.reader.now.store.now c.args.reader.now.side (g.B.Eeprom.chip c.args.reader.now.bench.now) db held
    held.holds.objects held.valid.objects.rises (rw c.in_default.is at c.in_ok-found.ensures.next))

pub returns-clause-next : goal.returns-clause-next
returns-clause-next g c = λ db held.
    let o = c.in-Some.found.value in
    let named = c.in_ok-name.ensures.name db (same-held c.in_ok-found.ensures.goes_on c.in_ok-found.ensures.frame.same held) in
    let based = c.in_ok-base.ensures.name db (same-held (SameSide-then c.in_ok-found.ensures.goes_on c.in_ok-name.ensures.reads.goes_on) (c.in_ok-name.ensures.reads.frame.same ∙ c.in_ok-found.ensures.frame.same) held) in
    IsNext-written (rows_told db c.args.owner Objects) c.args.stamp o.stamp (object_told db o).values c.object_row.result
    (told-next object_kind.key (object_told db) (λ (o : Object). tells_of c.args.owner o.owner) db.objects c.args.stamp (Some o) (λ o. refl)
    (held-list object_kind db.objects (λ objects. Some o ≡ find (is_after object_kind.key c.args.stamp) (filter (λ (o : Object). tells_of c.args.owner o.owner) objects)) c.args.reader.now.store.now c.args.reader.now.side (g.B.Eeprom.chip c.args.reader.now.bench.now) db held
    held.holds.objects held.valid.objects.rises (rw c.in-Some.is at c.in_ok-found.ensures.next)))
    (c.object_row.ensures ∙ (ap (λ (owner : List ℕ). o.name ∷ (kind_letter o.kind ∷ []) ∷ owner ∷ base_named o.kind c.in_ok-base.base ∷ columns_told o.kind ∷ []) named
    ∙ ap (λ (base : List ℕ). o.name ∷ (kind_letter o.kind ∷ []) ∷ user_name db o.owner ∷ base ∷ columns_told o.kind ∷ []) based))

pub returns-in_default-clause-reads : goal.returns-in_default-clause-reads
returns-in_default-clause-reads g c = ReadsSide-told (FindsNext-reads c.in_ok-found.ensures) (λ slots. omega arith)

pub returns-clause-reads : goal.returns-clause-reads
returns-clause-reads g c =
    ReadsSide-both (ReadsSide-then {all = λ slots. cells_marked object_kind slots + cells_marked user_kind slots} (FindsNext-reads c.in_ok-found.ensures) c.in_ok-name.ensures.reads (λ slots. omega arith)) c.in_ok-base.ensures.reads (λ slots. omega arith)
