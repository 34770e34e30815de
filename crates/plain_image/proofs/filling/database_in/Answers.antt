-- The store holds what is found.
use Rattle.std.proofs.Common.{◌≡◌, ◌∙◌, length, sym, ap}
use Rattle.std.proofs.lemmas.Bool.{false≢true}
use Rattle.std.specs.List.{list_all}
use Rattle.eeprom.specs.StoreOf.{Stored}
use Rattle.scql_model.specs.Database.{Database}
use Rattle.scql_model.specs.Rules.{is_short}
use Rattle.plain_image.specs.Found.{is_admitted}
use Rattle.plain_image.proofs.Filled.{holds-found}
use Rattle.plain_image.proofs.Limits.{admitted-short, admitted-spelled, admitted-valid}
use Rattle.plain_image.proofs.filling.database_in.Goals as goal

pub returns-in_default-clause-none : goal.returns-in_default-clause-none
returns-in_default-clause-none c nothing db holds valid =
    let slots : c.deref.result.now ≡ c.args.store.now.slots = c.deref.ensures.value ∙ ap (λ (s : Stored). s.slots) c.store.view_is in
    let admitted = rw c.in_default.is at c.in_ok-counters.ensures.admitted in
    absurd (false≢true (admitted ∙ ap (list_all is_admitted) slots ∙ admitted-valid c.args.store.now.slots db holds valid))

pub returns-clause-found : goal.returns-clause-found
returns-clause-found c =
    let filled = rw c.in-Some.is at c.in_ok-counters.ensures.filled in
    let counter = rw c.in-Single.is at filled.counters in
    let admitted = rw c.in-Some.is at c.in_ok-counters.ensures.admitted in
    let made = c.set_next.ensures ∙ ap (λ (db : Database). record db { next = c.in-Single.next }) filled.records in
    let cells : length c.deref.result.now ≡ c.in_ok-database.database.cells = c.deref.ensures.len ∙ sym (ap (λ (db : Database). db.cells) c.in_ok-database.ensures ∙ c.len-2.ensures) in
    record {
      limit = ap (λ (db : Database). db.limit) made ∙ (ap (λ (db : Database). db.limit) c.in_ok-database.ensures ∙ ap (λ (s : Stored). s.row_limit) c.store.view_is);
      holds = rw (← c.store.view_is, ← c.deref.ensures.value) (holds-found c.deref.result.now c.in_ok-database.database.cells c.in_ok-database.database.limit c.in-Single.next c.set_next.new.self made cells (admitted-spelled c.deref.result.now (sym admitted)) counter);
      limits = rw c.set_next.ensures (record { users = filled.limits.users; objects = filled.limits.objects; grants = filled.limits.grants; rows = filled.limits.rows });
      short = ap (λ (db : Database). list_all is_short db.objects) made ∙ admitted-short c.deref.result.now (sym admitted);
    }
