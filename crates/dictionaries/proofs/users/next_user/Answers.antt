-- The next user of whom the dictionary tells, and the row that it has.
use Rattle.std.proofs.Common.{◌≡◌, List, [], ◌∷◌, ℕ, Some, None, filter, refl, ap, ◌∙◌, arith}
use Rattle.std.specs.List.{find}
use Rattle.eeprom.specs.Slots.{is_after}
use Rattle.scql_base.specs.declared.records.User.{User}
use Rattle.scql_base.specs.declared.words.Subject.TheVariants.{Users}
use Rattle.scql_model.specs.Records.{profile_code}
use Rattle.scql_model.specs.Dictionaries.{rows_told, tells_of, user_told}
use Rattle.catalog_codec.specs.Catalog.{user_kind}
use Rattle.dictionaries.proofs.ToldRows.{IsNext-written, held-list, told-next}
use Rattle.dictionaries.proofs.users.next_user.Goals as goal
use Rattle.record_table.proofs.Asking.{same-held}
use Rattle.record_table.proofs.ReadingCosts.{FindsNext-reads, ReadsSide-told, ReadsSide-both}

pub returns-in_default-clause-next : goal.returns-in_default-clause-next
returns-in_default-clause-next g c = λ db held.
    told-next user_kind.key (user_told db) (λ (u : User). tells_of c.args.owner u.owner) db.users c.args.stamp None (λ u. refl)
    (held-list user_kind db.users (λ users. None ≡ find (is_after user_kind.key c.args.stamp) (filter (λ (u : User). tells_of c.args.owner u.owner) users)) c.args.reader.now.store.now c.args.reader.now.side (g.B.Eeprom.chip c.args.reader.now.bench.now) db held
    held.holds.users held.valid.users.rises (rw c.in_default.is at c.in_ok-found.ensures.next))

pub returns-clause-next : goal.returns-clause-next
returns-clause-next g c = λ db held.
    let u = c.in-Some.found.value in
    IsNext-written (rows_told db c.args.owner Users) c.args.stamp u.stamp (user_told db u).values c.user_row.result
    (told-next user_kind.key (user_told db) (λ (u : User). tells_of c.args.owner u.owner) db.users c.args.stamp (Some u) (λ u. refl)
    (held-list user_kind db.users (λ users. Some u ≡ find (is_after user_kind.key c.args.stamp) (filter (λ (u : User). tells_of c.args.owner u.owner) users)) c.args.reader.now.store.now c.args.reader.now.side (g.B.Eeprom.chip c.args.reader.now.bench.now) db held
    held.holds.users held.valid.users.rises (rw c.in-Some.is at c.in_ok-found.ensures.next)))
    (c.user_row.ensures ∙ ap (λ (owner : List ℕ). u.name ∷ (profile_code u.profile ∷ []) ∷ owner ∷ []) (c.in_ok-name.ensures.name db (same-held c.in_ok-found.ensures.goes_on c.in_ok-found.ensures.frame.same held)))

pub returns-in_default-clause-reads : goal.returns-in_default-clause-reads
returns-in_default-clause-reads g c = ReadsSide-told (FindsNext-reads c.in_ok-found.ensures) (λ slots. omega arith)

pub returns-clause-reads : goal.returns-clause-reads
returns-clause-reads g c = ReadsSide-both (FindsNext-reads c.in_ok-found.ensures) c.in_ok-name.ensures.reads (λ slots. omega arith)
