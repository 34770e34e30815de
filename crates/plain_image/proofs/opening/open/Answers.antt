-- The image has a store, and its slots hold what is found.
use Rattle.std.proofs.Common.{◌≡◌, ◌∙◌, sym, ap, subst}
use Rattle.std.proofs.lemmas.Option.{same_Some}
use Rattle.eeprom.specs.StoreOf.{Stored}
use Rattle.scql_model.specs.Opens.{Holds}
use Rattle.plain_image.proofs.Room.{room-held}
use Rattle.plain_image.proofs.Valid.{IsValid-met, refused}
use Rattle.plain_image.proofs.opening.open.Goals as goal

pub returns-then-not-branch-clause-none : goal.returns-then-not-branch-clause-none
returns-then-not-branch-clause-none c nothing db opens =
    let same : opens.store ≡ c.in-Some.store = same_Some _ _ (sym opens.stored ∙ sym c.in_ok-store.ensures ∙ c.in-Some.is) in
    let found = rw c.in-Some-2.is at c.in_ok-database.ensures.found in
    refused c.in-Some.store.slots c.in-Some-2.database db found.holds (sym c.in_ok-meets_rules.ensures ∙ c.if-not-branch.true) (subst (λ (s : Stored). Holds s.slots db) same opens.holds)
    (opens.limit ∙ ap (λ (s : Stored). s.row_limit) same ∙ sym found.limit) opens.valid

pub returns-clause-opens : goal.returns-clause-opens
returns-clause-opens c =
    let stored = sym c.in_ok-store.ensures ∙ c.in-Some.is in
    let found = rw c.in-Some-2.is at c.in_ok-database.ensures.found in
    let room = room-held c.args.image.now c.in-Some.store c.in-Some-2.database stored found.holds in
    record {
      store = c.in-Some.store;
      stored = stored;
      limit = found.limit;
      holds = found.holds;
      valid = IsValid-met c.in-Some-2.database found.limits found.short room (sym c.in_ok-meets_rules.ensures ∙ c.if-not-branch.false);
    }
