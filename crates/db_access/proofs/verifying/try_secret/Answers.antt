-- Of a secret that is tried the database says what the model does.
use Rattle.std.proofs.Common.{◌≡◌, ℕ, ◌-◌, ◌==◌, false, true, [], ◌∷◌, drop, Option, Some, refl, sym, ap, subst, ◌∙◌}
use Rattle.std.specs.Prelude.{IfSome, option_map}
use Rattle.std.specs.Str.{bytes_eq}
use Rattle.std.proofs.lemmas.Bool.{false≢true, ne_eqb}
use Rattle.std.proofs.lemmas.Option.{same_Some}
use Rattle.eeprom.specs.Chip.{Becomes, Chip, Keeps}
use Rattle.eeprom.specs.StoreOf.{image_size}
use Rattle.record_store.specs.declared.side.Side.TheVariants.{Committed}
use Rattle.scql_base.specs.declared.records.TheConstants.User.{ALL_TRIES}
use Rattle.scql_base.specs.declared.records.User.{User}
use Rattle.scql_model.specs.Database.{Database, IsValid, user_stamped}
use Rattle.scql_model.specs.Edits.{changing, octets_for}
use Rattle.scql_model.specs.Records.{of_user}
use Rattle.scql_model.specs.Step.{Answer, with_tries}
use Rattle.scql_model.specs.ValidMachine.{HasSecret}
use Rattle.catalog_codec.specs.Catalog.{row_kind, user_kind}
use Rattle.catalog_codec.specs.CatalogLaws.{IsKind-user, HaveOtherMarks-row-user}
use Rattle.catalog_codec.specs.KindLaws.{HaveOtherMarks-sym}
use Rattle.record_table.specs.AtRest.{IsAtRest, LeavesOnce, Replaces}
use Rattle.record_table.specs.Changed.{IsChanged}
use Rattle.record_table.specs.Listed.{at_slot, slots_of}
use Rattle.record_table.specs.Making.{KeepsRows}
use Rattle.record_table.proofs.AtRest.{KeepsRows-again, KeepsRows-changed, KeepsRows-then, LeavesOnce-then, at-changed, opens-rest}
use Rattle.record_table.proofs.Ending.{KeepsRows-same, refused-on}
use Rattle.record_store.proofs.Fronts.{Keeps-then}
use Rattle.db_access.specs.Verifying.{octets_for_verdict, verdict}
use Rattle.db_access.proofs.Tries.{fewer_tries, fits-tries, valid-tries}
use Rattle.db_access.proofs.Verdicts.{Unrefused-failed, Unrefused-right, Unrefused-stopped, Unrefused-stopped_again, Unrefused-unwritten, Unrefused-wrong, commits-first, octets-right, octets-wrong, restores, room-changed, stamped-held, verdict-blocked, verdict-none, verdict-right, verdict-wrong}
use Rattle.db_access.proofs.verifying.try_secret.Given.{Over}
use Rattle.db_access.proofs.verifying.try_secret.Goals as goal
use Rattle.db_access.proofs.verifying.try_secret.Goals.{After-commit_in_place}

-- Who was found, in which slot, and that it has a secret.
stamped : (g : Over) (c : After-commit_in_place g) (db : Database) → IsAtRest c.args.store.now (g.B.Eeprom.chip c.args.bench.now) db → user_stamped db.users c.args.user ≡ Some c.in-Some.field-0.value
stamped g c db rest =
    stamped-held c.args.store.now Committed (g.B.Eeprom.chip c.args.bench.now) db c.args.user _ rest c.in_ok-slot.ensures.found ∙ ap (option_map (λ found. found.value)) c.in-Some.is

there : (g : Over) (c : After-commit_in_place g) → IfSome (slots_of c.args.store.now Committed (g.B.Eeprom.chip c.find_committed.new.bench)) (λ slots. Some c.in-Some.field-0.value ≡ at_slot user_kind c.in-Some.field-0.slot slots)
there g c = rw (sym c.in_ok-slot.ensures.frame.same) at (rw c.in-Some.is at c.in_ok-slot.ensures.at)

secret : (g : Over) (c : After-commit_in_place g) → HasSecret c.in-Some.field-0.value
secret g c = rw (c.is_empty.ensures, c.as_slice.ensures.octets) at c.if-is_empty.false

some : (g : Over) (c : After-commit_in_place g) → (c.in-Some.field-0.value.tries == 0) ≡ false
some g c = ne_eqb c.in-Some.field-0.value.tries 0 c.if-holder-eq0.false

-- one try less was committed
abbrev lowered : (g : Over) → After-commit_in_place g → Database → Database
lowered g c db = with_tries db c.in-Some.field-0.value (c.in-Some.field-0.value.tries - 1)

abbrev one_change : (g : Over) → After-commit_in_place g → ℕ
one_change g c = octets_for (changing (of_user c.in-Some.field-0.value) ∷ [])

valid : (g : Over) (c : After-commit_in_place g) (db : Database) → IsAtRest c.args.store.now (g.B.Eeprom.chip c.args.bench.now) db → IsValid (lowered g c db)
valid g c db rest =
    let found = stamped g c db rest in
    valid-tries db c.args.user c.in-Some.field-0.value rest.valid found (secret g c) (c.in-Some.field-0.value.tries - 1) (fewer_tries db c.args.user c.in-Some.field-0.value rest.valid found)

first : (g : Over) (c : After-commit_in_place g) (db : Database) → IsAtRest c.args.store.now (g.B.Eeprom.chip c.args.bench.now) db
    → Replaces db (lowered g c db) (one_change g c) c.commit_in_place.result c.commit_in_place.new.store (g.B.Eeprom.chip c.args.bench.now) (g.B.Eeprom.chip c.commit_in_place.new.bench)
first g c db rest =
    let same = c.in_ok-slot.ensures.frame.same in
    let u : User = record c.in-Some.field-0.value { tries = c.in-Some.field-0.value.tries - 1 } in
    subst (λ (chip : Chip). Replaces db (lowered g c db) (one_change g c) c.commit_in_place.result c.commit_in_place.new.store chip (g.B.Eeprom.chip c.commit_in_place.new.bench)) same
    (c.commit_in_place.ensures.replaces db c.in-Some.field-0.value (subst (λ (chip : Chip). IsAtRest c.args.store.now chip db) (sym same) rest) (there g c) refl (room-changed db u (valid g c db rest)) (valid g c db rest))

-- The record with one try less is in the slot, and the record with all tries takes its place.
there_lowered : (g : Over) (c : After-commit_in_place g) (db : Database) → IsAtRest c.args.store.now (g.B.Eeprom.chip c.args.bench.now) db
    → Becomes (IsChanged user_kind (record c.in-Some.field-0.value { tries = c.in-Some.field-0.value.tries - 1 }) c.in-Some.field-0.slot) (slots_of c.args.store.now Committed (g.B.Eeprom.chip c.find_committed.new.bench))
    (slots_of c.commit_in_place.new.store Committed (g.B.Eeprom.chip c.commit_in_place.new.bench))
    → IfSome (slots_of c.commit_in_place.new.store Committed (g.B.Eeprom.chip c.commit_in_place.new.bench)) (λ slots. Some (record c.in-Some.field-0.value { tries = c.in-Some.field-0.value.tries - 1 }) ≡ at_slot user_kind c.in-Some.field-0.slot slots)
there_lowered g c db rest changed =
    let found = stamped g c db rest in
    at-changed user_kind c.in-Some.field-0.slot c.in-Some.field-0.value (record c.in-Some.field-0.value { tries = c.in-Some.field-0.value.tries - 1 }) _ _ IsKind-user
    (fits-tries db c.args.user c.in-Some.field-0.value rest.valid found (c.in-Some.field-0.value.tries - 1) (fewer_tries db c.args.user c.in-Some.field-0.value rest.valid found)) (there g c) changed

valid_restored : (g : Over) (c : After-commit_in_place g) (db : Database) → IsAtRest c.args.store.now (g.B.Eeprom.chip c.args.bench.now) db → IsValid (with_tries db c.in-Some.field-0.value ALL_TRIES)
valid_restored g c db rest = valid-tries db c.args.user c.in-Some.field-0.value rest.valid (stamped g c db rest) (secret g c) ALL_TRIES refl

pub returns-in_err-slot-clause-verifies : goal.returns-in_err-slot-clause-verifies
returns-in_err-slot-clause-verifies g c = λ db holds.
    Unrefused-failed db (verdict db c.args.user c.args.secret.now) (octets_for_verdict db c.args.user c.args.secret.now) (g.B.Eeprom.chip c.args.bench.now) c.from_residual.result c.args.store.now (g.B.Eeprom.chip c.find_committed.new.bench)
    c.from_residual.ensures.1 c.in_err-slot.ensures.frame.same (opens-rest c.args.store.now (g.B.Eeprom.chip c.args.bench.now) db c.requires.rests.over holds.rest)

pub returns-in_default-clause-verifies : goal.returns-in_default-clause-verifies
returns-in_default-clause-verifies g c = λ db holds.
    let old = g.B.Eeprom.chip c.args.bench.now in
    let same = c.in_ok-slot.ensures.frame.same in
    let none = stamped-held c.args.store.now Committed old db c.args.user _ holds.rest c.in_ok-slot.ensures.found ∙ ap (option_map (λ found. found.value)) c.in_default.is in
    Unrefused-unwritten db (verdict db c.args.user c.args.secret.now) (octets_for_verdict db c.args.user c.args.secret.now) old c.args.user _ c.args.store.now (g.B.Eeprom.chip c.find_committed.new.bench)
    (verdict-none db c.args.user c.args.secret.now none) (subst (λ (chip : Chip). IsAtRest c.args.store.now chip db) (sym same) holds.rest) same (opens-rest c.args.store.now old db c.requires.rests.over holds.rest)

pub returns-then-is_empty-clause-verifies : goal.returns-then-is_empty-clause-verifies
returns-then-is_empty-clause-verifies g c = λ db holds.
    let found = stamped-held c.args.store.now Committed (g.B.Eeprom.chip c.args.bench.now) db c.args.user _ holds.rest c.in_ok-slot.ensures.found ∙ ap (option_map (λ found. found.value)) c.in-Some.is in
    let has : HasSecret c.in-Some.field-0.value = subst (λ (o : Option User). IfSome o HasSecret) found holds.secret in
    absurd (false≢true (sym has ∙ (rw (c.is_empty.ensures, c.as_slice.ensures.octets) at c.if-is_empty.true)))

pub returns-then-holder-eq0-clause-verifies : goal.returns-then-holder-eq0-clause-verifies
returns-then-holder-eq0-clause-verifies g c = λ db holds.
    let old = g.B.Eeprom.chip c.args.bench.now in
    let same = c.in_ok-slot.ensures.frame.same in
    let found = stamped-held c.args.store.now Committed old db c.args.user _ holds.rest c.in_ok-slot.ensures.found ∙ ap (option_map (λ found. found.value)) c.in-Some.is in
    Unrefused-unwritten db (verdict db c.args.user c.args.secret.now) (octets_for_verdict db c.args.user c.args.secret.now) old c.args.user _ c.args.store.now (g.B.Eeprom.chip c.find_committed.new.bench)
    (verdict-blocked db c.args.user c.args.secret.now c.in-Some.field-0.value found c.if-holder-eq0.true) (subst (λ (chip : Chip). IsAtRest c.args.store.now chip db) (sym same) holds.rest) same
    (opens-rest c.args.store.now old db c.requires.rests.over holds.rest)

-- the first commit stopped
pub returns-in_err-commit_in_place-clause-verifies : goal.returns-in_err-commit_in_place-clause-verifies
returns-in_err-commit_in_place-clause-verifies g c = λ db holds.
    let w = (goal.at.returns-in_err-commit_in_place-clause-verifies g c).After-commit_in_place in
    let commits = commits-first db c.args.user c.args.secret.now c.in-Some.field-0.value (stamped g w db holds.rest) (some g w) in
    Unrefused-stopped db (verdict db c.args.user c.args.secret.now) (octets_for_verdict db c.args.user c.args.secret.now) (g.B.Eeprom.chip c.args.bench.now) (lowered g w db) (one_change g w) c.commit_in_place.result
    c.in_err-commit_in_place.field-0.0 c.from_residual-in_err-commit_in_place.result c.commit_in_place.new.store (g.B.Eeprom.chip c.commit_in_place.new.bench) commits.0 commits.1 c.in_err-commit_in_place.was
    c.from_residual-in_err-commit_in_place.ensures.1 (first g w db holds.rest)

pub returns-in_err-commit_in_place-clause-holds : goal.returns-in_err-commit_in_place-clause-holds
returns-in_err-commit_in_place-clause-holds g c = λ db rest no_fault.
    let w = (goal.at.returns-in_err-commit_in_place-clause-holds g c).After-commit_in_place in
    refused-on c.from_residual-in_err-commit_in_place.result c.commit_in_place.result c.in_err-commit_in_place.field-0.0 c.from_residual-in_err-commit_in_place.ensures.1 c.in_err-commit_in_place.was no_fault
    (λ word is. absurd ((first g w db rest).unrefused word is))

pub returns-in_err-commit_in_place-clause-rows : goal.returns-in_err-commit_in_place-clause-rows
returns-in_err-commit_in_place-clause-rows g c = λ no_fault.
    let w = (goal.at.returns-in_err-commit_in_place-clause-rows g c).After-commit_in_place in
    rw (sym c.in_ok-slot.ensures.frame.same)
    (refused-on c.from_residual-in_err-commit_in_place.result c.commit_in_place.result c.in_err-commit_in_place.field-0.0 c.from_residual-in_err-commit_in_place.ensures.1 c.in_err-commit_in_place.was no_fault
    (λ word is. KeepsRows-same (slots_of c.args.store.now Committed (g.B.Eeprom.chip c.find_committed.new.bench)) _ (c.commit_in_place.ensures.refused word is)))

-- the rows after the first commit
rows_lowered : (g : Over) (c : After-commit_in_place g) → Becomes (IsChanged user_kind (record c.in-Some.field-0.value { tries = c.in-Some.field-0.value.tries - 1 }) c.in-Some.field-0.slot) (slots_of c.args.store.now Committed (g.B.Eeprom.chip c.find_committed.new.bench))
    (slots_of c.commit_in_place.new.store Committed (g.B.Eeprom.chip c.commit_in_place.new.bench))
    → KeepsRows (slots_of c.args.store.now Committed (g.B.Eeprom.chip c.args.bench.now)) (slots_of c.commit_in_place.new.store Committed (g.B.Eeprom.chip c.commit_in_place.new.bench))
rows_lowered g c changed =
    rw (sym c.in_ok-slot.ensures.frame.same)
    (KeepsRows-changed user_kind c.in-Some.field-0.slot c.in-Some.field-0.value (record c.in-Some.field-0.value { tries = c.in-Some.field-0.value.tries - 1 }) _ _ IsKind-user (HaveOtherMarks-sym row_kind user_kind HaveOtherMarks-row-user) (there g c) changed)

-- the secret is wrong
pub returns-then-not-is_same-clause-verifies : goal.returns-then-not-is_same-clause-verifies
returns-then-not-is_same-clause-verifies g c = λ db holds.
    let w = (goal.at.returns-then-not-is_same-clause-verifies g c).After-commit_in_place in
    let found = stamped g w db holds.rest in
    let wrong : bytes_eq c.args.secret.now c.in-Some.field-0.value.secret ≡ false = rw (c.is_same.ensures, c.as_slice-2.ensures.octets) at c.if-not-is_same.true in
    Unrefused-wrong db (verdict db c.args.user c.args.secret.now) (octets_for_verdict db c.args.user c.args.secret.now) (g.B.Eeprom.chip c.args.bench.now) (lowered g w db) (one_change g w) c.in_ok-commit_in_place.field-0 c.args.user c.in-Some.field-0.value
    c.wrong_secret.result c.commit_in_place.new.store (g.B.Eeprom.chip c.commit_in_place.new.bench) (verdict-wrong db c.args.user c.args.secret.now c.in-Some.field-0.value found (some g w) wrong) refl c.wrong_secret.ensures
    (octets-wrong db c.args.user c.args.secret.now c.in-Some.field-0.value found (some g w) wrong) (rw c.in_ok-commit_in_place.was at (first g w db holds.rest))

pub returns-then-not-is_same-clause-holds : goal.returns-then-not-is_same-clause-holds
returns-then-not-is_same-clause-holds g c = λ db rest no_fault.
    let w = (goal.at.returns-then-not-is_same-clause-holds g c).After-commit_in_place in
    (lowered g w db, (rw c.in_ok-commit_in_place.was at (first g w db rest)).rests)

pub returns-then-not-is_same-clause-rows : goal.returns-then-not-is_same-clause-rows
returns-then-not-is_same-clause-rows g c = λ no_fault. rows_lowered g (goal.at.returns-then-not-is_same-clause-rows g c).After-commit_in_place c.in_ok-commit_in_place.ensures.changed

-- the second commit stopped
pub returns-in_err-commit_in_place-2-clause-verifies : goal.returns-in_err-commit_in_place-2-clause-verifies
returns-in_err-commit_in_place-2-clause-verifies g c = λ db holds.
    let rest = holds.rest in
    let w = (goal.at.returns-in_err-commit_in_place-2-clause-verifies g c).After-commit_in_place in
    let one = rw c.in_ok-commit_in_place.was at (first g w db rest) in
    let two = restores db c.in-Some.field-0.value c.in-Some.field-0.slot c.commit_in_place.new.store c.commit_in_place-2.new.store (g.B.Eeprom.chip c.commit_in_place.new.bench) (g.B.Eeprom.chip c.commit_in_place-2.new.bench) c.commit_in_place-2.result
    c.commit_in_place-2.ensures.replaces (c.in-Some.field-0.value.tries - 1) one.rests (there_lowered g w db rest c.in_ok-commit_in_place.ensures.changed) (valid_restored g w db rest) in
    let still = c.commit_in_place.ensures.behind.still ∙ ap (λ (chip : Chip). chip.still) c.in_ok-slot.ensures.frame.same in
    let found = stamped g w db rest in
    let right : bytes_eq c.args.secret.now c.in-Some.field-0.value.secret ≡ true = rw (c.is_same.ensures, c.as_slice-2.ensures.octets) at c.if-not-is_same.false in
    let is = verdict-right db c.args.user c.args.secret.now c.in-Some.field-0.value found (some g w) right in
    Unrefused-stopped_again db (verdict db c.args.user c.args.secret.now) (octets_for_verdict db c.args.user c.args.secret.now) (g.B.Eeprom.chip c.args.bench.now) (lowered g w db) (one_change g w) (with_tries db c.in-Some.field-0.value ALL_TRIES)
    c.in_ok-commit_in_place.field-0 c.commit_in_place.new.store (g.B.Eeprom.chip c.commit_in_place.new.bench) one still c.commit_in_place-2.result c.in_err-commit_in_place-2.field-0.0 c.from_residual-in_err-commit_in_place-2.result
    c.commit_in_place-2.new.store (g.B.Eeprom.chip c.commit_in_place-2.new.bench) (ap (λ (a : Answer). a.commits) is) c.in_err-commit_in_place-2.was c.from_residual-in_err-commit_in_place-2.ensures.1 two

pub returns-in_err-commit_in_place-2-clause-holds : goal.returns-in_err-commit_in_place-2-clause-holds
returns-in_err-commit_in_place-2-clause-holds g c = λ db rest no_fault.
    let w = (goal.at.returns-in_err-commit_in_place-2-clause-holds g c).After-commit_in_place in
    let one = rw c.in_ok-commit_in_place.was at (first g w db rest) in
    let two = restores db c.in-Some.field-0.value c.in-Some.field-0.slot c.commit_in_place.new.store c.commit_in_place-2.new.store (g.B.Eeprom.chip c.commit_in_place.new.bench) (g.B.Eeprom.chip c.commit_in_place-2.new.bench) c.commit_in_place-2.result
    c.commit_in_place-2.ensures.replaces (c.in-Some.field-0.value.tries - 1) one.rests (there_lowered g w db rest c.in_ok-commit_in_place.ensures.changed) (valid_restored g w db rest) in
    refused-on c.from_residual-in_err-commit_in_place-2.result c.commit_in_place-2.result c.in_err-commit_in_place-2.field-0.0 c.from_residual-in_err-commit_in_place-2.ensures.1 c.in_err-commit_in_place-2.was no_fault
    (λ word is. absurd (two.unrefused word is))

pub returns-in_err-commit_in_place-2-clause-rows : goal.returns-in_err-commit_in_place-2-clause-rows
returns-in_err-commit_in_place-2-clause-rows g c = λ no_fault.
    KeepsRows-then _ _ _ (rows_lowered g (goal.at.returns-in_err-commit_in_place-2-clause-rows g c).After-commit_in_place c.in_ok-commit_in_place.ensures.changed)
    (refused-on c.from_residual-in_err-commit_in_place-2.result c.commit_in_place-2.result c.in_err-commit_in_place-2.field-0.0 c.from_residual-in_err-commit_in_place-2.ensures.1 c.in_err-commit_in_place-2.was no_fault
    (λ word is. KeepsRows-same (slots_of c.commit_in_place.new.store Committed (g.B.Eeprom.chip c.commit_in_place.new.bench)) _ (c.commit_in_place-2.ensures.refused word is)))

pub returns-in_err-commit_in_place-2-clause-behind : goal.returns-in_err-commit_in_place-2-clause-behind
returns-in_err-commit_in_place-2-clause-behind g c =
    let cells = (c.in_ok-commit_in_place.ensures.goes_on (λ wrong. cc)).cells in
    Keeps-then (drop (image_size c.args.store.now.chains.cells)) (g.B.Eeprom.chip c.args.bench.now) (g.B.Eeprom.chip c.commit_in_place.new.bench) (g.B.Eeprom.chip c.commit_in_place-2.new.bench)
    (subst (λ (chip : Chip). Keeps (drop (image_size c.args.store.now.chains.cells)) chip (g.B.Eeprom.chip c.commit_in_place.new.bench)) c.in_ok-slot.ensures.frame.same c.commit_in_place.ensures.behind)
    (subst (λ (n : ℕ). Keeps (drop (image_size n)) (g.B.Eeprom.chip c.commit_in_place.new.bench) (g.B.Eeprom.chip c.commit_in_place-2.new.bench)) cells c.commit_in_place-2.ensures.behind)

-- the secret is right
pub returns-clause-verifies : goal.returns-clause-verifies
returns-clause-verifies g c = λ db holds.
    let rest = holds.rest in
    let w = (goal.at.returns-clause-verifies g c).After-commit_in_place in
    let one = rw c.in_ok-commit_in_place.was at (first g w db rest) in
    let two = restores db c.in-Some.field-0.value c.in-Some.field-0.slot c.commit_in_place.new.store c.commit_in_place-2.new.store (g.B.Eeprom.chip c.commit_in_place.new.bench) (g.B.Eeprom.chip c.commit_in_place-2.new.bench) c.commit_in_place-2.result
    c.commit_in_place-2.ensures.replaces (c.in-Some.field-0.value.tries - 1) one.rests (there_lowered g w db rest c.in_ok-commit_in_place.ensures.changed) (valid_restored g w db rest) in
    let still = c.commit_in_place.ensures.behind.still ∙ ap (λ (chip : Chip). chip.still) c.in_ok-slot.ensures.frame.same in
    let found = stamped g w db rest in
    let right : bytes_eq c.args.secret.now c.in-Some.field-0.value.secret ≡ true = rw (c.is_same.ensures, c.as_slice-2.ensures.octets) at c.if-not-is_same.false in
    let is = verdict-right db c.args.user c.args.secret.now c.in-Some.field-0.value found (some g w) right in
    Unrefused-right db (verdict db c.args.user c.args.secret.now) (octets_for_verdict db c.args.user c.args.secret.now) (g.B.Eeprom.chip c.args.bench.now) (lowered g w db) (one_change g w) (with_tries db c.in-Some.field-0.value ALL_TRIES)
    c.in_ok-commit_in_place.field-0 c.commit_in_place.new.store (g.B.Eeprom.chip c.commit_in_place.new.bench) one still c.in_ok-commit_in_place-2.field-0 c.args.user c.in-Some.field-0.value c.commit_in_place-2.new.store
    (g.B.Eeprom.chip c.commit_in_place-2.new.bench) is refl refl (octets-right db c.args.user c.args.secret.now c.in-Some.field-0.value found (some g w) right) (rw c.in_ok-commit_in_place-2.was at two)

pub returns-clause-lowered : goal.returns-clause-lowered
returns-clause-lowered g c = λ db holder holds named is_done.
    let rest = holds.rest in
    let w = (goal.at.returns-clause-lowered g c).After-commit_in_place in
    let one = rw c.in_ok-commit_in_place.was at (first g w db rest) in
    let two = restores db c.in-Some.field-0.value c.in-Some.field-0.slot c.commit_in_place.new.store c.commit_in_place-2.new.store (g.B.Eeprom.chip c.commit_in_place.new.bench) (g.B.Eeprom.chip c.commit_in_place-2.new.bench) c.commit_in_place-2.result
    c.commit_in_place-2.ensures.replaces (c.in-Some.field-0.value.tries - 1) one.rests (there_lowered g w db rest c.in_ok-commit_in_place.ensures.changed) (valid_restored g w db rest) in
    let still = c.commit_in_place.ensures.behind.still ∙ ap (λ (chip : Chip). chip.still) c.in_ok-slot.ensures.frame.same in
    let same : c.in-Some.field-0.value ≡ holder = same_Some _ _ (sym (stamped g w db rest) ∙ named) in
    subst (λ (v : User). LeavesOnce (with_tries db v (v.tries - 1)) (g.B.Eeprom.chip c.args.bench.now) (g.B.Eeprom.chip c.commit_in_place-2.new.bench)) same
    (LeavesOnce-then (lowered g w db) (lowered g w db ∷ with_tries db c.in-Some.field-0.value ALL_TRIES ∷ []) c.commit_in_place.new.store (g.B.Eeprom.chip c.args.bench.now) (g.B.Eeprom.chip c.commit_in_place.new.bench)
    (g.B.Eeprom.chip c.commit_in_place-2.new.bench) one.moments.later still (c.in_ok-commit_in_place.ensures.goes_on (λ wrong. cc)).over one.rests two.moments)

pub returns-clause-holds : goal.returns-clause-holds
returns-clause-holds g c = λ db rest no_fault.
    let w = (goal.at.returns-clause-holds g c).After-commit_in_place in
    let one = rw c.in_ok-commit_in_place.was at (first g w db rest) in
    let two = restores db c.in-Some.field-0.value c.in-Some.field-0.slot c.commit_in_place.new.store c.commit_in_place-2.new.store (g.B.Eeprom.chip c.commit_in_place.new.bench) (g.B.Eeprom.chip c.commit_in_place-2.new.bench) c.commit_in_place-2.result
    c.commit_in_place-2.ensures.replaces (c.in-Some.field-0.value.tries - 1) one.rests (there_lowered g w db rest c.in_ok-commit_in_place.ensures.changed) (valid_restored g w db rest) in
    (with_tries db c.in-Some.field-0.value ALL_TRIES, (rw c.in_ok-commit_in_place-2.was at two).rests)

pub returns-clause-rows : goal.returns-clause-rows
returns-clause-rows g c = λ no_fault.
    let w = (goal.at.returns-clause-rows g c).After-commit_in_place in
    KeepsRows-then _ _ _ (rows_lowered g w c.in_ok-commit_in_place.ensures.changed)
    (KeepsRows-again user_kind c.in-Some.field-0.slot c.in-Some.field-0.value (record c.in-Some.field-0.value { tries = c.in-Some.field-0.value.tries - 1 }) (record c.in-Some.field-0.value { tries = ALL_TRIES }) _ _ _ IsKind-user
    (HaveOtherMarks-sym row_kind user_kind HaveOtherMarks-row-user) (there g w) c.in_ok-commit_in_place.ensures.changed c.in_ok-commit_in_place-2.ensures.changed)

pub returns-clause-behind : goal.returns-clause-behind
returns-clause-behind g c =
    let cells = (c.in_ok-commit_in_place.ensures.goes_on (λ wrong. cc)).cells in
    Keeps-then (drop (image_size c.args.store.now.chains.cells)) (g.B.Eeprom.chip c.args.bench.now) (g.B.Eeprom.chip c.commit_in_place.new.bench) (g.B.Eeprom.chip c.commit_in_place-2.new.bench)
    (subst (λ (chip : Chip). Keeps (drop (image_size c.args.store.now.chains.cells)) chip (g.B.Eeprom.chip c.commit_in_place.new.bench)) c.in_ok-slot.ensures.frame.same c.commit_in_place.ensures.behind)
    (subst (λ (n : ℕ). Keeps (drop (image_size n)) (g.B.Eeprom.chip c.commit_in_place.new.bench) (g.B.Eeprom.chip c.commit_in_place-2.new.bench)) cells c.commit_in_place-2.ensures.behind)
