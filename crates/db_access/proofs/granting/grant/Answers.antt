-- The grant with the privileges more, or a new one, is the model's, and so is the database with it.
use Rattle.std.proofs.Common.{rules, ◌≡◌, ℕ, true, List, [], ◌∷◌, None, Some, Result, Ok, Err, refl, sym, ap, subst, ◌∙◌}
use Rattle.std.specs.Prelude.{bit_or}
use Rattle.record_store.specs.declared.side.Side.TheVariants.{Working}
use Rattle.scql_base.specs.declared.records.Grant.{Grant}
use Rattle.scql_base.specs.declared.records.Object.{Object}
use Rattle.scql_base.specs.declared.words.Actor.{Actor}
use Rattle.scql_base.specs.declared.words.StatusWord.{StatusWord}
use Rattle.scql_model.specs.Database.{Database, IsValid}
use Rattle.scql_model.specs.Edits.{Edit, changing, making}
use Rattle.scql_model.specs.Granting.{grant_to, more_granted, privileges_granted}
use Rattle.scql_model.specs.Records.{AnyRecord, is_privileges, of_grant}
use Rattle.scql_model.proofs.KeepsGrants.{granted-keeps}
use Rattle.record_table.specs.Making.{IsHeld, IsValidWith}
use Rattle.record_table.proofs.Asking.{same-slots}
use Rattle.record_table.proofs.Asked.{Ends-of}
use Rattle.record_table.proofs.Ending.{Ends-stopped}
use Rattle.db_access.specs.Pairs.{pair_named}
use Rattle.db_access.specs.declared.pairs.Pair.{Pair}
use Rattle.db_access.proofs.PairsFound.{Ends-unfound, IsValidWith-kept, named-done, named-none, pair-held}
use Rattle.row_table.proofs.Endings.{Ended-after, Ended-before}
use Rattle.db_access.proofs.granting.grant.Goals as goal

abbrev granting : Database → ℕ → Object → ℕ → Result (List Edit) StatusWord
granting db privileges o grantee = Ok (more_granted db o grantee privileges (grant_to db o grantee))

-- where there is no such pair nothing is granted
grants-none : (db : Database) (actor : Actor) (privileges : ℕ) (name grantee_name : List ℕ) (word : StatusWord) → pair_named db actor name grantee_name ≡ Err word
    → privileges_granted db actor privileges name grantee_name ≡ Err word
unfolding privileges_granted
grants-none db actor privileges name grantee_name word none = named-none db actor name grantee_name (granting db privileges) word none

-- where there is one
grants : (db : Database) (actor : Actor) (privileges : ℕ) (name grantee_name : List ℕ) (o : Object) (grantee : ℕ) → pair_named db actor name grantee_name ≡ Ok (o, grantee)
    → privileges_granted db actor privileges name grantee_name ≡ Ok (more_granted db o grantee privileges (grant_to db o grantee))
unfolding privileges_granted
grants db actor privileges name grantee_name o grantee pair = named-done db actor name grantee_name (granting db privileges) o grantee pair

-- the database stays valid
valid-granted : (db : Database) (actor : Actor) (privileges : ℕ) (name grantee_name : List ℕ) (edits : List Edit) → IsValid db → is_privileges privileges ≡ true
    → privileges_granted db actor privileges name grantee_name ≡ Ok edits → IsValidWith db edits
valid-granted db actor privileges name grantee_name edits valid some is =
    IsValidWith-kept db (privileges_granted db actor privileges name grantee_name) edits (granted-keeps db actor privileges name grantee_name valid some) is

pub returns-in_err-pair : goal.returns-in_err-pair
returns-in_err-pair g c = Ended-before c.requires.open.stand (search rules) (search rules) (λ db held form.
    Ends-unfound (λ (p : Pair). (p.object, p.grantee)) (pair_named db c.args.actor c.args.object c.args.grantee) db (privileges_granted db c.args.actor c.args.privileges c.args.object c.args.grantee) c.from_residual.result
    c.in_err-pair.field-0.0 c.args.tables.now.store _ _ c.from_residual.ensures.1 (c.in_err-pair.ensures.answers db held) (grants-none db c.args.actor c.args.privileges c.args.object c.args.grantee) (search rules))

-- a new grant of a pair
abbrev new_grant : Database → Pair → ℕ → Grant
new_grant db pair privileges = record { stamp = db.next; object = pair.object.stamp; grantee = pair.grantee; privileges = privileges }

abbrev stamped : Pair → ℕ → ℕ → AnyRecord
stamped pair privileges stamp = of_grant (record { stamp = stamp; object = pair.object.stamp; grantee = pair.grantee; privileges = privileges })

anew : (db : Database) (actor : Actor) (privileges : ℕ) (name grantee_name : List ℕ) (pair : Pair) → pair_named db actor name grantee_name ≡ Ok (pair.object, pair.grantee) → None ≡ grant_to db pair.object pair.grantee
    → privileges_granted db actor privileges name grantee_name ≡ Ok (making db (of_grant (new_grant db pair privileges)))
anew db actor privileges name grantee_name pair named none =
    grants db actor privileges name grantee_name pair.object pair.grantee named ∙ ap (λ o. Ok (more_granted db pair.object pair.grantee privileges o)) (sym none)

with_more : (db : Database) (actor : Actor) (privileges : ℕ) (name grantee_name : List ℕ) (pair : Pair) (given more : Grant) → pair_named db actor name grantee_name ≡ Ok (pair.object, pair.grantee)
    → Some given ≡ grant_to db pair.object pair.grantee → more ≡ record given { privileges = bit_or given.privileges privileges }
    → privileges_granted db actor privileges name grantee_name ≡ Ok (changing (of_grant more) ∷ [])
with_more db actor privileges name grantee_name pair given more named found same =
    grants db actor privileges name grantee_name pair.object pair.grantee named ∙ ap (λ o. Ok (more_granted db pair.object pair.grantee privileges o)) (sym found)
    ∙ ap (λ (g : Grant). Ok (changing (of_grant g) ∷ [])) (sym same)

pub returns-in-Some : goal.returns-in-Some
returns-in-Some g c = Ended-after c.change_in_place.ensures (search rules) (search rules) (λ db held form.
    let pair = c.in_ok-pair.pair in
    let given = c.in-Some.found.value in
    let more : Grant = c.with_privileges-more.result in
    let found : Some given ≡ grant_to db pair.object pair.grantee =
    pair-held c.args.tables.now.store Working (g.B.Eeprom.chip c.args.bench.now) db pair.object.stamp pair.grantee (Some given) held (rw (same-slots c.in_ok-pair.ensures.goes_on c.in_ok-pair.ensures.frame.same) at (rw c.in-Some.is at c.in_ok-held.ensures.found)) in
    let same : more ≡ record given { privileges = bit_or given.privileges c.args.privileges } = c.with_privileges-more.ensures ∙ ap (λ (bits : ℕ). record given { privileges = bits }) c.both.ensures in
    let is = with_more db c.args.actor c.args.privileges c.args.object c.args.grantee pair given more (c.in_ok-pair.ensures.answers db held) found same in
    (valid-granted db c.args.actor c.args.privileges c.args.object c.args.grantee (changing (of_grant more) ∷ []) held.valid form.0 is, is))

pub returns-in_err-counter : goal.returns-in_err-counter
returns-in_err-counter g c = Ended-before c.requires.open.stand (search rules) (search rules) (λ db held form.
    let pair = c.in_ok-pair.pair in
    let chip = g.B.Eeprom.chip c.args.bench.now in
    let none = pair-held c.args.tables.now.store Working chip db pair.object.stamp pair.grantee None held (rw (same-slots c.in_ok-pair.ensures.goes_on c.in_ok-pair.ensures.frame.same) at (rw c.in_default.is at c.in_ok-held.ensures.found)) in
    let edits = making db (of_grant (new_grant db pair c.args.privileges)) in
    Ends-stopped (Unit {0}) db _ c.from_residual-in_err-counter.result c.in_err-counter.field-0.0 _ _ _ _ c.from_residual-in_err-counter.ensures.1
    (Ends-of {T = Unit {0}} db edits _ (Err c.in_err-counter.field-0.0) c.args.tables.now.store c.args.tables.now.store chip _ (g.B.Eeprom.chip c.next_stamp.new.bench)
    (anew db c.args.actor c.args.privileges c.args.object c.args.grantee pair (c.in_ok-pair.ensures.answers db held) none) (search rules)
    (c.in_err-counter.ensures.none db edits (subst (λ chip. IsHeld c.args.tables.now.store Working chip db) (search rules) held) refl)))

pub returns : goal.returns
returns g c = Ended-after c.make.ensures.ended (search rules) (search rules) (λ db held form.
    let pair = c.in_ok-pair.pair in
    let chip = g.B.Eeprom.chip c.args.bench.now in
    let none = pair-held c.args.tables.now.store Working chip db pair.object.stamp pair.grantee None held (rw (same-slots c.in_ok-pair.ensures.goes_on c.in_ok-pair.ensures.frame.same) at (rw c.in_default.is at c.in_ok-held.ensures.found)) in
    let next = ap (λ counter. counter.value) c.counter.view_is ∙ c.in_ok-counter.ensures.finds.next db (subst (λ chip. IsHeld c.args.tables.now.store Working chip db) (search rules) held) in
    let is = anew db c.args.actor c.args.privileges c.args.object c.args.grantee pair (c.in_ok-pair.ensures.answers db held) none in
    let made = sym (ap (stamped pair c.args.privileges) next) in
    ((next, subst (λ r. IsValidWith db (making db r)) made (valid-granted db c.args.actor c.args.privileges c.args.object c.args.grantee _ held.valid form.0 is)), is ∙ ap (λ r. Ok (making db r)) made))
