-- The grant with fewer privileges is the model's, and so is the database with it, or without it.
use Rattle.std.proofs.Common.{rules, ◌≡◌, ℕ, ◌==◌, List, [], ◌∷◌, Option, None, Some, Result, Ok, Err, if◌then◌else◌, refl, sym, ap, ◌∙◌, inl, inr}
use Rattle.std.proofs.lemmas.Bool.{cases_Bool}
use Rattle.std.proofs.lemmas.Option.{none-some, same_Some}
use Rattle.record_store.specs.declared.side.Side.TheVariants.{Working}
use Rattle.scql_base.specs.Words.{not_found}
use Rattle.scql_base.specs.declared.records.Grant.{Grant}
use Rattle.scql_base.specs.declared.records.Object.{Object}
use Rattle.scql_base.specs.declared.words.Actor.{Actor}
use Rattle.scql_base.specs.declared.words.StatusWord.{StatusWord}
use Rattle.scql_model.specs.Database.{Database, IsValid}
use Rattle.scql_model.specs.Edits.{Edit, changing, removing, with_edits}
use Rattle.scql_model.specs.Granting.{grant_to, less_granted, privileges_left, privileges_revoked}
use Rattle.scql_model.specs.Records.{of_grant}
use Rattle.scql_model.specs.Refusals.{◌>>=◌, or_refused}
use Rattle.scql_model.proofs.KeepsGrants.{revoked-keeps}
use Rattle.catalog_codec.specs.Catalog.{grant_kind, row_kind}
use Rattle.catalog_codec.specs.KindLaws.{HaveOtherMarks-sym}
use Rattle.catalog_codec.specs.CatalogLaws.{HaveOtherMarks-row-grant}
use Rattle.record_table.specs.Making.{IsValidWith}
use Rattle.record_table.proofs.Asking.{same-slots}
use Rattle.row_table.proofs.Endings.{Ended-after, Ended-before, Ended-in_memory}
use Rattle.db_access.specs.Pairs.{pair_named}
use Rattle.db_access.specs.declared.pairs.Pair.{Pair}
use Rattle.db_access.proofs.PairsFound.{Ends-unfound, IsValidWith-kept, named-done, named-none, pair-held}
use Rattle.db_access.proofs.revoking.revoke.Goals as goal

abbrev revoking : Database → ℕ → Object → ℕ → Result (List Edit) StatusWord
revoking db privileges o grantee = or_refused (grant_to db o grantee) not_found >>= λ (g : Grant). Ok (less_granted g privileges)

-- where there is no such pair nothing is revoked
revokes-none : (db : Database) (actor : Actor) (privileges : ℕ) (name grantee_name : List ℕ) (word : StatusWord) → pair_named db actor name grantee_name ≡ Err word
    → privileges_revoked db actor privileges name grantee_name ≡ Err word
unfolding privileges_revoked
revokes-none db actor privileges name grantee_name word none = named-none db actor name grantee_name (revoking db privileges) word none

-- where there is one
revokes : (db : Database) (actor : Actor) (privileges : ℕ) (name grantee_name : List ℕ) (o : Object) (grantee : ℕ) → pair_named db actor name grantee_name ≡ Ok (o, grantee)
    → privileges_revoked db actor privileges name grantee_name ≡ revoking db privileges o grantee
unfolding privileges_revoked
revokes db actor privileges name grantee_name o grantee pair = named-done db actor name grantee_name (revoking db privileges) o grantee pair

-- the database stays valid
valid-revoked : (db : Database) (actor : Actor) (privileges : ℕ) (name grantee_name : List ℕ) (edits : List Edit) → IsValid db → privileges_revoked db actor privileges name grantee_name ≡ Ok edits → IsValidWith db edits
valid-revoked db actor privileges name grantee_name edits valid is =
    IsValidWith-kept db (privileges_revoked db actor privileges name grantee_name) edits (revoked-keeps db actor privileges name grantee_name valid) is

-- what is left of a grant
left-none : (given : Grant) (privileges : ℕ) (left : Option ℕ) → left ≡ (if privileges_left given.privileges privileges == 0 then None else Some (privileges_left given.privileges privileges)) → left ≡ None
    → less_granted given privileges ≡ removing (of_grant given) ∷ []
left-none given privileges left is none =
    elim (cases_Bool (privileges_left given.privileges privileges == 0)) [
      | inl t ↦ rw t refl
      | inr f ↦ absurd (none-some (privileges_left given.privileges privileges) (sym none ∙ (rw f at is)))
    ]

left-some : (given : Grant) (privileges bits : ℕ) (left : Option ℕ) → left ≡ (if privileges_left given.privileges privileges == 0 then None else Some (privileges_left given.privileges privileges)) → left ≡ Some bits
    → less_granted given privileges ≡ changing (of_grant (record given { privileges = bits })) ∷ []
left-some given privileges bits left is some =
    elim (cases_Bool (privileges_left given.privileges privileges == 0)) [
      | inl t ↦ absurd (none-some bits (sym (rw t at is) ∙ some))
      | inr f ↦ rw f (ap (λ (n : ℕ). changing (of_grant (record given { privileges = n })) ∷ []) (same_Some (privileges_left given.privileges privileges) bits (sym (rw f at is) ∙ some)))
    ]

pub returns-in_err-pair : goal.returns-in_err-pair
returns-in_err-pair g c = Ended-before c.requires.open.stand (search rules) (search rules) (λ db held any.
    Ends-unfound (λ (p : Pair). (p.object, p.grantee)) (pair_named db c.args.actor c.args.object c.args.grantee) db (privileges_revoked db c.args.actor c.args.privileges c.args.object c.args.grantee) c.from_residual.result
    c.in_err-pair.field-0.0 c.args.tables.now.store _ _ c.from_residual.ensures.1 (c.in_err-pair.ensures.answers db held) (revokes-none db c.args.actor c.args.privileges c.args.object c.args.grantee) (search rules))

pub returns-in_default : goal.returns-in_default
returns-in_default g c = Ended-before c.requires.open.stand (search rules) (search rules) (λ db held any.
    let pair = c.in_ok-pair.pair in
    let none = pair-held c.args.tables.now.store Working (g.B.Eeprom.chip c.args.bench.now) db pair.object.stamp pair.grantee None held (rw (same-slots c.in_ok-pair.ensures.goes_on c.in_ok-pair.ensures.frame.same) at (rw c.in_default.is at c.in_ok-found.ensures.found)) in
    let is = revokes db c.args.actor c.args.privileges c.args.object c.args.grantee pair.object pair.grantee (c.in_ok-pair.ensures.answers db held)
    ∙ ap (λ o. or_refused o not_found >>= λ (g : Grant). Ok (less_granted g c.args.privileges)) (sym none) in
    rw c.refused.ensures (ap (λ outcome. outcome >>= with_edits db) is, refl, search rules))

-- the edits of a grant that is found
found-edits : (db : Database) (actor : Actor) (privileges : ℕ) (name grantee_name : List ℕ) (pair : Pair) (given : Grant) → pair_named db actor name grantee_name ≡ Ok (pair.object, pair.grantee)
    → Some given ≡ grant_to db pair.object pair.grantee → privileges_revoked db actor privileges name grantee_name ≡ Ok (less_granted given privileges)
found-edits db actor privileges name grantee_name pair given named found =
    revokes db actor privileges name grantee_name pair.object pair.grantee named ∙ ap (λ o. or_refused o not_found >>= λ (g : Grant). Ok (less_granted g privileges)) (sym found)

pub returns-in-None : goal.returns-in-None
returns-in-None g c =
    let chip = g.B.Eeprom.chip c.args.bench.now in
    let given = c.in-Some.found.value in
    let at = rw (same-slots c.in_ok-pair.ensures.goes_on c.in_ok-pair.ensures.frame.same) at (rw c.in-Some.is at c.in_ok-found.ensures.at) in
    Ended-in_memory c.requires.open.stand (search rules) (search rules) c.take_out.ensures.index_same (λ db held any.
    let pair = c.in_ok-pair.pair in
    let found = pair-held c.args.tables.now.store Working chip db pair.object.stamp pair.grantee (Some given) held (rw (same-slots c.in_ok-pair.ensures.goes_on c.in_ok-pair.ensures.frame.same) at (rw c.in-Some.is at c.in_ok-found.ensures.found)) in
    let is = found-edits db c.args.actor c.args.privileges c.args.object c.args.grantee pair given (c.in_ok-pair.ensures.answers db held) found
    ∙ ap Ok (left-none given c.args.privileges c.left_of.result c.left_of.ensures c.in-None.is) in
    (removing (of_grant given) ∷ [], is, c.take_out.ensures.takes.makes db given chip held at c.requires.open.stand.over (valid-revoked db c.args.actor c.args.privileges c.args.object c.args.grantee (removing (of_grant given) ∷ []) held.valid is)))
    (c.take_out.ensures.takes.goes_on chip c.requires.open.stand.over)
    (c.take_out.ensures.takes.rows given chip (HaveOtherMarks-sym row_kind grant_kind HaveOtherMarks-row-grant) at c.requires.open.stand.over)
    (c.take_out.ensures.takes.committed chip c.requires.open.stand.over)

pub returns-in-Some-left_of : goal.returns-in-Some-left_of
returns-in-Some-left_of g c = Ended-after c.change_in_place.ensures (search rules) (search rules) (λ db held any.
    let pair = c.in_ok-pair.pair in
    let given = c.in-Some.found.value in
    let less : Grant = c.with_privileges-less.result in
    let found = pair-held c.args.tables.now.store Working (g.B.Eeprom.chip c.args.bench.now) db pair.object.stamp pair.grantee (Some given) held (rw (same-slots c.in_ok-pair.ensures.goes_on c.in_ok-pair.ensures.frame.same) at (rw c.in-Some.is at c.in_ok-found.ensures.found)) in
    let is = found-edits db c.args.actor c.args.privileges c.args.object c.args.grantee pair given (c.in_ok-pair.ensures.answers db held) found
    ∙ ap Ok (left-some given c.args.privileges c.in-Some-left_of.left c.left_of.result c.left_of.ensures c.in-Some-left_of.is) ∙ ap (λ (g : Grant). Ok (changing (of_grant g) ∷ [])) (sym c.with_privileges-less.ensures) in
    (valid-revoked db c.args.actor c.args.privileges c.args.object c.args.grantee (changing (of_grant less) ∷ []) held.valid is, is))
