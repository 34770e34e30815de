-- The pair of GRANT and REVOKE, and the one grant of it; what is found first, and then what is done with it.
use Rattle.std.proofs.Common.{◌≡◌, ℕ, ◌≤◌, ◌==◌, true, false, List, count_by, Option, Some, None, Result, Ok, Err, refl, sym, ap, subst, ◌∙◌}
use Rattle.std.specs.Prelude.{IfSome}
use Rattle.std.specs.List.{find}
use Rattle.std.specs.Result.{IsErrAnd}
use Rattle.std.specs.Str.{bytes_eq}
use Rattle.std.proofs.lemmas.Bool.{and_parts, and_from, eqb-true, eq-eqb, ltb-false}
use Rattle.eeprom.specs.Chip.{Chip}
use Rattle.record_store.specs.Held.{Held}
use Rattle.record_store.specs.declared.side.Side.{Side}
use Rattle.scql_base.specs.Words.{not_found}
use Rattle.scql_base.specs.declared.records.Grant.{Grant}
use Rattle.scql_base.specs.declared.records.Object.{Object}
use Rattle.scql_base.specs.declared.records.User.{User}
use Rattle.scql_base.specs.declared.words.Actor.{Actor}
use Rattle.scql_base.specs.declared.words.StatusWord.{StatusWord}
use Rattle.scql_model.specs.Database.{Database, public_name, user_named, weight}
use Rattle.scql_model.specs.Defining.{owned_by}
use Rattle.scql_model.specs.Edits.{Edit, applied, with_edits}
use Rattle.scql_model.specs.Granting.{grantee_named}
use Rattle.scql_model.specs.Refusals.{◌>>=◌, or_refused}
use Rattle.scql_model.specs.Rights.{seen_named}
use Rattle.scql_model.specs.Rules.{is_of_pair}
use Rattle.scql_model.proofs.ChangeLaws.{AreMade-with_edits}
use Rattle.scql_model.proofs.Keeping.{Keeps}
use Rattle.scql_model.proofs.RightEdits.{Yields}
use Rattle.catalog_codec.specs.Catalog.{grant_kind}
use Rattle.privilege_table.specs.Granted.{is_pair}
use Rattle.privilege_table.proofs.Seen.{told-held}
use Rattle.record_table.specs.Listed.{listed, slots_of}
use Rattle.record_table.specs.Making.{Ends, IsHeld, IsValidWith}
use Rattle.record_table.specs.declared.stop.Stop.{Stop}
use Rattle.record_table.specs.declared.stop.Stop.TheVariants.{Refused, Fault}
use Rattle.db_access.specs.Asked.{AnswersNamed}
use Rattle.db_access.specs.Pairs.{pair_named}
use Rattle.db_access.proofs.Apart.{one-apart}

-- what is answered of a whole, a part of which is refused
pub Answers-stopped : {S T U V : Type 0} (part : T → S) (whole : V → U) (of_part : Result S StatusWord) (of_whole : Result U StatusWord) (result : Result V Stop) (stop : Stop) → IsErrAnd result (λ given. given ≡ stop)
    → AnswersNamed part of_part (Err stop) → ((word : StatusWord) → of_part ≡ Err word → of_whole ≡ Err word) → AnswersNamed whole of_whole result
Answers-stopped part whole of_part of_whole (Ok x) stop gives answers refuses = absurd gives
Answers-stopped part whole of_part of_whole (Err given) (Refused word) gives answers refuses = subst (λ stop. AnswersNamed whole of_whole (Err stop)) (sym gives) (refuses word answers)
Answers-stopped part whole of_part of_whole (Err given) Fault gives answers refuses = subst (λ stop. AnswersNamed whole of_whole (Err stop)) (sym gives) tt

-- an operation whose search is refused is refused by the same word
pub Ends-unfound : {S T U : Type 0} (named : T → S) (asked : Result S StatusWord) (db : Database) (outcome : Result (List Edit) StatusWord) (result : Result U Stop) (stop : Stop) (store : Held) (before after : Chip)
    → IsErrAnd result (λ given. given ≡ stop) → AnswersNamed named asked (Err stop) → ((word : StatusWord) → asked ≡ Err word → outcome ≡ Err word) → after ≡ before → Ends db outcome result store store before after
Ends-unfound named asked db outcome (Ok x) stop store before after gives answers refuses same = absurd gives
Ends-unfound {S} {T} {U} named asked db outcome (Err given) (Refused word) store before after gives answers refuses same =
    subst (λ stop. Ends {T = U} db outcome (Err stop) store store before after) (sym gives) (ap (λ outcome. outcome >>= with_edits db) (refuses word answers), refl, same)
Ends-unfound {S} {T} {U} named asked db outcome (Err given) Fault store before after gives answers refuses same = subst (λ stop. Ends {T = U} db outcome (Err stop) store store before after) (sym gives) tt

-- two things are found one after the other, and then what is done with both
paired : {A B C : Type 0} (a : Result A StatusWord) (b : Result B StatusWord) (done : A → B → Result C StatusWord) → (a >>= λ x. b >>= λ y. done x y) ≡ ((a >>= λ x. b >>= λ y. Ok (x, y)) >>= λ (p : A × B). done p.0 p.1)
paired (Err word) b done = refl
paired (Ok x) (Err word) done = refl
paired (Ok x) (Ok y) done = refl

-- where the names are of no pair nothing is done with it
pub named-none : (db : Database) (actor : Actor) (name grantee_name : List ℕ) (done : Object → ℕ → Result (List Edit) StatusWord) (word : StatusWord) → pair_named db actor name grantee_name ≡ Err word
    → (owned_by actor (seen_named db actor name) >>= λ o. or_refused (grantee_named db grantee_name) not_found >>= λ grantee. done o grantee) ≡ Err word
named-none db actor name grantee_name done word none =
    paired (owned_by actor (seen_named db actor name)) (or_refused (grantee_named db grantee_name) not_found) done ∙ ap (λ r. r >>= λ (p : Object × ℕ). done p.0 p.1) none

-- and else with the one of which they are
pub named-done : (db : Database) (actor : Actor) (name grantee_name : List ℕ) (done : Object → ℕ → Result (List Edit) StatusWord) (o : Object) (grantee : ℕ) → pair_named db actor name grantee_name ≡ Ok (o, grantee)
    → (owned_by actor (seen_named db actor name) >>= λ o. or_refused (grantee_named db grantee_name) not_found >>= λ grantee. done o grantee) ≡ done o grantee
named-done db actor name grantee_name done o grantee pair =
    paired (owned_by actor (seen_named db actor name)) (or_refused (grantee_named db grantee_name) not_found) done ∙ ap (λ r. r >>= λ (p : Object × ℕ). done p.0 p.1) pair

-- the database with edits that keep it valid where there is room for them is valid
pub IsValidWith-kept : (db : Database) (outcome : Result (List Edit) StatusWord) (edits : List Edit) → Yields (Keeps db) outcome → outcome ≡ Ok edits → IsValidWith db edits
IsValidWith-kept db outcome edits keeps is = λ room.
    let new = applied db edits in
    let made = AreMade-with_edits db edits new (rw room refl) in
    keeps.each edits is (record { stamps_left = made.stamps_left; room = ltb-false new.cells (weight new) made.room })

-- a grantee is a user, if it isn't PUBLIC
pub grantee-found : (db : Database) (name : List ℕ) (u : User) → bytes_eq name public_name ≡ false → user_named db.users name ≡ Some u → or_refused (grantee_named db name) not_found ≡ Ok u.stamp
grantee-found db name u other found = rw (other, found) refl

pub grantee-none : (db : Database) (name : List ℕ) → bytes_eq name public_name ≡ false → user_named db.users name ≡ None → or_refused (grantee_named db name) not_found ≡ Err not_found
grantee-none db name other none = rw (other, none) refl

-- two grants of one pair are grants of the same pair
same-pair : (object grantee : ℕ) (g h : Grant) → is_pair object grantee g ≡ true → is_pair object grantee h ≡ true → is_of_pair g h ≡ true
same-pair object grantee g h one other =
    let a = and_parts (g.object == object) (g.grantee == grantee) one in
    let b = and_parts (h.object == object) (h.grantee == grantee) other in
    and_from (g.object == h.object) (g.grantee == h.grantee)
    (eq-eqb g.object h.object (eqb-true g.object object a.0 ∙ sym (eqb-true h.object object b.0)))
    (eq-eqb g.grantee h.grantee (eqb-true g.grantee grantee a.1 ∙ sym (eqb-true h.grantee grantee b.1)))

-- what a search for the grant of a pair says
abbrev pub IsOfPair : ℕ → ℕ → Option Grant → List Grant → Type 0
IsOfPair object grantee found grants = count_by (is_pair object grantee) grants ≤ 1 → found ≡ find (is_pair object grantee) grants

-- the grant of a pair that is found is the database's
pub pair-held : (store : Held) (side : Side) (chip : Chip) (db : Database) (object grantee : ℕ) (found : Option Grant) → IsHeld store side chip db
    → IfSome (slots_of store side chip) (λ slots. IsOfPair object grantee found (listed grant_kind slots)) → found ≡ find (is_pair object grantee) db.grants
pair-held store side chip db object grantee found held said =
    let here = told-held store side chip db (λ slots. IsOfPair object grantee found (listed grant_kind slots)) held said in
    subst (IsOfPair object grantee found) held.holds.grants here (one-apart is_of_pair (is_pair object grantee) (same-pair object grantee) db.grants held.valid.grants.pairs)
