-- How each operation that changes the database ends: by proper edits, or by a refusal whose word isn't that of a full card.
use Rattle.std.proofs.Common.{◌≡◌, ◌==◌, ◌&&◌, Bool, true, false, not, List, ◌∷◌, [], map, Option, Some, None, Result, Ok, Err, refl, ap, subst}
use Rattle.std.specs.Prelude.{nat_le, nat_lt}
use Rattle.std.specs.List.{list_all}
use Rattle.std.specs.Result.{result_ok, result_err}
use Rattle.std.proofs.lemmas.Bool.{and_parts, false≢true}
use Rattle.std.proofs.lemmas.Option.{same_Some}
use Rattle.scql_base.specs.Words.{done, no_space, not_found, security_not_satisfied}
use Rattle.scql_base.specs.declared.words.Actor.{Actor}
use Rattle.scql_base.specs.declared.words.StatusWord.{StatusWord}
use Rattle.scql_base.specs.declared.records.Object.{Object}
use Rattle.scql_base.specs.declared.records.Grant.{Grant}
use Rattle.scql_base.specs.declared.records.RowRecord.{RowRecord}
use Rattle.scql_model.specs.Refusals.{◌>>=◌, or_refused, provided}
use Rattle.scql_model.specs.Database.{Database}
use Rattle.scql_model.specs.Rights.{owns}
use Rattle.scql_model.specs.Defining.{owned_by}
use Rattle.scql_model.specs.Edits.{AnyRecord, of_grant, of_row, record_stamp, Edit, making, removing}
use Rattle.scql_model.proofs.LongerLists.{all-weaker}
use Rattle.scql_model.proofs.RightEdits.{AreRight, counts_on, right-making}
use Rattle.scql_model.proofs.ObjectsFollow.{keeps_object, AreKept}
use Rattle.scql_model.proofs.UsersFollow.{leaves_users, leaving-all, DoesTo}
use Rattle.scql_model.proofs.RefusalWords.{OrRefuses, Anything}

-- each edit is right; none changes an object; users stay, one more is made, or one is taken away
pub record AreProper (db : Database) (edits : List Edit) : Type 0 where
  pub right : AreRight db edits
  pub kept : AreKept edits
  pub users : DoesTo db edits

-- an edit spares objects and users: it changes no object, and is of no user
abbrev pub spares : Edit → Bool
spares e = keeps_object e.action e.entry && leaves_users e.entry

abbrev pub AreSparing : List Edit → Type 0
AreSparing edits = list_all spares edits ≡ true

-- so it keeps objects and leaves users
pub proper-kept : (edits : List Edit) → AreSparing edits → AreKept edits
proper-kept edits spare =
    all-weaker spares (λ (e : Edit). keeps_object e.action e.entry) edits (λ e (is : spares e ≡ true). (and_parts (keeps_object e.action e.entry) (leaves_users e.entry) is).0) spare

pub proper-leaving : (edits : List Edit) → AreSparing edits → list_all (λ (e : Edit). leaves_users e.entry) edits ≡ true
proper-leaving edits spare =
    all-weaker spares (λ (e : Edit). leaves_users e.entry) edits (λ e (is : spares e ≡ true). (and_parts (keeps_object e.action e.entry) (leaves_users e.entry) is).1) spare

-- what spares objects and users is proper where it is right
pub proper-sparing : (db : Database) (edits : List Edit) → AreRight db edits → AreSparing edits → AreProper db edits
proper-sparing db edits right spare = record {
  right = right;
  kept = proper-kept edits spare;
  users = leaving-all db edits (proper-leaving edits spare);
}

-- a record that is made, but for a user
pub proper-making : (db : Database) (r : AnyRecord) → record_stamp r ≡ db.next → counts_on db.next r ≡ true → leaves_users r ≡ true → AreProper db (making db r)
proper-making db r next counts leaves = proper-sparing db (making db r) (right-making db r next counts) (rw leaves refl)

-- grants and rows that are taken out
pub sparing-grants : (grants : List Grant) → AreSparing (map (λ (g : Grant). removing (of_grant g)) grants)
sparing-grants [] = refl
sparing-grants (g ∷ grants) = sparing-grants grants

pub sparing-rows : (rows : List RowRecord) → AreSparing (map (λ (r : RowRecord). removing (of_row r)) rows)
sparing-rows [] = refl
sparing-rows (r ∷ rows) = sparing-rows rows

-- a word of refusals, but for that of a full card
abbrev pub IsRefusal : StatusWord → Type 0
IsRefusal w = ((nat_le 25600 w.word && nat_lt w.word done.word) && not (w.word == no_space.word)) ≡ true

-- An outcome is a value of which this is true, or such a refusal.
pub record IsOutcome {A : Type 0} (P : A → Type 0) (r : Result A StatusWord) : Type 0 where
  pub each : (x : A) → r ≡ Ok x → P x
  pub word : (w : StatusWord) → r ≡ Err w → IsRefusal w

pub outcome-done : {A : Type 0} {P : A → Type 0} (x : A) → P x → IsOutcome P (let r : Result A StatusWord = Ok x in r)
outcome-done {A} {P} x holds = record {
  each = λ y (is : Ok x ≡ Ok y). subst P (same_Some x y (ap result_ok is)) holds;
  word = λ w (is : Ok x ≡ Err w). absurd cc;
}

pub outcome-refused : {A : Type 0} {P : A → Type 0} (word : StatusWord) → IsRefusal word → IsOutcome P (let r : Result A StatusWord = Err word in r)
outcome-refused {A} {P} word is = record {
  each = λ y (wrong : Err word ≡ Ok y). absurd cc;
  word = λ w (same : Err word ≡ Err w). subst IsRefusal (same_Some word w (ap result_err same)) is;
}

-- one outcome and then the next
pub outcome-bound : {A B : Type 0} {Q : A → Type 0} {P : B → Type 0} (r : Result A StatusWord) (f : A → Result B StatusWord)
    → IsOutcome Q r → ((x : A) → Q x → IsOutcome P (f x)) → IsOutcome P (r >>= f)
outcome-bound (Ok x) f first rest = rest x (first.each x refl)
outcome-bound (Err word) f first rest = outcome-refused word (first.word word refl)

-- what is asked of an operation, and what there has to be
pub outcome-asked : {B : Type 0} {P : B → Type 0} (test : Bool) (word : StatusWord) (f : Unit {0} → Result B StatusWord)
    → IsRefusal word → (test ≡ true → IsOutcome P (f tt)) → IsOutcome P (provided test word >>= f)
outcome-asked true word f is rest = rest refl
outcome-asked false word f is rest = outcome-refused word is

pub outcome-there : {A B : Type 0} {P : B → Type 0} (o : Option A) (word : StatusWord) (f : A → Result B StatusWord)
    → IsRefusal word → ((x : A) → o ≡ Some x → IsOutcome P (f x)) → IsOutcome P (or_refused o word >>= f)
outcome-there None word f is rest = outcome-refused word is
outcome-there (Some x) word f is rest = rest x refl

-- an object that the actor owns is there
pub outcome-owned : (actor : Actor) (found : Option Object) → IsOutcome (λ o. found ≡ Some o) (owned_by actor found)
outcome-owned actor found =
    outcome-there found not_found _ refl λ o is. outcome-asked (owns actor o) security_not_satisfied _ refl λ _. outcome-done o is

-- the word of a refusal is one of refusals
pub gives-outcome : {A : Type 0} {P : A → Type 0} (r : Result A StatusWord) → IsOutcome P r → OrRefuses Anything r
gives-outcome (Ok x) ends = tt
gives-outcome (Err word) ends = (and_parts (nat_le 25600 word.word && nat_lt word.word done.word) (not (word.word == no_space.word)) (ends.word word refl)).0

-- and never that of a full card
pub outcome-not_full : {A : Type 0} {P : A → Type 0} (r : Result A StatusWord) → IsOutcome P r → r ≡ Err no_space → ⊥
outcome-not_full r ends full = false≢true (ends.word no_space full)
