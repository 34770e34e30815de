-- What is true of every change of a database, and of single ones.
use Rattle.std.proofs.Common.{◌≡◌, ◌==◌, true, false, List, ◌&&◌, Option, Result, Ok, Err, refl, ap, sym, ◌∙◌, subst, inl, inr}
use Rattle.std.proofs.lemmas.Bool.{cases_Bool, or_parts}
use Rattle.std.specs.Result.{result_ok, result_err}
use Rattle.std.proofs.lemmas.Option.{same_Some}
use Rattle.scql_base.specs.declared.words.Actor.{Actor}
use Rattle.scql_base.specs.declared.words.StatusWord.{StatusWord}
use Rattle.scql_base.specs.declared.cursor.Cursor.{Cursor}
use Rattle.scql_base.specs.declared.operation.Operation.{Operation}
use Rattle.scql_base.specs.Words.{no_space}
use Rattle.scql_model.specs.Database.{Database}
use Rattle.scql_model.specs.Creating.{is_overfull, stamps_end}
use Rattle.scql_model.specs.Edits.{Edit, applied}
use Rattle.scql_model.specs.Changing.{edits_of, takes_stamp, lacks_room, with_edits, change_of}
use Rattle.scql_model.proofs.EditLaws.{applied-cells, applied-limit}

-- A refusal changes nothing, and what has edits is their database or a full card.
pub change_of-refused : (db : Database) (actor : Actor) (cursor : Option Cursor) (operation : Operation) (word : StatusWord)
    → edits_of db actor cursor operation ≡ Err word → change_of db actor cursor operation ≡ Err word
unfolding change_of
change_of-refused db actor cursor operation word refused = rw refused refl

pub change_of-edits : (db : Database) (actor : Actor) (cursor : Option Cursor) (operation : Operation) (edits : List Edit)
    → edits_of db actor cursor operation ≡ Ok edits → change_of db actor cursor operation ≡ with_edits db edits
unfolding change_of
change_of-edits db actor cursor operation edits made = rw made refl

-- the edits that made a new database of an old one: there was room for them, and a stamp where they took one
pub record AreMade (db : Database) (edits : List Edit) (new : Database) : Type 0 where
  pub is : new ≡ applied db edits
  pub stamps_left : takes_stamp edits ≡ true → (db.next == stamps_end) ≡ false
  pub room : is_overfull new ≡ false
  pub cells : new.cells ≡ db.cells
  pub limit : new.limit ≡ db.limit

same_Ok : {A : Type 0} (x y : A) → (let o : Result A StatusWord = Ok x in o) ≡ Ok y → x ≡ y
same_Ok x y is = same_Some x y (ap result_ok is)

pub AreMade-with_edits : (db : Database) (edits : List Edit) (new : Database) → with_edits db edits ≡ Ok new → AreMade db edits new
AreMade-with_edits db edits new ok =
    elim (cases_Bool (lacks_room db edits)) [
      | inl t ↦ absurd (let wrong : Err no_space ≡ Ok new = rw t at ok in cc)
      | inr f ↦ (let parts = or_parts (takes_stamp edits && db.next == stamps_end) (is_overfull (applied db edits)) f in
          let is : applied db edits ≡ new = same_Ok (applied db edits) new (rw f at ok) in
          record {
            is = sym is;
            stamps_left = λ (takes : takes_stamp edits ≡ true). rw takes at parts.0;
            room = subst (λ (made : Database). is_overfull made ≡ false) is parts.1;
            cells = ap (λ (made : Database). made.cells) (sym is) ∙ applied-cells db edits;
            limit = ap (λ (made : Database). made.limit) (sym is) ∙ applied-limit db edits;
          })
    ]

-- Where a command changes the database, it is by its edits.
pub change_of-ok : (db : Database) (actor : Actor) (cursor : Option Cursor) (operation : Operation) (new : Database)
    → change_of db actor cursor operation ≡ Ok new → (edits : List Edit) × (edits_of db actor cursor operation ≡ Ok edits) × AreMade db edits new
change_of-ok db actor cursor operation new ok = go (edits_of db actor cursor operation) refl
  where
    go : (outcome : Result (List Edit) StatusWord) → edits_of db actor cursor operation ≡ outcome
        → (edits : List Edit) × (edits_of db actor cursor operation ≡ Ok edits) × AreMade db edits new
    go (Ok edits) made = (edits, made, AreMade-with_edits db edits new (sym (change_of-edits db actor cursor operation edits made) ∙ ok))
    go (Err word) refused = absurd (let wrong : Err word ≡ Ok new = sym (change_of-refused db actor cursor operation word refused) ∙ ok in cc)

pub same_Err : {A : Type 0} (x y : StatusWord) → (let o : Result A StatusWord = Err x in o) ≡ Err y → x ≡ y
same_Err x y is = same_Some x y (ap result_err is)

pub lacks : (db : Database) (edits : List Edit) → with_edits db edits ≡ Err no_space → lacks_room db edits ≡ true
lacks db edits full =
    elim (cases_Bool (lacks_room db edits)) [
      | inl t ↦ t
      | inr f ↦ absurd (let wrong : (let r : Result Database StatusWord = Ok (applied db edits) in r) ≡ Err no_space = rw f at full in cc)
    ]
