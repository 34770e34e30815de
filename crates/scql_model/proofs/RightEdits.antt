-- Edits are right: each changes or removes a record that is there, or adds one with the next stamp, which the counter has then given out.
use Rattle.std.proofs.Common.{◌≡◌, subst, ℕ, ◌==◌, ◌+◌, ◌&&◌, if◌then◌else◌, Bool, true, false, ◌||◌, List, [], ◌∷◌, map, filter, Option, Some, Result, Ok, Err, refl, ap, sym, ◌∙◌, inl, inr}
use Rattle.std.specs.Result.{result_ok}
use Rattle.std.specs.List.{list_any, list_all, find}
use Rattle.std.proofs.lemmas.Bool.{cases_Bool, and_parts, eqb-true, eq-eqb}
use Rattle.std.proofs.lemmas.List.Folds.{list_any-append, list_all-map}
use Rattle.std.proofs.lemmas.Option.{none-some, same_Some}
use Rattle.scql_model.proofs.FormedCommands.{not_refused}
use Rattle.scql_model.proofs.LongerLists.{any-map, all-weaker}
use Rattle.scql_base.specs.declared.words.StatusWord.{StatusWord}
use Rattle.scql_base.specs.declared.records.User.{User}
use Rattle.scql_base.specs.declared.records.Object.{Object}
use Rattle.scql_base.specs.declared.records.Grant.{Grant}
use Rattle.scql_base.specs.declared.records.RowRecord.{RowRecord}
use Rattle.scql_model.specs.Database.{Database}
use Rattle.scql_model.specs.Refusals.{◌>>=◌, or_refused, provided}
use Rattle.scql_base.specs.declared.words.Actor.{Actor}
use Rattle.scql_base.specs.Words.{security_not_satisfied, not_found}
use Rattle.scql_model.specs.ReadingCommands.{}
use Rattle.scql_model.specs.Rights.{owns}
use Rattle.scql_model.specs.Defining.{owned_by}
use Rattle.scql_model.specs.Changing.{is_counter, takes_stamp}
use Rattle.scql_model.specs.Edits.{AnyRecord, of_counter, of_user, of_object, of_grant, of_row, record_stamp, Action, to_add, to_change, to_remove, Edit, making, removing, has_record, edited, applied}

abbrev is_right_of : Database → Action → ℕ → Bool
is_right_of db to_add stamp = stamp == db.next
is_right_of db to_change stamp = has_record db stamp
is_right_of db to_remove stamp = has_record db stamp

-- the counter counts one stamp on
abbrev pub counts_on : ℕ → AnyRecord → Bool
counts_on next (of_counter n) = n == next + 1
counts_on next r = true

abbrev pub is_right : Database → Edit → Bool
is_right db e = counts_on db.next e.entry && is_right_of db e.action (record_stamp e.entry)

abbrev pub AreRight : Database → List Edit → Type 0
AreRight db edits = list_all (is_right db) edits ≡ true

-- a record's stamp is among those of a list
abbrev has_key : {X : Type 0} → (X → ℕ) → List X → ℕ → Bool
has_key key xs stamp = list_any (λ x. stamp == key x) xs

or_true : (a b : Bool) → b ≡ true → (a || b) ≡ true
or_true true b h = refl
or_true false b h = h

true_or : (a b : Bool) → a ≡ true → (a || b) ≡ true
true_or a b h = rw h refl

in_kinds : (db : Database) (stamp : ℕ) → has_record db stamp
    ≡ (stamp == 0 || (has_key (λ (u : User). u.stamp) db.users stamp || (has_key (λ (o : Object). o.stamp) db.objects stamp
    || (has_key (λ (g : Grant). g.stamp) db.grants stamp || has_key (λ (r : RowRecord). r.stamp) db.rows stamp))))
in_kinds db stamp =
    simp (list_any-append, any-map)

pub has_record-user : (db : Database) (stamp : ℕ) → has_key (λ (u : User). u.stamp) db.users stamp ≡ true → has_record db stamp ≡ true
has_record-user db stamp there = in_kinds db stamp ∙ or_true (stamp == 0) _ (true_or _ _ there)

pub has_record-object : (db : Database) (stamp : ℕ) → has_key (λ (o : Object). o.stamp) db.objects stamp ≡ true → has_record db stamp ≡ true
has_record-object db stamp there = in_kinds db stamp ∙ or_true (stamp == 0) _ (or_true (has_key (λ (u : User). u.stamp) db.users stamp) _ (true_or _ _ there))

pub has_record-grant : (db : Database) (stamp : ℕ) → has_key (λ (g : Grant). g.stamp) db.grants stamp ≡ true → has_record db stamp ≡ true
has_record-grant db stamp there =
    in_kinds db stamp
    ∙ or_true (stamp == 0) _ (or_true (has_key (λ (u : User). u.stamp) db.users stamp) _ (or_true (has_key (λ (o : Object). o.stamp) db.objects stamp) _ (true_or _ _ there)))

pub has_record-row : (db : Database) (stamp : ℕ) → has_key (λ (r : RowRecord). r.stamp) db.rows stamp ≡ true → has_record db stamp ≡ true
has_record-row db stamp there =
    in_kinds db stamp
    ∙ or_true (stamp == 0) _ (or_true (has_key (λ (u : User). u.stamp) db.users stamp) _ (or_true (has_key (λ (o : Object). o.stamp) db.objects stamp) _
    (or_true (has_key (λ (g : Grant). g.stamp) db.grants stamp) _ there)))

-- what is found is there, and so is each element that passes a test
pub found-there : {X : Type 0} (key : X → ℕ) (q : X → Bool) (xs : List X) (x : X) → find q xs ≡ Some x → has_key key xs (key x) ≡ true
found-there key q [] x found = absurd (none-some x found)
found-there key q (y ∷ ys) x found =
    elim (cases_Bool (q y)) [
      | inl t ↦ (let same : y ≡ x = same_Some y x (rw t at found) in true_or (key x == key y) (has_key key ys (key x)) (eq-eqb (key x) (key y) (ap key (sym same))))
      | inr f ↦ or_true (key x == key y) (has_key key ys (key x)) (found-there key q ys x (rw f at found))
    ]

pub all-there : {X : Type 0} (key : X → ℕ) (has : ℕ → Bool) (q : X → Bool) (xs : List X) → ((stamp : ℕ) → has_key key xs stamp ≡ true → has stamp ≡ true)
    → list_all (λ x. has (key x)) (filter q xs) ≡ true
all-there key has q [] each = refl
all-there key has q (x ∷ xs) each =
    let rest = all-there key has q xs (λ stamp (there : has_key key xs stamp ≡ true). each stamp (or_true (stamp == key x) (has_key key xs stamp) there)) in
    let here : has (key x) ≡ true = each (key x) (true_or (key x == key x) (has_key key xs (key x)) (eq-eqb (key x) (key x) refl)) in
    elim (cases_Bool (q x)) [ inl t ↦ rw (t, here) rest | inr f ↦ rw f rest ]

-- what a value is made of that isn't refused
pub record Yields {A : Type 0} (P : A → Type 0) (r : Result A StatusWord) : Type 0 where
  pub each : (x : A) → r ≡ Ok x → P x

pub bound-yields : {A B : Type 0} (P : B → Type 0) (r : Result A StatusWord) (f : A → Result B StatusWord) → ((x : A) → r ≡ Ok x → Yields P (f x)) → Yields P (r >>= f)
bound-yields P (Ok x) f each = each x refl
bound-yields P (Err word) f each = record { each = λ x (is : Err word ≡ Ok x). cc }

pub done-yields : {A : Type 0} (P : A → Type 0) (x : A) → P x → Yields P (let r : Result A StatusWord = Ok x in r)
done-yields P x holds = record { each = λ y (is : Ok x ≡ Ok y). subst P (same_Some x y (ap result_ok is)) holds }

-- a record that is made takes the next stamp
pub right-making : (db : Database) (r : AnyRecord) → record_stamp r ≡ db.next → counts_on db.next r ≡ true → AreRight db (making db r)
right-making db r next counts = rw (next, counts, eq-eqb (db.next + 1) (db.next + 1) refl, eq-eqb db.next db.next refl) refl

-- an object that the actor owns is there
pub owned-there : (actor : Actor) (found : Option Object) → Yields (λ o. found ≡ Some o) (owned_by actor found)
owned-there actor found =
    bound-yields (λ o. found ≡ Some o) (or_refused found not_found) _ λ o is.
    bound-yields (λ o. found ≡ Some o) (provided (owns actor o) security_not_satisfied) _ λ _ _.
    done-yields (λ o. found ≡ Some o) o (not_refused found not_found o is)

pub right-grants : (db : Database) (q : Grant → Bool) → AreRight db (map (λ (g : Grant). removing (of_grant g)) (filter q db.grants))
right-grants db q =
    list_all-map (is_right db) (λ (g : Grant). removing (of_grant g)) (filter q db.grants)
    ∙ all-there (λ (g : Grant). g.stamp) (has_record db) q db.grants (has_record-grant db)

-- So the next stamp is one more where a stamp was taken, and else it stays: no stamp is taken twice.
applied-next : (base : ℕ) (db : Database) (edits : List Edit) → list_all (λ (e : Edit). counts_on base e.entry) edits ≡ true
    → (applied db edits).next ≡ (if takes_stamp edits then base + 1 else db.next)
applied-next base db [] counts = refl
applied-next base db (e ∷ edits) counts =
    let parts = and_parts (counts_on base e.entry) (list_all (λ (e : Edit). counts_on base e.entry) edits) counts in
    let rest = applied-next base (edited e.action e.entry db) edits parts.1 in
    go e.action e.entry parts.0 rest
  where
    either : (b : Bool) (n m : ℕ) → n ≡ m → (if b then m else n) ≡ m
    either true n m same = refl
    either false n m same = same

    go : (action : Action) (r : AnyRecord) → counts_on base r ≡ true → (applied (edited action r db) edits).next ≡ (if takes_stamp edits then base + 1 else (edited action r db).next)
        → (applied (edited action r db) edits).next ≡ (if is_counter r || takes_stamp edits then base + 1 else db.next)
    go action (of_counter n) on rest = rest ∙ either (takes_stamp edits) n (base + 1) (eqb-true n (base + 1) on)
    go action (of_user u) on rest = rest
    go action (of_object o) on rest = rest
    go action (of_grant g) on rest = rest
    go action (of_row r) on rest = rest

pub next-right : (db : Database) (edits : List Edit) → AreRight db edits → (applied db edits).next ≡ (if takes_stamp edits then db.next + 1 else db.next)
next-right db edits right =
    applied-next db.next db edits (all-weaker (is_right db) (λ (e : Edit). counts_on db.next e.entry) edits
    (λ e (right : is_right db e ≡ true). (and_parts (counts_on db.next e.entry) _ right).0) right)
