-- The search for OWNER goes through the users one by one.
use Rattle.std.proofs.Common.{◌≡◌, ℕ, Bool, true, false, List, [], ◌∷◌, length, filter, refl, ap, arith}
use Rattle.std.specs.Str.{bytes_eq}
use Rattle.std.proofs.lemmas.Bool.{and_parts, eqb-true, false≢true}
use Rattle.std.proofs.lemmas.Slice.Eq.{bytes_eq-Decides}
use Rattle.scql_base.specs.declared.words.Profile.{Profile}
use Rattle.scql_base.specs.declared.words.Profile.TheVariants.{DbO, Dboo, Dbbu}
use Rattle.scql_model.specs.Rules.{owner, owner_name}
use Rattle.scql_base.specs.declared.records.User.{User}
use Rattle.scql_model.specs.Database.{is_db_o}
use Rattle.plain_image.specs.Rules.{is_owner, is_owner_alone}

abbrev pub is_none : List User → Bool
is_none [] = true
is_none (u ∷ users) = false

-- what is left to find in the users behind: OWNER alone, or nobody of profile 01 where it was found
abbrev pub is_owner_left : Bool → List User → Bool
is_owner_left true users = is_none (filter is_db_o users)
is_owner_left false users = is_owner_alone (filter is_db_o users)

-- a second user of profile 01, or one who isn't OWNER
pub owner-second : (u : User) (users : List User) → is_db_o u ≡ true → is_owner_left true (u ∷ users) ≡ false
owner-second u users is = rw is refl

pub owner-other : (found : Bool) (u : User) (users : List User) → is_db_o u ≡ true → is_owner u ≡ false → is_owner_left found (u ∷ users) ≡ false
owner-other true u users is other = rw is refl
owner-other false u users is other = rw is (alone (filter is_db_o users))
  where
    alone : (users : List User) → is_owner_alone (u ∷ users) ≡ false
    alone [] = other
    alone (v ∷ users) = refl

-- OWNER
pub owner-taken : (u : User) (users : List User) → is_db_o u ≡ true → is_owner u ≡ true → is_owner_left false (u ∷ users) ≡ is_owner_left true users
owner-taken u users is one = rw is (alone (filter is_db_o users))
  where
    alone : (users : List User) → is_owner_alone (u ∷ users) ≡ is_none users
    alone [] = one
    alone (v ∷ users) = refl

-- a user of another profile
pub owner-passed : (found : Bool) (u : User) (users : List User) → is_db_o u ≡ false → is_owner_left found (u ∷ users) ≡ is_owner_left found users
owner-passed true u users is = rw is refl
owner-passed false u users is = rw is refl

-- OWNER, from the test of its fields
owner-is : (u : User) → is_owner u ≡ true → u ≡ owner
owner-is u is =
    let stamp : u.stamp ≡ 1 = grind (arith, and_parts, eqb-true) in
    let name : bytes_eq u.name owner_name ≡ true = grind (arith, and_parts) in
    let profile : is_db_o u ≡ true = grind (arith, and_parts) in
    let its_owner : u.owner ≡ 1 = grind (arith, and_parts, eqb-true) in
    let secret : length u.secret ≡ 0 = grind (arith, and_parts, eqb-true) in
    let tries : u.tries ≡ 3 = grind (arith, and_parts, eqb-true) in
    alike stamp ((bytes_eq-Decides u.name owner_name).0 name) (is_of u u.profile refl profile) its_owner (none u.secret secret) tries
  where
    made : ℕ → List ℕ → Profile → ℕ → List ℕ → ℕ → User
    made stamp name profile own secret tries = record { stamp = stamp; name = name; profile = profile; owner = own; secret = secret; tries = tries }

    alike : {a a' o o' t t' : ℕ} {n n' s s' : List ℕ} {p p' : Profile} → a ≡ a' → n ≡ n' → p ≡ p' → o ≡ o' → s ≡ s' → t ≡ t' → made a n p o s t ≡ made a' n' p' o' s' t'
    alike stamp name profile own secret tries = cc

    is_of : (u : User) (p : Profile) → u.profile ≡ p → is_db_o u ≡ true → u.profile ≡ DbO
    is_of u DbO e is = e
    is_of u Dboo e is = absurd (false≢true (rw e at is))
    is_of u Dbbu e is = absurd (false≢true (rw e at is))

    none : (xs : List ℕ) → length xs ≡ 0 → xs ≡ []
    none [] e = refl
    none (x ∷ xs) e = absurd (omega arith)

pub owner_alone-is : (users : List User) → is_owner_alone users ≡ true → users ≡ owner ∷ []
owner_alone-is [] is = absurd (false≢true is)
owner_alone-is (u ∷ []) is = ap (λ (v : User). v ∷ []) (owner-is u is)
owner_alone-is (u ∷ v ∷ users) is = absurd (false≢true is)
