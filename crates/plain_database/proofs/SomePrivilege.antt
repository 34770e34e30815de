-- An object on which a grant gives some privilege appears.
use Rattle.std.proofs.Common.{◌≡◌, Bool, true, false, List, [], ◌∷◌, refl, sym, ap, ◌∙◌}
use Rattle.std.specs.Prelude.{◌||◌}
use Rattle.std.specs.List.{list_any}
use Rattle.scql_base.specs.declared.records.Grant.{Grant}
use Rattle.scql_base.specs.declared.records.Object.{Object}
use Rattle.scql_base.specs.declared.words.Actor.{Actor}
use Rattle.scql_model.specs.Creating.{is_owned_by}
use Rattle.scql_model.specs.Database.{Database}
use Rattle.scql_model.specs.Rights.{all_privileges, appears, gives, holds}

-- where a test of two elements passes, it does by either of them
either-any : {X : Type 0} (p q : X → Bool) (xs : List X) → list_any (λ x. p x || q x) xs ≡ (list_any p xs || list_any q xs)
either-any p q [] = refl
either-any p q (x ∷ xs) = ap (λ rest. (p x || q x) || rest) (either-any p q xs) ∙ regroup (p x) (q x) (list_any p xs) (list_any q xs)
  where
    regroup : (a b c d : Bool) → ((a || b) || (c || d)) ≡ ((a || c) || (b || d))
    regroup true b c d = refl
    regroup false true true d = refl
    regroup false true false d = refl
    regroup false false c d = refl

none-any : {X : Type 0} (xs : List X) → list_any (λ x. false) xs ≡ false
none-any [] = refl
none-any (x ∷ xs) = none-any xs

-- some of these passes with some of those, whichever are gone through first
any-any : {X Y : Type 0} (p : X → Y → Bool) (xs : List X) (ys : List Y) → list_any (λ y. list_any (λ x. p x y) xs) ys ≡ list_any (λ x. list_any (p x) ys) xs
any-any p xs [] = sym (none-any xs)
any-any p xs (y ∷ ys) = ap (λ rest. list_any (λ x. p x y) xs || rest) (any-any p xs ys) ∙ sym (either-any (λ x. p x y) (λ x. list_any (p x) ys) xs)

pub appears-granted : (db : Database) (actor : Actor) (o : Object) → is_owned_by actor o.owner ≡ false
    → list_any (λ (g : Grant). list_any (λ bit. gives actor o bit g) all_privileges) db.grants ≡ appears db actor o
unfolding appears holds
appears-granted db actor o other = rw other (any-any (gives actor o) all_privileges db.grants)
