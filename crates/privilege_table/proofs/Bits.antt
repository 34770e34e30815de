-- The bits of numbers, and of the privileges that grants give.
use Rattle.std.proofs.Common.{◌≡◌, ℕ, max, zero, suc, ◌<◌, ◌^◌, ◌==◌, ◌&&◌, ◌||◌, Bool, true, false, List, [], ◌∷◌, Option, Some, None, refl, sym, ap, subst, ◌∙◌, arith}
use Rattle.std.specs.Prelude.{IfSome}
use Rattle.std.specs.Int.{bit_at}
use Rattle.std.specs.Int.Bits.{bit_or}
use Rattle.std.specs.List.{list_any}
use Rattle.std.proofs.lemmas.Nat.Bits.{bit_at_or, bit_at-lt, bit_at-zero}
use Rattle.eeprom.specs.StoreOf.{Slots}
use Rattle.scql_base.specs.declared.records.Grant.{Grant}
use Rattle.scql_model.specs.Rights.{has_bit}
use Rattle.catalog_codec.specs.Catalog.{grant_kind}
use Rattle.record_table.specs.Listed.{in_slots, listed}
use Rattle.record_table.proofs.ListedSearches.{any-listed}
use Rattle.record_table.proofs.Scan.{IsOfLeft}
use Rattle.record_store.specs.Tags.{pair_tag}
use Rattle.record_store.specs.declared.tags.Tag.TheVariants.{Name}
use Rattle.record_table.specs.TagLaws.{paired-grants}
use Rattle.record_table.specs.Tagged.{AreTagged}
use Rattle.privilege_table.specs.Granted.{AreGranted, AreHeld, gives_bit, has_pair_bit, is_pair}

one-max : (a b : ℕ) → a < 2 → b < 2 → (max a b == 1) ≡ (a == 1 || b == 1)
one-max zero zero small few = refl
one-max zero (suc zero) small few = refl
one-max (suc zero) zero small few = refl
one-max (suc zero) (suc zero) small few = refl
one-max (suc (suc a)) b small few = absurd (omega (arith, small))
one-max a (suc (suc b)) small few = absurd (omega (arith, few))

-- a bit of two numbers together is set where it is set in one of them
pub has_bit-or : (a b i : ℕ) → has_bit (2 ^ i) (bit_or a b) ≡ (has_bit (2 ^ i) a || has_bit (2 ^ i) b)
has_bit-or a b i = ap (λ n. n == 1) (bit_at_or a b i) ∙ one-max (bit_at a i) (bit_at b i) (bit_at-lt a i) (bit_at-lt b i)

-- no bit of 0 is set
pub has_bit-zero : (i : ℕ) → has_bit (2 ^ i) 0 ≡ false
has_bit-zero i = ap (λ n. n == 1) (bit_at-zero i)

or-assoc : (a b c : Bool) → (a || (b || c)) ≡ ((a || b) || c)
or-assoc true b c = refl
or-assoc false b c = refl

-- the bits so far, and those of the grants that are left
abbrev pub any_left : ℕ → (Grant → Bool) → ℕ → List Grant → Bool
any_left bits gives i rest = has_bit (2 ^ i) bits || list_any gives rest

-- one more grant gives its bits
pub any_left-given : (bits more i : ℕ) (gives : Grant → Bool) (grant : Grant) → has_bit (2 ^ i) more ≡ gives grant → (rest : List Grant)
    → any_left bits gives i (grant ∷ rest) ≡ any_left (bit_or bits more) gives i rest
any_left-given bits more i gives grant given rest = rw (has_bit-or bits more i, given) (or-assoc (has_bit (2 ^ i) bits) (gives grant) (list_any gives rest))

or-false : (a : Bool) → (a || false) ≡ a
or-false true = refl
or-false false = refl

-- with none left the bits so far are all
pub granted-listed : (object grantee bits : ℕ) (slots : Option Slots)
    → ((i : ℕ) → IfSome slots (λ slots. any_left bits (has_pair_bit object grantee (2 ^ i)) i [] ≡ list_any (has_pair_bit object grantee (2 ^ i)) (in_slots grant_kind slots)))
    → IfSome slots (λ slots. AreGranted object grantee (listed grant_kind slots) bits)
granted-listed object grantee bits None left = tt
granted-listed object grantee bits (Some slots) left = λ i.
    sym (or-false (has_bit (2 ^ i) bits)) ∙ (left i ∙ any-listed grant_kind (has_pair_bit object grantee (2 ^ i)) slots)

-- a grant to another gives nothing
pub any_left-skips : (object grantee bits i : ℕ) (x : Grant) (rest : List Grant) → is_pair object grantee x ≡ false → any_left bits (has_pair_bit object grantee (2 ^ i)) i (x ∷ rest) ≡ any_left bits (has_pair_bit object grantee (2 ^ i)) i rest
any_left-skips object grantee bits i x rest other = rw other refl

-- the tag of an object and a user
pub paired-tag : (object grantee tag : ℕ) → tag ≡ pair_tag object grantee → AreTagged grant_kind (is_pair object grantee) (Some (Name tag))
paired-tag object grantee tag is = subst (λ (tag : ℕ). AreTagged grant_kind (is_pair object grantee) (Some (Name tag))) (sym is) (paired-grants object grantee)

-- a grant gives a user a bit exactly where it gives it to PUBLIC or to the user
gives-either : (on public own has : Bool) → on && (public || own) && has ≡ (on && public) && has || (on && own) && has
gives-either false public own has = refl
gives-either true true true true = refl
gives-either true true true false = refl
gives-either true true false true = refl
gives-either true true false false = refl
gives-either true false own has = refl

or-swap : (a b c d : Bool) → (a || b) || (c || d) ≡ (a || c) || (b || d)
or-swap true b c d = refl
or-swap false true true d = refl
or-swap false true false d = refl
or-swap false false c d = refl

any-either : (object grantee bit : ℕ) (grants : List Grant) → list_any (gives_bit object grantee bit) grants ≡ (list_any (has_pair_bit object 0 bit) grants || list_any (has_pair_bit object grantee bit) grants)
any-either object grantee bit [] = refl
any-either object grantee bit (g ∷ grants) =
    rw (gives-either (g.object == object) (g.grantee == 0) (g.grantee == grantee) (has_bit bit g.privileges), any-either object grantee bit grants)
    (or-swap (has_pair_bit object 0 bit g) (has_pair_bit object grantee bit g) (list_any (has_pair_bit object 0 bit) grants) (list_any (has_pair_bit object grantee bit) grants))

pub held-both : (object grantee public own : ℕ) (slots : Option Slots) → IfSome slots (λ slots. AreGranted object 0 (listed grant_kind slots) public) → IfSome slots (λ slots. AreGranted object grantee (listed grant_kind slots) own)
    → IfSome slots (λ slots. AreHeld object grantee (listed grant_kind slots) (bit_or public own))
held-both object grantee public own None to_all to_one = tt
held-both object grantee public own (Some slots) to_all to_one = λ i. rw (has_bit-or public own i, to_all i, to_one i) (sym (any-either object grantee (2 ^ i) (listed grant_kind slots)))

-- with all left the bits so far are none
pub any_left-none : (gives : Grant → Bool) (i : ℕ) (slots : Option Slots) → IfSome slots (IsOfLeft grant_kind (λ slots. list_any gives (in_slots grant_kind slots)) (any_left 0 gives i) 0)
any_left-none gives i None = tt
any_left-none gives i (Some slots) = rw (has_bit-zero i) refl
