-- What the first octet of a slot's record says of it before it is read.
use Rattle.std.proofs.Common.{◌≡◌, ℕ, ◌*◌, Bool, true, false, List, [], ◌∷◌, Option, Some, None, get_or, refl, sym, ◌∙◌, arith}
use Rattle.std.specs.Prelude.{IfSome, option_and_then}
use Rattle.eeprom.specs.Chip.{Becomes, RisesAtMost}
use Rattle.eeprom.specs.StoreOf.{Slots, cell_size}
use Rattle.eeprom.specs.Slots.{in_slot}
use Rattle.cell_store.specs.Reading.{ReadsRecord}
use Rattle.record_store.specs.Held.{Held, contents, record_at, StandsFor}
use Rattle.record_store.specs.declared.side.Side.{Side}
use Rattle.catalog_codec.specs.Kinds.{Kind, IsKind, read_as}
use Rattle.scql_model.specs.ReadBound.{RisesAtLeast}
use Rattle.record_table.specs.Listed.{at_slot, has_kind_mark, kind_cells}
use Rattle.record_table.specs.Reading.{NeverFalls}

-- what holds of the record of a slot, said of the slots
at_record : (contents : List ℕ → Option Slots) (image : Option (List ℕ)) (slot : ℕ) (P : Option (List ℕ) → Type 0)
    → IfSome image (λ image. P (option_and_then (λ (slots : Slots). get_or slots slot None) (contents image))) → IfSome (option_and_then contents image) (λ slots. P (get_or slots slot None))
at_record contents None slot P h = tt
at_record contents (Some image) slot P h = told (contents image) h
  where
    told : (o : Option Slots) → P (option_and_then (λ (slots : Slots). get_or slots slot None) o) → IfSome o (λ slots. P (get_or slots slot None))
    told None h = tt
    told (Some slots) h = h

-- what is told of each image that a store stands for
stood : (P Q : List ℕ → Type 0) (image : Option (List ℕ)) → IfSome image P → ((image : List ℕ) → P image → Q image) → IfSome image Q
stood P Q None h says = tt
stood P Q (Some image) h says = says image h

pub unmarked : {X : Type 0} (kind : Kind X) (entry : Option (List ℕ)) → IsKind kind → has_kind_mark kind entry ≡ false → in_slot (read_as kind) entry ≡ None
unmarked kind None is other = refl
unmarked kind (Some []) is other = is.others [] refl
unmarked kind (Some (octet ∷ octets)) is other = is.others (octet ∷ octets) other

-- a record with another first octet is none of the kind
pub none-unmarked : {X : Type 0} (kind : Kind X) (store : Held) (side : Side) (slot : ℕ) (image : Option (List ℕ)) (marked : Bool) → IsKind kind → IfSome image (StandsFor store)
    → ((image : List ℕ) → StandsFor store image → marked ≡ has_kind_mark kind (record_at store side slot image)) → marked ≡ false
    → IfSome (option_and_then (contents store side) image) (λ slots. None ≡ at_slot kind slot slots)
none-unmarked kind store side slot image marked is stands says other =
    at_record (contents store side) image slot (λ entry. None ≡ in_slot (read_as kind) entry)
    (stood (StandsFor store) (λ image. None ≡ in_slot (read_as kind) (record_at store side slot image)) image stands
    (λ image over. sym (unmarked kind (record_at store side slot image) is (sym (says image over) ∙ other))))

own : {X : Type 0} (kind : Kind X) (entry : Option (List ℕ)) (a b : Option ℕ) → has_kind_mark kind entry ≡ true → Becomes (ReadsRecord entry) a b → Becomes (RisesAtMost (cell_size * kind_cells kind entry)) a b
own kind None a b marked reads = λ after told. let r = reads after told in (r.0, r.1, omega (arith, r.2))
own kind (Some octets) a b marked reads = λ after told. let r = reads after told in (r.0, r.1, rw marked r.2.1)

-- one with a mark of the kind costs its cells at most
pub reads-marked : {X : Type 0} (kind : Kind X) (store : Held) (side : Side) (slot : ℕ) (image : Option (List ℕ)) (marked : Bool) (entry : Option (List ℕ)) (a b : Option ℕ) → IfSome image (StandsFor store)
    → ((image : List ℕ) → StandsFor store image → marked ≡ has_kind_mark kind (record_at store side slot image)) → marked ≡ true
    → IfSome image (λ image. record_at store side slot image ≡ entry) → IfSome image (λ _. Becomes (ReadsRecord entry) a b)
    → IfSome (option_and_then (contents store side) image) (λ slots. Becomes (RisesAtMost (cell_size * kind_cells kind (get_or slots slot None))) a b)
reads-marked kind store side slot None marked entry a b stands says own_mark is reads = tt
reads-marked kind store side slot (Some image) marked entry a b stands says own_mark is reads =
    at_record (contents store side) (Some image) slot (λ entry. Becomes (RisesAtMost (cell_size * kind_cells kind entry)) a b)
    (own kind (record_at store side slot image) a b (sym (says image stands) ∙ own_mark) (rw is reads))

rises-record : (entry : Option (List ℕ)) (a b : Option ℕ) → Becomes (ReadsRecord entry) a b → Becomes (RisesAtLeast 0) a b
rises-record None a b reads = λ after told. let r = reads after told in (r.0, r.1, omega (arith, r.2))
rises-record (Some octets) a b reads = λ after told. let r = reads after told in (r.0, r.1, omega (arith, r.2.0))

-- whatever is read of a slot, the count doesn't fall
pub reads-rise : (store : Held) (side : Side) (image : Option (List ℕ)) (entry : Option (List ℕ)) (a b : Option ℕ) → IfSome image (λ _. Becomes (ReadsRecord entry) a b) → NeverFalls (option_and_then (contents store side) image) a b
reads-rise store side None entry a b reads = tt
reads-rise store side (Some image) entry a b reads = told (contents store side image)
  where
    told : (o : Option Slots) → NeverFalls o a b
    told None = tt
    told (Some slots) = rises-record entry a b reads
