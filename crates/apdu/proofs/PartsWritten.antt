-- The data field of a command that fits, and its parts.
use Rattle.std.proofs.Common.{◌≡◌, ◌≤◌, ◌<◌, ℕ, ◌-◌, ◌*◌, nat_le, min, Bool, true, false, List, [], length, take, drop, Option, Some, None, if◌then◌else◌, rules, refl, sym, ◌∙◌, ap, arith, length-drop}
use Rattle.std.specs.Prelude.{IsSome}
use Rattle.std.proofs.lemmas.Bool.{leb-true, leb-false}
use Rattle.std.proofs.lemmas.List.{take_all}
use Rattle.std.proofs.lemmas.Option.{same_Some}
use Rattle.scql_base.specs.declared.operation.Command.{Command}
use Rattle.scql_base.specs.declared.operation.Line.{Line}
use Rattle.scql_base.specs.declared.operation.OperationKind.{OperationKind}
use Rattle.scql_model.specs.Operations.{operations, comes_in_parts, kind_of}
use Rattle.scql_model.specs.Spelling.{field_of, fits, line_for, part_by, part_count, part_octets}
use Rattle.apdu.specs.Writing.{part_of, size_in_parts, with_more}
use Rattle.apdu.proofs.FieldsWritten.{with_some}

-- at most 255 octets are taken, and no more than there are
taken : (n : ℕ) (rest : List ℕ) → n ≡ min (length rest) 255 → take n rest ≡ take 255 rest
taken n rest is = go (nat_le (length rest) 255) refl
  where
    go : (short : Bool) → nat_le (length rest) 255 ≡ short → take n rest ≡ take 255 rest
    go true at =
        let few : length rest ≤ 255 = leb-true (length rest) 255 at in
        take_all n rest (omega (arith, is, few)) ∙ sym (take_all 255 rest few)
    go false at =
        let many : 255 < length rest = leb-false (length rest) 255 at in
        ap (λ (k : ℕ). take k rest) (let same : n ≡ 255 = omega (arith, is, many) in same)

pub part-taken : (n from place : ℕ) (field : List ℕ) → from ≡ place → n ≡ min (length (take (length field - 255 * from) (drop (255 * from) field))) 255
    → take n (take (length field - 255 * from) (drop (255 * from) field)) ≡ take 255 (drop (255 * place) field)
part-taken n from place field at is =
    let size : length (drop (255 * from) field) ≡ length field - 255 * from = length-drop (255 * from) field in
    let whole : take (length field - 255 * from) (drop (255 * from) field) ≡ drop (255 * from) field = take_all (length field - 255 * from) (drop (255 * from) field) (omega (arith, size)) in
    ap (take n) whole ∙ (taken n (drop (255 * from) field) (is ∙ ap (λ (rest : List ℕ). min (length rest) 255) whole) ∙ ap (λ (k : ℕ). take 255 (drop (255 * k) field)) at)

-- the data field of a command that fits is put together
pub record IsField (c : Command) (octets : List ℕ) : Type 0 where
  pub same : octets ≡ field_of c.operation
  pub short : length (field_of c.operation) ≤ 1275

pub field-short : (c : Command) → fits c ≡ true → length (field_of c.operation) ≤ 1275
field-short c fit = go (comes_in_parts (kind_of c.operation)) fit
  where
    go : (comes : Bool) → nat_le (length (field_of c.operation)) (if comes then 1275 else 255) ≡ true → length (field_of c.operation) ≤ 1275
    go true is = leb-true (length (field_of c.operation)) 1275 is
    go false is = let few : length (field_of c.operation) ≤ 255 = leb-true (length (field_of c.operation)) 255 is in omega (arith, few)

pub the_field : (c : Command) (octets : List ℕ) (field : Option (List ℕ)) → fits c ≡ true → field ≡ with_more (field_of c.operation) (Some []) → Some octets ≡ field → IsField c octets
the_field c octets field fit put is =
    let short : length (field_of c.operation) ≤ 1275 = field-short c fit in
    record { same = same_Some octets (field_of c.operation) (is ∙ (put ∙ with_some (field_of c.operation) [] (omega (arith, short)))); short = short }

pub field-there : (c : Command) (field : Option (List ℕ)) → fits c ≡ true → field ≡ with_more (field_of c.operation) (Some []) → IsSome field
field-there c field fit put = rw (put ∙ with_some (field_of c.operation) [] (let short : length (field_of c.operation) ≤ 1275 = field-short c fit in omega (arith, short))) (search rules)

-- the part at a place, by the line that is found, and where none is
pub part-found : (c : Command) (place : ℕ) (asked : OperationKind) (line : Line) (field octets : List ℕ) → asked ≡ kind_of c.operation → Some line ≡ line_for operations asked
    → octets ≡ part_by line c.channel c.le field place → octets ≡ part_of c field place
part-found c place asked line field octets same at written =
    let found : line_for operations (kind_of c.operation) ≡ Some line = ap (line_for operations) (sym same) ∙ sym at in
    rw found written

pub part-not_found : (c : Command) (place : ℕ) (asked : OperationKind) (field octets : List ℕ) → asked ≡ kind_of c.operation → None ≡ line_for operations asked → octets ≡ [] → octets ≡ part_of c field place
part-not_found c place asked field octets same at none =
    let found : line_for operations (kind_of c.operation) ≡ None = ap (line_for operations) (sym same) ∙ sym at in
    rw found none

-- a part of the command's own data field
pub part-own : (c : Command) (place : ℕ) (field octets : List ℕ) → field ≡ field_of c.operation → octets ≡ part_of c field place → octets ≡ part_octets c place
unfolding part_octets
part-own c place field octets is written = written ∙ ap (λ (f : List ℕ). part_of c f place) is

-- a size that is there is that of the data field, and a command whose size isn't comes in one part
size-some : (comes : Bool) (size n : ℕ) → Some size ≡ (if comes then Some n else None) → size ≡ n
size-some true size n is = same_Some size n is
size-some false size n is = absurd cc

pub size-there : (c : Command) (size : ℕ) → Some size ≡ size_in_parts c.operation → size ≡ length (field_of c.operation)
size-there c size is = size-some (comes_in_parts (kind_of c.operation)) size (length (field_of c.operation)) is

fits-some : (comes : Bool) (size n : ℕ) → Some size ≡ (if comes then Some n else None) → nat_le size 1275 ≡ nat_le n (if comes then 1275 else 255)
fits-some true size n is = ap (λ (k : ℕ). nat_le k 1275) (same_Some size n is)
fits-some false size n is = absurd cc

pub size-fits : (c : Command) (size : ℕ) → Some size ≡ size_in_parts c.operation → nat_le size 1275 ≡ fits c
size-fits c size is = fits-some (comes_in_parts (kind_of c.operation)) size (length (field_of c.operation)) is

pub one-part : (c : Command) → fits c ≡ true → None ≡ size_in_parts c.operation → 1 ≡ part_count c
one-part c fit none = go (comes_in_parts (kind_of c.operation)) fit none
  where
    go : (comes : Bool) → nat_le (length (field_of c.operation)) (if comes then 1275 else 255) ≡ true → None ≡ (if comes then Some (length (field_of c.operation)) else None) → 1 ≡ part_count c
    go true is none = absurd cc
    go false is none = let few : length (field_of c.operation) ≤ 255 = leb-true (length (field_of c.operation)) 255 is in omega (arith, few)
