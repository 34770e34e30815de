-- How an operation ends where a store refuses, and where its record and the counter are written.
use Rattle.std.proofs.Common.{◌≡◌, ℕ, ◌+◌, ◌<◌, ◌≤◌, true, List, Option, Some, None, Result, Ok, Err, get_or, refl, sym, ap, subst, ◌∙◌, arith}
use Rattle.std.proofs.Math.ListN.{set}
use Rattle.std.specs.Prelude.{IfSome, OnOk}
use Rattle.std.specs.Result.{IsErrAnd}
use Rattle.eeprom.specs.Chip.{Chip, Becomes, RisesBy, RisesAtMost}
use Rattle.eeprom.specs.StoreOf.{Slots, weight_of}
use Rattle.record_store.specs.Held.{Held, contents}
use Rattle.record_store.specs.Put.{weight_with}
use Rattle.record_store.specs.declared.refusal.StoreRefusal.{StoreRefusal}
use Rattle.record_store.specs.declared.refusal.StoreRefusal.TheVariants.{Full, Fault as StoreFault}
use Rattle.record_store.specs.declared.side.Side.{Side}
use Rattle.scql_base.specs.Words.{no_space}
use Rattle.scql_base.specs.declared.words.StatusWord.{StatusWord}
use Rattle.scql_model.specs.Database.{Database}
use Rattle.scql_model.specs.Edits.{Edit, with_edits}
use Rattle.scql_model.specs.Records.{counter_record}
use Rattle.scql_model.specs.Refusals.{◌>>=◌}
use Rattle.catalog_codec.specs.Kinds.{Kind, IsKind, HaveOtherMarks}
use Rattle.catalog_codec.specs.Catalog.{counter_kind, row_kind}
use Rattle.catalog_codec.specs.KindLaws.{HaveOtherMarks-sym}
use Rattle.catalog_codec.specs.CatalogLaws.{IsKind-counter, IsKind-row, HaveOtherMarks-row-counter}
use Rattle.record_table.specs.Changed.{IsAdded, IsChanged}
use Rattle.record_table.specs.Listed.{at_slot, slots_of}
use Rattle.record_table.specs.Making.{Ends, IsMade, KeepsRows}
use Rattle.record_table.specs.declared.stop.Stop.{Stop}
use Rattle.record_table.specs.declared.stop.Stop.TheVariants.{Refused, Fault}
use Rattle.record_table.proofs.ListedChanges.{is_of, is_of-read, at_slot-other, at_slot-kept, within-at}
use Rattle.record_table.proofs.Made.{counter-room, other_slot}
use Rattle.record_table.proofs.Steps.{Both, told-image}

-- a store that is full refuses an operation that has no room
pub Ends-store : {T : Type 0} (db : Database) (outcome : Result (List Edit) StatusWord) (result : Result T Stop) (refusal : StoreRefusal) (old new : Held) (before after : Chip)
    → IsErrAnd result (λ stop. (refusal ≡ Full → stop ≡ Refused no_space) × (refusal ≡ StoreFault → stop ≡ Fault))
    → (refusal ≡ Full → ((outcome >>= with_edits db) ≡ Err no_space) × (new ≡ old) × (after ≡ before)) → Ends db outcome result old new before after
Ends-store {T} db outcome (Ok x) refusal old new before after gives full = absurd gives
Ends-store {T} db outcome (Err stop) Full old new before after gives full = subst (λ stop. Ends {T = T} db outcome (Err stop) old new before after) (sym (gives.0 refl)) (full refl)
Ends-store {T} db outcome (Err stop) StoreFault old new before after gives full = subst (λ stop. Ends {T = T} db outcome (Err stop) old new before after) (sym (gives.1 refl)) tt

-- a store that stopped an operation, and not by its EEPROM's fault, is full
pub full-store : {T : Type 0} (result : Result T Stop) (refusal : StoreRefusal) → IsErrAnd result (λ stop. (refusal ≡ Full → stop ≡ Refused no_space) × (refusal ≡ StoreFault → stop ≡ Fault))
    → (result ≡ Err Fault → ⊥) → refusal ≡ Full
full-store (Ok x) refusal gives no_fault = absurd gives
full-store (Err stop) Full gives no_fault = refl
full-store (Err stop) StoreFault gives no_fault = absurd (no_fault (ap (λ stop. Err stop) (gives.1 refl)))

pub not_fault : {T : Type 0} (result : Result T Stop) (word : StatusWord) → result ≡ Err (Refused word) → result ≡ Err Fault → ⊥
not_fault result word refused fault = cc

-- how an operation ends that hands on a stop of a part of it
pub Ends-stopped : (T : Type 0) {U : Type 0} (db : Database) (outcome : Result (List Edit) StatusWord) (result : Result U Stop) (stop : Stop) (old new : Held) (before after : Chip) → IsErrAnd result (λ given. given ≡ stop)
    → Ends {T = T} db outcome (Err stop) old new before after → Ends db outcome result old new before after
Ends-stopped T {U} db outcome (Ok x) stop old new before after gives ends = absurd gives
Ends-stopped T {U} db outcome (Err given) (Refused word) old new before after gives ends = subst (λ stop. Ends {T = U} db outcome (Err stop) old new before after) (sym gives) ends
Ends-stopped T {U} db outcome (Err given) Fault old new before after gives ends = subst (λ stop. Ends {T = U} db outcome (Err stop) old new before after) (sym gives) tt

-- a part of an operation stopped, and not by the EEPROM's fault, where the operation hands on its stop
pub no_fault-on : {T U : Type 0} (result : Result T Stop) (part : Result U Stop) (stop : Stop) → IsErrAnd result (λ given. given ≡ stop) → part ≡ Err stop → (result ≡ Err Fault → ⊥) → part ≡ Err Fault → ⊥
no_fault-on (Ok x) part stop gives was no_fault = absurd gives
no_fault-on (Err given) part stop gives was no_fault = λ fault. no_fault (ap (λ stop. Err stop) (gives ∙ (let same : stop ≡ Fault = cc in same)))

pub refused-on : {T U P : Type 0} (result : Result T Stop) (part : Result U Stop) (stop : Stop) → IsErrAnd result (λ given. given ≡ stop) → part ≡ Err stop → (result ≡ Err Fault → ⊥)
    → ((word : StatusWord) → part ≡ Err (Refused word) → P) → P
refused-on result part (Refused word) gives was no_fault refused = refused word was
refused-on result part Fault gives was no_fault refused = absurd (no_fault-on result part Fault gives was no_fault was)

-- what is said of the slots where they are told
pub at-told : (store : Held) (side : Side) (chip : Chip) (slots : Slots) (P : Slots → Type 0) → slots_of store side chip ≡ Some slots → IfSome chip.image (λ image. IfSome (contents store side image) P) → P slots
at-told store side chip slots P told all =
    let image = told-image store side chip slots told in
    let there : IfSome (contents store side image.0) P = subst (λ o. IfSome o (λ image. IfSome (contents store side image) P)) image.1 all in
    subst (λ o. IfSome o P) image.2 there

-- where a record had room, so has the counter
pub counter-fits : {X : Type 0} (kind : Kind X) (x : X) (slot counter was next cells : ℕ) (old mid : Slots) → IsAdded kind x slot old mid → at_slot counter_kind counter old ≡ Some was
    → weight_with slot (kind.form.spell x) old ≤ cells → cells < weight_with counter (counter_record.spell next) mid → ⊥
counter-fits kind x slot counter was next cells old mid added at room full =
    let still : at_slot counter_kind counter mid ≡ Some was =
    ap (at_slot counter_kind counter) added.is ∙ (at_slot-other counter_kind old slot counter (Some (kind.form.spell x)) (other_slot old counter slot was at added.empty) ∙ at) in
    let same : weight_of mid ≡ weight_with slot (kind.form.spell x) old = ap weight_of added.is in
    omega (arith, counter-room mid counter was next (within-at counter_kind mid counter was still) still, same, room, full)

-- a record and the counter leave the rows where they are, if the record is none
pub rows-made : {X : Type 0} (kind : Kind X) (x : X) (slot counter was next : ℕ) (old new : Slots) → IsKind kind → HaveOtherMarks kind row_kind → at_slot counter_kind counter old ≡ Some was
    → Both (IsAdded kind x slot) (IsChanged counter_kind next counter) old new → (place : ℕ) → at_slot row_kind place new ≡ at_slot row_kind place old
rows-made kind x slot counter was next old new is apart at both place =
    let mid = both.0 in
    let added = both.1 in
    let still : at_slot counter_kind counter mid ≡ Some was =
    ap (at_slot counter_kind counter) added.is ∙ (at_slot-other counter_kind old slot counter (Some (kind.form.spell x)) (other_slot old counter slot was at added.empty) ∙ at) in
    let first : at_slot row_kind place mid ≡ at_slot row_kind place old =
    ap (at_slot row_kind place) added.is ∙ at_slot-kept kind row_kind old slot (Some (kind.form.spell x)) place IsKind-row apart (ap (is_of kind) added.empty) (is.begins x) in
    let second : at_slot row_kind place new ≡ at_slot row_kind place mid =
    ap (at_slot row_kind place) both.2
    ∙ at_slot-kept counter_kind row_kind mid counter (Some (counter_record.spell next)) place IsKind-row (HaveOtherMarks-sym row_kind counter_kind HaveOtherMarks-row-counter)
    (is_of-read counter_kind (get_or mid counter None) was IsKind-counter still) (IsKind-counter.begins next) in
    second ∙ first

pub KeepsRows-made : {X : Type 0} (kind : Kind X) (x : X) (slot counter was next : ℕ) (old new : Option Slots) → IsKind kind → HaveOtherMarks kind row_kind
    → IfSome old (λ slots. Some was ≡ at_slot counter_kind counter slots) → Becomes (Both (IsAdded kind x slot) (IsChanged counter_kind next counter)) old new → KeepsRows old new
KeepsRows-made kind x slot counter was next old new is apart at both = λ after told.
    let b = both after told in
    let here : Some was ≡ at_slot counter_kind counter b.0 = subst (λ o. IfSome o (λ slots. Some was ≡ at_slot counter_kind counter slots)) b.1 at in
    (b.0, b.1, rows-made kind x slot counter was next b.0 after is apart (sym here) b.2)

-- one slot with a record of another kind is changed or emptied, and all rows stay
pub KeepsRows-one : {X : Type 0} (kind : Kind X) (slot : ℕ) (was : X) (step : Slots → Slots → Type 0) (old new : Option Slots) → IsKind kind → HaveOtherMarks kind row_kind
    → IfSome old (λ slots. Some was ≡ at_slot kind slot slots) → ((a b : Slots) → step a b → (entry : Option (List ℕ)) × (b ≡ set a slot entry) × (is_of kind entry ≡ true))
    → Becomes step old new → KeepsRows old new
KeepsRows-one kind slot was step old new is apart at sets steps = λ after told.
    let b = steps after told in
    let here : Some was ≡ at_slot kind slot b.0 = subst (λ o. IfSome o (λ slots. Some was ≡ at_slot kind slot slots)) b.1 at in
    let entry = sets b.0 after b.2 in
    (b.0, b.1, λ place. ap (at_slot row_kind place) entry.1 ∙ at_slot-kept kind row_kind b.0 slot entry.0 place IsKind-row apart (is_of-read kind (get_or b.0 slot None) was is (sym here)) entry.2)

-- and so they do where nothing was done
pub KeepsRows-same : (old new : Option Slots) → new ≡ old → KeepsRows old new
KeepsRows-same old new same = λ after told. (after, sym same ∙ told, λ slot. refl)

-- where a part of an operation answers a word, all rows stay if they do where it is done, and if nothing is where it is refused
pub KeepsRows-ended : {T : Type 0} (result : Result T Stop) (old new : Option Slots) → OnOk result (KeepsRows old new) → ((word : StatusWord) → result ≡ Err (Refused word) → new ≡ old) → (result ≡ Err Fault → ⊥)
    → KeepsRows old new
KeepsRows-ended (Ok x) old new done refused no_fault = done
KeepsRows-ended (Err (Refused word)) old new done refused no_fault = KeepsRows-same old new (refused word refl)
KeepsRows-ended (Err Fault) old new done refused no_fault = absurd (no_fault refl)

-- the record and the counter are what is made
pub IsMade-both : {X : Type 0} (kind : Kind X) (x : X) (slot counter next : ℕ) (old new : Slots) → Both (IsAdded kind x slot) (IsChanged counter_kind next counter) old new → IsMade kind x slot counter next old new
IsMade-both kind x slot counter next old new both = record { between = both.0; added = both.1; counted = both.2 }

pub made-told : {X : Type 0} (kind : Kind X) (x : X) (slot counter next : ℕ) (old new : Option Slots) → Becomes (Both (IsAdded kind x slot) (IsChanged counter_kind next counter)) old new
    → Becomes (IsMade kind x slot counter next) old new
made-told kind x slot counter next old new both = λ after told. let b = both after told in (b.0, b.1, IsMade-both kind x slot counter next b.0 after b.2)

-- the octets of two records
pub octets-both : (first second most : ℕ) (a b c : Option ℕ) → Becomes (RisesBy first) a b → Becomes (RisesBy second) b c → first + second ≤ most → Becomes (RisesAtMost most) a c
octets-both first second most a b c one two few = λ after told.
    let then = two after told in
    let before = one then.0 then.1 in
    (before.0, before.1, omega (arith, then.2, before.2, few))
