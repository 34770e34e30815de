-- What a store holds outside of a transaction: while one is begun, committed or rolled back, and what a power loss leaves meanwhile.
use Rattle.std.proofs.Common.{◌≡◌, ℕ, ◌+◌, ◌*◌, ◌≤◌, Bool, true, false, List, [], ◌∷◌, drop, Option, Some, None, is_some, Result, Ok, Err, get_or, refl, sym, ap, subst, ◌∙◌, inl, inr, arith}
use Rattle.std.specs.Prelude.{IfSome, option_and_then, if◌then◌else◌}
use Rattle.std.specs.Result.{IsErrAnd}
use Rattle.std.proofs.lemmas.List.{get_or-set_same}
use Rattle.std.proofs.lemmas.Option.{same_Some}
use Rattle.eeprom.specs.Chip.{Chip, Becomes, Keeps, MayBeLeftSince, RisesBy}
use Rattle.eeprom.specs.Frame.{HasRoom}
use Rattle.eeprom.specs.StoreOf.{Slots, image_size, slots_at, store_of}
use Rattle.eeprom.proofs.Moments.{left-now, throughout-then, throughout-weaker}
use Rattle.record_store.specs.Held.{Held, contents, stored, with_limit, IsOver, StandsFor}
use Rattle.record_store.specs.Transaction.{begun_from, entries, Commits, IsCommitted}
use Rattle.record_store.specs.declared.side.Side.{Side}
use Rattle.record_store.specs.declared.side.Side.TheVariants.{Committed, Working}
use Rattle.record_store.proofs.Fronts.{Keeps-then}
use Rattle.record_store.proofs.Weights.{limited, store_of-stands}
use Rattle.scql_base.specs.declared.words.StatusWord.{StatusWord}
use Rattle.scql_model.specs.Database.{Database}
use Rattle.scql_model.specs.Edits.{Edit, applied, lacks_room, octets_for, with_edits}
use Rattle.scql_model.specs.Opens.{Opens}
use Rattle.catalog_codec.specs.Kinds.{Kind, IsKind, HaveOtherMarks}
use Rattle.catalog_codec.specs.Catalog.{row_kind}
use Rattle.catalog_codec.specs.CatalogLaws.{IsKind-row}
use Rattle.record_table.specs.AtRest.{IsAtRest, LeavesOnce, LeavesOneOf, Replaces}
use Rattle.record_table.specs.Changed.{IsChanged}
use Rattle.record_table.specs.Listed.{at_slot, slots_of}
use Rattle.record_table.specs.Making.{GoesOn, IsHeld, KeepsRows, Makes}
use Rattle.record_table.specs.declared.stop.Stop.{Stop}
use Rattle.record_table.specs.declared.stop.Stop.TheVariants.{Fault}
use Rattle.record_table.proofs.Ending.{KeepsRows-one}
use Rattle.record_table.proofs.ListedChanges.{at_slot-kept, is_of, within-at}
use Rattle.record_table.proofs.Steps.{some-told, told-image}

-- an image with the same store opens to the same database
pub opens-same : (was left : List ℕ) → store_of left ≡ store_of was → (db : Database) → Opens was db → Opens left db
opens-same was left same db opens = record { store = opens.store; stored = same ∙ opens.stored; limit = opens.limit; holds = opens.holds; valid = opens.valid }

-- the records of a side in the image that is told
pub contents-told : (store : Held) (side : Side) (chip : Chip) (slots : Slots) → slots_of store side chip ≡ Some slots → (image : List ℕ) → chip.image ≡ Some image → contents store side image ≡ Some slots
contents-told store side chip slots told image is = rw is at told

-- what sides of stores have of each image, they have of the EEPROM's
pub same-slots : (a b : Held) (s t : Side) (chip : Chip) → ((image : List ℕ) → contents a s image ≡ contents b t image) → slots_of a s chip ≡ slots_of b t chip
same-slots a b s t chip same = of chip.image refl
  where
    of : (o : Option (List ℕ)) → chip.image ≡ o → slots_of a s chip ≡ slots_of b t chip
    of None is = rw is refl
    of (Some image) is = rw is (same image)

-- another store of as many cells and the same row limit holds a database on a side that has the same slots
pub held-same : (a b : Held) (s t : Side) (old new : Chip) (db : Database) → IsHeld a s old db → slots_of b t new ≡ slots_of a s old → b.chains.cells ≡ a.chains.cells → b.row_limit ≡ a.row_limit → IsHeld b t new db
held-same a b s t old new db held same cells rows = record {
  slots = held.slots;
  told = same ∙ held.told;
  cells = held.cells ∙ sym cells;
  limit = held.limit ∙ sym rows;
  holds = held.holds;
  valid = held.valid;
}

-- a transaction that begins has the committed records
pub held-begun : (store begun : Held) (old chip : Chip) (db : Database) → IsHeld store Committed old db → chip ≡ old → begun ≡ begun_from store
    → ((image : List ℕ) → contents begun Working image ≡ contents store Committed image) → IsHeld begun Working chip db
held-begun store begun old chip db held same is starts =
    held-same store begun Committed Working old chip db held
    (same-slots begun store Working Committed chip starts ∙ ap (λ (c : Chip). slots_of store Committed c) same)
    (ap (λ (h : Held). h.chains.cells) is) (ap (λ (h : Held). h.row_limit) is)

-- and has them from there
pub held-before : (store begun : Held) (old chip : Chip) (db : Database) → IsHeld begun Working chip db → chip ≡ old → begun ≡ begun_from store
    → ((image : List ℕ) → contents begun Working image ≡ contents store Committed image) → IsHeld store Committed old db
held-before store begun old chip db held same is starts =
    held-same begun store Working Committed chip old db held
    (sym (same-slots begun store Working Committed chip starts ∙ ap (λ (c : Chip). slots_of store Committed c) same))
    (ap (λ (h : Held). h.chains.cells) (sym is)) (ap (λ (h : Held). h.row_limit) (sym is))

pub over-begun : (store begun : Held) (old chip : Chip) → IsOver store old → chip ≡ old → begun ≡ begun_from store → ((image : List ℕ) → StandsFor store image → StandsFor begun image) → IsOver begun chip
over-begun store begun old chip over same is stands = subst (IsOver begun) (sym same) (record {
  room = subst (λ (h : Held). HasRoom h.chains.cells old) (sym is) over.room;
  stands = told old.image over.stands;
})
  where
    told : (o : Option (List ℕ)) → IfSome o (StandsFor store) → IfSome o (StandsFor begun)
    told None there = tt
    told (Some image) there = stands image there

-- an image whose store is that of a side that holds a database opens to it
pub opens-side : (store : Held) (side : Side) (chip : Chip) (db : Database) → IsHeld store side chip db → (was left : List ℕ) → chip.image ≡ Some was → store_of left ≡ stored store side was
    → Opens left db
opens-side store side chip db held was left told is = record {
  store = record { row_limit = store.row_limit; slots = held.slots };
  stored = is ∙ ap (with_limit store.row_limit) (contents-told store side chip held.slots held.told was told);
  limit = held.limit;
  holds = held.holds;
  valid = held.valid;
}

pub opens-rest : (store : Held) (chip : Chip) (db : Database) → IsOver store chip → IsAtRest store chip db → (was : List ℕ) → chip.image ≡ Some was → Opens was db
opens-rest store chip db over rest was told =
    let stands : StandsFor store was = subst (λ (o : Option (List ℕ)). IfSome o (StandsFor store)) told over.stands in
    opens-side store Committed chip db rest was was told (store_of-stands store was stands)

-- where the store of the image stays at each moment, so does the database
pub leaves-kept : (old new : Chip) (db : Database) (more : List Database) → ((was : List ℕ) → old.image ≡ Some was → Opens was db) → Keeps store_of old new → LeavesOneOf (db ∷ more) old new
leaves-kept old new db more opens keeps = record {
  later = keeps.later;
  only = λ t g left since there. elim (keeps.only t g left since there) [
    | inl before ↦ inl before
    | inr at ↦ inr (at.0, inl (opens-same at.1 left at.3 db (opens at.1 at.2)))
  ];
  stays = keeps.stays;
  now = λ image told. (let at = keeps.image image told in (ap (λ still. still.mark) keeps.still, inl (opens-same at.0 image at.2 db (opens at.0 at.1))));
}

-- and a commit leaves it, or what the working side holds
pub leaves-committed : (mid : Held) (old between new : Chip) (db next : Database) → ((was : List ℕ) → old.image ≡ Some was → Opens was db) → Keeps store_of old between
    → IsHeld mid Committed between db → IsHeld mid Working between next → Commits mid between new → LeavesOneOf (db ∷ next ∷ []) old new
leaves-committed mid old between new db next opens keeps committed working commits =
    throughout-then old between new _ (leaves-kept old between db (next ∷ []) opens keeps) (throughout-weaker between new _ _ commits.moments (λ g left at. (
      at.0 ∙ ap (λ still. still.mark) keeps.still,
      elim at.3 [
        | inl was ↦ inl (opens-side mid Committed between db committed at.1 left at.2 was)
        | inr now ↦ inr (inl (opens-side mid Working between next working at.1 left at.2 now))
      ],
    )))

-- what a commit makes of the slots of the working side
pub slots-committed : (mid new : Held) (before after : Chip) → IsOver mid before → Becomes (IsCommitted mid new) before.image after.image → is_some after.image ≡ is_some before.image
    → slots_of new Committed after ≡ slots_of mid Working before
slots-committed mid new before after over committed told = of before.image after.image over.stands committed told
  where
    of : (was now : Option (List ℕ)) → IfSome was (StandsFor mid) → Becomes (IsCommitted mid new) was now → is_some now ≡ is_some was
        → option_and_then (contents new Committed) now ≡ option_and_then (contents mid Working) was
    of None None stands committed told = refl
    of None (Some now) stands committed told = absurd cc
    of (Some was) None stands committed told = absurd cc
    of (Some was) (Some now) stands committed told =
        let done_now = committed now refl in
        let same : with_limit new.row_limit (contents new Committed now) ≡ with_limit mid.row_limit (contents mid Working was)
        = sym (store_of-stands new now done_now.2.stands) ∙ (done_now.2.store ∙ ap (λ (image : List ℕ). with_limit mid.row_limit (contents mid Working image)) (sym (same_Some was done_now.0 done_now.1))) in
        let there = some-told (contents mid Working was) stands.working in
        (limited new.row_limit (contents new Committed now) (record { row_limit = mid.row_limit; slots = there.0 }) (same ∙ ap (with_limit mid.row_limit) there.1)).0 ∙ sym there.1

-- and of what it holds
pub held-committed : (mid new : Held) (before after : Chip) (db : Database) → IsOver mid before → IsHeld mid Working before db → Becomes (IsCommitted mid new) before.image after.image → is_some after.image ≡ is_some before.image
    → new.chains.cells ≡ mid.chains.cells → new.row_limit ≡ mid.row_limit → IsHeld new Committed after db
held-committed mid new before after db over held committed told cells rows =
    held-same mid new Working Committed before after db held (slots-committed mid new before after over committed told) cells rows

-- nothing is written behind the image
pub behind-changed : (old c1 c2 c3 : Chip) (store begun mid : Held) → c1 ≡ old → begun ≡ begun_from store → mid.chains.cells ≡ begun.chains.cells → Keeps (drop (image_size begun.chains.cells)) c1 c2
    → Keeps (drop (image_size mid.chains.cells)) c2 c3 → Keeps (drop (image_size store.chains.cells)) old c3
behind-changed old c1 c2 c3 store begun mid same is cells first second =
    let started : begun.chains.cells ≡ store.chains.cells = ap (λ (h : Held). h.chains.cells) is in
    Keeps-then (drop (image_size store.chains.cells)) old c2 c3
    (subst (λ (chip : Chip). Keeps (drop (image_size store.chains.cells)) chip c2) same (subst (λ (n : ℕ). Keeps (drop (image_size n)) c1 c2) started first))
    (subst (λ (n : ℕ). Keeps (drop (image_size n)) c2 c3) (cells ∙ started) second)

-- what is committed stays where an operation was made
pub committed-begun : (store begun mid : Held) (old c1 c2 : Chip) (db : Database) → IsHeld store Committed old db → c1 ≡ old → begun ≡ begun_from store
    → ((image : List ℕ) → contents begun Committed image ≡ contents store Committed image) → slots_of mid Committed c2 ≡ slots_of begun Committed c1
    → mid.chains.cells ≡ begun.chains.cells → mid.row_limit ≡ begun.row_limit → IsHeld mid Committed c2 db
committed-begun store begun mid old c1 c2 db held same is starts committed cells rows =
    held-same store mid Committed Committed old c2 db held
    (committed ∙ (same-slots begun store Committed Committed c1 starts ∙ ap (λ (c : Chip). slots_of store Committed c) same))
    (cells ∙ ap (λ (h : Held). h.chains.cells) is) (rows ∙ ap (λ (h : Held). h.row_limit) is)

-- and where one was refused, and rolled back
pub slots-rolled_back : (store begun mid back : Held) (old c1 c2 : Chip) → c1 ≡ old → ((image : List ℕ) → contents begun Committed image ≡ contents store Committed image) → mid ≡ begun → c2 ≡ c1
    → ((image : List ℕ) → contents back Committed image ≡ contents mid Committed image) → slots_of back Committed c2 ≡ slots_of store Committed old
slots-rolled_back store begun mid back old c1 c2 same starts stays still ended =
    same-slots back mid Committed Committed c2 ended ∙ (ap (λ (h : Held). slots_of h Committed c2) stays ∙ (same-slots begun store Committed Committed c2 starts ∙ ap (λ (c : Chip). slots_of store Committed c) (still ∙ same)))

-- without a transaction both sides have the same slots
pub slots-idle : (store : Held) (chip : Chip) → store.begun ≡ false → slots_of store Working chip ≡ slots_of store Committed chip
slots-idle store chip idle = of chip.image
  where
    of : (image : Option (List ℕ)) → option_and_then (contents store Working) image ≡ option_and_then (contents store Committed) image
    of None = refl
    of (Some image) = ap (λ (begun : Bool). slots_at image store.chains.cells (if begun then store.working else store.committed)) idle

-- the rows of both sides stay where those of one do and no transaction is begun
pub KeepsRows-idle : (old new : Held) (before after : Chip) (side : Side) → old.begun ≡ false → new.begun ≡ false → KeepsRows (slots_of old Committed before) (slots_of new Committed after)
    → KeepsRows (slots_of old side before) (slots_of new side after)
KeepsRows-idle old new before after Committed was now rows = rows
KeepsRows-idle old new before after Working was now rows = rw (slots-idle old before was, slots-idle new after now) rows

pub KeepsRows-then : (a b c : Option Slots) → KeepsRows a b → KeepsRows b c → KeepsRows a c
KeepsRows-then a b c first second = λ after told.
    let mid = second after told in
    let from = first mid.0 mid.1 in
    (from.0, from.1, λ slot. mid.2 slot ∙ from.2 slot)

-- the record that was put into a slot is there
pub at-changed : {X : Type 0} (kind : Kind X) (slot : ℕ) (was x : X) (old new : Option Slots) → IsKind kind → kind.form.fits x ≡ true → IfSome old (λ slots. Some was ≡ at_slot kind slot slots)
    → Becomes (IsChanged kind x slot) old new → IfSome new (λ slots. Some x ≡ at_slot kind slot slots)
at-changed {X} kind slot was x old None is fits there changed = tt
at-changed {X} kind slot was x old (Some slots) is fits there changed =
    let from = changed slots refl in
    let here : Some was ≡ at_slot kind slot from.0 = subst (λ o. IfSome o (λ slots. Some was ≡ at_slot kind slot slots)) from.1 there in
    let within = within-at kind from.0 slot was (sym here) in
    rw (from.2, get_or-set_same from.0 slot (Some (kind.form.spell x)) None within) (sym (is.again x fits))

-- a record of a kind that takes the place of one, and then another that takes its place, leave the rows where they are, if the kind is another
pub KeepsRows-changed : {X : Type 0} (kind : Kind X) (slot : ℕ) (was x : X) (old new : Option Slots) → IsKind kind → HaveOtherMarks kind row_kind → IfSome old (λ slots. Some was ≡ at_slot kind slot slots)
    → Becomes (IsChanged kind x slot) old new → KeepsRows old new
KeepsRows-changed kind slot was x old new is apart there changed =
    KeepsRows-one kind slot was (IsChanged kind x slot) old new is apart there (λ a b now. (Some (kind.form.spell x), now, is.begins x)) changed

pub KeepsRows-again : {X : Type 0} (kind : Kind X) (slot : ℕ) (was x y : X) (old mid new : Option Slots) → IsKind kind → HaveOtherMarks kind row_kind → IfSome old (λ slots. Some was ≡ at_slot kind slot slots)
    → Becomes (IsChanged kind x slot) old mid → Becomes (IsChanged kind y slot) mid new → KeepsRows mid new
KeepsRows-again kind slot was x y old mid new is apart there first second = λ after told.
    let b = second after told in
    let a = first b.0 b.1 in
    let here : Some was ≡ at_slot kind slot a.0 = subst (λ o. IfSome o (λ slots. Some was ≡ at_slot kind slot slots)) a.1 there in
    let within = within-at kind a.0 slot was (sym here) in
    let marked : is_of kind (get_or b.0 slot None) ≡ true = ap (λ (slots : Slots). is_of kind (get_or slots slot None)) a.2 ∙ (ap (is_of kind) (get_or-set_same a.0 slot (Some (kind.form.spell x)) None within) ∙ is.begins x) in
    (b.0, b.1, λ place. ap (at_slot row_kind place) b.2 ∙ at_slot-kept kind row_kind b.0 slot (Some (kind.form.spell y)) place IsKind-row apart marked (is.begins y))

abbrev result_of : List Edit → Result (List Edit) StatusWord
result_of edits = Ok edits

-- the edits that were made are those that were asked for
pub made-edits : (db : Database) (edits : List Edit) (outcome : Result (List Edit) StatusWord) (old new : Held) (before after : Chip) → outcome ≡ Ok edits
    → ((made : List Edit) × (outcome ≡ Ok made) × Makes db made old new before after) → Makes db edits old new before after
made-edits db edits outcome old new before after is made = subst (λ (e : List Edit). Makes db e old new before after) (same_edits edits made.0 (sym is ∙ made.1)) made.2
  where
    same_edits : (xs ys : List Edit) → result_of xs ≡ result_of ys → ys ≡ xs
    same_edits xs ys same = cc

-- what was asked for is not refused where there is room for it
pub not-refused : (db : Database) (edits : List Edit) (word : StatusWord) → lacks_room db edits ≡ false → with_edits db edits ≡ Err word → ⊥
not-refused db edits word room refused = let wrong = rw room at refused in cc

-- Edits were made in a transaction of their own, by the ways in which that ends.
module _ (T : Type 0) (db : Database) (edits : List Edit) (store begun mid : Held) (old between : Chip) (over : IsOver store old) (rest : IsAtRest store old db)
    (is : begun ≡ begun_from store) (stays : (image : List ℕ) → contents begun Committed image ≡ contents store Committed image) (kept : Keeps store_of old between) where
  opens : (was : List ℕ) → old.image ≡ Some was → Opens was db
  opens = opens-rest store old db over rest

  -- a device failed before the commit
  pub Replaces-failed : (ended : Held) → Replaces {T = T} db (applied db edits) (octets_for edits) (Err Fault) ended old between
  Replaces-failed ended = record { rests = tt; unrefused = λ word refused. cc; moments = leaves-kept old between db (applied db edits ∷ []) opens kept; octets = tt }

  module _ (makes : Makes db edits begun mid old between) (goes_on : GoesOn begun mid old between) (new : Chip) (commits : Commits mid between new) where
    moments : LeavesOneOf (db ∷ applied db edits ∷ []) old new
    moments = leaves-committed mid old between new db (applied db edits) opens kept (committed-begun store begun mid old old between db rest refl is stays makes.committed goes_on.cells goes_on.rows) makes.held commits

    -- or during it
    pub Replaces-half : (ended : Held) → Replaces {T = T} db (applied db edits) (octets_for edits) (Err Fault) ended old new
    Replaces-half ended = record { rests = tt; unrefused = λ word refused. cc; moments = moments; octets = tt }

    -- it was done
    pub Replaces-done : (x : T) (ended : Held) → Becomes (IsCommitted mid ended) between.image new.image → is_some new.image ≡ is_some between.image → ended.chains.cells ≡ mid.chains.cells → ended.row_limit ≡ mid.row_limit
        → entries begun ≡ 0 → Becomes (RisesBy (4 + 6 * entries mid)) between.written new.written → Replaces db (applied db edits) (octets_for edits) (Ok x) ended old new
    Replaces-done x ended done_now told cells rows none rises = record {
      rests = held-committed mid ended between new (applied db edits) goes_on.over makes.held done_now told cells rows;
      unrefused = λ word refused. cc;
      moments = moments;
      octets = λ after told.
          let last = rises after told in
          let first = makes.octets last.0 last.1 in
          (first.0, first.1, omega (arith, first.2, last.2, makes.entries, none));
    }

-- a fault that is handed on
pub Replaces-fault : {T : Type 0} (db next : Database) (most : ℕ) (result : Result T Stop) (store : Held) (old new : Chip) → IsErrAnd result (λ stop. stop ≡ Fault) → Replaces {T = T} db next most (Err Fault) store old new
    → Replaces db next most result store old new
Replaces-fault {T} db next most (Ok x) store old new gives replaces = absurd gives
Replaces-fault {T} db next most (Err stop) store old new gives replaces = subst (λ stop. Replaces {T = T} db next most (Err stop) store old new) (sym gives) replaces

-- the database was there at the beginning of these moments
pub LeavesOnce-then : (db : Database) (dbs : List Database) (store : Held) (old mid new : Chip) → old.clock ≤ mid.clock → mid.still ≡ old.still → IsOver store mid → IsAtRest store mid db → LeavesOneOf dbs mid new → LeavesOnce db old new
LeavesOnce-then db dbs store old mid new later still over rest leaves =
    let image = told-image store Committed mid rest.slots rest.told in record {
      left = image.0;
      opens = opens-rest store mid db over rest image.0 image.1;
      moment = subst (λ (mark : ℕ). MayBeLeftSince new old.clock mark image.0) (ap (λ still. still.mark) still) (leaves.stays old.clock mid.still.mark image.0 later (left-now mid old.clock image.0 image.1));
    }
