-- Lemmas, in specs/ since `LiveCardLaws.antt` cites them: the image of a card that is ready opens to its machine's database, and the card stays ready, and at its machine, while output goes out.
use Rattle.std.proofs.Common.{◌≡◌, ◌≤◌, ◌∙◌, ℕ, List, Option, Some, None, ap, sym, subst}
use Rattle.std.specs.Prelude.{IfSome, option_and_then}
use Rattle.eeprom.specs.Chip.{Chip}
use Rattle.eeprom.specs.StoreOf.{Slots, image_size}
use Rattle.record_store.specs.Held.{StandsFor, contents, with_limit}
use Rattle.record_store.specs.declared.side.Side.{Side}
use Rattle.record_store.specs.declared.side.Side.TheVariants.{Committed, Working}
use Rattle.record_store.proofs.Weights.{store_of-stands}
use Rattle.record_table.specs.Listed.{slots_of}
use Rattle.record_table.specs.Making.{IsHeld}
use Rattle.row_index.specs.Index.{HasRows}
use Rattle.scql_model.specs.Database.{Database, IsValid}
use Rattle.scql_model.specs.Machine.{Machine, Transaction}
use Rattle.scql_model.specs.Opens.{Opens}
use Rattle.card.specs.Card.{Kept, HoldsMachine, HoldsSome, IsAt, IsReady, IsStillFound, StandsOver, WorksOn, committed_slots}
use Rattle.card.specs.Waiting.{side_of}
use Rattle.card.specs.declared.found.ChannelActor.{ChannelActor}

-- the image of a card that holds a machine opens to the machine's database, where that is valid
pub Opens-held : (card : Kept) (chip : Chip) (m : Machine) → StandsOver card chip → HoldsMachine card chip m → IsValid m.committed → (image : List ℕ) → chip.image ≡ Some image → Opens image m.committed
unfolding committed_slots
Opens-held card chip m ready at valid image told =
    let stands : StandsFor card.store image = subst (λ (o : Option (List ℕ)). IfSome o (StandsFor card.store)) told ready.over.stands in
    let stored : contents card.store Committed image ≡ Some at.slots = subst (λ (o : Option (List ℕ)). committed_slots card.store o ≡ Some at.slots) told at.committed in
    record { store = record { row_limit = card.store.row_limit; slots = at.slots }; stored = store_of-stands card.store image stands ∙ ap (with_limit card.store.row_limit) stored; limit = at.limit; holds = at.holds; valid = valid }

pub Opens-at : (card : Kept) (chip : Chip) (m : Machine) → IsReady card chip → IsAt card chip m → (image : List ℕ) → chip.image ≡ Some image → Opens image m.committed
Opens-at card chip m ready at = Opens-held card chip m ready.stands at.held at.valid.committed

-- The image stays, and so does the size.
module _ (card : Kept) (old new : Chip) (image : new.image ≡ old.image) where
  slots-given : (side : Side) → slots_of card.store side new ≡ slots_of card.store side old
  slots-given side = ap (option_and_then (contents card.store side)) image

  held-given : (side : Side) (db : Database) → IsHeld card.store side old db → IsHeld card.store side new db
  held-given side db held = record { slots = held.slots; told = slots-given side ∙ held.told; cells = held.cells; limit = held.limit; holds = held.holds; valid = held.valid }

  held-before : (side : Side) (db : Database) → IsHeld card.store side new db → IsHeld card.store side old db
  held-before side db held = record { slots = held.slots; told = sym (slots-given side) ∙ held.told; cells = held.cells; limit = held.limit; holds = held.holds; valid = held.valid }

  some-given : (side : Side) → HoldsSome card.store side old → HoldsSome card.store side new
  some-given side holds = subst (λ (o : Option (List ℕ)). IfSome o (λ image. (db : Database) × IsHeld card.store side new db)) (sym image) (go old.image holds)
    where
      go : (o : Option (List ℕ)) → IfSome o (λ image. (db : Database) × IsHeld card.store side old db) → IfSome o (λ image. (db : Database) × IsHeld card.store side new db)
      go None holds = tt
      go (Some was) holds = (holds.0, held-given side holds.0 holds.1)

  stands-given : new.still.size ≡ old.still.size → StandsOver card old → StandsOver card new
  stands-given size ready = record {
    live = ready.live;
    begun = ready.begun;
    over = record {
      room = subst (λ (n : ℕ). image_size card.store.chains.cells ≤ n) (sym size) ready.over.room;
      stands = subst (λ (o : Option (List ℕ)). IfSome o (StandsFor card.store)) (sym image) ready.over.stands;
    };
    holds = some-given Committed ready.holds;
    works = some-given Working ready.works;
    index_begun = ready.index_begun;
    index = record {
      cells = ready.index.cells;
      committed = subst (λ (o : Option Slots). IfSome o (HasRows card.index.cells card.index.committed)) (sym (slots-given Committed)) ready.index.committed;
      working = subst (λ (o : Option Slots). IfSome o (HasRows card.index.cells card.index.working)) (sym (slots-given Working)) ready.index.working;
    };
  }

  found-given : (o : Option ChannelActor) → IfSome o (IsStillFound card old) → IfSome o (IsStillFound card new)
  found-given None is = tt
  found-given (Some last) is = record {
    actor = λ db held. is.actor db (held-before (side_of card.transaction last.channel) db held);
    scan = λ db held. is.scan db (held-before (side_of card.transaction last.channel) db held);
  }

  pub IsReady-given : new.still.size ≡ old.still.size → IsReady card old → IsReady card new
  IsReady-given size ready = record { stands = stands-given size ready.stands; found = found-given card.found.last ready.found }

  pub IsAt-given : (m : Machine) → IsAt card old m → IsAt card new m
  IsAt-given m at = record {
    held = record {
      slots = at.held.slots;
      committed = ap (committed_slots card.store) image ∙ at.held.committed;
      limit = at.held.limit;
      holds = at.held.holds;
      transaction = at.held.transaction;
      works = go m.transaction at.held.works;
      sessions = at.held.sessions;
    };
    valid = at.valid;
  }
    where
      go : (t : Option Transaction) → IfSome t (WorksOn card.store old at.held.slots) → IfSome t (WorksOn card.store new at.held.slots)
      go None works = tt
      go (Some t) works = record { slots = works.slots; told = slots-given Working ∙ works.told; limit = works.limit; holds = works.holds; touched = works.touched }
