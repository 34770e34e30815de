-- A card that was just opened.
use Rattle.std.proofs.Common.{◌≡◌, ℕ, ◌≤◌, true, List, Option, Some, None, Result, Ok, Err, refl, sym, subst, ◌∙◌, inl, inr}
use Rattle.std.specs.Prelude.{IfSome, OnOk}
use Rattle.eeprom.specs.Chip.{Chip}
use Rattle.eeprom.specs.StoreOf.{store_of, fresh_store}
use Rattle.record_store.specs.Held.{Held, contents, stored}
use Rattle.record_store.proofs.Weights.{limited}
use Rattle.record_store.specs.declared.side.Side.TheVariants.{Committed}
use Rattle.scql_model.specs.Database.{Database, fresh, owner}
use Rattle.scql_model.specs.Records.{counter_record, user_record}
use Rattle.scql_model.proofs.FreshCard.{Opens-fresh}
use Rattle.scql_model.proofs.ValidSteps.{IsValidMachine-start}
use Rattle.scql_model.specs.Machine.{Session, start}
use Rattle.scql_model.specs.Opens.{Opens}
use Rattle.record_store.specs.FreshImage.{LeavesFormatted}
use Rattle.eeprom.proofs.Moments.{throughout-weaker}
use Rattle.std.proofs.lemmas.Option.{none-some}
use Rattle.card.specs.Making.{LeavesMade}
use Rattle.row_index.specs.Index.{Index}
use Rattle.card.specs.Card.{Kept, IsAt, committed_slots}
use Rattle.card.specs.declared.found.Found.{Found}

abbrev pub opened : Held → Index → Found → List (Option Session) → Kept
opened store index found sessions = record { store = store; index = index; sessions = sessions; transaction = None; found = found; live = true }

pub starts_at : (store : Held) (index : Index) (found : Found) (sessions : List (Option Session)) (chip : Chip) (image : Option (List ℕ)) → ((db : Database) → sessions ≡ (start db).sessions) → image ≡ chip.image
    → IfSome image (λ image. store_of image ≡ stored store Committed image) → IfSome image (λ image. (db : Database) → Opens image db → IsAt (opened store index found sessions) chip (start db))
unfolding committed_slots
starts_at store index found sessions chip None first same has = tt
starts_at store index found sessions chip (Some image) first same has = λ db opens.
    let of = limited store.row_limit (contents store Committed image) opens.store (sym has ∙ opens.stored) in record {
      held = record {
        slots = opens.store.slots;
        committed = subst (λ (i : Option (List ℕ)). committed_slots store i ≡ Some opens.store.slots) same of.0;
        limit = opens.limit ∙ sym of.1;
        holds = opens.holds;
        transaction = refl;
        works = tt;
        sessions = sym (first db);
      };
      valid = IsValidMachine-start db opens.valid;
    }

-- a new store of the two first records opens to a fresh database
pub opens_fresh : {E : Type 0} (result : Result (Unit {0}) E) (image : Option (List ℕ)) (n : ℕ) (first second : List ℕ) → 16 ≤ n → n ≤ 2048
    → first ≡ counter_record.spell 2 → second ≡ user_record.spell owner
    → OnOk result (IfSome image (λ image. store_of image ≡ Some (fresh_store n first second))) → OnOk result (IfSome image (λ image. Opens image (fresh n)))
opens_fresh (Err e) image n first second few many counter user formatted = tt
opens_fresh (Ok x) None n first second few many counter user formatted = tt
opens_fresh (Ok x) (Some image) n first second few many counter user formatted =
    Opens-fresh n image few many (formatted ∙ ap2 (λ (f s : List ℕ). Some (fresh_store n f s)) counter user)
  where
    ap2 : {X : Type 0} (f : List ℕ → List ℕ → X) {a b c d : List ℕ} → a ≡ b → c ≡ d → f a c ≡ f b d
    ap2 f p q = rw (p, q) refl

-- an image with the same store opens to the same database
pub opens-same : (left was : List ℕ) → store_of left ≡ store_of was → (db : Database) → Opens left db → Opens was db
opens-same left was same db opens = record { store = opens.store; stored = sym same ∙ opens.stored; limit = opens.limit; holds = opens.holds; valid = opens.valid }

pub made_moments : (n : ℕ) (first second : List ℕ) (old new : Chip) → 16 ≤ n → n ≤ 2048 → first ≡ counter_record.spell 2 → second ≡ user_record.spell owner → LeavesFormatted n first second old new → LeavesMade n old new
made_moments n first second old new few many counter user moments = throughout-weaker old new _ _ moments (λ g left now. (
  now.0,
  elim now.1 [
    | inl same ↦ inl (same.0, same.1, λ db. (opens-same left same.0 same.2 db, opens-same same.0 left (sym same.2) db))
    | inr other ↦ inr (elim other [
      | inl none ↦ inl (λ db opens. none-some opens.store (sym none ∙ opens.stored))
      | inr made ↦ inr (Opens-fresh n left few many (made ∙ rw (counter, user) refl))
    ])
  ],
))
