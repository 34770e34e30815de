-- What a call keeps of an image at each moment, by what it leaves of it.
use Rattle.std.proofs.Common.{◌≡◌, inl, inr, ℕ, ◌+◌, ◌≤◌, List, length, drop, Some, IfSome, subst, sym, arith}
use Rattle.eeprom.specs.Chip.{Chip, Writes, Keeps, LeavesOf}
use Rattle.eeprom.specs.Image.{IsTorn}
use Rattle.eeprom.specs.StoreOf.{front_size, image_size, number_at}
use Rattle.eeprom.specs.declared.entry.Entry.{Entry}
use Rattle.eeprom.proofs.Leaves.{at-told, write-leaves, leaves-weaker}
use Rattle.eeprom.proofs.Regions.{drop-overwrite}
use Rattle.eeprom.proofs.SameFrom.{drop-from}
use Rattle.cell_store.specs.Placed.{Keeping, KeepsMarked}
use Rattle.journal.specs.Journal.{IsBetweenDirectories, KeepsDirectory}
use Rattle.record_store.specs.Header.{IsHeaderOf}
use Rattle.record_store.specs.declared.header.Header.{Header}

-- an image that is left looks as the one that was there
pub keeps-leaves : {A : Type 0} (look : List ℕ → A) (P : List ℕ → List ℕ → Type 0) (old new : Chip) → new.still ≡ old.still → ((was left : List ℕ) → old.image ≡ Some was → P was left → look left ≡ look was) → LeavesOf P old new → Keeps look old new
keeps-leaves look P old new still same leaves = record {
  still = still;
  image = λ now told. (let at = leaves.now now told in (at.1, at.2, same at.1 now at.2 at.3));
  later = leaves.later;
  only = λ t g left since there. elim (leaves.only t g left since there) [
    | inl before ↦ inl before
    | inr at ↦ inr (at.0, at.1, at.2, same at.1 left at.2 at.3)
  ];
  stays = leaves.stays;
}

-- what lies behind a write
pub behind-write : (at limit : ℕ) (octets : List ℕ) (old new : Chip) → at + length octets ≤ limit → at + length octets ≤ old.still.size → IfSome old.image (λ image. length image ≡ old.still.size)
    → IfSome old.past (λ past. length past ≡ old.clock) → Writes at octets old new → Keeps (drop limit) old new
behind-write at limit octets old new inside room sized clocked w =
    keeps-leaves (drop limit) (λ was left. IsTorn was at (length octets) left) old new w.still same (write-leaves at octets old new clocked w)
  where
    same : (was left : List ℕ) → old.image ≡ Some was → IsTorn was at (length octets) left → drop limit left ≡ drop limit was
    same was left told torn =
        let size : length was ≡ old.still.size = at-told (λ image. length image ≡ old.still.size) old.image was told sized in
        rw (torn.is) (drop-overwrite limit at was torn.octets (omega (arith, torn.count_is, inside)) (omega (arith, torn.count_is, room, size)))

-- what lies behind the image where a chain is written
pub behind-marked : (marks : List _) (n cells : ℕ) (old new : Chip) → n ≡ cells → KeepsMarked marks n old new → Keeps (drop (image_size cells)) old new
behind-marked marks n cells old new same keeps =
    keeps-leaves (drop (image_size cells)) (λ was left. Keeping marks n left was) old new keeps.still
    (λ was left told keeping. subst (λ (n : ℕ). drop (image_size n) left ≡ drop (image_size n) was) same keeping.behind) keeps.moments

-- and during a commit
pub behind-commit : (n cells : ℕ) (entries : List Entry) (old new : Chip) → n ≡ cells → new.still ≡ old.still → LeavesOf (IsBetweenDirectories n entries) old new → Keeps (drop (image_size cells)) old new
behind-commit n cells entries old new same still leaves =
    keeps-leaves (drop (image_size cells)) (IsBetweenDirectories n entries) old new still (λ was left told between. drop-from (front_size n) (image_size cells) left was (omega (arith, same)) between.rest.cells) leaves

-- a replay by the number of cells that the image's header says
pub rest-replayed : (header : Header) (old new : Chip) → IfSome old.image (λ image. IsHeaderOf image header) → LeavesOf (KeepsDirectory header.cells) old new → LeavesOf (λ was left. KeepsDirectory (number_at was 6) was left) old new
rest-replayed header old new begins leaves =
    leaves-weaker old new (KeepsDirectory header.cells) (λ was left. KeepsDirectory (number_at was 6) was left)
    (λ was left told keeps. subst (λ (n : ℕ). KeepsDirectory n was left) (sym (at-told (λ image. IsHeaderOf image header) old.image was told begins).cells) keeps) leaves
