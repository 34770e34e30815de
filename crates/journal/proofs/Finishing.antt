-- A redo and a commit, from the EEPROM before to the one behind.
use Rattle.std.proofs.Common.{◌≡◌, ℕ, ◌≤◌, false, List, [], ◌∷◌, length, Option, Some, None, option_map, IfSome, refl, sym, ap, ◌∙◌, subst, arith}
use Rattle.std.proofs.lemmas.Option.{same_Some}
use Rattle.eeprom.specs.Chip.{Chip, Writes, Becomes, LeavesOf}
use Rattle.eeprom.specs.Frame.{HasRoom}
use Rattle.eeprom.specs.Image.{overwrite, IsTorn}
use Rattle.eeprom.specs.StoreOf.{front_size, image_size, journal_place, is_gate_open, written_directory, with_entries}
use Rattle.eeprom.specs.declared.entry.Entry.{Entry}
use Rattle.eeprom.proofs.Overwrite.{map-some}
use Rattle.journal.specs.Journal.{TakesEntries, IsBetweenDirectories, IsReplayed, KeepsDirectory}
use Rattle.journal.specs.Redo.{HasJournal, IsOpenWith, IsRewritten}
use Rattle.eeprom.proofs.Leaves.{at-told, write-leaves, leaves-weaker, leaves-then, leaves-last}
use Rattle.journal.specs.Run.{SameOutside}
use Rattle.journal.proofs.Redoing.{directory-closed, redo-keeps, closing-keeps, redo-done}
use Rattle.journal.proofs.Committing.{IsJournaled, IsOpened, journaled-same, journaled-between, opening-between, opened, opened-between, opened-done}

-- what is known of whatever is told
pub if-told : (P : List ℕ → Type 0) (image : Option (List ℕ)) → ((was : List ℕ) → image ≡ Some was → P was) → IfSome image P
if-told P None holds = tt
if-told P (Some was) holds = holds was refl

pub long-enough : (n : ℕ) (chip : Chip) (was : List ℕ) → HasRoom n chip → IfSome chip.image (λ image. length image ≡ chip.still.size) → chip.image ≡ Some was → image_size n ≤ length was
long-enough n chip was room sized told = omega (arith, at-told (λ image. length image ≡ chip.still.size) chip.image was told sized, room)

-- all entries are written, and the gate is still open
record IsRedone (n : ℕ) (entries : List Entry) (was mid : List ℕ) : Type 0 where
  gate : IsOpenWith n entries was
  rewritten : IsRewritten n entries was mid
  written : written_directory mid n ≡ with_entries entries (written_directory was n)
  room : 9 ≤ length mid

redone : (n : ℕ) (entries : List Entry) (old mid : Chip) → HasRoom n old → IfSome old.image (λ image. length image ≡ old.still.size) → IfSome old.image (IsOpenWith n entries)
    → LeavesOf (IsRewritten n entries) old mid → Becomes (λ was now. written_directory now n ≡ with_entries entries (written_directory was n)) old.image mid.image → Becomes (IsRedone n entries) old.image mid.image
redone n entries old mid room sized over moments written after told =
    let r = leaves-last (IsRewritten n entries) old mid moments after told in
    let w = written after told in
    let same : w.0 ≡ r.0 = same_Some w.0 r.0 (sym w.1 ∙ r.1) in
    let rewritten = r.2 in
    let long = long-enough n old r.0 room sized r.1 in (
      r.0,
      r.1,
      record {
        gate = at-told (IsOpenWith n entries) old.image r.0 r.1 over;
        rewritten = rewritten;
        written = w.2 ∙ ap (λ (was : List ℕ). with_entries entries (written_directory was n)) same;
        room = omega (arith, rewritten.size);
      },
    )

pub redo-first : (n : ℕ) (entries : List Entry) (old mid : Chip) → IfSome old.image (IsOpenWith n entries) → LeavesOf (IsRewritten n entries) old mid → LeavesOf (KeepsDirectory n) old mid
redo-first n entries old mid over moments =
    leaves-weaker old mid (IsRewritten n entries) (KeepsDirectory n) (λ was left told is. redo-keeps n entries was left (at-told (IsOpenWith n entries) old.image was told over) is) moments

pub redo-moments : (n : ℕ) (entries : List Entry) (old mid new : Chip) (gate : List ℕ) → gate ≡ 0 ∷ [] → HasRoom n old → IfSome old.image (λ image. length image ≡ old.still.size) → IfSome old.image (IsOpenWith n entries) → mid.still ≡ old.still
    → LeavesOf (IsRewritten n entries) old mid → Becomes (λ was now. written_directory now n ≡ with_entries entries (written_directory was n)) old.image mid.image
    → IfSome mid.past (λ past. length past ≡ mid.clock) → Writes 8 gate mid new → LeavesOf (KeepsDirectory n) old new
redo-moments n entries old mid new gate is room sized over still moments written clocked w =
    leaves-then old mid new (IsRedone n entries) (λ was left. IsTorn was 8 (length gate) left) (KeepsDirectory n) still (redone n entries old mid room sized over moments written)
    (λ was mid left done torn. closing-keeps n entries was mid left done.gate done.rewritten done.written done.room (subst (λ (gate : List ℕ). IsTorn mid 8 (length gate) left) is torn))
    (redo-first n entries old mid over moments) (write-leaves 8 gate mid new clocked w)

pub redo-replays : (n : ℕ) (entries : List Entry) (old mid new : Chip) (gate : List ℕ) → gate ≡ 0 ∷ [] → HasRoom n old → IfSome old.image (λ image. length image ≡ old.still.size) → IfSome old.image (IsOpenWith n entries)
    → LeavesOf (IsRewritten n entries) old mid → Becomes (λ was now. written_directory now n ≡ with_entries entries (written_directory was n)) old.image mid.image
    → new.image ≡ option_map (λ image. overwrite image 8 gate) mid.image → Becomes (IsReplayed n) old.image new.image
redo-replays n entries old mid new gate is room sized over moments written last after told =
    let between = map-some (λ image. overwrite image 8 gate) mid.image after (sym last ∙ told) in
    let from = redone n entries old mid room sized over moments written between.0 between.1 in
    let done = from.2 in (
      from.0,
      from.1,
      subst (λ (image : List ℕ). IsReplayed n from.0 image) (sym (between.2 ∙ ap (λ (gate : List ℕ). overwrite between.0 8 gate) is))
          (redo-done n entries from.0 between.0 done.gate done.rewritten done.written done.room),
    )

-- the journal is written
pub journaled-leaves : (n : ℕ) (old mid : Chip) → IfSome old.image (λ image. is_gate_open image ≡ false) → LeavesOf (SameOutside (journal_place n) (front_size n)) old mid → LeavesOf (IsJournaled n) old mid
journaled-leaves n old mid closed =
    leaves-weaker old mid (SameOutside (journal_place n) (front_size n)) (IsJournaled n) (λ was left told same. journaled-same n was left (at-told (λ image. is_gate_open image ≡ false) old.image was told closed) same)

pub commit-first : (n : ℕ) (entries : List Entry) (old mid : Chip) → LeavesOf (IsJournaled n) old mid → LeavesOf (IsBetweenDirectories n entries) old mid
commit-first n entries old mid = leaves-weaker old mid (IsJournaled n) (IsBetweenDirectories n entries) (λ was left told is. journaled-between n entries was left is)

-- the journal is whole, and its gate is still closed
record IsWhole (n : ℕ) (entries : List Entry) (was mid : List ℕ) : Type 0 where
  journaled : IsJournaled n was mid
  has : HasJournal n entries mid
  room : 9 ≤ length mid

whole : (n : ℕ) (entries : List Entry) (old mid : Chip) → HasRoom n old → IfSome old.image (λ image. length image ≡ old.still.size) → LeavesOf (IsJournaled n) old mid → Becomes (λ _ now. HasJournal n entries now) old.image mid.image
    → Becomes (IsWhole n entries) old.image mid.image
whole n entries old mid room sized moments written after told =
    let j = leaves-last (IsJournaled n) old mid moments after told in
    let long = long-enough n old j.0 room sized j.1 in
    let journaled = j.2 in
    let rest = journaled.rest in
    (j.0, j.1, record { journaled = journaled; has = (written after told).2; room = omega (arith, rest.size) })

-- and then its gate is opened
pub commit-second : (n : ℕ) (entries : List Entry) (old mid new : Chip) (gate : List ℕ) → gate ≡ 1 ∷ [] → mid.still ≡ old.still → HasRoom n old → IfSome old.image (λ image. length image ≡ old.still.size) → LeavesOf (IsJournaled n) old mid
    → Becomes (λ _ now. HasJournal n entries now) old.image mid.image → IfSome mid.past (λ past. length past ≡ mid.clock) → Writes 8 gate mid new → LeavesOf (IsBetweenDirectories n entries) old new
commit-second n entries old mid new gate is still room sized moments written clocked w =
    leaves-then old mid new (IsWhole n entries) (λ was left. IsTorn was 8 (length gate) left) (IsBetweenDirectories n entries) still (whole n entries old mid room sized moments written)
    (λ was mid left done torn. opening-between n entries was mid left done.journaled done.has done.room (subst (λ (gate : List ℕ). IsTorn mid 8 (length gate) left) is torn))
    (commit-first n entries old mid moments) (write-leaves 8 gate mid new clocked w)

pub opened-there : (n : ℕ) (entries : List Entry) (old mid new : Chip) (gate : List ℕ) → gate ≡ 1 ∷ [] → HasRoom n old → IfSome old.image (λ image. length image ≡ old.still.size) → LeavesOf (IsJournaled n) old mid
    → Becomes (λ _ now. HasJournal n entries now) old.image mid.image → new.image ≡ option_map (λ image. overwrite image 8 gate) mid.image → Becomes (IsOpened n entries) old.image new.image
opened-there n entries old mid new gate is room sized moments written last after told =
    let between = map-some (λ image. overwrite image 8 gate) mid.image after (sym last ∙ told) in
    let from = whole n entries old mid room sized moments written between.0 between.1 in
    let done = from.2 in (
      from.0,
      from.1,
      subst (λ (image : List ℕ). IsOpened n entries from.0 image) (sym (between.2 ∙ ap (λ (gate : List ℕ). overwrite between.0 8 gate) is))
          (opened n entries from.0 between.0 done.journaled done.has done.room),
    )

pub opened-over : (n : ℕ) (entries : List Entry) (old new : Option (List ℕ)) → Becomes (IsOpened n entries) old new → IfSome new (IsOpenWith n entries)
opened-over n entries old new there = if-told (IsOpenWith n entries) new (λ image told. let o = there image told in let is = o.2 in is.gate)

-- what the redo behind an opened gate leaves
pub commit-third : (n : ℕ) (entries : List Entry) (old mid new : Chip) → mid.still ≡ old.still → Becomes (IsOpened n entries) old.image mid.image → LeavesOf (IsBetweenDirectories n entries) old mid → LeavesOf (KeepsDirectory n) mid new → LeavesOf (IsBetweenDirectories n entries) old new
commit-third n entries old mid new still there first second =
    leaves-then old mid new (IsOpened n entries) (KeepsDirectory n) (IsBetweenDirectories n entries) still there (λ was mid left is keeps. opened-between n entries was mid left is keeps) first second

pub commit-replayed : (n : ℕ) (entries : List Entry) (old mid new : Option (List ℕ)) → Becomes (IsOpened n entries) old mid → Becomes (IsReplayed n) mid new → Becomes (TakesEntries n entries) old new
commit-replayed n entries old mid new there redo after told =
    let r = redo after told in
    let o = there r.0 r.1 in
    (o.0, o.1, opened-done n entries o.0 r.0 after o.2 r.2)

-- a closed gate leaves nothing to be done
pub keeps-none : (n : ℕ) (was : List ℕ) → KeepsDirectory n was was
keeps-none n was = record { rest = record { size = refl; front = refl; behind_gate = refl; cells = refl }; same = refl }

pub replayed-none : (n : ℕ) (old new : Option (List ℕ)) → new ≡ old → IfSome old (λ image. is_gate_open image ≡ false) → Becomes (IsReplayed n) old new
replayed-none n old new same closed after told =
    let was = sym same ∙ told in
    let gate = at-told (λ image. is_gate_open image ≡ false) old after was closed in
    (after, was, record { rest = (keeps-none n after).rest; closed = gate; written = directory-closed n after (written_directory after n) gate refl })
