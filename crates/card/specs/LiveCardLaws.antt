-- Lemmas, in specs/ since the ghost members of links cite them: what the calls of a card in a link keep, one after another, and its moments, as its link tells them.
use Rattle.std.proofs.Common.{◌≡◌, ◌≤◌, ◌∙◌, ℕ, Bool, true, false, List, length, drop, Option, Some, None, IfSome, IsTrue, refl, sym, subst, inl, inr, [], ◌∷◌, ap, arith}
use Rattle.eeprom.specs.Chip.{Chip, Gives, Keeps, Still, Throughout}
use Rattle.eeprom.specs.StoreOf.{image_size}
use Rattle.eeprom.proofs.Moments.{throughout-then, throughout-weaker, gives-throughout, throughout-same}
use Rattle.scql_model.specs.Machine.{Machine, Transaction}
use Rattle.scql_model.specs.ValidMachine.{IsValidMachine, IsValidWork}
use Rattle.scql_model.specs.Database.{IsValid, Database}
use Rattle.card_link.specs.Link.{AfterOutput as LinkGives, Holds, IsOneOf, HasValidData, LeavesOpen}
use Rattle.card.specs.Behind.{KeepsBehind}
use Rattle.card.specs.Card.{Kept}
use Rattle.card.specs.LiveCard.{Lasts, LastsOn, OnBench, IsReadyAt}
use Rattle.card.specs.GivenMoments.{behind-same, behind-gives, behind-keeps, behind-on}
use Rattle.scql_model.specs.Opens.{Opens, OpensToOneOf}
use Rattle.record_table.specs.AtRest.{LeavesOneOf}
use Rattle.card.specs.CardLaws.{IsReady-given, IsAt-given, Opens-at}

if-working : (m : Machine) (t : Option Transaction) → IfSome t (IsValidWork m) → IfSome t (λ (t : Transaction). IsValid t.working)
if-working m None work = tt
if-working m (Some t) work = work.working

-- a card that is at a machine is over valid databases
pub over-at : (m : Machine) → IsValidMachine m → HasValidData m
over-at m valid = record { committed = valid.committed; transaction = if-working m m.transaction valid.transaction; basic = valid.basic }

-- the card stays, and the chip
pub lasts-unwritten : (was now : Kept) (chip : Chip) → (IsTrue now.live → IsTrue was.live) → now.store.chains.cells ≡ was.store.chains.cells → Lasts was now chip chip
lasts-unwritten was now chip live cells = record { live = live; cells = λ _. cells; behind = behind-same _ chip chip refl; mute = λ _ n. behind-same _ chip chip refl; later = omega arith; marks = throughout-same chip _ (λ image told. omega arith) }

pub lasts-itself : (card : Kept) (chip : Chip) → Lasts card card chip chip
lasts-itself card chip = lasts-unwritten card card chip (λ live. live) refl

pub lasts-same : {B : Type 0} (chip : B → Chip) (l : OnBench B) → LastsOn chip l l
lasts-same chip l = record { name = refl; lasts = lasts-itself l.card (chip l.bench) }

-- one call, and then another
pub lasts-both : (was mid now : Kept) (old between new : Chip) → Lasts was mid old between → Lasts mid now between new → Lasts was now old new
lasts-both was mid now old between new first second = record {
  live = λ live. first.live (second.live live);
  cells = λ live. second.cells live ∙ first.cells (second.live live);
  behind = go mid.live refl;
  mute = λ mute n. behind-on n n old between new refl (first.mute mute n) (second.mute (still mid.live refl mute) n);
  later = omega (arith, first.later, second.later);
  marks = throughout-then old between new _ (throughout-weaker old between _ _ first.marks (λ g left within. omega (arith, within, second.later))) second.marks;
}
  where
    go : (b : Bool) → mid.live ≡ b → KeepsBehind (λ image. was.store.chains.cells) old new
    go true live = behind-on was.store.chains.cells mid.store.chains.cells old between new (first.cells live) first.behind second.behind
    go false live = behind-on was.store.chains.cells was.store.chains.cells old between new refl first.behind (second.mute live was.store.chains.cells)

    still : (b : Bool) → mid.live ≡ b → was.live ≡ false → mid.live ≡ false
    still false live mute = live
    still true live mute = cc (first.live live, mute)

pub lasts-then : {B : Type 0} (chip : B → Chip) (old mid new : OnBench B) → LastsOn chip old mid → LastsOn chip mid new → LastsOn chip old new
lasts-then chip old mid new first second =
    record { name = second.name ∙ first.name; lasts = lasts-both old.card mid.card new.card (chip old.bench) (chip mid.bench) (chip new.bench) first.lasts second.lasts }

-- where nothing is given the mark stays
marks-kept : (look : List ℕ → List ℕ) (old new : Chip) → Keeps look old new → Throughout old new (λ g left. g ≤ new.still.mark)
marks-kept look old new keeps = record {
  later = keeps.later;
  only = λ t g left before since. elim (keeps.only t g left before since) [ inl was ↦ inl was | inr now ↦ inr (omega (arith, now.0, ap (λ (s : Still). s.mark) keeps.still)) ];
  stays = keeps.stays;
  now = λ image told. omega arith;
}

-- a command was answered, or the card is mute
pub lasts-answered : (was now : Kept) (old new : Chip) → IsTrue was.live → (IsTrue now.live → now.store.chains.cells ≡ was.store.chains.cells) → Keeps (drop (image_size was.store.chains.cells)) old new → Lasts was now old new
lasts-answered was now old new live cells keeps = record {
  live = λ _. live;
  cells = cells;
  behind = behind-keeps was.store.chains.cells old new keeps;
  mute = λ mute n. absurd cc;
  later = omega (arith, ap (λ (s : Still). s.mark) keeps.still);
  marks = marks-kept (drop (image_size was.store.chains.cells)) old new keeps;
}

-- a piece of output went out
pub lasts-given : {B : Type 0} (chip : B → Chip) (old new : OnBench B) → new.name ≡ old.name → new.card ≡ old.card → IfSome (chip old.bench).past (λ past. length past ≡ (chip old.bench).clock) → Gives (chip old.bench) (chip new.bench)
    → LastsOn chip old new
lasts-given chip old new name card clocked gives = record {
  name = name;
  lasts = subst (λ (card : Kept). Lasts old.card card (chip old.bench) (chip new.bench)) (sym card) (record {
    live = λ live. live;
    cells = λ _. refl;
    behind = behind-gives _ (chip old.bench) (chip new.bench) clocked gives;
    mute = λ _ n. behind-gives _ (chip old.bench) (chip new.bench) clocked gives;
    later = gives.mark;
    marks = throughout-weaker (chip old.bench) (chip new.bench) _ _ (gives-throughout (chip old.bench) (chip new.bench) clocked gives) (λ g left during. during.1);
  });
}

-- a moment of a command, and while a piece of output goes out
one-of : (mark g : ℕ) (left : List ℕ) (dbs : List Database) → g ≡ mark → OpensToOneOf dbs left → (db : Database) × Opens left db × IsOneOf mark dbs g db
one-of mark g left [] same none = absurd none
one-of mark g left (db ∷ dbs) same (inl opens) = (db, opens, inl (same, refl))
one-of mark g left (db ∷ dbs) same (inr more) = let rest = one-of mark g left dbs same more in (rest.0, rest.1, inr rest.2)

-- a command was answered, or the card is mute
pub opens-answered : (dbs : List Database) (old new : Chip) → LeavesOneOf dbs old new → LeavesOpen (IsOneOf old.still.mark dbs) old new
opens-answered dbs old new leaves = throughout-weaker old new _ _ leaves (λ g left now. one-of old.still.mark g left dbs now.0 now.1)

-- the image of a card that is at a machine opens to its database
pub opens-at : (card : Kept) (chip : Chip) (m : Machine) → IsReadyAt card chip m → IfSome chip.image (λ image. Opens image m.committed)
opens-at card chip m at = go chip.image refl
  where
    go : (o : Option (List ℕ)) → chip.image ≡ o → IfSome o (λ image. Opens image m.committed)
    go None told = tt
    go (Some image) told = Opens-at card chip m at.ready at.at image told

-- nothing is written
pub opens-unwritten : (card : Kept) (chip : Chip) (m : Machine) → IsReadyAt card chip m → LeavesOpen (Holds chip.still.mark m.committed) chip chip
opens-unwritten card chip m at = throughout-same chip _ (λ image told. (m.committed, Opens-at card chip m at.ready at.at image told, (refl, refl)))

-- a piece of output went out
pub gives-on : {B : Type 0} (chip : B → Chip) (faults : B → ℕ) (old new : OnBench B) → new.card ≡ old.card → IfSome (chip old.bench).past (λ past. length past ≡ (chip old.bench).clock) → Gives (chip old.bench) (chip new.bench)
    → faults new.bench ≡ faults old.bench
    → LinkGives (λ (l : OnBench B) (m : Machine). IsReadyAt l.card (chip l.bench) m) (λ (l : OnBench B). l.card.live) (λ (l : OnBench B). faults l.bench) (λ (l : OnBench B). (chip l.bench).still.mark) (λ (l : OnBench B). chip l.bench) old new
gives-on chip faults old new card clocked gives same = record {
  machine = λ m at. subst (λ (card : Kept). IsReadyAt card (chip new.bench) m) (sym card)
      (record { ready = IsReady-given old.card (chip old.bench) (chip new.bench) gives.image gives.size at.ready; at = IsAt-given old.card (chip old.bench) (chip new.bench) gives.image m at.at });
  live = ap (λ (card : Kept). card.live) card;
  faults = same;
  later = gives.mark;
  moments = λ m at. throughout-weaker (chip old.bench) (chip new.bench) _ _ (gives-throughout (chip old.bench) (chip new.bench) clocked gives)
      (λ g left during. (m.committed, Opens-at old.card (chip old.bench) m at.ready at.at left during.2, record { above = during.0; below = during.1; same = refl }));
}

-- what was given, and the outlet's count, are the EEPROM's
pub still-kept : {given_new given_old : Option (List ℕ)} {count_new count_old : ℕ} (old new : Still) → new ≡ old → (old.given ≡ given_old) × (old.sink_faults ≡ count_old) → (new.given ≡ given_new) × (new.sink_faults ≡ count_new)
    → (given_new ≡ given_old) × (count_new ≡ count_old)
still-kept old new same was now = (cc (same, was.0, now.0), cc (same, was.1, now.1))
