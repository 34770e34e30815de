-- What a host has that makes the writes of a command's or a line's log.
use Rattle.std.proofs.Common.{Box, Result, Ok, Err, IfOk, OnErr, IsErrOf, ◌≡◌, ◌⊎◌, ◌≤◌, inl, inr, ℕ, suc, List, [], ◌∷◌, ap, length, refl, subst, sym, ◌∙◌, arith}
use Rattle.std.proofs.lemmas.Option.{same_Some}
use Rattle.eeprom.specs.Chip.{Keeps, Throughout}
use Rattle.eeprom.specs.StoreOf.{store_of}
use Rattle.eeprom.proofs.Moments.{throughout-weaker}
use Rattle.card_link.specs.Link.{IsOneOf, LeavesOpen}
use Rattle.card.specs.CardLaws.{Opens-at}
use Rattle.log_bench.specs.Writes.{applied}
use Rattle.line_bench.specs.LineBench.{chip_of, image_of, text_of, writes_of}
use Rattle.line_bench.specs.declared.line_bench.LineBench.{LineBench}
use Rattle.line_bench.proofs.Cuts.{all-begun, cut-begun}
use Rattle.scql_model.specs.Database.{Database}
use Rattle.scql_model.specs.Heard.{after_commits}
use Rattle.scql_model.specs.Machine.{Machine}
use Rattle.scql_model.specs.Opens.{Opens, OpensToOneOf}
use Rattle.terminal.specs.Line.{IsMoment}
use Rattle.card_c.specs.HeldCard.{HeldCard, KeepsCuts, OpensByCuts}
use Rattle.card_c.specs.OnLog.{IsBegun, IsDeskAt, OnLog, desk_chip, mark_of}
use Rattle.card_c.specs.declared.status.TheConstants.{NOT_A_CARD, NO_MEMORY}

-- a moment of a line: its mark is no earlier than the line's start, and the image opens to the database of before or to one that the line commits
abbrev OfMoment : ℕ → Database → List Database → ℕ → List ℕ → Type 0
OfMoment mark db commits g left = (found : Database) × Opens left found × IsMoment mark db commits g found

one-mark : (mark g : ℕ) (dbs : List Database) (db : Database) → IsOneOf mark dbs g db → g ≡ mark
one-mark mark g [] db is = absurd is
one-mark mark g (first ∷ dbs) db (inl is) = is.0
one-mark mark g (first ∷ dbs) db (inr is) = one-mark mark g dbs db is

moment-later : (mark : ℕ) (db : Database) (commits : List Database) (g : ℕ) (left : List ℕ) → OfMoment (suc mark) db commits g left → 1 ≤ g
moment-later mark db commits g left moment = elim moment.2 [
  | inl one ↦ omega (arith, one-mark (suc mark) g (db ∷ commits) moment.0 one)
  | inr more ↦ omega (arith, more.0)
]

one-opens : (mark g : ℕ) (dbs : List Database) (left : List ℕ) (db : Database) → Opens left db → IsOneOf mark dbs g db → OpensToOneOf dbs left
one-opens mark g [] left db opens is = absurd is
one-opens mark g (first ∷ dbs) left db opens (inl is) = inl (subst (λ (db : Database). Opens left db) is.1 opens)
one-opens mark g (first ∷ dbs) left db opens (inr is) = inr (one-opens mark g dbs left db opens is)

last-opens : (db : Database) (commits : List Database) (left : List ℕ) → Opens left (after_commits db commits (length commits)) → OpensToOneOf (db ∷ commits) left
last-opens db [] left opens = inl opens
last-opens db (next ∷ commits) left opens = inr (last-opens next commits left opens)

moment-opens : (mark : ℕ) (db : Database) (commits : List Database) (g : ℕ) (left : List ℕ) → OfMoment mark db commits g left → OpensToOneOf (db ∷ commits) left
moment-opens mark db commits g left moment = elim moment.2 [
  | inl one ↦ one-opens mark g (db ∷ commits) left moment.0 moment.1 one
  | inr more ↦ last-opens db commits left (subst (λ (db : Database). Opens left db) more.1 moment.1)
]

-- a moment of a command is one of a line
pub of-command : (m : Machine) (commits : List Database) (old new : OnLog) → LeavesOpen (IsOneOf (mark_of old) (m.committed ∷ commits)) (desk_chip old) (desk_chip new)
    → LeavesOpen (IsMoment (mark_of old) m.committed commits) (desk_chip old) (desk_chip new)
of-command m commits old new moments = throughout-weaker (desk_chip old) (desk_chip new) _ _ moments (λ g left is. (is.0, is.1, inl is.2))

-- whoever makes the writes has the database of before, or one that is committed meanwhile
pub keeps-cuts : {octets : ℕ} (m : Machine) (commits : List Database) (old begun new : OnLog) → IsDeskAt old m → IsBegun octets old begun → LeavesOpen (IsMoment (mark_of begun) m.committed commits) (desk_chip begun) (desk_chip new)
    → KeepsCuts (m.committed ∷ commits) (image_of old.bench) new.bench
keeps-cuts m commits old begun new at begins moments =
    let mark = length (text_of begun.bench) in
    let later = moment-later mark m.committed commits in
    record {
      all = all-begun (OfMoment (suc mark) m.committed commits) later (image_of old.bench) begun.bench new.bench begins.bench.image begins.bench.none moments;
      cuts = λ left cut. elim (cut-begun (OfMoment (suc mark) m.committed commits) later (image_of old.bench) begun.bench new.bench begins.bench.image begins.bench.none moments left cut) [
        | inl was ↦ inl (subst (λ (image : List ℕ). Opens image m.committed) (sym was) (Opens-at old.card (chip_of old.bench) m at.ready at.at (image_of old.bench) refl))
        | inr moment ↦ moment-opens (suc mark) m.committed commits moment.0 left moment.1
      ];
    }

-- the image that all the writes make opens to the database of the machine that the card is at
pub logs-to : (dbs : List Database) (image : List ℕ) (new : OnLog) (next : Machine) → KeepsCuts dbs image new.bench → IsDeskAt new next → Opens (applied (writes_of new.bench) image) next.committed
logs-to dbs image new next kept there =
    subst (λ (image : List ℕ). Opens image next.committed) (sym kept.all) (Opens-at new.card (chip_of new.bench) next there.ready there.at (image_of new.bench) refl)

-- opening keeps the store: whoever makes its writes has it at each moment
abbrev OfStore : ℕ → List ℕ → ℕ → List ℕ → Type 0
OfStore mark image g left = (g ≡ mark) × (store_of left ≡ store_of image)

kept-moments : (image : List ℕ) (begun new : LineBench) → image_of begun ≡ image → Keeps store_of (chip_of begun) (chip_of new) → Throughout (chip_of begun) (chip_of new) (OfStore (suc (length (text_of begun))) image)
kept-moments image begun new same keeps = record {
  later = keeps.later;
  only = λ t g left since there. elim (keeps.only t g left since there) [
    | inl was ↦ inl was
    | inr now ↦ inr (now.0, now.3 ∙ ap store_of (sym (same_Some (image_of begun) now.1 now.2) ∙ same))
  ];
  stays = keeps.stays;
  now = λ left told. (let was = keeps.image left told in (ap (λ still. still.mark) keeps.still, was.2 ∙ ap store_of (sym (same_Some (image_of begun) was.0 was.1) ∙ same)));
}

opens-kept : (image left : List ℕ) (db : Database) → store_of left ≡ store_of image → Opens image db → Opens left db
opens-kept image left db same opens = record { store = opens.store; stored = same ∙ opens.stored; limit = opens.limit; holds = opens.holds; valid = opens.valid }

pub opening-cuts : (image : List ℕ) (begun new : LineBench) (db : Database) → image_of begun ≡ image → (writes_of begun ≡ []) × (text_of begun ≡ []) → Keeps store_of (chip_of begun) (chip_of new) → Opens image db → OpensByCuts db image new
opening-cuts image begun new db same none keeps opens =
    let mark = suc (length (text_of begun)) in
    let moments = kept-moments image begun new same keeps in
    let later = λ (g : ℕ) (left : List ℕ) (is : OfStore mark image g left). (let late : 1 ≤ g = omega (arith, is.0) in late) in
    record {
      all = all-begun (OfStore mark image) later image begun new same none moments;
      cuts = λ left cut. elim (cut-begun (OfStore mark image) later image begun new same none moments left cut) [
        | inl was ↦ subst (λ (image : List ℕ). Opens image db) (sym was) opens
        | inr kept ↦ opens-kept image left db kept.1.1 opens
      ];
    }

-- what is so of a card is so of that which was put into a box, if it was
pub boxed-so : {A : Type 0} (boxed : Result (Box HeldCard A) ℕ) (held made : HeldCard) (P : HeldCard → Type 0) → held ≡ made → IfOk boxed (λ b. b.value ≡ held) → P made → IfOk boxed (λ b. P b.value)
boxed-so (Ok b) held made P same is so = subst P (sym (is ∙ same)) so
boxed-so (Err e) held made P same is so = tt

-- and where it wasn't, there was no memory
pub unboxed : {A : Type 0} (boxed : Result (Box HeldCard A) ℕ) → OnErr boxed (IsErrOf boxed NO_MEMORY) → OnErr boxed (IsErrOf boxed NOT_A_CARD ⊎ IsErrOf boxed NO_MEMORY)
unboxed (Ok b) is = tt
unboxed (Err e) is = inr is
