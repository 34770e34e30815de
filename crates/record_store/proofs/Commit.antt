-- A commit: entries make the working directory of the committed one.
use Rattle.std.proofs.Common.{◌≡◌, ◌⊎◌, inl, inr, ℕ, ◌+◌, ◌*◌, ◌≤◌, ◌==◌, if◌then◌else◌, true, false, Bool, List, [], ◌∷◌, length, Option, Some, None, IsSome, IfSome, sym, refl, ap, ◌∙◌, arith, subst}
use Rattle.std.specs.List.{list_all}
use Rattle.eeprom.specs.Chip.{Chip, Becomes, LeavesOf}
use Rattle.eeprom.specs.StoreOf.{front_size, Slots, slots_at, is_entry, is_gate_open, directory, written_directory, with_entries, store_of}
use Rattle.eeprom.specs.declared.entry.Entry.{Entry}
use Rattle.eeprom.proofs.SameFrom.{slots-from}
use Rattle.eeprom.proofs.Regions.{same-magic, same-cells, same-header, same-limit}
use Rattle.cell_store.specs.Marks.{StaysMarked}
use Rattle.journal.specs.Journal.{IsBetweenDirectories, TakesEntries}
use Rattle.record_store.specs.Held.{Held, StandsFor, AreKept, firsts, contents, stored, tags_of}
use Rattle.record_store.specs.Slots.{AreFirsts, changed}
use Rattle.record_store.specs.Sound.{AreChains, IsSound}
use Rattle.record_store.specs.Tags.{AreTags, SideTags}
use Rattle.record_store.specs.Transaction.{IsCommitted, Commits}
use Rattle.record_store.specs.declared.side.Side.TheVariants.{Committed, Working}
use Rattle.record_store.proofs.FirstOctets.{both-sides}
use Rattle.record_store.proofs.Replaying.{rest-front, store-alike}
use Rattle.record_store.proofs.SameSlots.{links-beside}
use Rattle.record_store.proofs.Sides.{after_commit}
use Rattle.record_store.proofs.SlotTags.{tags-same}

-- the first cells of chains are cells, or none
chains-firsts : (links firsts : List ℕ) (chains : List (List ℕ)) (n : ℕ) → length links ≡ 2 * n → AreChains links firsts chains → AreFirsts n firsts
chains-firsts links [] [] n size are = tt
chains-firsts links [] (chain ∷ chains) n size are = absurd are
chains-firsts links (first ∷ firsts) [] n size are = absurd are
chains-firsts links (first ∷ firsts) ([] ∷ chains) n size are = (inr are.0, chains-firsts links firsts chains n size are.2)
chains-firsts links (first ∷ firsts) ((cell ∷ chain) ∷ chains) n size are = (inl (omega (arith, size, are.0.1)), chains-firsts links firsts chains n size are.2)

-- what a commit of a store writes down
pub record Ready (held : Held) (entries : List Entry) : Type 0 where
  pub sound : IsSound held
  pub begun : held.begun ≡ true
  pub entries_are : with_entries entries held.committed ≡ held.working
  pub range : list_all (is_entry held.chains.cells) entries ≡ true
  pub count : length entries ≡ changed held.committed held.working

working-firsts : (held : Held) → held.begun ≡ true → firsts held Working ≡ held.working
working-firsts held begun = rw begun refl

working-tags : (held : Held) → held.begun ≡ true → tags_of held Working ≡ held.tags.working
working-tags held begun = rw begun refl

pub ready-from : (view held : Held) (committed working : List ℕ) (entries : List Entry) → view ≡ held → IsSound view → held.begun ≡ true → committed ≡ view.committed → working ≡ view.working → with_entries entries committed ≡ working
    → (AreFirsts (length working) working → list_all (is_entry (length working)) entries ≡ true) → length entries ≡ changed committed working → Ready held entries
ready-from view held committed working entries same sound begun first second is range count =
    subst (λ (held : Held). held.begun ≡ true → Ready held entries) same (λ begun.
    let size : length working ≡ view.chains.cells = ap (length {A = ℕ}) second ∙ sound.working_count in
    let are : AreFirsts view.chains.cells view.working = subst (AreFirsts view.chains.cells) (working-firsts view begun)
    (chains-firsts view.chains.links (firsts view Working) sound.sides.working view.chains.cells sound.range.links_count sound.sides.working_has.are) in
    record {
      sound = sound;
      begun = begun;
      entries_are = rw (first, second) at is;
      range = rw size at (range (rw (size, second) are));
      count = rw (first, second) at count;
    }) begun

-- there are at most as many entries as slots
changed-most : (committed working : List ℕ) → changed committed working ≤ length committed
changed-most [] working = omega arith
changed-most (first ∷ committed) [] = omega arith
changed-most (first ∷ committed) (next ∷ working) = one (next == first) (changed-most committed working)
  where
    one : (same : Bool) → changed committed working ≤ length committed → (if same then 0 else 1) + changed committed working ≤ length (first ∷ committed)
    one true most = omega (arith, most)
    one false most = omega (arith, most)

pub changed-few : (held : Held) (entries : List Entry) → Ready held entries → length entries ≤ held.chains.cells
changed-few held entries ready = omega (arith, ready.count, changed-most held.committed held.working, ready.sound.committed_count)

-- at each moment the store is the committed one, or the working one
between : (held : Held) (entries : List Entry) (was left : List ℕ) → Ready held entries → StandsFor held was → IsBetweenDirectories held.chains.cells entries was left → (store_of left ≡ stored held Committed was) ⊎ (store_of left ≡ stored held Working was)
between held entries was left ready stands b =
    let n = held.chains.cells in
    let begins = stands.begins in
    elim b.one [
      | inl same ↦ inl (store-alike n held.row_limit was left (Some held.committed) ready.sound.range.many begins.front begins.header begins.cells begins.rows b.rest
          (same ∙ ap (λ (firsts : List ℕ). Some firsts) begins.directory))
      | inr other ↦ inr (store-alike n held.row_limit was left (Some (firsts held Working)) ready.sound.range.many begins.front begins.header begins.cells begins.rows b.rest
          (other ∙ ap (λ (firsts : List ℕ). Some firsts) (ap (with_entries entries) begins.directory ∙ (ready.entries_are ∙ sym (working-firsts held ready.begun)))))
    ]

told-image : (P : List ℕ → Type 0) (o : Option (List ℕ)) (image : List ℕ) → o ≡ Some image → IfSome o P → P image
told-image P o image told holds = subst (λ (o : Option (List ℕ)). IfSome o P) told holds

pub commits-from : (held : Held) (entries : List Entry) (old new : Chip) → Ready held entries → IfSome old.image (StandsFor held) → new.still ≡ old.still → LeavesOf (IsBetweenDirectories held.chains.cells entries) old new → Commits held old new
commits-from held entries old new ready stands still leaves = record {
  still = still;
  moments = record {
    later = leaves.later;
    only = λ t g left since there. elim (leaves.only t g left since there) [
      | inl before ↦ inl before
      | inr at ↦ inr (at.0, at.1, at.2, one left at.1 at.2 at.3)
    ];
    stays = leaves.stays;
    now = λ image told. (let at = leaves.now image told in (at.0, at.1, at.2, one image at.1 at.2 at.3));
  };
}
  where
    one : (left was : List ℕ) → old.image ≡ Some was → IsBetweenDirectories held.chains.cells entries was left → (store_of left ≡ stored held Committed was) ⊎ (store_of left ≡ stored held Working was)
    one left was told b = between held entries was left ready (told-image (StandsFor held) old.image was told stands) b

-- once it is done the working store is that of the image
committed-image : (held : Held) (entries : List Entry) (used : List Bool) (was now : List ℕ) → Ready held entries → StaysMarked used held.chains.used → StandsFor held was → TakesEntries held.chains.cells entries was now → IsCommitted held (after_commit held used) was now
committed-image held entries used was now ready fewer stands t =
    let n = held.chains.cells in
    let begins = stands.begins in
    let front = rest-front n was now t.rest in
    let working = working-firsts held ready.begun in
    let written : written_directory now n ≡ held.working = t.written ∙ (ap (with_entries entries) begins.directory ∙ ready.entries_are) in
    let in_force : directory now n ≡ Some (firsts held Working) = rw (t.closed, written, working) refl in
    let alike : slots_at now n held.working ≡ contents held Working was = slots-from (front_size n) n now was held.working (omega arith) t.rest.cells ∙ ap (slots_at was n) (sym working) in
    let octets : AreKept held.first_octets held.working (slots_at now n held.working) =
    both-sides held.first_octets (firsts held Working) held.working (contents held Working was) (slots_at now n held.working) (sym working) alike stands.working_octets in
    let tags : AreTags held.tags.working (slots_at now n held.working) =
    tags-same held.tags.working (contents held Working was) (slots_at now n held.working) alike (subst (λ (tags : SideTags). AreTags tags (contents held Working was)) (working-tags held ready.begun) stands.working_tags) in
    let there : IsSome (slots_at now n held.working) = subst (λ (o : Option Slots). IsSome o) (sym alike) stands.working in
    record {
      store = store-alike n held.row_limit was now (Some (firsts held Working)) ready.sound.range.many begins.front begins.header begins.cells begins.rows t.rest in_force;
      stands = record {
        begins = record {
          front = same-magic now was front ∙ begins.front;
          header = same-header now was front ∙ begins.header;
          cells = same-cells now was front ∙ begins.cells;
          rows = same-limit now was front ∙ begins.rows;
          closed = t.closed;
          directory = written;
        };
        links = record { each = λ cell is. stands.links.each cell (fewer cell is) ∙ sym (links-beside now was n cell t.rest.cells) };
        committed = there;
        working = there;
        committed_octets = octets;
        working_octets = octets;
        committed_tags = tags;
        working_tags = tags;
      };
    }

pub commit-done : (held new : Held) (entries : List Entry) (used : List Bool) (old now : Option (List ℕ)) → Ready held entries → StaysMarked used held.chains.used → new ≡ after_commit held used → IfSome old (StandsFor held)
    → Becomes (TakesEntries held.chains.cells entries) old now → Becomes (IsCommitted held new) old now
commit-done held new entries used old now ready fewer is stands takes = λ after told.
    let from = takes after told in
    (from.0, from.1, subst (λ (new : Held). IsCommitted held new from.0 after) (sym is) (committed-image held entries used from.0 after ready fewer (told-image (StandsFor held) old from.0 from.1 stands) from.2))

-- the gate of the image is closed
pub gate-closed : (held : Held) (image : Option (List ℕ)) → IfSome image (StandsFor held) → IfSome image (λ image. is_gate_open image ≡ false)
gate-closed held None stands = tt
gate-closed held (Some image) stands = stands.begins.closed
