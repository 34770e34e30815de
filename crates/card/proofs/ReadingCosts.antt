-- What a reading command reads, from what its parts read.
use Rattle.std.proofs.Common.{◌≡◌, ◌≤◌, ◌==◌, ◌+◌, ◌*◌, ℕ, false, List, [], ◌∷◌, length, take, drop, Option, None, Some, Result, Ok, Err, if◌then◌else◌, refl, sym, ap, subst, ◌∙◌, arith, inl, inr}
use Rattle.std.specs.Prelude.{IfSome, OnOk}
use Rattle.std.specs.Option.{option_map_or}
use Rattle.std.proofs.lemmas.Bool.{cases_Bool, eqb-true}
use Rattle.std.proofs.lemmas.Option.{none-some, same_Some}
use Rattle.std.proofs.lemmas.List.Sums.{sum_by-cons}
use Rattle.std.proofs.lemmas.List.{length-append, take-append-drop}
use Rattle.eeprom.specs.Chip.{Becomes, Chip, RisesAtMost}
use Rattle.eeprom.specs.StoreOf.{cell_size}
use Rattle.eeprom.specs.declared.fault.EepromFault.{EepromFault}
use Rattle.record_store.specs.Held.{Held}
use Rattle.record_store.specs.declared.side.Side.{Side}
use Rattle.record_store.specs.declared.tags.Tag.TheVariants.{Stamp}
use Rattle.scql_base.specs.Words.{done}
use Rattle.scql_base.specs.declared.cursor.Cursor.{Cursor}
use Rattle.scql_base.specs.declared.operation.Command.{Command}
use Rattle.scql_base.specs.declared.operation.Operation.{Operation}
use Rattle.scql_base.specs.declared.operation.Operation.TheVariants as asks
use Rattle.scql_base.specs.declared.records.User.{User}
use Rattle.scql_base.specs.declared.words.Actor.{Actor}
use Rattle.scql_base.specs.declared.words.StatusWord.{StatusWord}
use Rattle.scql_base.proofs.RowOctets.{row_size-spelled}
use Rattle.scql_model.specs.Accepting.{channel_named}
use Rattle.scql_model.specs.Database.{Database}
use Rattle.scql_model.specs.Form.{Form, a_command, form_of}
use Rattle.scql_model.specs.Machine.{Machine, Reading, actor, base, open_channels}
use Rattle.scql_model.specs.Matching.{Values}
use Rattle.scql_model.specs.Moves.{move_of}
use Rattle.scql_model.specs.Operations.{operations, kind_of}
use Rattle.scql_model.specs.Edits.{cells_of_record, of_user}
use Rattle.scql_model.specs.Creating.{actor_stamp}
use Rattle.scql_model.specs.ReadBound.{RisesAtLeast}
use Rattle.scql_model.specs.Rules.{user_stamped}
use Rattle.scql_model.specs.ReadingCommands.{Move, ReadingCommand, get_response, or_stays, reading_command, row_octets}
use Rattle.scql_model.specs.Sessions.{changing_session, command_chain, reading_of, without_chain}
use Rattle.scql_model.proofs.FormedParts.{read_on}
use Rattle.scql_model.proofs.ReadingSteps.{ended-actor, ended-reading}
use Rattle.scql_model.proofs.LongerLists.{find-passes}
use Rattle.catalog_codec.specs.Catalog.{user_kind}
use Rattle.privilege_table.proofs.Seen.{told-held}
use Rattle.record_table.specs.Listed.{slots_of}
use Rattle.record_table.specs.Making.{IsHeld}
use Rattle.cursor.specs.Costs.{RisesBetween, least_read}
use Rattle.cursor.specs.Moved.{refuses}
use Rattle.apdu_chain.proofs.TakenForms.{taken_at}
use Rattle.db_read.specs.Answered.{given}
use Rattle.record_table.specs.Reading.{NeverFalls}
use Rattle.record_table.specs.Tagged.{cells_tagged}
use Rattle.record_table.proofs.TaggedCosts.{user-of_stamp}
use Rattle.db_read.specs.Searched.{cells_selected, octets_for_operation, octets_for_reading, user_cells}
use Rattle.card.specs.ReadCosts.{ReadsAsked, ReadsFor, ReadsOctets, ReadsOn, row_answered, size_given}
use Rattle.card.specs.Reading.{is_reading}
use Rattle.card.proofs.ReadingMoves.{given-word, stays-answered}

pub on-then : {P Q : Type 0} (r : Result StatusWord EepromFault) → (P → Q) → OnOk r P → OnOk r Q
on-then (Ok word) then' holds = then' holds
on-then (Err fault) then' holds = tt

pub rises-more : (few most : ℕ) (a b : Option ℕ) → few ≤ most → Becomes (RisesAtMost few) a b → Becomes (RisesAtMost most) a b
rises-more few most a b le rises = λ after told. (let r = rises after told in (r.0, r.1, omega (arith, le, r.2)))

-- the search of GET RESPONSE for its object, and the grants on it
pub asked-read : (db : Database) (actor : Actor) (c : Cursor) (le : ℕ) (a b : Option ℕ) → Becomes (RisesAtMost (cell_size * cells_selected db actor c.object)) a b
    → Becomes (RisesAtMost (octets_for_operation db actor (Some c) (get_response le))) a b
asked-read db actor c le a b read = λ after told. let r = read after told in (r.0, r.1, omega (arith, r.2))

-- the search for the actor, and then an operation
pub acted-read : (db : Database) (actor : Actor) (reading : Reading) (command : ReadingCommand) (a b c : Option ℕ) → Becomes (RisesBetween 0 (cell_size * user_cells db.users (actor_stamp actor))) a b
    → ReadsOctets (octets_for_operation db actor reading.cursor command) db actor reading command b c → ReadsOctets (octets_for_reading db actor reading.cursor command) db actor reading command a c
acted-read db actor reading command a b c searched reads = record {
  within = λ on after told. (let r = reads.within on after told in let s = searched r.0 r.1 in (s.0, s.1, omega (arith, r.2, s.2.1)));
  row = λ asked on after told. (let r = reads.row asked on after told in let s = searched r.0 r.1 in (s.0, s.1, omega (arith, r.2, s.2.0)));
}

-- the user of a stamp is who acts, and where there is none nothing was read
pub actor-read : (store : Held) (side : Side) (chip : Chip) (db : Database) (stamp : ℕ) (found : Option User) (a b : Option ℕ) → IsHeld store side chip db → found ≡ user_stamped db.users stamp
    → IfSome (slots_of store side chip) (λ slots. Becomes (RisesAtMost (cell_size * cells_tagged user_kind (Some (Stamp stamp)) slots)) a b) → NeverFalls (slots_of store side chip) a b
    → Becomes (RisesBetween 0 (cell_size * user_cells db.users (option_map_or (λ (u : User). u.stamp) found 0))) a b
actor-read store side chip db stamp found a b held is read rises = λ after told.
    let most = told-held store side chip db (λ slots. Becomes (RisesAtMost (cell_size * cells_tagged user_kind (Some (Stamp stamp)) slots)) a b) held read after told in
    let least = told-held store side chip db (λ _. Becomes (RisesAtLeast 0) a b) held rises after told in
    let same : least.0 ≡ most.0 = same_Some least.0 most.0 (sym least.1 ∙ most.1) in
    (most.0, most.1, (omega (arith, least.2, same), omega (arith, most.2, user-of_stamp stamp held.slots db held.holds, own-cells db.users stamp found is)))
  where
    none-there : (users : List User) (stamp : ℕ) → None ≡ user_stamped users stamp → user_cells users stamp ≡ 0
    none-there [] stamp is = refl
    none-there (u ∷ users) stamp is = elim (cases_Bool (u.stamp == stamp)) [
      | inl here ↦ absurd (none-some u (rw here at is))
      | inr other ↦ (let sum = sum_by-cons (λ (x : User). if x.stamp == stamp then cells_of_record (of_user x) else 0) u users in
          let none : (if u.stamp == stamp then cells_of_record (of_user u) else 0) ≡ 0 = rw other refl in
          omega (arith, sum, none, none-there users stamp (rw other at is)))
    ]

    own-cells : (users : List User) (stamp : ℕ) (found : Option User) → found ≡ user_stamped users stamp → user_cells users stamp ≤ user_cells users (option_map_or (λ (u : User). u.stamp) found 0)
    own-cells users stamp None is = omega (arith, none-there users stamp is)
    own-cells users stamp (Some u) is = (let same : u.stamp ≡ stamp = eqb-true u.stamp stamp (find-passes (λ (x : User). x.stamp == stamp) users u (sym is)) in rw same (omega arith))

-- the same for the same actor and what was read before
pub reads-there : (db : Database) (who actor : Actor) (reading before : Reading) (command : ReadingCommand) (a b : Option ℕ) → actor ≡ who → before ≡ reading
    → ReadsOctets (octets_for_reading db who reading.cursor command) db who reading command a b → ReadsOctets (octets_for_reading db actor before.cursor command) db actor before command a b
reads-there db who actor reading before command a b acts reads octets = rw (acts, reads) octets

-- What is given of a row, and what is pending of it.
size_given-le : (body pending : List ℕ) → size_given body pending ≤ length body + length pending
size_given-le [] pending = omega arith
size_given-le (octet ∷ body) pending = omega arith

size-cut : (le : ℕ) (octets : List ℕ) → size_given (take le octets) (drop le octets) ≤ length octets
size-cut le octets =
    let most = size_given-le (take le octets) (drop le octets) in
    let parts = length-append (take le octets) (drop le octets) in
    let whole = ap length (take-append-drop le octets) in
    omega (arith, most, parts, whole)

-- a row that is given was handed out
given-least : (le : ℕ) (word : StatusWord) (cursor : Option Cursor) (values : Values) (old : List ℕ) → row_answered (or_stays (record { cursor = cursor; pending = old }) (given le word cursor values)) ≤ least_read word values
given-least le word cursor values old =
    elim (cases_Bool (word.word == done.word)) [
      | inl t ↦ (let most = size-cut le (row_octets values) in let size = row_size-spelled values in rw t (omega (arith, most, size)))
      | inr f ↦ (let none = ap (λ (r : Result (Move Reading) StatusWord). row_answered (or_stays (record { cursor = cursor; pending = old }) r)) (given-word le word cursor values f)
          ∙ ap row_answered (stays-answered word cursor old (if refuses word then old else []) refl) in
          omega (arith, none))
    ]

-- so what a move answers of it was read
pub row-read : (db : Database) (actor : Actor) (reading : Reading) (command : ReadingCommand) (le : ℕ) (word : StatusWord) (cursor : Option Cursor) (values : Values) (move : Move Reading) (a b : Option ℕ)
    → move_of db actor reading command ≡ move → or_stays (record { cursor = cursor; pending = reading.pending }) (given le word cursor values) ≡ move → Becomes (RisesAtLeast (least_read word values)) a b
    → Becomes (RisesAtLeast (row_answered (move_of db actor reading command))) a b
row-read db actor reading command le word cursor values move a b moves gives read = λ after told.
    let r = read after told in
    let least = given-least le word cursor values reading.pending in
    let same = ap row_answered (moves ∙ sym gives) in
    (r.0, r.1, omega (arith, same, least, r.2))

-- What doesn't read is no reading command.
pub reads-none : (operation : Operation) (le : Option ℕ) (command : ReadingCommand) → is_reading (kind_of operation) ≡ false → reading_command operation le ≡ Some command → ⊥
reads-none (asks.DeclareCursor object columns conditions) le command none is = absurd cc
reads-none operation le command none is = absurd cc

-- What was taken, once octets were read.
module _ (m : Machine) (octets : List ℕ) (a b : Option ℕ) where
  -- what isn't a command reads nothing
  pub reads-untaken : (form : Form) → form_of operations octets (open_channels m) (command_chain m) m.committed.limit ≡ form → ((c : Command) → form ≡ a_command c → ⊥) → ReadsAsked m octets a b
  reads-untaken form is none = λ command are. absurd (none are.command (sym is ∙ are.read))

  -- a command reads what it does where its channel has no parts of one
  pub reads-taken : (form : Form) (c : Command) → form_of operations octets (open_channels m) (command_chain m) m.committed.limit ≡ form → form ≡ a_command c → IfSome (read_on form) (λ channel. channel ≡ channel_named octets)
      → ReadsFor (taken_at m form) c a b → ReadsAsked m octets a b
  reads-taken form c is whole named reads = λ command are.
      let same : a_command c ≡ a_command are.command = sym whole ∙ (sym is ∙ are.read) in
      let one : c ≡ are.command = cc in
      let on : c.channel ≡ channel_named octets = subst (λ (form : Form). IfSome (read_on form) (λ channel. channel ≡ channel_named octets)) whole named in
      let asks_so : reading_command c.operation c.le ≡ Some command = subst (λ (x : Command). reading_command x.operation x.le ≡ Some command) (sym one) are.is in
      let there = subst (λ (form : Form). ReadsFor (taken_at m form) c a b) whole reads in
      subst (λ (channel : ℕ). ReadsOn m channel command a b) on
      (reads-there (base m c.channel) (actor (changing_session without_chain m c.channel) c.channel) (actor m c.channel) (reading_of (changing_session without_chain m c.channel) c.channel) (reading_of m c.channel) command a b
      (sym (ended-actor m c.channel)) (sym (ended-reading m c.channel)) (there command asks_so))
