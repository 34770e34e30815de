-- How an operation on tables ends that does nothing but read before its part, or reads alone; and how the tables stand then.
use Rattle.std.proofs.Common.{◌≡◌, ℕ, List, Result, Ok, Err, refl, sym, ap, subst, ◌∙◌}
use Rattle.std.specs.Prelude.{IsErrOf, is_some}
use Rattle.std.specs.Result.{IsErrAnd}
use Rattle.eeprom.specs.Chip.{Chip}
use Rattle.eeprom.specs.Fault.{CountsFaults}
use Rattle.eeprom.proofs.Leaves.{Keeps-none}
use Rattle.record_store.specs.Held.{Held}
use Rattle.record_store.specs.declared.side.Side.TheVariants.{Committed, Working}
use Rattle.scql_base.specs.declared.words.StatusWord.{StatusWord}
use Rattle.scql_model.specs.Database.{Database}
use Rattle.scql_model.specs.Edits.{Edit, with_edits}
use Rattle.scql_model.specs.Refusals.{◌>>=◌}
use Rattle.record_table.specs.Asking.{IsStopOf}
use Rattle.record_table.specs.Listed.{slots_of}
use Rattle.record_table.specs.Making.{Ends, GoesOn, IsHeld, KeepsRows, Makes, is_stop_fault}
use Rattle.record_table.proofs.Ending.{Ends-stopped, no_fault-on}
use Rattle.record_table.specs.declared.stop.Stop.{Stop}
use Rattle.record_table.specs.declared.stop.Stop.TheVariants.{Refused, Fault}
use Rattle.row_index.specs.Index.{Index, Indexes}
use Rattle.row_index.proofs.IndexLaws.{Indexes-kept}
use Rattle.row_table.specs.Tables.{Ended, EndedBy, Stand}
use Rattle.row_table.specs.declared.tables.Tables.{Tables}

-- A part ended so, after nothing but reads: and so did the operation, of whose edits the part's are.
pub EndedBy-after : {S T : Type 0} {chip : S → Chip} {faults : S → ℕ} {part_may may : Database → Type 0} {part_edits edits : Database → Result (List Edit) StatusWord → Type 0} {before mid after : S} {old new : Tables} {result : Result T Stop}
    → EndedBy chip faults part_may part_edits mid after old new result → chip mid ≡ chip before → faults mid ≡ faults before
    → ((db : Database) → IsHeld old.store Working (chip before) db → may db → part_may db × ((outcome : Result (List Edit) StatusWord) → part_edits db outcome → edits db outcome)) → EndedBy chip faults may edits before after old new result
EndedBy-after {S} {T} {chip} {faults} {part_may} {may} {part_edits} {edits} {before} {mid} {after} {old} {new} {result} ended same counts of = record {
  ends = λ db held may. (let part = ended.ends db (subst (λ c. IsHeld old.store Working c db) (sym same) held) (of db held may).0 in
      (part.0, (of db held may).1 part.0 part.1, subst (λ c. Ends db part.0 result old.store new.store c (chip after)) same part.2));
  goes_on = λ fine. subst (λ c. GoesOn old.store new.store c (chip after)) same (ended.goes_on fine);
  index = λ db held may. ended.index db (subst (λ c. IsHeld old.store Working c db) (sym same) held) (of db held may).0;
  index_cells = ended.index_cells;
  index_committed = ended.index_committed;
  index_begun = ended.index_begun;
  refused = λ word is. ended.refused word is ∙ ap (slots_of old.store Working) same;
  committed = λ fine. ended.committed fine ∙ ap (slots_of old.store Committed) same;
  moments = rw same at ended.moments;
  behind = rw same at ended.behind;
  cause = subst (λ n. CountsFaults is_stop_fault n (faults after) result) counts ended.cause;
}

-- so where the edits are one outcome
pub Ended-after : {S T : Type 0} {chip : S → Chip} {faults : S → ℕ} {part_may may : Database → Type 0} {part_edits edits : Database → Result (List Edit) StatusWord} {before mid after : S} {old new : Tables} {result : Result T Stop}
    → Ended chip faults part_may part_edits mid after old new result → chip mid ≡ chip before → faults mid ≡ faults before
    → ((db : Database) → IsHeld old.store Working (chip before) db → may db → part_may db × (edits db ≡ part_edits db)) → Ended chip faults may edits before after old new result
Ended-after {S} {T} {chip} {faults} {part_may} {may} {part_edits} {edits} {before} {mid} {after} {old} {new} {result} ended same counts of =
    EndedBy-after ended same counts (λ db held may. ((of db held may).0, λ outcome is. is ∙ sym (of db held may).1))

-- Nothing but reads came, and the operation is refused, or the EEPROM failed.
pub EndedBy-before : {S T : Type 0} {chip : S → Chip} {faults : S → ℕ} {may : Database → Type 0} {edits : Database → Result (List Edit) StatusWord → Type 0} {before after : S} {old : Tables} {result : Result T Stop}
    → Stand old (chip before) → chip after ≡ chip before → CountsFaults is_stop_fault (faults before) (faults after) result
    → ((db : Database) → IsHeld old.store Working (chip before) db → may db → (outcome : Result (List Edit) StatusWord) × edits db outcome × Ends db outcome result old.store old.store (chip before) (chip after))
    → EndedBy chip faults may edits before after old old result
EndedBy-before {S} {T} {chip} {faults} {may} {edits} {before} {after} {old} {result} stand same counts ends = record {
  ends = ends;
  goes_on = λ fine. record { begun = refl; cells = refl; rows = refl; told = ap (λ (c : Chip). is_some c.image) same; over = rw (sym same) at stand.over };
  index = λ db held may fine. rw (sym same) at stand.index;
  index_cells = refl;
  index_committed = refl;
  index_begun = refl;
  refused = λ word is. ap (slots_of old.store Working) same;
  committed = λ fine. ap (slots_of old.store Committed) same;
  moments = Keeps-none _ (chip before) (chip after) same;
  behind = Keeps-none _ (chip before) (chip after) same;
  cause = counts;
}

pub Ended-before : {S T : Type 0} {chip : S → Chip} {faults : S → ℕ} {may : Database → Type 0} {edits : Database → Result (List Edit) StatusWord} {before after : S} {old : Tables} {result : Result T Stop}
    → Stand old (chip before) → chip after ≡ chip before → CountsFaults is_stop_fault (faults before) (faults after) result
    → ((db : Database) → IsHeld old.store Working (chip before) db → may db → Ends db (edits db) result old.store old.store (chip before) (chip after)) → Ended chip faults may edits before after old old result
Ended-before {S} {T} {chip} {faults} {may} {edits} {before} {after} {old} {result} stand same counts ends = EndedBy-before stand same counts (λ db held asked. (edits db, refl, ends db held asked))

-- so where a question stopped it that is answered by the outcome's refusal
pub Ended-stopped : {S T : Type 0} {chip : S → Chip} {faults : S → ℕ} {may : Database → Type 0} {edits : Database → Result (List Edit) StatusWord} {before after : S} {old : Tables} {result : Result T Stop}
    → (stop : Stop) → Stand old (chip before) → IsErrAnd result (λ given. given ≡ stop) → chip after ≡ chip before → CountsFaults is_stop_fault (faults before) (faults after) result
    → ((db : Database) → IsHeld old.store Working (chip before) db → may db → IsStopOf (edits db) stop) → Ended chip faults may edits before after old old result
Ended-stopped {edits = edits} {result = Ok x} stop stand gives same counts stops = absurd gives
Ended-stopped {edits = edits} {result = Err (Refused word)} stop stand gives same counts stops = Ended-before stand same counts (λ db held asked.
    let is : edits db ≡ Err word = subst (λ (stop : Stop). IsStopOf (edits db) stop) (sym gives) (stops db held asked) in
    (ap (λ outcome. outcome >>= with_edits db) is, refl, same))
Ended-stopped {edits = edits} {result = Err Fault} stop stand gives same counts stops = Ended-before stand same counts (λ db held asked. tt)

-- An operation ends as its part that stopped it,
pub EndedBy-stopped : {S T U : Type 0} {chip : S → Chip} {faults : S → ℕ} {may : Database → Type 0} {edits : Database → Result (List Edit) StatusWord → Type 0} {before after : S} {old new : Tables} {stop : Stop} {result : Result T Stop}
    → IsErrAnd result (λ given. given ≡ stop) → EndedBy chip faults may edits before after old new (let part : Result U Stop = Err stop in part) → EndedBy chip faults may edits before after old new result
EndedBy-stopped {S} {T} {U} {chip} {faults} {may} {edits} {before} {after} {old} {new} {stop} {result = Ok x} gives ended = absurd gives
EndedBy-stopped {S} {T} {U} {chip} {faults} {may} {edits} {before} {after} {old} {new} {stop} {result = Err given} gives ended = record {
  ends = λ db held asked. (let part = ended.ends db held asked in (part.0, part.1, Ends-stopped U {U = T} db part.0 (Err given) stop old.store new.store (chip before) (chip after) gives part.2));
  goes_on = λ fine. ended.goes_on (no_fault-on {T = T} {U = U} (Err given) (Err stop) stop gives refl fine);
  index = λ db held asked fine. ended.index db held asked (no_fault-on {T = T} {U = U} (Err given) (Err stop) stop gives refl fine);
  index_cells = ended.index_cells;
  index_committed = ended.index_committed;
  index_begun = ended.index_begun;
  refused = λ word is. ended.refused word (subst (λ (stop : Stop). IsErrOf {T = U} (Err stop) (Refused word)) gives (let same : given ≡ Refused word = cc in ap Err same));
  committed = λ fine. ended.committed (no_fault-on {T = T} {U = U} (Err given) (Err stop) stop gives refl fine);
  moments = ended.moments;
  behind = ended.behind;
  cause = subst (λ (stop : Stop). CountsFaults {T = T} is_stop_fault (faults before) (faults after) (Err stop)) (sym gives) ended.cause;
}

-- and as its part that is done, whatever it answers.
pub EndedBy-done : {S T U : Type 0} {chip : S → Chip} {faults : S → ℕ} {may : Database → Type 0} {edits : Database → Result (List Edit) StatusWord → Type 0} {before after : S} {old new : Tables} {x : U} {y : T}
    → EndedBy chip faults may edits before after old new (let part : Result U Stop = Ok x in part) → EndedBy chip faults may edits before after old new (let result : Result T Stop = Ok y in result)
EndedBy-done {S} {T} {U} {chip} {faults} {may} {edits} {before} {after} {old} {new} {x} {y} ended = record {
  ends = ended.ends;
  goes_on = λ fine. ended.goes_on (λ wrong. cc);
  index = λ db held asked fine. ended.index db held asked (λ wrong. cc);
  index_cells = ended.index_cells;
  index_committed = ended.index_committed;
  index_begun = ended.index_begun;
  refused = λ word is. absurd cc;
  committed = λ fine. ended.committed (λ wrong. cc);
  moments = ended.moments;
  behind = ended.behind;
  cause = ended.cause;
}

-- An operation that leaves every row in its slot leaves the index standing.
pub Indexes-ended : {T : Type 0} (index : Index) (db : Database) (outcome : Result (List Edit) StatusWord) (result : Result T Stop) (old new : Held) (before after : Chip) → Indexes index old before
    → Ends db outcome result old new before after → (¬ IsErrOf result Fault → KeepsRows (slots_of old Working before) (slots_of new Working after)) → (¬ IsErrOf result Fault → GoesOn old new before after)
    → ¬ IsErrOf result Fault → Indexes index new after
Indexes-ended index db outcome (Ok x) old new before after is ends rows goes_on fine =
    let held = ends.2.held in
    Indexes-kept index old new before after is (goes_on fine).cells ends.2.committed (rw held.told (held.holds.cells ∙ held.cells)) (rows fine)
Indexes-ended index db outcome (Err (Refused word)) old new before after is ends rows goes_on fine =
    subst (λ chip. Indexes index new chip) (sym ends.2) (subst (λ store. Indexes index store before) (sym ends.1) is)
Indexes-ended index db outcome (Err Fault) old new before after is ends rows goes_on fine = absurd (fine refl)

-- how the index follows what was made in memory alone: it stands for the store, and is what it was but for its working rows
pub record Follows (may : Database → Type 0) (old new : Tables) (chip : Chip) : Type 0 where
  pub index : (db : Database) → IsHeld old.store Working chip db → may db → Indexes new.index new.store chip
  pub cells : new.index.cells ≡ old.index.cells
  pub committed : new.index.committed ≡ old.index.committed
  pub begun : new.index.begun ≡ old.index.begun

-- Nothing but reads came, and its edits were made in memory alone, which the index followed.
pub EndedBy-in_memory : {S T : Type 0} {chip : S → Chip} {faults : S → ℕ} {may : Database → Type 0} {edits : Database → Result (List Edit) StatusWord → Type 0} {before after : S} {old new : Tables} {x : T}
    → chip after ≡ chip before → CountsFaults {T = T} is_stop_fault (faults before) (faults after) (Ok x)
    → ((db : Database) → IsHeld old.store Working (chip before) db → may db → (list : List Edit) × edits db (Ok list) × Makes db list old.store new.store (chip before) (chip before))
    → GoesOn old.store new.store (chip before) (chip before) → slots_of new.store Committed (chip before) ≡ slots_of old.store Committed (chip before) → Follows may old new (chip before)
    → EndedBy chip faults may edits before after old new (let result : Result T Stop = Ok x in result)
EndedBy-in_memory {S} {T} {chip} {faults} {may} {edits} {before} {after} {old} {new} {x} same counts makes goes_on committed follows = record {
  ends = λ db held asked. (let made = makes db held asked in (Ok made.0, made.1, (made.0, refl, rw same made.2)));
  goes_on = λ fine. rw same goes_on;
  index = λ db held asked fine. rw same (follows.index db held asked);
  index_cells = follows.cells;
  index_committed = follows.committed;
  index_begun = follows.begun;
  refused = λ word is. absurd cc;
  committed = λ fine. rw same committed;
  moments = Keeps-none _ (chip before) (chip after) same;
  behind = Keeps-none _ (chip before) (chip after) same;
  cause = counts;
}

-- The index stands as it did where every row stays in its slot.
pub Follows-rows : {may : Database → Type 0} {old new : Tables} {chip : Chip} → Stand old chip → new.index ≡ old.index → ((db : Database) → IsHeld old.store Working chip db → may db → (edits : List Edit) × Makes db edits old.store new.store chip chip)
    → new.store.chains.cells ≡ old.store.chains.cells → KeepsRows (slots_of old.store Working chip) (slots_of new.store Working chip) → slots_of new.store Committed chip ≡ slots_of old.store Committed chip → Follows may old new chip
Follows-rows {may} {old} {new} {chip} stand index makes cells rows committed = record {
  index = λ db held asked. rw index (Indexes-kept old.index old.store new.store chip chip stand.index cells committed (let held = (makes db held asked).1.held in rw held.told (held.holds.cells ∙ held.cells)) rows);
  cells = ap (λ (index : Index). index.cells) index;
  committed = ap (λ (index : Index). index.committed) index;
  begun = ap (λ (index : Index). index.begun) index;
}

-- so of an operation that leaves every row in its slot
pub Ended-in_memory : {S T : Type 0} {chip : S → Chip} {faults : S → ℕ} {may : Database → Type 0} {edits : Database → Result (List Edit) StatusWord} {before after : S} {old new : Tables} {x : T}
    → Stand old (chip before) → chip after ≡ chip before → CountsFaults {T = T} is_stop_fault (faults before) (faults after) (Ok x) → new.index ≡ old.index
    → ((db : Database) → IsHeld old.store Working (chip before) db → may db → (list : List Edit) × (edits db ≡ Ok list) × Makes db list old.store new.store (chip before) (chip before))
    → GoesOn old.store new.store (chip before) (chip before) → KeepsRows (slots_of old.store Working (chip before)) (slots_of new.store Working (chip before))
    → slots_of new.store Committed (chip before) ≡ slots_of old.store Committed (chip before) → Ended chip faults may edits before after old new (let result : Result T Stop = Ok x in result)
Ended-in_memory {S} {T} {chip} {faults} {may} {edits} {before} {after} {old} {new} {x} stand same counts index makes goes_on rows committed =
    EndedBy-in_memory same counts (λ db held asked. (let made = makes db held asked in (made.0, sym made.1, made.2))) goes_on committed
    (Follows-rows stand index (λ db held asked. (let made = makes db held asked in (made.0, made.2))) goes_on.cells rows committed)
