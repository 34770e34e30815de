-- How a line ends: its text, and its moments.
use Rattle.std.proofs.Common.{◌≡◌, ◌⊎◌, ℕ, ◌≤◌, ◌==◌, nat_le, Bool, true, ◌&&◌, List, [], ◌∷◌, ◌++◌, length, map, Option, Some, Result, Ok, append_assoc, refl, sym, ◌∙◌, ap, subst, inl, inr, arith}
use Rattle.std.specs.List.{concat, list_all, AllByRecursion}
use Rattle.std.proofs.lemmas.Bool.{and_parts, le-ltb, cases_Bool, eqb-true, eqb-false}
use Rattle.scql_base.specs.Row.{row_size, is_narrow}
use Rattle.scql_base.proofs.Splitting.{params_of-again}
use Rattle.scql_model.specs.Database.{Database}
use Rattle.scql_model.specs.Machine.{Machine}
use Rattle.scql_model.specs.Lines.{line_effect}
use Rattle.scql_model.specs.Matching.{Values}
use Rattle.scql_model.specs.Records as records
use Rattle.scql_model.specs.Records.{is_row}
use Rattle.scql_model.specs.ReadingCommands.{row_octets}
use Rattle.card_link.specs.Link.{AfterOutput, IsOneOf, HasValidData as IsOverValid}
use Rattle.script.specs.declared.fault.ScriptFault.{ScriptFault}
use Rattle.script.specs.declared.statement.Statement.{Statement}
use Rattle.script.specs.Commands.{CanBeSent}
use Rattle.script.specs.Line.{statement_of}
use Rattle.planner.specs.declared.closing.Closing.{Closing}
use Rattle.planner.specs.Meaning.{Meaning, meaning}
use Rattle.planner.specs.Readings.{IsSelect}
use Rattle.planner.specs.Running.{shown}
use Rattle.planner.specs.Held.{transaction_channel, held_after, held_when}
use Rattle.planner.specs.StatementLines.{TerminalState, read_effect, statement_lines, unread}
use Rattle.planner.specs.Text.{row_text, closing_text, meaning_text}
use Rattle.planner.proofs.GoingOn.{goes-on}
use Rattle.planner.proofs.TransactionKnown.{transaction-told}
use Rattle.terminal.specs.declared.failure.Failure.TheVariants.{Card, Outlet}
use Rattle.terminal.specs.declared.line_end.LineEnd.{LineEnd}
use Rattle.terminal.specs.declared.line_end.LineEnd.TheVariants as ends
use Rattle.terminal.specs.declared.quiet_end.QuietEnd.{QuietEnd}
use Rattle.terminal.specs.declared.refusal.Refusal.{Refusal}
use Rattle.scql_model.specs.Lives.{after_all}
use Rattle.card_asking.proofs.Followed.{none-before}
use Rattle.card_asking.proofs.Moments.{leaves-all, one-last}
use Rattle.card_asking.proofs.Sound.{IsSound, select-or-none, sound}
use Rattle.terminal.specs.Ending.{LineEnds, QuietEnds}
use Rattle.terminal.specs.Going.{printed_row, rows_text, ran_text, IsInRun, IsMute, IsCut, HasRun, FailsSo}
use Rattle.terminal.specs.Holding.{Holding, Knows, Sits, terminal_at, holding_after}
use Rattle.terminal.specs.Line.{IsAnswered, IsCutOff, IsCutShort, EndsSo, EndsBy, ClosesSo, IsMoment, refusal_of, refusal_in, rows_in}
use Rattle.terminal.specs.Failing.{Works}
use Rattle.terminal.specs.Quiet.{closing_in}
use Rattle.terminal.proofs.Went.{prints-both, works-both}
use Rattle.eeprom.specs.Chip.{Chip}
use Rattle.eeprom.specs.Fault.{Rose}
use Rattle.eeprom.specs.Output.{Prints}

-- The text of rows.
row-again : (values : Values) → is_row values ≡ true → printed_row (row_octets values) ≡ row_text values
row-again values is =
    let parts = and_parts (records.is_count_of_columns (length values) && list_all is_narrow values) (nat_le (row_size values) 1020) is in
    let fronts = and_parts (records.is_count_of_columns (length values)) (list_all is_narrow values) parts.0 in
    let counts = and_parts (nat_le 1 (length values)) (nat_le (length values) 15) fronts.0 in
    rw (params_of-again values, counts.1, fronts.1, parts.1) refl

rows-again : (rows : List Values) → AllByRecursion (λ (values : Values). is_row values ≡ true) rows → rows_text (map row_octets rows) ≡ concat (map row_text rows)
rows-again [] are = refl
rows-again (values ∷ rows) are = ap (λ front. front ++ rows_text (map row_octets rows)) (row-again values are.0) ∙ ap (λ rest. row_text values ++ rest) (rows-again rows are.1)

text-again : (x : Meaning) → IsSound x → meaning_text x ≡ ran_text (shown x)
text-again x is = ap (λ front. front ++ closing_text x.closing) (sym (rows-again x.rows is.formed))

-- some first octets of rows are those of some first rows
record Splits (rows : List Values) (first : List (List ℕ)) : Type 0 where
  front : List Values
  rest : List Values
  split : rows ≡ front ++ rest
  same : first ≡ map row_octets front

splits : (rows : List Values) (first rest : List (List ℕ)) → map row_octets rows ≡ first ++ rest → Splits rows first
splits rows [] rest is = record { front = []; rest = rows; split = refl; same = refl }
splits [] (x ∷ first) rest is = absurd cc
splits (values ∷ rows) (x ∷ first) rest is =
    let s = splits rows first rest (let tails : map row_octets rows ≡ first ++ rest = cc in tails) in
    let head : x ≡ row_octets values = cc in
    record { front = values ∷ s.front; rest = s.rest; split = ap (λ back. values ∷ back) s.split; same = ap (λ y. y ∷ first) head ∙ ap (λ back. row_octets values ∷ back) s.same }

front-all : (front rest : List Values) → AllByRecursion (λ (values : Values). is_row values ≡ true) (front ++ rest) → AllByRecursion (λ (values : Values). is_row values ≡ true) front
front-all [] rest all = tt
front-all (x ∷ front) rest all = (all.0, front-all front rest all.1)

cut-off : {L : Type 0} (given : L → Option (List ℕ)) (x : Meaning) (old new : L) → IsSound x → IsMute given (shown x) old new → IsCutOff given x.rows old new
cut-off given x old new is mute =
    let s = splits x.rows mute.first mute.rest mute.split in
    record {
      first = s.front;
      rest = s.rest;
      split = s.split;
      printed =
          subst (λ (text : List ℕ). Prints text (given old) (given new))
          (ap rows_text s.same ∙ rows-again s.front (front-all s.front s.rest (subst (AllByRecursion (λ (values : Values). is_row values ≡ true)) s.split is.formed))) mute.printed;
    }

cut-short : {L : Type 0} (is_at : L → Machine → Type 0) (given : L → Option (List ℕ)) (m : Machine) (channel : ℕ) (s : Statement) (holding : Holding) (old new : L) → IsSound (meaning m channel s)
    → Knows holding.transaction m → IsCut is_at given m (IsSelect s) (shown (meaning m channel s)) old new → IsCutShort is_at given m (read_effect (terminal_at m channel) (Ok s)) holding old new
cut-short is_at given m channel s holding old new is knows cut =
    let x : Meaning = meaning m channel s in
    record {
      said = cut.said;
      rest = cut.rest;
      start = text-again x is ∙ cut.start;
      printed = cut.printed;
      machine = cut.machine;
      at = cut.at;
      committed = cut.committed.3 ∙ go is.either;
      knows = knows ∙ sym (kept (select-or-none m channel s));
    }
  where
    go : ((meaning m channel s).commits ≡ []) ⊎ ((meaning m channel s).rows ≡ []) → after_all m.committed cut.committed.0 ≡ after_all m.committed (meaning m channel s).commits
    go (inl none) = ap (after_all m.committed) (none-before cut.committed.0 cut.committed.1 (sym cut.committed.2 ∙ none)) ∙ ap (after_all m.committed) (sym none)
    go (inr none) = absurd (cut.in_row (ap (map row_octets) none))

    kept : IsSelect s ⊎ ((meaning m channel s).rows ≡ []) → transaction_channel cut.machine ≡ transaction_channel m
    kept (inl select) = cut.kept select
    kept (inr none) = absurd (cut.in_row (ap (map row_octets) none))

pub failure-ends : {L : Type 0} (is_at : L → Machine → Type 0) (given : L → Option (List ℕ)) (m : Machine) (channel : ℕ) (s : Statement) (holding : Holding) (old new : L) → IsOverValid m → CanBeSent channel s
    → Knows holding.transaction m
    → (FailsSo is_at given m (IsSelect s) (shown (meaning m channel s)) Card old new → IsCutOff given (meaning m channel s).rows old new)
    × (FailsSo is_at given m (IsSelect s) (shown (meaning m channel s)) Outlet old new → IsCutShort is_at given m (read_effect (terminal_at m channel) (Ok s)) holding old new)
failure-ends is_at given m channel s holding old new over can knows =
    let is = sound m channel s over can in
    ((λ mute. cut-off given (meaning m channel s) old new is mute), (λ cut. cut-short is_at given m channel s holding old new is knows cut))

-- Moments.
-- from a mark on the database is the last one
pub last-moment : (mark g : ℕ) (db : Database) (commits : List Database) (left : Database) → mark ≤ g → left ≡ after_all db commits → IsMoment mark db commits g left
last-moment mark g db commits left above is =
    elim (cases_Bool (g == mark)) [
      | inl t ↦ inl (one-last mark db commits g left (eqb-true g mark t) is)
      | inr f ↦ inr (let other : g ≡ mark → ⊥ = eqb-false g mark f in (omega (arith, other, above), is))
    ]

run-moment : (mark g : ℕ) (m : Machine) (x : Meaning) (left : Database) → IsSound x → IsInRun mark m (shown x) g left → IsMoment mark m.committed x.commits g left
run-moment mark g m x left is within = go is.either within.among
  where
    go : (x.commits ≡ []) ⊎ (x.rows ≡ []) → IsOneOf g (m.committed ∷ x.commits) g left → IsMoment mark m.committed x.commits g left
    go (inr none) among = inl (subst (λ (n : ℕ). IsOneOf n (m.committed ∷ x.commits) g left) (within.still (ap (map row_octets) none)) among)
    go (inl none) (inl among) = last-moment mark g m.committed x.commits left within.above (among.1 ∙ ap (after_all m.committed) (sym none))
    go (inl none) (inr among) = absurd (subst (λ (commits : List Database). IsOneOf g commits g left) none among)

pub run-moments : (mark g : ℕ) (m : Machine) (channel : ℕ) (s : Statement) (left : Database) → IsOverValid m → CanBeSent channel s → IsInRun mark m (shown (meaning m channel s)) g left
    → IsMoment mark m.committed (meaning m channel s).commits g left
run-moments mark g m channel s left over can within = run-moment mark g m (meaning m channel s) left (sound m channel s over can) within

-- The closing line.
-- What is held after a statement.
knows-after : (m : Machine) (before : Holding) (s : Statement) (closing : Closing) (after : Holding) → CanBeSent before.channel s → Knows before.transaction m
    → after ≡ holding_after s closing before → closing ≡ (meaning m before.channel s).closing → Knows after.transaction (meaning m before.channel s).machine
knows-after m before s closing after can knows holds closes =
    ap (λ (h : Holding). h.transaction) holds
    ∙ (ap (λ (held : Option ℕ). held_when closing (held_after s before.channel held) held) knows
    ∙ (ap (λ (c : Closing). held_when c (held_after s before.channel (transaction_channel m)) (transaction_channel m)) closes ∙ sym (transaction-told m before.channel s can)))

pub sits-after : {L : Type 0} (is_at : L → Machine → Type 0) (m : Machine) (before : Holding) (s : Statement) (closing : Closing) (after : Holding) (new : L) → CanBeSent before.channel s → Knows before.transaction m
    → after ≡ holding_after s closing before → closing ≡ (meaning m before.channel s).closing → is_at new (meaning m before.channel s).machine
    → Sits is_at (read_effect (terminal_at m before.channel) (Ok s)).next after new
sits-after is_at m before s closing after new can knows holds closes at = record {
  at = at;
  channel = ap (λ (h : Holding). h.channel) holds ∙ sym (goes-on m before.channel s);
  knows = knows-after m before s closing after can knows holds closes;
}

pub closes-ends : {L : Type 0} (is_at : L → Machine → Type 0) (given : L → Option (List ℕ)) (is_live : L → Bool) (faults sink_faults mark : L → ℕ) (m : Machine) (before : Holding) (s : Statement) (closing : Closing) (after : Holding) (result : LineEnd) (old mid new : L)
    → IsOverValid m → CanBeSent before.channel s → Knows before.transaction m → after ≡ holding_after s closing before
    → HasRun is_at given mark m (shown (meaning m before.channel s)) closing old mid
    → ClosesSo given is_live faults sink_faults (closing_text closing) (refusal_of closing) result mid new → is_at new (meaning m before.channel s).machine
    → EndsSo is_at given m (read_effect (terminal_at m before.channel) (Ok s)) (rows_in (terminal_at m before.channel) (Ok s)) (refusal_in (terminal_at m before.channel) (Ok s)) after result old new
closes-ends is_at given is_live faults sink_faults mark m before s closing after result old mid new over can knows holds o closes at = go result closes
  where
    whole : (text : List ℕ) → text ≡ closing_text closing → rows_text (shown (meaning m before.channel s)).rows ++ text ≡ meaning_text (meaning m before.channel s)
    whole text is = ap (λ rest. rows_text (shown (meaning m before.channel s)).rows ++ rest) (is ∙ ap closing_text o.closes) ∙ sym (text-again (meaning m before.channel s) (sound m before.channel s over can))

    answered : Prints (closing_text closing) (given mid) (given new) → IsAnswered is_at given (read_effect (terminal_at m before.channel) (Ok s)) after old new
    answered printed = record {
      sits = sits-after is_at m before s closing after new can knows holds o.closes at;
      text = subst (λ (text : List ℕ). Prints text (given old) (given new)) (whole (closing_text closing) refl) (prints-both (rows_text (shown (meaning m before.channel s)).rows) (closing_text closing) (given old) (given mid) (given new) o.printed printed);
    }

    go : (result : LineEnd) → ClosesSo given is_live faults sink_faults (closing_text closing) (refusal_of closing) result mid new
        → EndsSo is_at given m (read_effect (terminal_at m before.channel) (Ok s)) (rows_in (terminal_at m before.channel) (Ok s)) (refusal_in (terminal_at m before.channel) (Ok s)) after result old new
    go ends.Answered c = (answered c.1, ap refusal_of (sym o.closes) ∙ c.0)
    go (ends.Refused why) c = (answered c.1, ap refusal_of (sym o.closes) ∙ c.0)
    go ends.Mute c = absurd c
    go ends.SinkFault c = record {
      said = rows_text (shown (meaning m before.channel s)).rows ++ c.0.said;
      rest = c.0.rest;
      start =
          sym (whole (closing_text closing) refl) ∙ (ap (λ rest. rows_text (shown (meaning m before.channel s)).rows ++ rest) c.0.start
          ∙ sym (append_assoc (rows_text (shown (meaning m before.channel s)).rows) c.0.said c.0.rest));
      printed = prints-both (rows_text (shown (meaning m before.channel s)).rows) c.0.said (given old) (given mid) (given new) o.printed c.0.printed;
      machine = (meaning m before.channel s).machine;
      at = at;
      committed = o.committed;
      knows = knows-after m before s closing after can knows holds o.closes;
    }

pub closes-by : {L : Type 0} (given : L → Option (List ℕ)) (is_live : L → Bool) (faults sink_faults : L → ℕ) (text : List ℕ) (refusal : Option Refusal) (result : LineEnd) (old mid new : L) → Works is_live faults sink_faults old mid
    → ClosesSo given is_live faults sink_faults text refusal result mid new → EndsBy is_live faults sink_faults result old new
closes-by given is_live faults sink_faults text refusal ends.Answered old mid new works c = works-both is_live faults sink_faults old mid new works c.2
closes-by given is_live faults sink_faults text refusal (ends.Refused why) old mid new works c = works-both is_live faults sink_faults old mid new works c.2
closes-by given is_live faults sink_faults text refusal ends.Mute old mid new works c = absurd c
closes-by given is_live faults sink_faults text refusal ends.SinkFault old mid new works c =
    (record { same = c.1.same ∙ works.faults_same; rose = subst (λ n. Rose n (sink_faults new)) works.sink_same c.1.rose; later = subst (λ n. n ≤ sink_faults new) works.sink_same c.1.later }, c.2 ∙ works.live)

-- A line that is no statement.
pub unread-ends : {L : Type 0} (is_at : L → Machine → Type 0) (given : L → Option (List ℕ)) (is_live : L → Bool) (faults sink_faults : L → ℕ) (m : Machine) (holding : Holding) (said text : List ℕ) (why : Refusal) (result : LineEnd) (old new : L)
    → text ≡ said → Knows holding.transaction m → ClosesSo given is_live faults sink_faults text (Some why) result old new → is_at new m → EndsSo is_at given m (unread (terminal_at m holding.channel) said) [] (Some why) holding result old new
unread-ends is_at given is_live faults sink_faults m holding said text why ends.Answered old new is knows c at = absurd cc
unread-ends is_at given is_live faults sink_faults m holding said text why (ends.Refused told) old new is knows c at =
    (record { sits = record { at = at; channel = refl; knows = knows }; text = subst (λ (text : List ℕ). Prints text (given old) (given new)) is c.1 }, c.0)
unread-ends is_at given is_live faults sink_faults m holding said text why ends.Mute old new is knows c at = absurd c
unread-ends is_at given is_live faults sink_faults m holding said text why ends.SinkFault old new is knows c at =
    record { said = c.0.said; rest = c.0.rest; start = sym is ∙ c.0.start; printed = c.0.printed; machine = m; at = at; committed = refl; knows = knows }

-- so it ends, and the database stays until then
pub unread-ended : {L : Type 0} {is_at : L → Machine → Type 0} {given : L → Option (List ℕ)} {is_live : L → Bool} {faults mark : L → ℕ} {chip : L → Chip} (sink_faults : L → ℕ) (m : Machine) (holding : Holding) (said text : List ℕ) (why : Refusal) (result : LineEnd) (old new : L)
    → text ≡ said → Knows holding.transaction m → is_at old m → ClosesSo given is_live faults sink_faults text (Some why) result old new → AfterOutput is_at is_live faults mark chip old new
    → LineEnds is_at given mark chip m (unread (terminal_at m holding.channel) said) [] (Some why) holding result old new
unread-ended {L} {is_at} {given} {is_live} {faults} {mark} {chip} sink_faults m holding said text why result old new is knows at closes gives = record {
  ends = unread-ends is_at given is_live faults sink_faults m holding said text why result old new is knows closes (gives.machine m at);
  moments = leaves-all chip _ _ old new (λ g left holds. last-moment (mark old) g m.committed [] left holds.above holds.same) (gives.moments m at);
}

-- a line that is short enough is taken
pub line-is : (state : TerminalState) (line : List ℕ) → length line ≤ 1000 → line_effect statement_lines state line ≡ read_effect state (statement_of line)
line-is state line short = rw (le-ltb 1000 (length line) short) refl

-- a line that is short enough ends as what it was read as
pub read-ends : {L : Type 0} {is_at : L → Machine → Type 0} {given : L → Option (List ℕ)} {mark : L → ℕ} {chip : L → Chip} {m : Machine} {holding : Holding} {result : LineEnd} {old new : L} (state : TerminalState) (line : List ℕ) (read : Result Statement ScriptFault)
    → length line ≤ 1000 → statement_of line ≡ read → LineEnds is_at given mark chip m (read_effect state read) (rows_in state read) (refusal_in state read) holding result old new
    → LineEnds is_at given mark chip m (line_effect statement_lines state line) (rows_in state (statement_of line)) (refusal_in state (statement_of line)) holding result old new
read-ends state line read short is ends = rw (line-is state line short, is) ends

pub read-ends_quietly : {L : Type 0} {is_at : L → Machine → Type 0} {mark : L → ℕ} {chip : L → Chip} {m : Machine} {holding : Holding} {result : QuietEnd} {old new : L} (state : TerminalState) (line : List ℕ) (read : Result Statement ScriptFault)
    → length line ≤ 1000 → statement_of line ≡ read → QuietEnds is_at mark chip m (read_effect state read) (closing_in state read) holding result old new
    → QuietEnds is_at mark chip m (line_effect statement_lines state line) (closing_in state (statement_of line)) holding result old new
read-ends_quietly state line read short is ends = rw (line-is state line short, is) ends
