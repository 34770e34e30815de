-- After octets it is told from them, and from the word of their answer, which channel has the open transaction.
use Rattle.std.proofs.Common.{◌≡◌, ℕ, ◌%◌, ◌==◌, ◌&&◌, Bool, true, false, List, [], ◌∷◌, Option, Some, None, if◌then◌else◌, refl, sym, ◌∙◌, ap, subst, inl, inr}
use Rattle.std.proofs.lemmas.Bool.{and_parts, eqb-true, false≢true}
use Rattle.scql_base.specs.declared.words.StatusWord.{StatusWord}
use Rattle.scql_base.specs.declared.operation.Command.{Command}
use Rattle.scql_base.specs.declared.operation.Line.{Line}
use Rattle.scql_base.specs.declared.operation.Operation.{Operation}
use Rattle.scql_base.specs.declared.operation.Operation.TheVariants.{Begin, Commit, Rollback}
use Rattle.scql_base.specs.declared.operation.OperationKind.{OperationKind}
use Rattle.scql_base.specs.declared.operation.OperationKind.TheVariants as kind
use Rattle.scql_model.specs.Form.{Form, refused, refused_on, part_on, a_command, form_of}
use Rattle.scql_model.specs.Machine.{Machine, Chain, open_channels}
use Rattle.scql_model.specs.Operations.{operations, comes_in_parts, line_of, kind_of}
use Rattle.scql_model.specs.Sessions.{changing_session, command_chain, without_chain}
use Rattle.scql_model.specs.Step.{Answer, stepped, step}
use Rattle.scql_model.proofs.LongerLists.{find-all, find-passes}
use Rattle.scql_model.proofs.RefusalWords.{RefusedSo, Refuses, not_done-refusal, refused-form_of}
use Rattle.planner.specs.Held.{transaction_channel, held_by, is_begin, is_ending, held_by_octets, held_after_octets}
use Rattle.planner.specs.Words.{is_done}
use Rattle.planner.proofs.KindsRead.{command-read, part-read}
use Rattle.planner.proofs.TransactionKnown.{transacts, kept-stepped, held_by-same, Turns, outcome_of, turns-so}

-- which operations these are, by their kinds
abbrev begins : OperationKind → Bool
begins kind.Begin = true
begins asked = false

abbrev ends : OperationKind → Bool
ends kind.Commit = true
ends kind.Rollback = true
ends asked = false

abbrev same_bool : Bool → Bool → Bool
same_bool true other = other
same_bool false true = false
same_bool false false = true

same_bool-is : (a b : Bool) → same_bool a b ≡ true → a ≡ b
same_bool-is true b is = sym is
same_bool-is false true is = absurd (false≢true is)
same_bool-is false false is = refl

-- a line of the table is of them where its octets are theirs
abbrev is_told : Line → Bool
is_told l = same_bool (begins l.kind) (is_begin l.ins l.p1 l.p2) && same_bool (ends l.kind) (is_ending l.ins l.p1 l.p2)

record IsTold (ins p1 p2 : ℕ) (asked : OperationKind) : Type 0 where
  begin : begins asked ≡ is_begin ins p1 p2
  ending : ends asked ≡ is_ending ins p1 p2

line-told : (ins p1 p2 : ℕ) (l : Line) → line_of operations ins p1 p2 ≡ Some l → IsTold ins p1 p2 l.kind
line-told ins p1 p2 l found =
    let test = find-passes (λ (l : Line). l.ins == ins && l.p1 == p1 && l.p2 == p2) operations l found in
    let told = and_parts _ _ (find-all is_told (λ (l : Line). l.ins == ins && l.p1 == p1 && l.p2 == p2) operations l refl found) in
    let front = and_parts (l.ins == ins && l.p1 == p1) (l.p2 == p2) test in
    let parts = and_parts (l.ins == ins) (l.p1 == p1) front.0 in
    let a : l.ins ≡ ins = eqb-true l.ins ins parts.0 in
    let b : l.p1 ≡ p1 = eqb-true l.p1 p1 parts.1 in
    let c : l.p2 ≡ p2 = eqb-true l.p2 p2 front.1 in
    record {
      begin = same_bool-is (begins l.kind) (is_begin l.ins l.p1 l.p2) told.0 ∙ rw (a, b, c) refl;
      ending = same_bool-is (ends l.kind) (is_ending l.ins l.p1 l.p2) told.1 ∙ rw (a, b, c) refl;
    }

held_by-kind : (operation : Operation) (channel : ℕ) (held : Option ℕ)
    → held_by operation channel held ≡ (if begins (kind_of operation) then Some channel else if ends (kind_of operation) then None else held)
held_by-kind Begin channel held = refl
held_by-kind Commit channel held = refl
held_by-kind Rollback channel held = refl
held_by-kind operation channel held = refl

same-turn : (asked of : OperationKind) (channel class : ℕ) (begin ending : Bool) (held : Option ℕ) → asked ≡ of → channel ≡ class → begins of ≡ begin → ends of ≡ ending
    → (if begins asked then Some channel else if ends asked then None else held) ≡ (if begin then Some class else if ending then None else held)
same-turn asked of channel class begin ending held same on is_begin is_ending = rw (same, on, is_begin, is_ending) refl

-- what comes in parts neither begins a transaction nor ends one
parts-turn : (asked : OperationKind) (channel held : Option ℕ) → comes_in_parts asked ≡ true → (if begins asked then channel else if ends asked then None else held) ≡ held
parts-turn kind.Insert channel held comes = refl
parts-turn kind.Update channel held comes = refl
parts-turn asked channel held comes = absurd (false≢true comes)

command-held : (octets : List ℕ) (channels : List Bool) (chain : ℕ → Option Chain) (limit : ℕ) (c : Command) (held : Option ℕ) → form_of operations octets channels chain limit ≡ a_command c
    → held_by c.operation c.channel held ≡ held_by_octets octets held
unfolding form_of
command-held [] channels chain limit c held is = absurd cc
command-held (cla ∷ []) channels chain limit c held is = absurd cc
command-held (cla ∷ ins ∷ []) channels chain limit c held is = absurd cc
command-held (cla ∷ ins ∷ p1 ∷ []) channels chain limit c held is = absurd cc
command-held (cla ∷ ins ∷ p1 ∷ p2 ∷ after) channels chain limit c held is =
    let read = command-read cla ins p1 p2 after channels chain limit c is in
    let told = line-told ins p1 p2 read.line read.found in
    held_by-kind c.operation c.channel held
    ∙ same-turn (kind_of c.operation) read.line.kind c.channel (cla % 4) (is_begin ins p1 p2) (is_ending ins p1 p2) held read.kind read.channel told.begin told.ending

part-held : (octets : List ℕ) (channels : List Bool) (chain : ℕ → Option Chain) (limit on : ℕ) (of : OperationKind) (part : List ℕ) (held : Option ℕ)
    → form_of operations octets channels chain limit ≡ part_on on of part → held_by_octets octets held ≡ held
unfolding form_of
part-held [] channels chain limit on of part held is = absurd cc
part-held (cla ∷ []) channels chain limit on of part held is = absurd cc
part-held (cla ∷ ins ∷ []) channels chain limit on of part held is = absurd cc
part-held (cla ∷ ins ∷ p1 ∷ []) channels chain limit on of part held is = absurd cc
part-held (cla ∷ ins ∷ p1 ∷ p2 ∷ after) channels chain limit on of part held is =
    let read = part-read cla ins p1 p2 after channels chain limit on of part is in
    let told = line-told ins p1 p2 read.line read.found in
    let stays = parts-turn read.line.kind (Some (cla % 4)) held read.comes in
    rw (told.begin, told.ending) at stays

-- the answer to a command
abbrev Follows : Machine → Command → Answer → Type 0
Follows m c answer = transaction_channel answer.machine ≡ (if is_done answer.reply.word then held_by c.operation c.channel (transaction_channel m) else transaction_channel m)

same_either : (b : Bool) (held : Option ℕ) → held ≡ (if b then held else held)
same_either true held = refl
same_either false held = refl

follows-turn : (m : Machine) (c : Command) (answer : Answer) → Turns m c.channel c.operation answer → Follows m c answer
follows-turn m c answer (inl (word, turned)) =
    turned ∙ ap (λ (w : StatusWord). if is_done w then held_by c.operation c.channel (transaction_channel m) else transaction_channel m) (sym word)
follows-turn m c answer (inr (word, kept)) =
    kept ∙ ap (λ (w : StatusWord). if is_done w then held_by c.operation c.channel (transaction_channel m) else transaction_channel m) (sym word)

follows-command : (m : Machine) (c : Command) → Follows m c (stepped m (a_command c))
follows-command m c = go (transacts (kind_of c.operation)) refl
  where
    ended : Machine
    ended = changing_session without_chain m c.channel

    go : (turns : Bool) → transacts (kind_of c.operation) ≡ turns → Follows m c (stepped m (a_command c))
    go true is = follows-turn ended c (outcome_of ended c) (turns-so ended c.channel c.operation c.le is)
    go false is =
        kept-stepped m (a_command c) (λ d same. let same_command : c ≡ d = cc in subst (λ (d : Command). transacts (kind_of d.operation) ≡ false) same_command is)
        ∙ (same_either (is_done (stepped m (a_command c)).reply.word) (transaction_channel m)
        ∙ ap (λ (held : Option ℕ). if is_done (stepped m (a_command c)).reply.word then held else transaction_channel m) (sym (held_by-same c.operation c.channel (transaction_channel m) is)))

pub octets-tell : (m : Machine) (octets : List ℕ) → transaction_channel (step m octets).machine ≡ held_after_octets octets (step m octets).reply.word (transaction_channel m)
unfolding step
octets-tell m octets = go (form_of operations octets (open_channels m) (command_chain m) m.committed.limit) refl (refused-form_of operations octets (open_channels m) (command_chain m) m.committed.limit)
  where
    held : Option ℕ
    held = transaction_channel m

    refused-so : (word : StatusWord) → Refuses word → held ≡ held_after_octets octets word held
    refused-so word refuses = sym (ap (λ (is_it : Bool). if is_it then held_by_octets octets held else held) (not_done-refusal word refuses))

    go : (form : Form) → form_of operations octets (open_channels m) (command_chain m) m.committed.limit ≡ form → RefusedSo form
        → transaction_channel (stepped m form).machine ≡ held_after_octets octets (stepped m form).reply.word held
    go (refused word) is refuses = refused-so word refuses
    go (refused_on channel word) is refuses = refused-so word refuses
    go (part_on channel of part) is refuses = sym (part-held octets (open_channels m) (command_chain m) m.committed.limit channel of part held is)
    go (a_command c) is refuses =
        follows-command m c
        ∙ ap (λ (turned : Option ℕ). if is_done (stepped m (a_command c)).reply.word then turned else held)
        (command-held octets (open_channels m) (command_chain m) m.committed.limit c held is)
