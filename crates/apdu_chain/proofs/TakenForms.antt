-- What becomes of a machine by what octets are, before a command is carried out.
use Rattle.std.proofs.Common.{◌≡◌, ℕ, ◌%◌, Bool, true, false, List, [], ◌∷◌, ◌++◌, length, Option, Some, None, Result, Ok, Err, ◌≤◌, refl, ap, subst, ◌∙◌, if◌then◌else◌}
use Rattle.std.specs.Prelude.{IfSome, slice_get}
use Rattle.std.proofs.lemmas.List.{length-set}
use Rattle.scql_base.specs.declared.words.StatusWord.{StatusWord}
use Rattle.scql_base.specs.Words.{instruction_not_supported, channel_not_supported}
use Rattle.scql_base.specs.declared.operation.Command.{Command}
use Rattle.scql_base.specs.declared.operation.Line.{Line}
use Rattle.scql_model.specs.Refusals.{◌>>=◌, provided}
use Rattle.scql_model.specs.Machine.{Machine, Chain, open_channels}
use Rattle.scql_model.specs.Sessions.{changing_session, command_chain, without_chain, with_part}
use Rattle.scql_model.specs.Operations.{operations, has_instruction, has_secrets}
use Rattle.scql_model.specs.Form.{Form, refused, refused_on, part_on, a_command, form_of, formed, formed_on, class_of, is_open, channel_asked, line_on, taken_in, is_chained, part_in, command_in, parts_of}
use Rattle.scql_model.specs.Accepting.{channel_named}
use Rattle.scql_model.specs.ValidMachine.{IsValidMachine}
use Rattle.scql_model.specs.Bound.{octets_bound, octets_carried_out, octets_stepped, or_nothing}
use Rattle.scql_model.specs.Step.{Answer, answered, done_with, carried_out, stepped, step}
use Rattle.scql_model.specs.WellFormed.{FitsCard}
use Rattle.scql_model.proofs.FormedCommands.{bound, refused-not, sound-operations}
use Rattle.scql_model.proofs.FormedParts.{IfSome-read_on-named, read_on}
use Rattle.scql_model.proofs.FieldLaws.{AreOctets}
use Rattle.scql_model.proofs.ReadFits.{FitsCard-form_of}
use Rattle.scql_model.proofs.ValidSteps.{valid-changing, valid-ended}
use Rattle.apdu_chain.specs.declared.chains.Taken.TheVariants as taken
use Rattle.apdu_chain.specs.Chaining.{chain_on, chains_after, taken_of}

-- the machine once octets were taken
abbrev pub taken_at : Machine → Form → Machine
taken_at m (refused word) = m
taken_at m (refused_on channel word) = changing_session without_chain m channel
taken_at m (part_on channel kind octets) = changing_session (with_part kind octets) m channel
taken_at m (a_command c) = changing_session without_chain m c.channel

-- what comes of them there
abbrev pub outcome_of : Machine → Form → Result Answer StatusWord
outcome_of m (refused word) = Err word
outcome_of m (refused_on channel word) = Err word
outcome_of m (part_on channel kind octets) = Ok (done_with m channel [])
outcome_of m (a_command c) = carried_out m c

stepped-taken : (m : Machine) (form : Form) → stepped m form ≡ answered (taken_at m form) (outcome_of (taken_at m form) form)
stepped-taken m (refused word) = refl
stepped-taken m form = refl

-- So the step to octets is that to what they are read as, at the machine,
pub step-read : (m : Machine) (octets : List ℕ) (form : Form) → form_of operations octets (open_channels m) (command_chain m) m.committed.limit ≡ form
    → step m octets ≡ answered (taken_at m form) (outcome_of (taken_at m form) form)
unfolding step
step-read m octets form is = ap (stepped m) is ∙ stepped-taken m form

-- how many octets are written for it at most
abbrev pub octets_taken : Machine → Form → ℕ
octets_taken m (refused word) = 0
octets_taken m (refused_on channel word) = 0
octets_taken m (part_on channel kind octets) = 0
octets_taken m (a_command c) = or_nothing (octets_carried_out m c)

octets_stepped-taken : (m : Machine) (form : Form) → octets_stepped m form ≡ octets_taken (taken_at m form) form
octets_stepped-taken m (refused word) = refl
octets_stepped-taken m form = refl

-- and so many octets are written for them at most.
pub bound-read : (m : Machine) (octets : List ℕ) (form : Form) → form_of operations octets (open_channels m) (command_chain m) m.committed.limit ≡ form
    → octets_bound m octets ≡ octets_taken (taken_at m form) form
unfolding octets_bound
bound-read m octets form is = ap (octets_stepped m) is ∙ octets_stepped-taken m form

-- Sessions alone change.
pub taken-committed : (m : Machine) (form : Form) → (taken_at m form).committed ≡ m.committed
taken-committed m (refused word) = refl
taken-committed m form = refl

pub taken-transaction : (m : Machine) (form : Form) → (taken_at m form).transaction ≡ m.transaction
taken-transaction m (refused word) = refl
taken-transaction m form = refl

-- A machine stays valid.
pub valid-taken : (m : Machine) (form : Form) → IsValidMachine m → IsValidMachine (taken_at m form)
valid-taken m (refused word) valid = valid
valid-taken m (refused_on channel word) valid = valid-ended m channel valid
valid-taken m (part_on channel kind octets) valid = valid-changing m channel (with_part kind octets) (λ db s is. is) (λ s is. is) valid
valid-taken m (a_command c) valid = valid-ended m c.channel valid

-- the channel that a command asks for is open
open-asked : (table : List Line) (cla ins : ℕ) (channels : List Bool) (channel : ℕ) → channel_asked table cla ins channels ≡ Ok channel → slice_get channels channel ≡ Some true
open-asked table cla ins channels channel is =
    bound (class_of cla) _ channel is (λ _ _ is.
    bound (provided (has_instruction table ins) instruction_not_supported) _ channel is (λ _ _ is. go (slice_get channels (cla % 4)) refl is))
  where
    go : (told : Option Bool) → slice_get channels (cla % 4) ≡ told → (if is_open told then Ok (cla % 4) else Err channel_not_supported) ≡ Ok channel → slice_get channels channel ≡ Some true
    go None at is = refused-not channel_not_supported channel is
    go (Some false) at is = refused-not channel_not_supported channel is
    go (Some true) at is = let same : cla % 4 ≡ channel = cc in subst (λ (n : ℕ). slice_get channels n ≡ Some true) same at

-- What octets are depends on the chains of open channels alone.
pub form_of-open : (table : List Line) (octets : List ℕ) (channels : List Bool) (chain other : ℕ → Option Chain) (limit : ℕ)
    → ((channel : ℕ) → slice_get channels channel ≡ Some true → chain channel ≡ other channel)
    → form_of table octets channels chain limit ≡ form_of table octets channels other limit
unfolding form_of
form_of-open table [] channels chain other limit same = refl
form_of-open table (cla ∷ []) channels chain other limit same = refl
form_of-open table (cla ∷ ins ∷ []) channels chain other limit same = refl
form_of-open table (cla ∷ ins ∷ p1 ∷ []) channels chain other limit same = refl
form_of-open table (cla ∷ ins ∷ p1 ∷ p2 ∷ after) channels chain other limit same =
    go (channel_asked table cla ins channels) (λ channel is. same channel (open-asked table cla ins channels channel is))
  where
    read : Option Chain → ℕ → Result Form StatusWord
    read chain channel =
        line_on table channel ins p1 p2 >>= λ line. taken_in line.takes (is_chained cla) after >>= λ tail.
        if is_chained cla then part_in channel line.kind (parts_of line.kind chain) tail else command_in (has_secrets table) channel line.kind limit (parts_of line.kind chain) tail

    go : (r : Result ℕ StatusWord) → ((channel : ℕ) → r ≡ Ok channel → chain channel ≡ other channel)
        → formed r (λ channel. read (chain channel) channel) ≡ formed r (λ channel. read (other channel) channel)
    go (Err word) same = refl
    go (Ok channel) same = ap (λ (chain : Option Chain). formed_on channel (read chain channel)) (same channel refl)

-- What comes of what was taken.
pub taken-refused : (m : Machine) (form : Form) (word : StatusWord) → taken.Refused word ≡ taken_of form → outcome_of m form ≡ Err word
taken-refused m (refused other) word is = cc
taken-refused m (refused_on channel other) word is = cc
taken-refused m (part_on channel kind octets) word is = absurd cc
taken-refused m (a_command c) word is = absurd cc

pub taken-kept : (m : Machine) (octets : List ℕ) (form : Form) → IfSome (read_on form) (λ channel. channel ≡ channel_named octets) → taken.Kept ≡ taken_of form
    → outcome_of m form ≡ Ok (done_with m (channel_named octets) [])
taken-kept m octets (refused word) named is = absurd cc
taken-kept m octets (refused_on channel word) named is = absurd cc
taken-kept m octets (part_on channel kind part) named is = ap (λ (channel : ℕ). Ok (done_with m channel [])) named
taken-kept m octets (a_command c) named is = absurd cc

-- what was refused or kept as a part is no command
pub refused-untaken : (form : Form) (word : StatusWord) → taken.Refused word ≡ taken_of form → (c : Command) → form ≡ a_command c → ⊥
refused-untaken form word is c same = let wrong : taken.Refused word ≡ taken.Whole = is ∙ ap taken_of same in absurd cc

pub kept-untaken : (form : Form) → taken.Kept ≡ taken_of form → (c : Command) → form ≡ a_command c → ⊥
kept-untaken form is c same = let wrong : taken.Kept ≡ taken.Whole = is ∙ ap taken_of same in absurd cc

-- what octets are that are read on a channel names it
pub named-taken : (octets : List ℕ) (channels : List Bool) (chain : ℕ → Option Chain) (limit : ℕ) → IfSome (read_on (form_of operations octets channels chain limit)) (λ channel. channel ≡ channel_named octets)
named-taken octets channels chain limit = IfSome-read_on-named operations octets channels chain limit

pub outcome-whole : (m : Machine) (form : Form) (c : Command) → form ≡ a_command c → outcome_of m form ≡ carried_out m c
outcome-whole m form c is = ap (outcome_of m) is

pub octets-whole : (m : Machine) (form : Form) (c : Command) → form ≡ a_command c → octets_taken m form ≡ or_nothing (octets_carried_out m c)
octets-whole m form c is = ap (octets_taken m) is

-- a command that was taken whole fits the card
pub fits-taken : (octets : List ℕ) (channels : List Bool) (chain : ℕ → Option Chain) (limit : ℕ) (c : Command) → AreOctets octets → limit ≤ 1020 → form_of operations octets channels chain limit ≡ a_command c
    → FitsCard limit c.operation
fits-taken octets channels chain limit c are most is =
    FitsCard-form_of operations octets channels chain limit c sound-operations are most is

-- there are parts of as many channels as before
pub length-after : (chains : List (Option Chain)) (form : Form) → length (chains_after chains form) ≡ length chains
length-after chains (refused word) = refl
length-after chains (refused_on channel word) = length-set chains channel None
length-after chains (part_on channel kind part) = length-set chains channel (Some (record { operation = kind; parts = parts_of kind (chain_on chains channel) ++ part ∷ [] }))
length-after chains (a_command c) = length-set chains c.channel None
