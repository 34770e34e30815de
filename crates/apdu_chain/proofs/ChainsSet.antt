-- The chains of the channels, one of which is ended, and then maybe another begun.
use Rattle.std.proofs.Common.{◌≡◌, ◌<◌, ◌==◌, ℕ, zero, suc, Bool, true, false, List, [], ◌∷◌, ◌++◌, length, Option, Some, None, Result, Ok, Err, refl, ap, sym, ◌∙◌, arith, if◌then◌else◌}
use Rattle.std.specs.Prelude.{slice_set, unwrap_or}
use Rattle.std.specs.List.{concat}
use Rattle.scql_base.specs.declared.words.StatusWord.{StatusWord}
use Rattle.scql_base.specs.declared.operation.Command.{Command}
use Rattle.scql_base.specs.declared.operation.Operation.{Operation}
use Rattle.scql_base.specs.Words.{wrong_data}
use Rattle.scql_base.specs.declared.operation.OperationKind.{OperationKind}
use Rattle.scql_base.specs.declared.operation.OperationKind.TheVariants.{Insert, Update}
use Rattle.scql_model.specs.Machine.{Chain}
use Rattle.scql_model.specs.Operations.{operations, has_secrets, goes_on, comes_in_parts}
use Rattle.scql_model.specs.Parameters.{operation_in}
use Rattle.scql_model.specs.Form.{Form, refused_on, part_on, a_command, formed_on, parts_of}
use Rattle.scql_model.specs.Refusals.{◌>>=◌, or_refused}
use Rattle.apdu.specs.declared.reading.Apdu.{Apdu}
use Rattle.apdu.specs.Reading.{command_of}
use Rattle.apdu_chain.specs.Chaining.{chain_on, chains_after, going_on, on_channel}

pub slice_set-set : {A : Type 0} (xs : List A) (i : ℕ) (x y : A) → slice_set (slice_set xs i x) i y ≡ slice_set xs i y
slice_set-set [] i x y = refl
slice_set-set (a ∷ xs) zero x y = refl
slice_set-set (a ∷ xs) (suc i) x y = ap (λ rest. a ∷ rest) (slice_set-set xs i x y)

-- what goes on with a chain is of its operation
pub goes_on-is : (kind other : OperationKind) → goes_on kind other ≡ true → other ≡ kind
goes_on-is Insert Insert is = refl
goes_on-is Update Update is = refl
goes_on-is kind other is = absurd cc

-- the chain that a part is added to
pub unwrap_or-going_on : (kind : OperationKind) (chain : Option Chain) → unwrap_or (going_on kind chain) (record { operation = kind; parts = [] }) ≡ record { operation = kind; parts = parts_of kind chain }
unwrap_or-going_on kind None = refl
unwrap_or-going_on kind (Some chain) = go (goes_on kind chain.operation) refl
  where
    go : (on : Bool) → goes_on kind chain.operation ≡ on
        → unwrap_or (if on then Some chain else None) (record { operation = kind; parts = [] }) ≡ record { operation = kind; parts = if on then chain.parts else [] }
    go true at = ap (λ (operation : OperationKind). let c : Chain = record { operation = operation; parts = chain.parts } in c) (goes_on-is kind chain.operation at)
    go false at = refl

-- What an APDU that is a part makes of the chains.
on_channel-part : (chains : List (Option Chain)) (a : Apdu) (limit : ℕ) → a.is_part ≡ true → comes_in_parts a.kind ≡ true → length (parts_of a.kind (chain_on chains a.channel)) < 4
    → on_channel chains a limit ≡ part_on a.channel a.kind a.body.now
on_channel-part chains a limit part comes room =
    let test : (length (parts_of a.kind (chain_on chains a.channel)) == 4) ≡ false = grind (arith, room) in
    rw (part, comes, test) refl

-- What makes a command whole.
abbrev finished : ℕ → Result Command StatusWord → Form
finished channel (Err word) = refused_on channel word
finished channel (Ok c) = a_command c

on_channel-whole : (chains : List (Option Chain)) (a : Apdu) (limit : ℕ) → a.is_part ≡ false
    → on_channel chains a limit ≡ finished a.channel (command_of a limit (concat (parts_of a.kind (chain_on chains a.channel)) ++ a.body.now))
on_channel-whole chains a limit whole = rw whole (go (operation_in (has_secrets operations) a.kind limit (concat (parts_of a.kind (chain_on chains a.channel)) ++ a.body.now)))
  where
    command : Operation → Command
    command operation = record { channel = a.channel; operation = operation; le = a.le }

    go : (o : Option Operation) → formed_on a.channel (or_refused o wrong_data >>= λ operation. Ok (a_command (command operation))) ≡ finished a.channel (or_refused o wrong_data >>= λ operation. Ok (command operation))
    go None = refl
    go (Some operation) = refl

channel-command_of : (a : Apdu) (limit : ℕ) (body : List ℕ) (c : Command) → Ok c ≡ command_of a limit body → c.channel ≡ a.channel
channel-command_of a limit body c is = go (operation_in (has_secrets operations) a.kind limit body) is
  where
    command : Operation → Command
    command operation = record { channel = a.channel; operation = operation; le = a.le }

    go : (o : Option Operation) → Ok c ≡ (or_refused o wrong_data >>= λ operation. Ok (command operation)) → c.channel ≡ a.channel
    go None is = absurd cc
    go (Some operation) is = let same : c ≡ command operation = cc in ap (λ (c : Command). c.channel) same

pub on_channel-command : (chains : List (Option Chain)) (a : Apdu) (limit : ℕ) (c : Command) → a.is_part ≡ false
    → Ok c ≡ command_of a limit (concat (parts_of a.kind (chain_on chains a.channel)) ++ a.body.now) → (on_channel chains a limit ≡ a_command c) × (c.channel ≡ a.channel)
on_channel-command chains a limit c whole is = (on_channel-whole chains a limit whole ∙ ap (finished a.channel) (sym is), channel-command_of a limit _ c is)

pub on_channel-refused : (chains : List (Option Chain)) (a : Apdu) (limit : ℕ) (word : StatusWord) → a.is_part ≡ false
    → Err word ≡ command_of a limit (concat (parts_of a.kind (chain_on chains a.channel)) ++ a.body.now) → on_channel chains a limit ≡ refused_on a.channel word
on_channel-refused chains a limit word whole is = on_channel-whole chains a limit whole ∙ ap (finished a.channel) (sym is)

-- A part is kept.
pub chains_after-kept : (chains ended : List (Option Chain)) (a : Apdu) (limit channel : ℕ) (chain more : Chain) → a.is_part ≡ true → comes_in_parts a.kind ≡ true
    → ended ≡ slice_set chains a.channel None → chain ≡ record { operation = a.kind; parts = parts_of a.kind (chain_on chains a.channel) } → length chain.parts < 4
    → more ≡ record chain { parts = chain.parts ++ a.body.now ∷ [] } → channel ≡ a.channel
    → slice_set ended channel (Some more) ≡ chains_after chains (on_channel chains a limit)
chains_after-kept chains ended a limit channel chain more part comes is_ended is_chain room is_more same =
    let room' : length (parts_of a.kind (chain_on chains a.channel)) < 4 = rw is_chain at room in
    rw (on_channel-part chains a limit part comes room', is_more, is_chain, same, is_ended) (slice_set-set chains a.channel None _)
