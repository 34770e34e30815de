-- The answer to a command whose operation may come in parts: it is what the last part gives, once those before it came.
use Rattle.std.proofs.Common.{◌≡◌, ℕ, zero, suc, ◌+◌, ◌<◌, nat_le, true, false, List, [], ◌∷◌, ◌++◌, length, Option, Some, None, if◌then◌else◌, refl, sym, ◌∙◌, ap, arith}
use Rattle.std.specs.Prelude.{option_and_then}
use Rattle.scql_base.specs.declared.cursor.Cursor.{Cursor}
use Rattle.scql_base.specs.declared.cursor.PresentedUser.{PresentedUser}
use Rattle.scql_base.specs.declared.operation.Command.{Command}
use Rattle.scql_base.specs.declared.operation.Operation.{Operation}
use Rattle.scql_base.specs.declared.operation.Operation.TheVariants.{Insert}
use Rattle.scql_base.specs.declared.operation.OperationKind.{OperationKind}
use Rattle.scql_base.specs.Row.{row_size}
use Rattle.scql_base.specs.Words.{done, wrong_data}
use Rattle.scql_model.specs.Replies.{said}
use Rattle.scql_model.specs.Machine.{Machine, Session, Chain, session_of, open_channels}
use Rattle.scql_model.specs.Matching.{Values}
use Rattle.scql_model.specs.Sessions.{changing_session, command_chain, without_chain, without_pending, with_part}
use Rattle.scql_model.specs.Operations.{operations, comes_in_parts, kind_of, has_secrets}
use Rattle.scql_model.specs.Form.{Form, a_command, refused_on, parts_of}
use Rattle.scql_model.specs.Spelling.{IsTaken, ReadsAs, field_of, part_count, first_parts, part_at, part_octets}
use Rattle.scql_model.specs.Step.{Answer, answered, carried_out, stepped, step}
use Rattle.scql_model.proofs.PartsAgain.{part-read, last-read, last-refused, first_parts-next, parts_some}
use Rattle.scql_model.proofs.LinesFound.{HasLine-operations}
use Rattle.scql_model.proofs.ChangingSessions.{changing_session-set}
use Rattle.script.specs.Commands.{asking, IsSendable}
use Rattle.planner.specs.Meaning.{answer_to, followed_by, in_turn, parts_from, all_in_turn}
use Rattle.planner.proofs.Asking.{set-there, open-there, in_session}

module _ (m : Machine) (channel : ℕ) (s : Session) (there : session_of m channel ≡ Some s) (user : Option PresentedUser) (cursor : Option Cursor) (operation : Operation)
    (comes : comes_in_parts (kind_of operation) ≡ true) (can : IsSendable (asking channel operation)) where
  -- nothing is pending, and these parts came
  abbrev pub after_parts : Option Chain → Machine
  after_parts chain = in_session m channel (record { user = user; reading = record { cursor = cursor; pending = [] }; chain = chain })

  abbrev command : Command
  command = asking channel operation

  abbrev asked : OperationKind
  asked = kind_of operation

  abbrev field : List ℕ
  field = field_of operation

  now : (chain : Option Chain) → session_of (after_parts chain) channel ≡ Some (record { user = user; reading = record { cursor = cursor; pending = [] }; chain = chain })
  now chain = set-there m.sessions channel s (record { user = user; reading = record { cursor = cursor; pending = [] }; chain = chain }) there

  -- so many parts of the command came
  abbrev pub Came : Option Chain → ℕ → Type 0
  Came chain place = parts_of asked chain ≡ first_parts place field

  came : (chain : Option Chain) (place : ℕ) → Came chain place → parts_of asked (command_chain (after_parts chain) channel) ≡ first_parts place field
  came chain place before = ap (λ (session : Option Session). parts_of asked (option_and_then (λ (x : Session). x.chain) session)) (now chain) ∙ before

  abbrev longer : Option Chain → List ℕ → Option Chain
  longer chain piece = Some (record { operation = asked; parts = parts_of asked chain ++ piece ∷ [] })

  came-longer : (chain : Option Chain) (place : ℕ) → Came chain place → Came (longer chain (part_at place field)) (place + 1)
  came-longer chain place before =
      ap (λ may. if may then parts_of asked chain ++ part_at place field ∷ [] else []) comes
      ∙ (ap (λ (parts : List (List ℕ)). parts ++ part_at place field ∷ []) before ∙ sym (first_parts-next place field))

  gone : (chain : Option Chain) → changing_session without_chain (after_parts chain) channel ≡ after_parts None
  gone chain = changing_session-set without_chain m channel (Some (record { user = user; reading = record { cursor = cursor; pending = [] }; chain = chain }))

  read-so : (chain : Option Chain) (place : ℕ) (form : Form) → Came chain place → ReadsAs operations m.committed.limit command (first_parts place field) (part_octets command place) form
      → step (after_parts chain) (part_octets command place) ≡ stepped (after_parts chain) form
  unfolding step
  read-so chain place form before reads =
      let x : Session = record { user = user; reading = record { cursor = cursor; pending = [] }; chain = chain } in
      ap (stepped (after_parts chain)) (reads (open_channels (after_parts chain)) (command_chain (after_parts chain)) (open-there (after_parts chain).sessions channel x (now chain)) (came chain place before))

  part-stepped : (chain : Option Chain) (place : ℕ) → Came chain place → place + 1 < part_count command
      → step (after_parts chain) (part_octets command place) ≡ record { reply = said done; machine = after_parts (longer chain (part_at place field)); commits = [] }
  part-stepped chain place before more =
      let x : Session = record { user = user; reading = record { cursor = cursor; pending = [] }; chain = chain } in
      let add : Session → Session = with_part asked (part_at place field) in
      read-so chain place _ before (part-read operations m.committed.limit command place can.formed can.fitting more (HasLine-operations asked))
      ∙ ap (λ (n : Machine). let a : Answer = record { reply = said done; machine = n; commits = [] } in a)
      (ap (λ (n : Machine). changing_session without_pending n channel) (changing_session-set add m channel (Some x)) ∙ changing_session-set without_pending m channel (Some (add x)))

  -- what the last part gives, whichever parts came before it
  abbrev pub LastGives : Answer → Type 0
  LastGives answer = (chain : Option Chain) (place : ℕ) → Came chain place → place + 1 ≡ part_count command → step (after_parts chain) (part_octets command place) ≡ answer

  parts-stepped : (answer : Answer) → LastGives answer → (n place : ℕ) (chain : Option Chain) → Came chain place → place + 1 + n ≡ part_count command
      → in_turn (after_parts chain) (part_octets command place) (parts_from (place + 1) n command) ≡ answer
  parts-stepped answer last zero place chain before is = last chain place before (omega (arith, is))
  parts-stepped answer last (suc n) place chain before is =
      ap (λ (first : Answer). followed_by first (in_turn first.machine (part_octets command (place + 1)) (parts_from (place + 1 + 1) n command)))
      (part-stepped chain place before (omega (arith, is)))
      ∙ parts-stepped answer last n (place + 1) (longer chain (part_at place field)) (came-longer chain place before) (omega (arith, is))

  pub answer-parts : (answer : Answer) → LastGives answer → answer_to (after_parts None) command ≡ answer
  unfolding answer_to
  answer-parts answer last = go (part_count command) refl
    where
      go : (count : ℕ) → part_count command ≡ count → all_in_turn (after_parts None) (parts_from 0 count command) ≡ answer
      go zero is = absurd (omega (arith, is, parts_some (length field)))
      go (suc n) is = parts-stepped answer last n 0 None refl (omega (arith, is))

  -- one step, where the whole is taken
  pub answer-in_parts : IsTaken (has_secrets operations) m.committed.limit operation → answer_to (after_parts None) command ≡ stepped (after_parts None) (a_command command)
  answer-in_parts taken =
      answer-parts (stepped (after_parts None) (a_command command)) (λ chain place before is.
      read-so chain place (a_command command) before (last-read operations m.committed.limit command place can.formed can.fitting is (HasLine-operations asked) taken)
      ∙ ap (λ (n : Machine). answered n (carried_out n command)) (gone chain ∙ sym (gone None)))

  -- a row beyond the limit is refused, and its parts are gone
  pub answer-beyond : (table : List ℕ) (row : Values) → operation ≡ Insert table row → nat_le (row_size row) m.committed.limit ≡ false
      → answer_to (after_parts None) command ≡ record { reply = said wrong_data; machine = after_parts None; commits = [] }
  answer-beyond table row inserts long =
      answer-parts (record { reply = said wrong_data; machine = after_parts None; commits = [] }) (λ chain place before is.
      read-so chain place (refused_on channel wrong_data) before
      (last-refused operations m.committed.limit command place table row inserts can.formed can.fitting is (HasLine-operations asked) long)
      ∙ ap (λ (n : Machine). let a : Answer = record { reply = said wrong_data; machine = n; commits = [] } in a) (gone chain))
