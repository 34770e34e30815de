-- A step to octets that are a reading command answers from what is shown.
use Rattle.std.proofs.Common.{◌≡◌, ℕ, zero, suc, true, List, [], ◌∷◌, map, Option, Some, None, is_some, refl, ap, sym, subst}
use Rattle.std.specs.Prelude.{IfSome, slice_get}
use Rattle.std.specs.Option.{option_flatten}
use Rattle.std.proofs.lemmas.Option.{none-some}
use Rattle.scql_base.specs.declared.operation.Command.{Command}
use Rattle.scql_model.specs.Accepting.{channel_named}
use Rattle.scql_model.specs.Answering.{AreCommand}
use Rattle.scql_model.specs.Operations.{operations}
use Rattle.scql_model.specs.Machine.{Machine, Session, session_of, open_channels, base}
use Rattle.scql_model.specs.Sessions.{command_chain}
use Rattle.scql_model.specs.Form.{Form, a_command, form_of}
use Rattle.scql_model.specs.ReadingCommands.{ReadingCommand, reading_command}
use Rattle.scql_model.specs.ReadingLaws.{IsReadable, IsReadingCommand, ReadsWhatIsShown}
use Rattle.scql_model.specs.Step.{Answer, stepped, step}
use Rattle.scql_model.specs.ValidMachine.{IsValidMachine}
use Rattle.scql_model.proofs.FormedParts.{read_on, IfSome-read_on, IfSome-read_on-named}
use Rattle.scql_model.proofs.ReadingIsShown.{IsReadable-valid}
use Rattle.scql_model.proofs.ReadingSteps.{stepped-reading, stepped-reply, stepped-shown, stepped-others}
use Rattle.scql_model.proofs.ValidSteps.{valid-base}

-- an open channel has a session
has-session : (sessions : List (Option Session)) (channel : ℕ) → slice_get (map (λ (s : Option Session). is_some s) sessions) channel ≡ Some true
    → (s : Session) × (option_flatten (slice_get sessions channel) ≡ Some s)
has-session [] channel open' = absurd (none-some true open')
has-session (None ∷ sessions) zero open' = absurd cc
has-session (Some s ∷ sessions) zero open' = (s, refl)
has-session (session ∷ sessions) (suc channel) open' = has-session sessions channel open'

-- what a command reads
reads-command : (m : Machine) (c : Command) (s : Session) (reading : ReadingCommand) → reading_command c.operation c.le ≡ Some reading → session_of m c.channel ≡ Some s → IsReadable (base m c.channel)
    → ReadsWhatIsShown m c.channel reading (stepped m (a_command c))
reads-command m c s reading is there readable =
    let same = stepped-reading m c reading is in
    record {
      reply = stepped-reply m c reading is readable;
      after = stepped-shown m c s reading is there readable;
      others = λ other apart. stepped-others m c reading other is apart;
      committed = ap (λ (answer : Answer). answer.machine.committed) same;
      transaction = ap (λ (answer : Answer). answer.machine.transaction) same;
      commits = ap (λ (answer : Answer). answer.commits) same;
    }

-- what octets read
pub reads-step : (m : Machine) (octets : List ℕ) (reading : ReadingCommand) → IsValidMachine m → AreCommand m octets (IsReadingCommand reading)
    → ReadsWhatIsShown m (channel_named octets) reading (step m octets)
unfolding step
reads-step m octets reading valid are =
    let form : Form = form_of operations octets (open_channels m) (command_chain m) m.committed.limit in
    let c : Command = are.command in
    let opened = subst (λ (form : Form). IfSome (read_on form) (λ channel. slice_get (open_channels m) channel ≡ Some true)) are.read
    (IfSome-read_on operations octets (open_channels m) (command_chain m) m.committed.limit) in
    let named = subst (λ (form : Form). IfSome (read_on form) (λ channel. channel ≡ channel_named octets)) are.read
    (IfSome-read_on-named operations octets (open_channels m) (command_chain m) m.committed.limit) in
    let session = has-session m.sessions c.channel opened in
    let readable = IsReadable-valid (base m c.channel) (valid-base m c.channel valid).valid in
    subst (λ (form : Form). ReadsWhatIsShown m (channel_named octets) reading (stepped m form)) (sym are.read)
    (subst (λ (channel : ℕ). ReadsWhatIsShown m channel reading (stepped m (a_command c))) named
    (reads-command m c session.0 reading are.is session.1 readable))
