-- Octets are the same by the sessions as by the chains, and change both alike.
use Rattle.std.proofs.Common.{List, Option, ap, sym, ◌∙◌}
use Rattle.std.specs.Prelude.{min}
use Rattle.scql_base.specs.declared.row.TheConstants.Row.{LARGEST}
use Rattle.scql_model.specs.Form.{form_of}
use Rattle.scql_model.specs.Machine as machine
use Rattle.scql_model.specs.Operations.{operations}
use Rattle.apdu_chain.specs.Chaining.{chains_after, taken_of}
use Rattle.plain_machine.specs.Sessions.{are_open, chain_in, sessions_after, sessions_of}
use Rattle.plain_machine.proofs.TakenSessions.{form-seen, seen-taken}
use Rattle.plain_machine.proofs.sessions.Sessions.take.Goals as goal

pub returns : goal.returns
returns c =
    let seen = c.args.self.now in
    let form = form_of operations c.args.octets.now (are_open seen) (chain_in seen) (min c.args.limit LARGEST) in
    let same = form-seen c.args.octets.now c.self.inside.channels c.self.inside.chains c.open_channels-channels.result (min c.args.limit LARGEST) seen c.self.view_is c.open_channels-channels.ensures in
    record {
      taken = c.take.ensures.taken ∙ ap taken_of same;
      sessions = ap (sessions_of c.self.inside.channels) (c.take.ensures.chains ∙ ap (chains_after c.self.inside.chains) same)
          ∙ (seen-taken c.self.inside.channels c.self.inside.chains form
          ∙ ap (λ (sessions : List (Option machine.Session)). sessions_after sessions form) c.self.view_is);
      whole = λ is. sym same ∙ c.take.ensures.whole is;
      formed = c.take.ensures.formed;
    }
