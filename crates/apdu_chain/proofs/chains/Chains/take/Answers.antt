-- What is taken whole is what is read, which is well-formed.
use Rattle.std.proofs.Common.{◌≡◌, min, refl, subst, sym, ap, ◌∙◌, arith}
use Rattle.std.specs.Prelude.{IfOk}
use Rattle.scql_base.specs.declared.row.TheConstants.Row.{LARGEST}
use Rattle.scql_model.specs.Operations.{operations}
use Rattle.scql_model.specs.Form.{Form, a_command, as_command, form_of, refused_on}
use Rattle.scql_model.specs.WellFormed.{IsWellFormed}
use Rattle.scql_model.proofs.FormedCommands.{IsWellFormed-as_command, sound-operations}
use Rattle.apdu_chain.specs.Chaining.{chain_on, taken_of}
use Rattle.apdu_chain.proofs.ChainsSet.{on_channel-command, on_channel-refused}
use Rattle.apdu_chain.proofs.chains.Chains.take.Goals as goal

pub returns-in-Ok-read : goal.returns-in-Ok-read
returns-in-Ok-read c =
    let limit = min c.args.limit LARGEST in
    let chains = c.args.self.now in
    let form : Form = form_of operations c.args.octets.now c.args.channels (chain_on chains) limit in
    let apdu = c.in-Ok.apdu in
    let command = on_channel-command chains apdu limit c.read-in-Ok-2.new.command c.if-this.false c.in-Ok-read.ensures.command in
    let is : form ≡ a_command c.read-in-Ok-2.new.command = c.in-Ok.ensures.form (chain_on chains) limit ∙ command.0 in
    record {
      taken = ap taken_of (sym is);
      chains = rw (is, command.1) c.in-Ok-read.ensures.ended;
      whole = λ _. is;
      formed = λ _. subst (λ (form : Form). IfOk (as_command form) IsWellFormed) is
          (IsWellFormed-as_command operations c.args.octets.now c.args.channels (chain_on chains) limit (as_command form) sound-operations (λ i. omega (arith, c.type_inv.octets i)) (omega arith) refl);
    }

pub returns-in-Err : goal.returns-in-Err
returns-in-Err c =
    let limit = min c.args.limit LARGEST in
    let chains = c.args.self.now in
    let form : Form = form_of operations c.args.octets.now c.args.channels (chain_on chains) limit in
    let refused : form ≡ refused_on c.in-Ok.apdu.channel c.in-Err.word =
    c.in-Ok.ensures.form (chain_on chains) limit ∙ on_channel-refused chains c.in-Ok.apdu limit c.in-Err.word c.if-this.false c.in-Err.ensures.command in
    record {
      taken = ap taken_of (sym refused);
      chains = rw refused c.in-Err.ensures.ended;
      whole = λ is. absurd cc;
      formed = λ is. absurd cc;
    }
