use Rattle.std.proofs.Common.{ℕ, Option, ap, sym, ◌∙◌}
use Rattle.scql_base.specs.declared.words.StatusWord.{StatusWord}
use Rattle.planner.specs.Held.{held_after_octets, transaction_channel}
use Rattle.planner.proofs.OctetsTell.{octets-tell}
use Rattle.terminal.specs.Holding.{Holding}
use Rattle.terminal.proofs.terminal.Terminal.note.Goals as goal

pub returns-clause-knows : goal.returns-clause-knows
returns-clause-knows c = λ m knows is.
    ap (λ (h : Holding). h.transaction) c.note.ensures
    ∙ (ap (λ (held : Option ℕ). held_after_octets c.args.command.now c.args.word held) (ap (λ (h : Holding). h.transaction) c.self.view_is ∙ knows)
    ∙ (ap (λ (word : StatusWord). held_after_octets c.args.command.now word (transaction_channel m)) is ∙ sym (octets-tell m c.args.command.now)))
