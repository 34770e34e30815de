use Rattle.std.proofs.Common.{rules}
use Rattle.card.specs.SlotCard.{InSlot}
use Rattle.card.specs.LiveCardLaws.{lasts-answered}
use Rattle.card.proofs.Asked.{opens-seen}
use Rattle.card.proofs.slot_card.SlotCardCardLink.exchange.Goals as goal

pub returns-clause-step : goal.returns-clause-step
returns-clause-step g c = rw (← c.self.view_is)
    (λ m at replied. let answers = (c.answer.ensures.replied m at.at replied).step in record { reply = answers.reply; at = record { ready = c.answer.ensures.ready replied; at = answers.at } })

pub returns-clause-moments : goal.returns-clause-moments
returns-clause-moments g c = λ m at.
    opens-seen (λ (l : InSlot g.row.B.Denot). l.card) (λ (l : InSlot g.row.B.Denot). g.B.Eeprom.chip l.bench) m c.args.command.now _ c.args.self.now (g.B.Eeprom.chip c.answer.new.bench) c.self.view_is (c.answer.ensures.moments m) at

pub returns-clause-goes_on : goal.returns-clause-goes_on
returns-clause-goes_on g c = rw (← c.self.view_is) (lasts-answered _ _ _ _ (search rules) (search rules) c.answer.ensures.behind)
