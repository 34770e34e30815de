-- A note's text goes out, or its start; a command is answered by the card.
use Rattle.std.proofs.Common.{length, refl, rules, sym, ap, subst}
use Rattle.std.specs.Prelude.{codes, option_map}
use Rattle.card.proofs.Giving.{IsAt-given, IsReady-given}
use Rattle.card.proofs.Leaving.{Opens-at}
use Rattle.card.specs.Card.{IsAt}
use Rattle.scql_model.specs.Lines as model
use Rattle.scql_model.specs.Machine.{Machine, reset}
use Rattle.card_run.specs.Commands.{EndsLine}
use Rattle.card_run.specs.ResponderLaws.{stays-same}
use Rattle.card_run.proofs.Commanding.{note-cut, note-given}
use Rattle.card_run.proofs.Moving.{line-silent}
use Rattle.card_run.proofs.Stopping.{at_outlet}
use Rattle.card_run.proofs.commands.answer_line.Goals as goal

pub returns-in_ok-give-in-TooLong : goal.returns-in_ok-give-in-TooLong
returns-in_ok-give-in-TooLong g c = record {
  ended = (λ m at. record {
    answered = note-given m _ (model.content_of (option_map (λ octets. octets.now) c.args.line)) (codes "line too long\n") c.args.card.now c.args.card.now (g.B.Eeprom.chip c.args.bench.now) (g.B.Eeprom.chip c.give.new.bench) c.requires.ready at c.in-TooLong.ensures.content refl refl (g.met.B.Eeprom.clocked c.args.bench.now) c.give.ensures.gives
        (IsAt-given c.args.card.now (g.B.Eeprom.chip c.args.bench.now) (g.B.Eeprom.chip c.give.new.bench) c.give.ensures.image m at) c.in_ok-give-in-TooLong.ensures.text c.in_ok-give-in-TooLong.ensures.mark;
    failed = tt;
  });
  leaves = (record {
    ready = IsReady-given c.args.card.now (g.B.Eeprom.chip c.args.bench.now) (g.B.Eeprom.chip c.give.new.bench) c.give.ensures.image c.give.ensures.size c.requires.ready;
    causes = search rules;
    memory = search rules;
    rest = record { cells = λ live. refl; behind = c.give.ensures.behind (λ was. c.args.card.now.store.chains.cells) };
  });
}

pub returns-in_err-give-in-TooLong : goal.returns-in_err-give-in-TooLong
returns-in_err-give-in-TooLong g c = record {
  ended = (λ m at. record {
    answered = search rules;
    failed = at_outlet _ c.from_residual.result c.from_residual.ensures.1
        (note-cut m _ (model.content_of (option_map (λ octets. octets.now) c.args.line)) (codes "line too long\n") c.args.card.now (g.B.Eeprom.chip c.args.bench.now) (g.B.Eeprom.chip c.give.new.bench) c.requires.ready at c.in-TooLong.ensures.content refl refl (g.met.B.Eeprom.clocked c.args.bench.now) c.give.ensures.gives c.in_err-give-in-TooLong.ensures.fails c.give.ensures.image c.give.ensures.within);
  });
  leaves = (record {
    ready = search rules;
    causes = search rules;
    memory = search rules;
    rest = record { cells = λ live. refl; behind = c.give.ensures.behind (λ was. c.args.card.now.store.chains.cells) };
  });
}

pub returns-in_ok-give-in-Reset : goal.returns-in_ok-give-in-Reset
returns-in_ok-give-in-Reset g c = record {
  ended = (λ m at. record {
    answered = note-given m _ (model.content_of (option_map (λ octets. octets.now) c.args.line)) (codes "reset\n") c.args.card.now c.reset.new.self (g.B.Eeprom.chip c.args.bench.now) (g.B.Eeprom.chip c.give-in-Reset.new.bench) c.requires.ready at c.in-Reset.ensures.content refl refl (g.met.B.Eeprom.clocked c.args.bench.now) c.give-in-Reset.ensures.gives
        (IsAt-given c.reset.new.self (g.B.Eeprom.chip c.args.bench.now) (g.B.Eeprom.chip c.give-in-Reset.new.bench) c.give-in-Reset.ensures.image (reset m) (c.reset.ensures.at (g.B.Eeprom.chip c.args.bench.now) m at)) c.in_ok-give-in-Reset.ensures.text c.in_ok-give-in-Reset.ensures.mark;
    failed = tt;
  });
  leaves = (record {
    ready = IsReady-given c.reset.new.self (g.B.Eeprom.chip c.args.bench.now) (g.B.Eeprom.chip c.give-in-Reset.new.bench) c.give-in-Reset.ensures.image c.give-in-Reset.ensures.size (c.reset.ensures.ready (g.B.Eeprom.chip c.args.bench.now) c.requires.ready);
    causes = search rules;
    memory = search rules;
    rest = record { cells = λ live. c.reset.ensures.cells; behind = c.give-in-Reset.ensures.behind (λ was. c.args.card.now.store.chains.cells) };
  });
}

pub returns-in_err-give-in-Reset : goal.returns-in_err-give-in-Reset
returns-in_err-give-in-Reset g c = record {
  ended = (λ m at. record {
    answered = search rules;
    failed = at_outlet _ c.from_residual-in_err-give-in-Reset.result c.from_residual-in_err-give-in-Reset.ensures.1
        (note-cut m _ (model.content_of (option_map (λ octets. octets.now) c.args.line)) (codes "reset\n") c.args.card.now (g.B.Eeprom.chip c.args.bench.now) (g.B.Eeprom.chip c.give-in-Reset.new.bench) c.requires.ready at c.in-Reset.ensures.content refl refl (g.met.B.Eeprom.clocked c.args.bench.now) c.give-in-Reset.ensures.gives c.in_err-give-in-Reset.ensures.fails c.give-in-Reset.ensures.image c.give-in-Reset.ensures.within);
  });
  leaves = (record {
    ready = search rules;
    causes = search rules;
    memory = search rules;
    rest = record { cells = λ live. c.reset.ensures.cells; behind = c.give-in-Reset.ensures.behind (λ was. c.args.card.now.store.chains.cells) };
  });
}

pub returns-in_ok-give-in-NotHexadecimal : goal.returns-in_ok-give-in-NotHexadecimal
returns-in_ok-give-in-NotHexadecimal g c = record {
  ended = (λ m at. record {
    answered = note-given m _ (model.content_of (option_map (λ octets. octets.now) c.args.line)) (codes "not hexadecimal\n") c.args.card.now c.args.card.now (g.B.Eeprom.chip c.args.bench.now) (g.B.Eeprom.chip c.give-in-NotHexadecimal.new.bench) c.requires.ready at c.in-NotHexadecimal.ensures.content refl refl (g.met.B.Eeprom.clocked c.args.bench.now) c.give-in-NotHexadecimal.ensures.gives
        (IsAt-given c.args.card.now (g.B.Eeprom.chip c.args.bench.now) (g.B.Eeprom.chip c.give-in-NotHexadecimal.new.bench) c.give-in-NotHexadecimal.ensures.image m at) c.in_ok-give-in-NotHexadecimal.ensures.text c.in_ok-give-in-NotHexadecimal.ensures.mark;
    failed = tt;
  });
  leaves = (record {
    ready = IsReady-given c.args.card.now (g.B.Eeprom.chip c.args.bench.now) (g.B.Eeprom.chip c.give-in-NotHexadecimal.new.bench) c.give-in-NotHexadecimal.ensures.image c.give-in-NotHexadecimal.ensures.size c.requires.ready;
    causes = search rules;
    memory = search rules;
    rest = record { cells = λ live. refl; behind = c.give-in-NotHexadecimal.ensures.behind (λ was. c.args.card.now.store.chains.cells) };
  });
}

pub returns-in_err-give-in-NotHexadecimal : goal.returns-in_err-give-in-NotHexadecimal
returns-in_err-give-in-NotHexadecimal g c = record {
  ended = (λ m at. record {
    answered = search rules;
    failed = at_outlet _ c.from_residual-in_err-give-in-NotHexadecimal.result c.from_residual-in_err-give-in-NotHexadecimal.ensures.1
        (note-cut m _ (model.content_of (option_map (λ octets. octets.now) c.args.line)) (codes "not hexadecimal\n") c.args.card.now (g.B.Eeprom.chip c.args.bench.now) (g.B.Eeprom.chip c.give-in-NotHexadecimal.new.bench) c.requires.ready at c.in-NotHexadecimal.ensures.content refl refl (g.met.B.Eeprom.clocked c.args.bench.now) c.give-in-NotHexadecimal.ensures.gives c.in_err-give-in-NotHexadecimal.ensures.fails c.give-in-NotHexadecimal.ensures.image c.give-in-NotHexadecimal.ensures.within);
  });
  leaves = (record {
    ready = search rules;
    causes = search rules;
    memory = search rules;
    rest = record { cells = λ live. refl; behind = c.give-in-NotHexadecimal.ensures.behind (λ was. c.args.card.now.store.chains.cells) };
  });
}

pub returns-in-Nothing : goal.returns-in-Nothing
returns-in-Nothing g c = record {
  ended = (λ m at. record {
    answered = record {
      at = subst (λ (reading : model.LineContent). IsAt c.args.card.now (g.B.Eeprom.chip c.args.bench.now) (model.content_effect m reading).next) c.in-Nothing.ensures.content at;
      text = search rules;
      moments = λ told.
          line-silent model.command_lines m (model.content_effect m (model.content_of (option_map (λ octets. octets.now) c.args.line))) (g.B.Eeprom.chip c.args.bench.now) (ap (λ (reading : model.LineContent). length (model.content_effect m reading).text) (sym c.in-Nothing.ensures.content))
          (Opens-at c.args.card.now (g.B.Eeprom.chip c.args.bench.now) m c.requires.ready at);
    };
    failed = tt;
  });
  leaves = record { ready = c.requires.ready; causes = search rules; memory = search rules; rest = stays-same c.args.card.now (g.B.Eeprom.chip c.args.bench.now) };
}

pub returns-in-Command : goal.returns-in-Command
returns-in-Command g c = record {
  ended = (λ m at.
      subst (λ (reading : model.LineContent). EndsLine model.command_lines m (model.content_effect m reading) (λ (next : Machine). IsAt c.answer_command.new.card (g.B.Eeprom.chip c.answer_command.new.bench) next) (g.B.Eeprom.chip c.args.bench.now) (g.B.Eeprom.chip c.answer_command.new.bench) c.answer_command.result)
      c.in-Command.ensures.content (c.answer_command.ensures.ended m at));
  leaves = search rules;
}
