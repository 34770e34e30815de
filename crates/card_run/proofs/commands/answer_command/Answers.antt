-- A card that replied was carried out to the end; a mute one leaves what it had committed by then.
use Rattle.std.proofs.Common.{◌≡◌, false, ℕ, List, [], ◌+◌, ◌≤◌, length, Option, Some, refl, rules, ap, subst, ◌∙◌, arith, inl}
use Rattle.eeprom.specs.Output.{Prints}
use Rattle.eeprom.specs.Chip.{Chip, Still, Throughout}
use Rattle.eeprom.proofs.Moments.{gives-throughout}
use Rattle.scql_model.specs.Machine.{Machine}
use Rattle.scql_model.specs.Opens.{Opens}
use Rattle.card.specs.Card.{IsAt}
use Rattle.card.specs.GivenMoments.{behind-keeps}
use Rattle.line_run.specs.Moments.{IsInLine, IsInAnswered}
use Rattle.scql_model.specs.Step.{step}
use Rattle.card.proofs.Leaving.{Opens-at}
use Rattle.card_run.proofs.Moving.{line-moments, answered-moments}
use Rattle.scql_model.specs.Lines.{command, command_lines, content_effect, mute_text, reply_text}
use Rattle.line_run.specs.declared.line_stop.LineStop.TheVariants.{Eeprom, Outlet, Both}
use Rattle.line_run.specs.CutOff.{FailsIn, IsCutShort}
use Rattle.card_run.specs.Behind.{StaysBehind}
use Rattle.card.specs.GivenMoments.{behind-on}
use Rattle.card_run.proofs.Commanding.{mute_text-reply}
use Rattle.card_run.proofs.Stopping.{at_outlet, fails_giving, fails_mute, fails_both}
use Rattle.card_run.proofs.commands.answer_command.Goals.{After-give, After-give-in-Mute}
use Rattle.card.proofs.Giving.{IsAt-given, IsReady-given}
use Rattle.card_run.proofs.commands.answer_command.Goals as goal

-- what a card says that replies, and to what its image opens
replied_text : (g : _) (c : After-give g) (m : Machine) → IsAt c.args.card.now (g.B.Eeprom.chip c.args.bench.now) m → c.text.result.now ≡ (content_effect m (command c.args.octets.now)).text
replied_text g c m at =
    c.text.ensures ∙ ap reply_text (c.in-Replied.ensures.replied m at refl).step.reply

replied_opens : (g : _) (c : After-give g) (m : Machine) → IsAt c.args.card.now (g.B.Eeprom.chip c.args.bench.now) m
    → (image : List ℕ) → (g.B.Eeprom.chip c.answer.new.bench).image ≡ Some image → Opens image (step m c.args.octets.now).machine.committed
replied_opens g c m at = Opens-at c.answer.new.self (g.B.Eeprom.chip c.answer.new.bench) (step m c.args.octets.now).machine (c.in-Replied.ensures.ready refl) (c.in-Replied.ensures.replied m at refl).step.at

replied_moments : (g : _) (c : After-give g) (m : Machine) → IsAt c.args.card.now (g.B.Eeprom.chip c.args.bench.now) m
    → (g.B.Eeprom.chip c.give.new.bench).still.mark ≤ (g.B.Eeprom.chip c.answer.new.bench).still.mark + length c.text.result.now
    → Throughout (g.B.Eeprom.chip c.args.bench.now) (g.B.Eeprom.chip c.give.new.bench) (IsInAnswered command_lines m (content_effect m (command c.args.octets.now)) (g.B.Eeprom.chip c.args.bench.now).still.mark)
replied_moments g c m at within =
    let mid : Chip = g.B.Eeprom.chip c.answer.new.bench in
    let now : Chip = g.B.Eeprom.chip c.give.new.bench in
    answered-moments command_lines m (content_effect m (command c.args.octets.now)) (g.B.Eeprom.chip c.args.bench.now) mid now (c.answer.ensures.moments m at) c.answer.ensures.still
    (gives-throughout mid now (g.met.B.Eeprom.clocked c.answer.new.bench) c.give.ensures.gives) (replied_opens g c m at) (omega (arith, within, ap length (replied_text g c m at)))

-- what the card says that goes mute
mute : (g : _) (c : After-give-in-Mute g) → c.text-in-Mute.result.now ≡ mute_text
mute g c =
    let mute = c.in-Mute.ensures.mute refl in
    c.text-in-Mute.ensures ∙ mute_text-reply c.answer.new.reply.body c.answer.new.reply.word mute.0 mute.1

-- the card went mute: the line left what it had committed by then
mute_moments : (g : _) (c : After-give-in-Mute g) (m : Machine) → IsAt c.args.card.now (g.B.Eeprom.chip c.args.bench.now) m
    → Throughout (g.B.Eeprom.chip c.args.bench.now) (g.B.Eeprom.chip c.give-in-Mute.new.bench) (IsInLine command_lines m (content_effect m (command c.args.octets.now)) (g.B.Eeprom.chip c.args.bench.now).still.mark)
mute_moments g c m at =
    let mid : Chip = g.B.Eeprom.chip c.answer.new.bench in
    let now : Chip = g.B.Eeprom.chip c.give-in-Mute.new.bench in
    line-moments command_lines m (content_effect m (command c.args.octets.now)) (g.B.Eeprom.chip c.args.bench.now) mid now (c.answer.ensures.moments m at) c.answer.ensures.still
    (gives-throughout mid now (g.met.B.Eeprom.clocked c.answer.new.bench) c.give-in-Mute.ensures.gives)

-- what lies behind the image stays, and the card has its number of cells where it replied
replied_behind : (g : _) (c : After-give g) → c.answer.new.self.store.chains.cells ≡ c.args.card.now.store.chains.cells → StaysBehind c.args.card.now c.answer.new.self (g.B.Eeprom.chip c.args.bench.now) (g.B.Eeprom.chip c.give.new.bench)
replied_behind g c same =
    let cells : ℕ = c.args.card.now.store.chains.cells in
    let mid : Chip = g.B.Eeprom.chip c.answer.new.bench in
    record {
      cells = λ live. same;
      behind = behind-on cells cells (g.B.Eeprom.chip c.args.bench.now) mid (g.B.Eeprom.chip c.give.new.bench) refl (behind-keeps cells (g.B.Eeprom.chip c.args.bench.now) mid c.answer.ensures.behind) (c.give.ensures.behind (λ was. cells));
    }

pub returns-in_ok-give-in-Replied : goal.returns-in_ok-give-in-Replied
returns-in_ok-give-in-Replied g c = record {
  ended = (λ m at.
      let after : After-give g = (goal.at.returns-in_ok-give-in-Replied g c).After-give in
      let same : (g.B.Eeprom.chip c.answer.new.bench).still.mark ≡ (g.B.Eeprom.chip c.args.bench.now).still.mark = ap (λ (s : Still). s.mark) c.answer.ensures.still in
      record {
        answered = record {
          at = IsAt-given c.answer.new.self (g.B.Eeprom.chip c.answer.new.bench) (g.B.Eeprom.chip c.give.new.bench) c.give.ensures.image (step m c.args.octets.now).machine (c.in-Replied.ensures.replied m at refl).step.at;
          text =
              subst (λ (before : Option (List ℕ)). Prints (content_effect m (command c.args.octets.now)).text before (g.B.Eeprom.chip c.give.new.bench).still.given) (ap (λ (s : Still). s.given) c.answer.ensures.still)
              (subst (λ (text : List ℕ). Prints text (g.B.Eeprom.chip c.answer.new.bench).still.given (g.B.Eeprom.chip c.give.new.bench).still.given) (replied_text g after m at) c.in_ok-give-in-Replied.ensures.text);
          moments = λ told.
              (let mark = c.in_ok-give-in-Replied.ensures.mark told in
              record { mark = omega (arith, mark, same, ap length (replied_text g after m at)); moments = replied_moments g after m at (omega (arith, mark)) });
        };
        failed = tt;
      });
  leaves = (record {
    ready = IsReady-given c.answer.new.self (g.B.Eeprom.chip c.answer.new.bench) (g.B.Eeprom.chip c.give.new.bench) c.give.ensures.image c.give.ensures.size (c.in-Replied.ensures.ready refl);
    causes = search rules;
    memory = search rules;
    rest = replied_behind g (goal.at.returns-in_ok-give-in-Replied g c).After-give (c.in-Replied.ensures.cells refl);
  });
}

pub returns-in_err-give-in-Replied : goal.returns-in_err-give-in-Replied
returns-in_err-give-in-Replied g c = record {
  ended = (λ m at.
      let after : After-give g = (goal.at.returns-in_err-give-in-Replied g c).After-give in
      let mid : Chip = g.B.Eeprom.chip c.answer.new.bench in
      let now : Chip = g.B.Eeprom.chip c.give.new.bench in
      record {
        answered = search rules;
        failed = at_outlet _ c.from_residual.result c.from_residual.ensures.1 (record {
          fails =
              subst (λ (before : Option (List ℕ)). FailsIn Outlet command_lines [] m (content_effect m (command c.args.octets.now)) before now) (ap (λ (s : Still). s.given) c.answer.ensures.still)
              (fails_giving command_lines m (content_effect m (command c.args.octets.now)) mid.still.given mid now
              (subst (λ (t : List ℕ). IsCutShort t mid.still.given now.still.given) (replied_text g after m at) c.in_err-give-in-Replied.ensures.fails) c.give.ensures.image (replied_opens g after m at));
          moments = λ told. replied_moments g after m at (c.give.ensures.within told);
        });
      });
  leaves = (record {
    ready = search rules;
    causes = search rules;
    memory = search rules;
    rest = replied_behind g (goal.at.returns-in_err-give-in-Replied g c).After-give (c.in-Replied.ensures.cells refl);
  });
}

-- or the card went mute, and answers no more
mute_behind : (g : _) (c : After-give-in-Mute g) → StaysBehind c.args.card.now c.answer.new.self (g.B.Eeprom.chip c.args.bench.now) (g.B.Eeprom.chip c.give-in-Mute.new.bench)
mute_behind g c =
    let cells : ℕ = c.args.card.now.store.chains.cells in
    let mid : Chip = g.B.Eeprom.chip c.answer.new.bench in
    let gone : c.answer.new.self.live ≡ false = (c.in-Mute.ensures.mute refl).2 in
    record {
      cells = λ live. absurd cc;
      behind = behind-on cells cells (g.B.Eeprom.chip c.args.bench.now) mid (g.B.Eeprom.chip c.give-in-Mute.new.bench) refl (behind-keeps cells (g.B.Eeprom.chip c.args.bench.now) mid c.answer.ensures.behind) (c.give-in-Mute.ensures.behind (λ was. cells));
    }

pub returns-in-Ok : goal.returns-in-Ok
returns-in-Ok g c = record {
  ended = (λ m at.
      let run : After-give-in-Mute g = (goal.at.returns-in-Ok g c).After-give-in-Mute in
      let mid : Chip = g.B.Eeprom.chip c.answer.new.bench in
      let now : Chip = g.B.Eeprom.chip c.give-in-Mute.new.bench in
      record {
        answered = tt;
        failed = record {
          fails =
              subst (λ (before : Option (List ℕ)). FailsIn Eeprom command_lines [] m (content_effect m (command c.args.octets.now)) before now) (ap (λ (s : Still). s.given) c.answer.ensures.still)
              (fails_mute command_lines m (content_effect m (command c.args.octets.now)) c.text-in-Mute.result.now mid.still.given mid now (inl (mute g run)) c.in-Ok.ensures.text c.give-in-Mute.ensures.image
              (λ image told. ((c.answer.ensures.moments m at).now image told).1));
          moments = λ told. mute_moments g run m at;
        };
      });
  leaves = record { ready = tt; causes = search rules; memory = search rules; rest = mute_behind g (goal.at.returns-in-Ok g c).After-give-in-Mute };
}

pub returns-in-Err : goal.returns-in-Err
returns-in-Err g c = record {
  ended = (λ m at.
      let run : After-give-in-Mute g = (goal.at.returns-in-Err g c).After-give-in-Mute in
      let mid : Chip = g.B.Eeprom.chip c.answer.new.bench in
      let now : Chip = g.B.Eeprom.chip c.give-in-Mute.new.bench in
      record {
        answered = tt;
        failed = record {
          fails =
              subst (λ (before : Option (List ℕ)). FailsIn Both command_lines [] m (content_effect m (command c.args.octets.now)) before now) (ap (λ (s : Still). s.given) c.answer.ensures.still)
              (fails_both command_lines m (content_effect m (command c.args.octets.now)) c.text-in-Mute.result.now mid.still.given mid now (inl (mute g run)) c.in-Err.ensures.fails c.give-in-Mute.ensures.image
              (λ image told. ((c.answer.ensures.moments m at).now image told).1));
          moments = λ told. mute_moments g run m at;
        };
      });
  leaves = record { ready = tt; causes = search rules; memory = search rules; rest = mute_behind g (goal.at.returns-in-Err g c).After-give-in-Mute };
}
