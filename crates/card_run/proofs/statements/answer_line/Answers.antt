-- What the terminal says of a line is told to the run.
use Rattle.std.proofs.Common.{ℕ, List, [], Option, Some, None, refl, rules}
use Rattle.scql_model.specs.Machine.{Machine}
use Rattle.script.specs.Line.{statement_of}
use Rattle.card.specs.LiveCard.{IsReadyAt, OnBench}
use Rattle.card.specs.LiveCardLaws.{opens-at}
use Rattle.eeprom.specs.Chip.{Chip}
use Rattle.terminal.specs.declared.refusal.Refusal.TheVariants.{TooLong}
use Rattle.terminal.specs.Line.{refusal_in, rows_in}
use Rattle.card_run.proofs.Sittings.{IsTold, faulty-read, heard-answered, heard-causes, heard-failed, heard-live, heard-memory, heard-refusal, long-ends, read-ends, read-moments}
use Rattle.card_run.proofs.statements.answer_line.Given as given
use Rattle.card_run.proofs.statements.answer_line.Goals as goal

-- the link of the terminal
abbrev at : (g : given.Over) → OnBench g.row.B.Denot → Machine → Type 0
at g l m = IsReadyAt l.card (g.B.Eeprom.chip l.bench) m

abbrev chip : (g : given.Over) → OnBench g.row.B.Denot → Chip
chip g l = g.B.Eeprom.chip l.bench

abbrev mark : (g : given.Over) → OnBench g.row.B.Denot → ℕ
mark g l = (g.B.Eeprom.chip l.bench).still.mark

abbrev told_by : (g : given.Over) → OnBench g.row.B.Denot → Option (List ℕ)
told_by g l = g.B.Outlet.given l.bench

told : (g : given.Over) → IsTold (at g) (told_by g) (mark g) (chip g)
told g = record { still = λ l. (g.met.B.Bench.output l.bench).0; marks = λ l. refl; marked = λ l. g.met.B.Bench.mark l.bench; opens = λ l m at. opens-at l.card (g.B.Eeprom.chip l.bench) m at }

pub returns-in-Some-clause-ended : goal.returns-in-Some-clause-ended
returns-in-Some-clause-ended g c = λ sitting sits. record {
  ends = record {
    answered =
        rw (c.in-Some.is, c.heard.ensures)
        (heard-answered (at g) (told_by g) (mark g) (chip g) (told g) sitting (Some c.in-Some.line.octets.now) (rows_in sitting.at (statement_of c.in-Some.line.octets.now)) (refusal_in sitting.at (statement_of c.in-Some.line.octets.now)) c.line.new.self c.line.result
        c.args.card.now c.line.new.link
        (read-ends (at g) (told_by g) sitting.at c.args.terminal.now.channel c.in-Some.line.octets.now c.line.new.self c.line.result c.args.card.now c.line.new.link c.in-Some.line.short sits.channel (c.line.ensures.ended sitting.at.machine sits.at sits.knows).ends)
        (read-moments sitting.at c.args.terminal.now.channel (mark g c.args.card.now) c.in-Some.line.octets.now (chip g c.args.card.now) (chip g c.line.new.link) c.in-Some.line.short sits.channel (c.line.ensures.ended sitting.at.machine sits.at sits.knows).moments)
        c.line.ensures.leaves.goes_on.lasts.marks);
    failed =
        rw (c.in-Some.is, c.heard.ensures)
        (heard-failed (at g) (told_by g) (mark g) (chip g) (told g) sitting (Some c.in-Some.line.octets.now) (rows_in sitting.at (statement_of c.in-Some.line.octets.now)) (refusal_in sitting.at (statement_of c.in-Some.line.octets.now)) c.line.new.self c.line.result
        c.args.card.now c.line.new.link
        (read-ends (at g) (told_by g) sitting.at c.args.terminal.now.channel c.in-Some.line.octets.now c.line.new.self c.line.result c.args.card.now c.line.new.link c.in-Some.line.short sits.channel (c.line.ensures.ended sitting.at.machine sits.at sits.knows).ends)
        (faulty-read sitting.at (statement_of c.in-Some.line.octets.now))
        (read-moments sitting.at c.args.terminal.now.channel (mark g c.args.card.now) c.in-Some.line.octets.now (chip g c.args.card.now) (chip g c.line.new.link) c.in-Some.line.short sits.channel (c.line.ensures.ended sitting.at.machine sits.at sits.knows).moments)
        c.line.ensures.leaves.goes_on.lasts.marks);
  };
  refusal =
      rw (c.in-Some.is, c.heard.ensures)
      (heard-refusal (at g) (told_by g) sitting.at.machine _ _ (refusal_in sitting.at (statement_of c.in-Some.line.octets.now)) c.line.new.self c.line.result c.args.card.now c.line.new.link
      (read-ends (at g) (told_by g) sitting.at c.args.terminal.now.channel c.in-Some.line.octets.now c.line.new.self c.line.result c.args.card.now c.line.new.link c.in-Some.line.short sits.channel (c.line.ensures.ended sitting.at.machine sits.at sits.knows).ends));
}

pub returns-in-Some-clause-leaves : goal.returns-in-Some-clause-leaves
returns-in-Some-clause-leaves g c = record {
  ready =
      rw c.heard.ensures
      (heard-live (λ (l : OnBench g.row.B.Denot). l.card.live) (λ (l : OnBench g.row.B.Denot). g.B.Eeprom.faults l.bench) (λ (l : OnBench g.row.B.Denot). g.B.Outlet.sink_faults l.bench) c.line.result c.args.card.now c.line.new.link c.line.ensures.leaves.ends_by c.requires.live);
  causes =
      rw c.heard.ensures
      (heard-causes (λ (l : OnBench g.row.B.Denot). l.card.live) (λ (l : OnBench g.row.B.Denot). g.B.Eeprom.faults l.bench) (λ (l : OnBench g.row.B.Denot). g.B.Outlet.sink_faults l.bench) c.line.result c.args.card.now c.line.new.link c.line.ensures.leaves.ends_by);
  memory = rw c.heard.ensures (heard-memory c.line.result);
  rest = search rules;
}

pub returns-in-None-clause-ended : goal.returns-in-None-clause-ended
returns-in-None-clause-ended g c = λ sitting sits. record {
  ends = record {
    answered =
        rw (c.in-None.is, c.heard-in-None.ensures)
        (heard-answered (at g) (told_by g) (mark g) (chip g) (told g) sitting None [] (Some TooLong) c.refuse_long_line.new.self c.refuse_long_line.result c.args.card.now c.refuse_long_line.new.link
        (long-ends (at g) (told_by g) sitting.at c.args.terminal.now.channel c.refuse_long_line.new.self c.refuse_long_line.result c.args.card.now c.refuse_long_line.new.link sits.channel (c.refuse_long_line.ensures.ended sitting.at.machine sits.at sits.knows).ends)
        (c.refuse_long_line.ensures.moments sitting.at.machine sits.at) c.refuse_long_line.ensures.leaves.goes_on.lasts.marks);
    failed =
        rw (c.in-None.is, c.heard-in-None.ensures)
        (heard-failed (at g) (told_by g) (mark g) (chip g) (told g) sitting None [] (Some TooLong) c.refuse_long_line.new.self c.refuse_long_line.result c.args.card.now c.refuse_long_line.new.link
        (long-ends (at g) (told_by g) sitting.at c.args.terminal.now.channel c.refuse_long_line.new.self c.refuse_long_line.result c.args.card.now c.refuse_long_line.new.link sits.channel (c.refuse_long_line.ensures.ended sitting.at.machine sits.at sits.knows).ends)
        refl (c.refuse_long_line.ensures.moments sitting.at.machine sits.at) c.refuse_long_line.ensures.leaves.goes_on.lasts.marks);
  };
  refusal =
      rw (c.in-None.is, c.heard-in-None.ensures)
      (heard-refusal (at g) (told_by g) sitting.at.machine _ [] (Some TooLong) c.refuse_long_line.new.self c.refuse_long_line.result c.args.card.now c.refuse_long_line.new.link
      (long-ends (at g) (told_by g) sitting.at c.args.terminal.now.channel c.refuse_long_line.new.self c.refuse_long_line.result c.args.card.now c.refuse_long_line.new.link sits.channel (c.refuse_long_line.ensures.ended sitting.at.machine sits.at sits.knows).ends));
}

pub returns-in-None-clause-leaves : goal.returns-in-None-clause-leaves
returns-in-None-clause-leaves g c = record {
  ready =
      rw c.heard-in-None.ensures
      (heard-live (λ (l : OnBench g.row.B.Denot). l.card.live) (λ (l : OnBench g.row.B.Denot). g.B.Eeprom.faults l.bench) (λ (l : OnBench g.row.B.Denot). g.B.Outlet.sink_faults l.bench) c.refuse_long_line.result c.args.card.now c.refuse_long_line.new.link
      c.refuse_long_line.ensures.leaves.ends_by c.requires.live);
  causes =
      rw c.heard-in-None.ensures
      (heard-causes (λ (l : OnBench g.row.B.Denot). l.card.live) (λ (l : OnBench g.row.B.Denot). g.B.Eeprom.faults l.bench) (λ (l : OnBench g.row.B.Denot). g.B.Outlet.sink_faults l.bench) c.refuse_long_line.result c.args.card.now c.refuse_long_line.new.link
      c.refuse_long_line.ensures.leaves.ends_by);
  memory = rw c.heard-in-None.ensures (heard-memory c.refuse_long_line.result);
  rest = search rules;
}
