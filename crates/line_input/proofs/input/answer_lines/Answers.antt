-- What was taken so far is told in the invariant; at the end of the input the last line is answered.
use Rattle.std.proofs.Common.{◌≡◌, ℕ, ◌≤◌, ◌<◌, List, take, Option, refl, sym, subst, ◌∙◌, arith}
use Rattle.eeprom.specs.Input.{TakesPiece}
use Rattle.line_input.specs.Answering.{Feeds}
use Rattle.line_input.specs.Line.{line_octets}
use Rattle.line_input.specs.Reading.{longest_input}
use Rattle.line_input.proofs.Taking.{HasTaken, HasTaken-nothing, HasTaken-more, read-fault, read-ended, read-stopped, read-stopped_last, read-too_long}
use Rattle.line_input.proofs.input.answer_lines.Goals.{After-answer_last}
use Rattle.line_input.proofs.input.answer_lines.Goals as goal

pub loop-count-init : goal.loop-count-init
loop-count-init g c =
    let left = g.S.Source.left c.args.source.now in
    record {
      ready = c.requires;
      source_faults = refl;
      taken = subst (λ (line : Option (List ℕ)). HasTaken g.A.LineAnswerer.answers g.A.LineAnswerer.stops longest_input c.args.answerer.now c.args.answerer.now line left left) (sym c.new-line.ensures)
          (HasTaken-nothing g.A.LineAnswerer.answers g.A.LineAnswerer.stops c.args.answerer.now left (g.met.A.LineAnswerer.none c.args.answerer.now c.requires));
    }

-- the source failed
pub returns-in_default-clause-read : goal.returns-in_default-clause-read
returns-in_default-clause-read g c =
    read-fault g.A.LineAnswerer.answers g.A.LineAnswerer.stops c.loop-count.room c.args.answerer.now c.loop-count.answerer (line_octets c.loop-count.line)
    (g.S.Source.left c.args.source.now) (g.S.Source.left c.loop-count.source) (g.S.Source.left c.read.new.self) c.loop-count.invariant.taken c.in_default.ensures.err

-- nothing was left of the input
at_end : (g : _) (c : After-answer_last g) → TakesPiece 0 c.read.new.into (g.S.Source.left c.loop-count.source) (g.S.Source.left c.read.new.self)
at_end g c = subst (λ (count : ℕ). TakesPiece count c.read.new.into (g.S.Source.left c.loop-count.source) (g.S.Source.left c.read.new.self)) c.if-count-eq0.true c.in-Ok.ensures.taken

-- the last line was answered
pub returns-in-Ok-answer_last-clause-read : goal.returns-in-Ok-answer_last-clause-read
returns-in-Ok-answer_last-clause-read g c =
    read-ended g.A.LineAnswerer.answers g.A.LineAnswerer.stops g.met.A.LineAnswerer.then c.loop-count.room c.read.new.into c.args.answerer.now c.loop-count.answerer (line_octets c.loop-count.line) c.answer_last.new.answerer
    (g.S.Source.left c.args.source.now) (g.S.Source.left c.loop-count.source) (g.S.Source.left c.read.new.self) c.loop-count.invariant.taken
    (at_end g (goal.at.returns-in-Ok-answer_last-clause-read g c).After-answer_last) c.in-Ok-answer_last.ensures.answered

-- or the answerer stopped in it
pub returns-in-Err-clause-read : goal.returns-in-Err-clause-read
returns-in-Err-clause-read g c =
    read-stopped_last g.A.LineAnswerer.answers g.A.LineAnswerer.stops c.loop-count.room c.read.new.into c.args.answerer.now c.loop-count.answerer (line_octets c.loop-count.line) c.in-Err.stop c.answer_last.new.answerer
    (g.S.Source.left c.args.source.now) (g.S.Source.left c.loop-count.source) (g.S.Source.left c.read.new.self) c.loop-count.invariant.taken
    (at_end g (goal.at.returns-in-Err-clause-read g c).After-answer_last) c.in-Err.ensures.stopped.0 c.in-Err.ensures.stopped.1

-- it stopped among the octets of a piece
pub returns-in-Err-take_octets-clause-read : goal.returns-in-Err-take_octets-clause-read
returns-in-Err-take_octets-clause-read g c =
    let fits : c.min-taken.result ≤ c.in-Ok.count = omega (arith, c.min-taken.ensures) in
    let short : c.min-taken.result ≤ c.loop-count.room = omega (arith, c.min-taken.ensures) in
    read-stopped g.A.LineAnswerer.answers g.A.LineAnswerer.stops g.met.A.LineAnswerer.then c.loop-count.room c.in-Ok.count c.min-taken.result c.read.new.into c.args.answerer.now c.loop-count.answerer (line_octets c.loop-count.line)
    c.in-Err-take_octets.stop c.take_octets.new.answerer (g.S.Source.left c.args.source.now) (g.S.Source.left c.loop-count.source) (g.S.Source.left c.read.new.self) fits short c.in-Ok.ensures.taken.fits
    c.loop-count.invariant.taken c.in-Ok.ensures.taken c.in-Err-take_octets.ensures.halts

-- more came than is taken
pub returns-then-room-count-clause-read : goal.returns-then-room-count-clause-read
returns-then-room-count-clause-read g c =
    let over : c.loop-count.room < c.in-Ok.count = c.if-room-count.true in
    let all : c.min-taken.result ≡ c.loop-count.room = omega (arith, c.min-taken.ensures, over) in
    read-too_long g.A.LineAnswerer.answers g.A.LineAnswerer.stops g.met.A.LineAnswerer.then c.loop-count.room c.in-Ok.count c.read.new.into c.args.answerer.now c.loop-count.answerer c.take_octets.new.answerer
    (line_octets c.loop-count.line) (line_octets c.take_octets.new.line) (g.S.Source.left c.args.source.now) (g.S.Source.left c.loop-count.source) (g.S.Source.left c.read.new.self) over c.in-Ok.ensures.taken.fits
    c.loop-count.invariant.taken c.in-Ok.ensures.taken
    (subst (λ (count : ℕ). Feeds g.A.LineAnswerer.answers (take count c.read.new.into) c.loop-count.answerer (line_octets c.loop-count.line) c.take_octets.new.answerer (line_octets c.take_octets.new.line)) all c.in_default-take_octets.ensures.feeds)

pub loop-count-preserved : goal.loop-count-preserved
loop-count-preserved g c =
    let fits : c.in-Ok.count ≤ c.loop-count.room = c.if-room-count.false in
    let same : c.min-taken.result ≡ c.in-Ok.count = omega (arith, c.min-taken.ensures, fits) in
    record {
      ready = c.in_default-take_octets.ensures.ready;
      source_faults = c.in-Ok.ensures.cause.1 ∙ c.loop-count.invariant.source_faults;
      taken = HasTaken-more g.A.LineAnswerer.answers g.A.LineAnswerer.stops g.met.A.LineAnswerer.then c.loop-count.room c.in-Ok.count c.read.new.into c.args.answerer.now c.loop-count.answerer c.take_octets.new.answerer
          (line_octets c.loop-count.line) (line_octets c.take_octets.new.line) (g.S.Source.left c.args.source.now) (g.S.Source.left c.loop-count.source) (g.S.Source.left c.read.new.self)
          c.in-Ok.ensures.taken.fits fits c.loop-count.invariant.taken c.in-Ok.ensures.taken
          (subst (λ (count : ℕ). Feeds g.A.LineAnswerer.answers (take count c.read.new.into) c.loop-count.answerer (line_octets c.loop-count.line) c.take_octets.new.answerer (line_octets c.take_octets.new.line)) same c.in_default-take_octets.ensures.feeds);
    }
