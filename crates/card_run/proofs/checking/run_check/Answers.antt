-- What goes out behind a count writes nothing.
use Rattle.std.proofs.Common.{List, ℕ, ◌≡◌, ap, subst}
use Rattle.eeprom.specs.Chip.{Chip}
use Rattle.eeprom.proofs.Moments.{gives-throughout}
use Rattle.card.specs.Behind.{KeepsBehind}
use Rattle.card_run.specs.Migrating.{WritesNothing}
use Rattle.card_run.proofs.CheckedCards.{nothing-given}
use Rattle.card_run.proofs.checking.run_check.Goals as goal
use Rattle.card_run.proofs.checking.run_check.Goals.{After-give as Told}

-- a count changes nothing
uncounted : (g : _) (c : Told g) → g.B.Eeprom.chip c.counts.new.bench ≡ g.B.Eeprom.chip c.args.bench.now
uncounted g c = ap g.B.Eeprom.chip c.counts.ensures.unchanged

nothing : (g : _) (c : Told g) → WritesNothing (g.B.Eeprom.chip c.args.bench.now) (g.B.Eeprom.chip c.give.new.bench)
nothing g c =
    let mid : Chip = g.B.Eeprom.chip c.counts.new.bench in
    let new : Chip = g.B.Eeprom.chip c.give.new.bench in
    subst (λ (chip : Chip). WritesNothing chip new) (uncounted g c)
    (nothing-given mid new c.give.ensures.gives (gives-throughout mid new (g.met.B.Eeprom.clocked c.counts.new.bench) c.give.ensures.gives))

behind : (g : _) (c : Told g) (cells : List ℕ → ℕ) → KeepsBehind cells (g.B.Eeprom.chip c.args.bench.now) (g.B.Eeprom.chip c.give.new.bench)
behind g c cells = subst (λ (chip : Chip). KeepsBehind cells chip (g.B.Eeprom.chip c.give.new.bench)) (uncounted g c) (c.give.ensures.behind cells)

pub returns-in-Ok-give-clause-nothing : goal.returns-in-Ok-give-clause-nothing
returns-in-Ok-give-clause-nothing g c = nothing g (goal.at.returns-in-Ok-give-clause-nothing g c).After-give

pub returns-in-Ok-give-clause-behind : goal.returns-in-Ok-give-clause-behind
returns-in-Ok-give-clause-behind g c = behind g (goal.at.returns-in-Ok-give-clause-behind g c).After-give

pub returns-in-Err-clause-nothing : goal.returns-in-Err-clause-nothing
returns-in-Err-clause-nothing g c = nothing g (goal.at.returns-in-Err-clause-nothing g c).After-give

pub returns-in-Err-clause-behind : goal.returns-in-Err-clause-behind
returns-in-Err-clause-behind g c = behind g (goal.at.returns-in-Err-clause-behind g c).After-give
