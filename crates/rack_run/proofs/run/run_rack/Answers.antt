use Rattle.std.proofs.Common.{rules}
use Rattle.guide.proofs.Told.{told-then}
use Rattle.rack_run.proofs.run.run_rack.Goals as goal

pub returns-clause-shows : goal.returns-clause-shows
returns-clause-shows g c = record {
  prompts = search rules;
  told = told-then g.N.Person.lost g.N.Person.shown _ _ _ c.tell.ensures (told-then g.N.Person.lost g.N.Person.shown _ _ _ c.run_over-status.ensures.shows.told c.tell-2.ensures);
}
