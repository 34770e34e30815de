use Rattle.audit_run.proofs.Said.{watches-none}
use Rattle.audit_run.proofs.run.audit.Goals as goal

pub returns-in_err-held-clause-watches : goal.returns-in_err-held-clause-watches
returns-in_err-held-clause-watches g c = watches-none g.P.Person.lost g.P.Person.shown c.from_residual.result c.args.person.now

pub returns-in-Ok-clause-judges : goal.returns-in-Ok-clause-judges
returns-in-Ok-clause-judges g c = record {
  first = c.in_ok-held.held.first.items;
  transcript = c.in_ok-held.held.transcript.items;
  last = c.in_ok-held.held.last.items;
  read = c.in_ok-held.ensures.read;
  found = rw (← c.deref.ensures.value, ← c.deref-2.ensures.value, ← c.deref-3.ensures.value) c.in-Ok.ensures.found;
  watched = rw (← c.deref-2.ensures.value) c.in-Ok.ensures.watched;
}
