-- Where the image opens to no database, it opens to none.
use Rattle.plain_machine.proofs.machine.PlainMachine.open.Goals as goal

pub returns-in-None-clause-none : goal.returns-in-None-clause-none
returns-in-None-clause-none c = λ _ db opens. c.in_ok-database.ensures.none c.in-None.is db opens
