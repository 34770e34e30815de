use Rattle.card_run.proofs.Living.{check-cycle, commands-cycle, load-cycle, migrate-cycle, new-cycle, statements-cycle}
use Rattle.card_run.proofs.laws.a_run_is_a_power_cycle.Goals as goal

pub returns-clause-commands : goal.returns-clause-commands
returns-clause-commands g c = commands-cycle

pub returns-clause-statements : goal.returns-clause-statements
returns-clause-statements g c = statements-cycle

pub returns-clause-made : goal.returns-clause-made
returns-clause-made g c = new-cycle

pub returns-clause-load : goal.returns-clause-load
returns-clause-load g c = load-cycle

pub returns-clause-check : goal.returns-clause-check
returns-clause-check g c = check-cycle

pub returns-clause-migrate : goal.returns-clause-migrate
returns-clause-migrate g c = migrate-cycle
