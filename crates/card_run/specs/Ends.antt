-- How a run over its input ends.
use Rattle.std.specs.Prelude.{◌≡◌, ℕ, ◌&&◌, Bool, true, false}
use Rattle.line_run.specs.Causes.{Faults}
use Rattle.program.specs.Ends.{EndsBy}
use Rattle.program.specs.declared.status.Status.{Status}
use Rattle.card_run.specs.declared.words.Form.{Form}
use Rattle.card_run.specs.Words.{carries_out_statements, makes_card, reads_input}
use Rattle.program.specs.declared.status.Status.TheVariants.{Done, Refused, Usage, Eeprom, ReadFault, WriteFault, NotACard, NoMemory, TooLong, TooSmall}

-- A run of this form may end so. An EEPROM that tells nothing may lose what is written to it, and so what was just made may be no card.
abbrev pub may_end : Form → Status → Bool
may_end form Done = true
may_end form Refused = carries_out_statements form
may_end form Usage = false
may_end form Eeprom = true
may_end form ReadFault = reads_input form
may_end form WriteFault = true
may_end form NotACard = true
may_end form NoMemory = true
may_end form TooLong = reads_input form
may_end form TooSmall = makes_card form

-- the ends of a run whose card was opened
abbrev pub is_of_opened : Status → Bool
is_of_opened Done = true
is_of_opened Refused = true
is_of_opened TooLong = true
is_of_opened Eeprom = true
is_of_opened ReadFault = true
is_of_opened WriteFault = true
is_of_opened status = false

-- and so where its card was opened
abbrev pub ends_opened : Form → Status → Bool
ends_opened form status = may_end form status && is_of_opened status

-- A run of this form that reads no input, and whose card was opened, ended so, where the counts of faults of EEPROM and outlet were and are these: each fault has its cause.
pub record EndsOpened (form : Form) (result : Status) (was now : Faults) : Type 0 where
  pub status : ends_opened form result ≡ true
  pub ends : (source : ℕ) → EndsBy result (record { eeprom = was.eeprom; source = source; outlet = was.outlet }) (record { eeprom = now.eeprom; source = source; outlet = now.outlet })

-- the ends of a run whose card didn't open
abbrev pub ends_opening : Status → Bool
ends_opening TooSmall = true
ends_opening NotACard = true
ends_opening NoMemory = true
ends_opening Eeprom = true
ends_opening status = false

-- the ends that only a run has whose card was opened
abbrev pub has_opened : Status → Bool
has_opened Done = true
has_opened Refused = true
has_opened TooLong = true
has_opened ReadFault = true
has_opened WriteFault = true
has_opened status = false
