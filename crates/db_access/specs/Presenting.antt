-- Whose session a channel gets.
use Rattle.std.specs.Prelude.{Some, Result, Ok, Err}
use Rattle.scql_base.specs.declared.words.StatusWord.{StatusWord}
use Rattle.scql_base.specs.Words.{not_found}
use Rattle.scql_model.specs.Machine.{Session, new_session, session_for}
use Rattle.db_access.specs.declared.presenting.Presented.{Presented}
use Rattle.db_access.specs.declared.presenting.Presented.TheVariants.{Unknown, Public, User}

-- the session of who was presented, or the word that refuses it
abbrev pub session_presented : Presented → Result Session StatusWord
session_presented Unknown = Err not_found
session_presented Public = Ok new_session
session_presented (User stamp proved) = Ok (session_for (Some (record { stamp = stamp; proved = proved })))
