-- Machines whose databases are valid, and whose sessions present users of them and have cursors that stand on them.
use Rattle.std.specs.Prelude.{◌≡◌, ℕ, ◌<◌, ◌==◌, true, false, List, [], length, Option, None, IfSome, option_and_then}
use Rattle.std.specs.List.{AllByRecursion}
use Rattle.scql_base.specs.declared.cursor.PresentedUser.{PresentedUser}
use Rattle.scql_base.specs.declared.records.User.{User}
use Rattle.scql_model.specs.Database.{Database, IsValid, user_stamped}
use Rattle.scql_model.specs.Machine.{Machine, Reading, Session, Transaction, base}
use Rattle.scql_model.specs.Sessions.{is_channel_open, reading_of}
use Rattle.scql_model.specs.Cursors.{StandsOn, Follows}

abbrev pub HasSecret : User → Type 0
HasSecret u = (length u.secret == 0) ≡ false

-- who is presented was given a stamp, and has a secret where it isn't proved, if the user is there still
pub record IsPresentedIn (db : Database) (p : PresentedUser) : Type 0 where
  pub stamp : p.stamp < db.next
  pub secret : p.proved ≡ false → IfSome (user_stamped db.users p.stamp) HasSecret

-- so is each session's user
abbrev pub ArePresentedIn : Database → List (Option Session) → Type 0
ArePresentedIn db sessions = AllByRecursion (λ (session : Option Session). IfSome (option_and_then (λ (s : Session). s.user) session) (IsPresentedIn db)) sessions

-- what is read of a database: the cursor stands on it, and octets are pending only where there is a cursor
pub record IsReadingOf (db : Database) (reading : Reading) : Type 0 where
  pub cursor : IfSome reading.cursor (StandsOn db)
  pub pending : reading.cursor ≡ None → reading.pending ≡ []

-- a transaction works on a valid database with the limit of the committed one, which it follows
pub record IsValidWork (m : Machine) (t : Transaction) : Type 0 where
  pub working : IsValid t.working
  pub limit : t.working.limit ≡ m.committed.limit
  pub follows : Follows m.committed t.working
  pub presented : ArePresentedIn t.working m.sessions

-- Each channel reads the working database where the transaction is its own, else the committed one. Channel 0 is always open (ISO/IEC 7816-4, basic logical channel).
pub record IsValidMachine (m : Machine) : Type 0 where
  pub committed : IsValid m.committed
  pub presented : ArePresentedIn m.committed m.sessions
  pub transaction : IfSome m.transaction (IsValidWork m)
  pub readings : (channel : ℕ) → IsReadingOf (base m channel) (reading_of m channel)
  pub basic : is_channel_open m 0 ≡ true
