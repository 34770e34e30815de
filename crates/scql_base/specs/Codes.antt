-- The codes of profiles, subjects and comparisons, in records, commands and dictionaries.
use Rattle.std.specs.Prelude.{ℕ, ◌==◌, Option, Some, None, if◌then◌else◌}
use Rattle.scql_base.specs.declared.words.TheConstants.Profile.{DB_O, DBOO, DBBU}
use Rattle.scql_base.specs.declared.words.TheConstants.Subject.{OBJECTS, USERS, GRANTS}
use Rattle.scql_base.specs.declared.words.TheConstants.Comparison.{EQUAL, LESS, GREATER, AT_MOST, AT_LEAST, NOT_EQUAL}
use Rattle.scql_base.specs.declared.words.Profile.{Profile}
use Rattle.scql_base.specs.declared.words.Profile.TheVariants.{DbO, Dboo, Dbbu}
use Rattle.scql_base.specs.declared.words.Subject.{Subject}
use Rattle.scql_base.specs.declared.words.Subject.TheVariants.{Objects, Users, Grants}
use Rattle.scql_base.specs.declared.words.Comparison.{Comparison}
use Rattle.scql_base.specs.declared.words.Comparison.TheVariants.{Equal, Less, Greater, AtMost, AtLeast, NotEqual}

abbrev pub profile_code : Profile → ℕ
profile_code DbO = DB_O
profile_code Dboo = DBOO
profile_code Dbbu = DBBU

abbrev pub profile_of : ℕ → Option Profile
profile_of code = if code == DB_O then Some DbO else if code == DBOO then Some Dboo else if code == DBBU then Some Dbbu else None

abbrev pub subject_code : Subject → ℕ
subject_code Objects = OBJECTS
subject_code Users = USERS
subject_code Grants = GRANTS

abbrev pub subject_of : ℕ → Option Subject
subject_of code = if code == OBJECTS then Some Objects else if code == USERS then Some Users else if code == GRANTS then Some Grants else None

abbrev pub comparison_code : Comparison → ℕ
comparison_code Equal = EQUAL
comparison_code Less = LESS
comparison_code Greater = GREATER
comparison_code AtMost = AT_MOST
comparison_code AtLeast = AT_LEAST
comparison_code NotEqual = NOT_EQUAL

abbrev pub comparison_of : ℕ → Option Comparison
comparison_of code =
    if code == EQUAL then Some Equal
    else if code == LESS then Some Less
    else if code == GREATER then Some Greater
    else if code == AT_MOST then Some AtMost
    else if code == AT_LEAST then Some AtLeast
    else if code == NOT_EQUAL then Some NotEqual
    else None
