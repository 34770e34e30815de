-- Who is presented, and whether it is proved.
use Rattle.std.specs.Prelude.{ℕ, ◌==◌, Bool, true, false, Option, Some, None, if◌then◌else◌}
use Rattle.std.specs.Option.{option_map_or}
use Rattle.scql_base.specs.declared.cursor.PresentedUser.{PresentedUser}

-- the stamp of a user who is presented, where it is proved
abbrev pub proved_stamp : PresentedUser → Option ℕ
proved_stamp p = if p.proved then Some p.stamp else None

-- and where it isn't
abbrev pub unproved_stamp : PresentedUser → Option ℕ
unproved_stamp p = if p.proved then None else Some p.stamp

-- a user who has shown its secret
abbrev pub proved : PresentedUser → PresentedUser
proved p = record p { proved = true }

-- the user of a stamp is presented
abbrev pub presents : ℕ → Option PresentedUser → Bool
presents stamp user = option_map_or (λ (p : PresentedUser). p.stamp == stamp) user false
