-- For whom a channel acts.
use Rattle.std.specs.Prelude.{ℕ, Option, Some, None}
use Rattle.std.specs.Option.{option_map_or}
use Rattle.scql_base.specs.declared.records.User.{User}
use Rattle.scql_base.specs.declared.words.Actor.{Actor}
use Rattle.scql_base.specs.declared.words.Actor.TheVariants.{Public, User as a_user}
use Rattle.scql_model.specs.Database.{Database, user_stamped}

-- for whom a channel acts whose proved user has this stamp, or that has none
abbrev pub acting : Database → Option ℕ → Actor
acting db None = Public
acting db (Some stamp) = option_map_or (λ (u : User). a_user u.stamp u.profile) (user_stamped db.users stamp) Public
