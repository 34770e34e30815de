-- Who changes the database.
use Rattle.std.proofs.Common.{◌≡◌, ℕ, List, Option, Some, None, sym, ap, subst, ◌∙◌}
use Rattle.std.specs.Prelude.{IfSome}
use Rattle.std.specs.Option.{option_map_or}
use Rattle.eeprom.specs.Chip.{Chip}
use Rattle.eeprom.specs.Slots.{Rises}
use Rattle.record_store.specs.Held.{Held}
use Rattle.record_store.specs.declared.side.Side.{Side}
use Rattle.scql_base.specs.declared.records.User.{User}
use Rattle.scql_base.specs.declared.words.Actor.TheVariants.{Public, User as a_user}
use Rattle.scql_model.specs.Creating.{IsActorOf}
use Rattle.scql_model.specs.Database.{Database, user_stamped}
use Rattle.scql_model.proofs.Acting.{IsActorOf-stamped}
use Rattle.catalog_codec.specs.Catalog.{user_kind}
use Rattle.record_table.specs.Listed.{listed, slots_of}
use Rattle.record_table.specs.Making.{IsHeld}
use Rattle.card.specs.Acting.{acting}
use Rattle.card.proofs.Told.{if_some-at}

-- who acts is PUBLIC or a user of the database
pub IsActorOf-acting : (db : Database) (user : Option ℕ) → IsActorOf db (acting db user)
IsActorOf-acting db None = tt
IsActorOf-acting db (Some stamp) = IsActorOf-stamped db stamp

-- the user of a stamp that was found on a side is that of its database
pub stamped-user : (store : Held) (side : Side) (chip : Chip) (db : Database) (stamp : ℕ) (found : Option User) → IsHeld store side chip db
    → IfSome (slots_of store side chip) (λ slots. Rises user_kind.key (listed user_kind slots) → found ≡ user_stamped (listed user_kind slots) stamp) → found ≡ user_stamped db.users stamp
stamped-user store side chip db stamp found held there =
    let here = if_some-at (λ slots. Rises user_kind.key (listed user_kind slots) → found ≡ user_stamped (listed user_kind slots) stamp) (slots_of store side chip) held.slots held.told there in
    let users : listed user_kind held.slots ≡ db.users = held.holds.users in
    here (subst (Rises user_kind.key) (sym users) held.valid.users.rises) ∙ ap (λ (users : List User). user_stamped users stamp) users

-- for it, or for the public
pub acting-found : (store : Held) (side : Side) (chip : Chip) (db : Database) (stamp : ℕ) (found : Option User) → IsHeld store side chip db
    → IfSome (slots_of store side chip) (λ slots. Rises user_kind.key (listed user_kind slots) → found ≡ user_stamped (listed user_kind slots) stamp)
    → option_map_or (λ (u : User). a_user u.stamp u.profile) found Public ≡ acting db (Some stamp)
acting-found store side chip db stamp found held there = ap (λ (o : Option User). option_map_or (λ (u : User). a_user u.stamp u.profile) o Public) (stamped-user store side chip db stamp found held there)
