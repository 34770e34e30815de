-- The object of a stamp is the only one, and appears or not.
use Rattle.std.proofs.Common.{◌≡◌, ap, sym, Option, Some, None, ◌∙◌}
use Rattle.std.specs.Prelude.{option_and_then, if◌then◌else◌}
use Rattle.scql_base.specs.declared.records.Object.{Object}
use Rattle.scql_base.specs.declared.words.Actor.{Actor}
use Rattle.scql_model.specs.Database.{Database, IsValid}
use Rattle.scql_model.specs.Objects.{object_stamped}
use Rattle.scql_model.specs.Rights.{appears, seen_stamped}
use Rattle.plain_database.proofs.RisingStamps.{find-both}
use Rattle.plain_database.proofs.valid.ValidDatabase.seen_stamped.Goals as goal

seen-of : (db : Database) (actor : Actor) (stamp : _) (found : Option Object) → IsValid db → found ≡ object_stamped db.objects stamp
    → option_and_then (λ (o : Object). if appears db actor o then Some o else None) found ≡ seen_stamped db actor stamp
seen-of db actor stamp found valid is =
    let test = λ (o : Object). if appears db actor o then Some o else None in
    ap (option_and_then test) is ∙ sym (find-both (λ (o : Object). o.stamp) stamp (appears db actor) db.objects valid.objects.rises)

pub returns-in_err-object : goal.returns-in_err-object
returns-in_err-object c = rw c.from_residual.ensures (seen-of c.args.self.now c.args.actor c.args.stamp None c.database-database.ensures.valid (rw c.in_err-object.was at c.object_stamped.ensures))

pub returns-then-appears : goal.returns-then-appears
returns-then-appears c =
    let seen = seen-of c.args.self.now c.args.actor c.args.stamp (Some c.in_ok-object.object.now) c.database-database.ensures.valid (rw c.in_ok-object.was at c.object_stamped.ensures) in
    let own = rw c.database-database.ensures.same at (sym c.appears.ensures ∙ c.if-appears.true) in
    rw own at seen

pub returns-else-appears : goal.returns-else-appears
returns-else-appears c =
    let seen = seen-of c.args.self.now c.args.actor c.args.stamp (Some c.in_ok-object.object.now) c.database-database.ensures.valid (rw c.in_ok-object.was at c.object_stamped.ensures) in
    let own = rw c.database-database.ensures.same at (sym c.appears.ensures ∙ c.if-appears.false) in
    rw own at seen
