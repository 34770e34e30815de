-- The part is of the data field of the operation.
use Rattle.std.proofs.Common.{sym}
use Rattle.apdu.proofs.PartsWritten.{part-own}
use Rattle.apdu.proofs.command.Part.write.Goals as goal

pub returns-in-Update : goal.returns-in-Update
returns-in-Update c = part-own c.args.self.now.command.now c.args.self.now.place _ _ (rw c.in-Update.is c.octets.ensures.octets) c.put_part.ensures

pub returns-in_default-2 : goal.returns-in_default-2
returns-in_default-2 c = part-own c.args.self.now.command.now c.args.self.now.place _ _ (sym (c.has_field.ensures c.if-has_field.false)) c.put_part-in_default-2.ensures
