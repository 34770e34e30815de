-- A base is found by its own stamp.
use Rattle.std.proofs.Common.{sym}
use Rattle.plain_image.proofs.Bases.{found-there}
use Rattle.plain_image.proofs.objects.is_founded.Goals as goal

pub rests_on-requires : goal.rests_on-requires
rests_on-requires c = record { there = found-there c.args.database.now.objects _ c.in-Some.base.now (sym c.in-Some.ensures) }
