-- No view rests on a dictionary.
use Rattle.std.proofs.Common.{sym}
use Rattle.plain_image.proofs.Bases.{rests-on-none}
use Rattle.plain_image.proofs.objects.rests_on.Goals as goal

pub returns-in-Dictionary : goal.returns-in-Dictionary
returns-in-Dictionary c = sym (rests-on-none c.args.database.now.objects c.args.view.now c.args.base.now c.args.columns.now c.args.conditions.now _ c.requires.there c.in-Dictionary.is)
