-- What the octets from here on make of the text so far.
use Rattle.std.proofs.Common.{◌≡◌, drop}
use Rattle.script.specs.Meanings.{text_of, undoubled}
use Rattle.script.proofs.Undoubling.{told}
use Rattle.script.proofs.literal.text_of.Given as goal

abbrev pub invariant-loop-octet : goal.invariant-loop-octet
invariant-loop-octet l = told l.text.items (undoubled l.behind (drop l.octet-index l.inner)) ≡ text_of l.inner
