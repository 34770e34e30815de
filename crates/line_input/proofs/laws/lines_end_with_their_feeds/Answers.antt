use Rattle.line_input.proofs.CutLines.{lines-line_feed}
use Rattle.line_input.proofs.laws.lines_end_with_their_feeds.Goals as goal

pub returns : goal.returns
returns c = lines-line_feed
