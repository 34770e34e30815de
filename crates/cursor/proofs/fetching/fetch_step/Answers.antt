-- The next row is handed out, and the cursor goes there unless it is refused.
use Rattle.std.proofs.Common.{rules, inl, inr}
use Rattle.cursor.proofs.NextRow.{fetched-next, read-next}
use Rattle.cursor.proofs.fetching.fetch_step.Goals as goal

pub returns-then-not-refuses-clause-fetched : goal.returns-then-not-refuses-clause-fetched
returns-then-not-refuses-clause-fetched g c =
    fetched-next _ c.args.place.now _ c.in_ok-next.next c.args.le c.next_word-word.result _ c.in_ok-next.ensures.next c.next_word-word.ensures.given (inl c.place_of.ensures)

pub returns-then-not-refuses-clause-read : goal.returns-then-not-refuses-clause-read
returns-then-not-refuses-clause-read g c =
    read-next (g.F.RowFeed.tells c.args.feed.now) _ c.args.place.now c.in_ok-next.next _ _ _ _ c.in_ok-next.ensures.next c.next_word-word.ensures.least c.in_ok-next.ensures.reads.read

pub returns-else-not-refuses-clause-fetched : goal.returns-else-not-refuses-clause-fetched
returns-else-not-refuses-clause-fetched g c =
    fetched-next _ c.args.place.now _ c.in_ok-next.next c.args.le c.next_word-word.result _ c.in_ok-next.ensures.next c.next_word-word.ensures.given (inr (search rules))

pub returns-else-not-refuses-clause-read : goal.returns-else-not-refuses-clause-read
returns-else-not-refuses-clause-read g c =
    read-next (g.F.RowFeed.tells c.args.feed.now) _ c.args.place.now c.in_ok-next.next _ _ _ _ c.in_ok-next.ensures.next c.next_word-word.ensures.least c.in_ok-next.ensures.reads.read
