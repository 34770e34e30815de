use Rattle.plain_database.proofs.valid.ValidDatabase.+resolved_below.Given as goal

abbrev pub decreases-resolved_below : goal.decreases-resolved_below
decreases-resolved_below l = l.most
