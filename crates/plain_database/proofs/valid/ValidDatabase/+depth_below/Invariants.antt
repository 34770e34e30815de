use Rattle.plain_database.proofs.valid.ValidDatabase.+depth_below.Given as goal

abbrev pub decreases-depth_below : goal.decreases-depth_below
decreases-depth_below l = l.most
