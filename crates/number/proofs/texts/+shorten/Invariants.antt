use Rattle.number.proofs.texts.+shorten.Given as goal

abbrev pub decreases-shorten : goal.decreases-shorten
decreases-shorten l = l.places
