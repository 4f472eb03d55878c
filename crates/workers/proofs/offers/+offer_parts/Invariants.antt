use Rattle.workers.proofs.offers.+offer_parts.Given as goal

abbrev pub decreases-offer_parts : goal.decreases-offer_parts
decreases-offer_parts g l = l.part.workers
