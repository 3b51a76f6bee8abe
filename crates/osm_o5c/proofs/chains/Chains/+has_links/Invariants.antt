use Rattle.osm_o5c.proofs.chains.Chains.+has_links.Given as goal

abbrev pub decreases-has_links : goal.decreases-has_links
decreases-has_links a = a.count
