use Rattle.demands.proofs.Listings.{listing_demands}
use Rattle.demands.proofs.list_ways.Goals as goal

pub returns : goal.returns
returns c = listing_demands _ _ _ _ c.desk_listing.ensures
