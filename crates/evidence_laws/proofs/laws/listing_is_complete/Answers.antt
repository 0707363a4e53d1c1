use Rattle.evidence_laws.proofs.Listing.{listing_law}
use Rattle.evidence_laws.proofs.laws.listing_is_complete.Goals as goal

pub returns : goal.returns
returns c = listing_law
