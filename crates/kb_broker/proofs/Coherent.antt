-- What is listed beside what, in either listing.
use Rattle.std.proofs.Common.{◌≡◌, true, false, refl}
use Rattle.kb_wire.specs.declared.api_key.TheConstants.{FETCH, LIST_OFFSETS, METADATA, PRODUCE}
use Rattle.kb_isolation_spec.specs.Requests.{is_served}
use Rattle.kb_broker.specs.Opening.{lists}
use Rattle.kb_broker.specs.declared.opening.Listing.{Listing}
use Rattle.kb_broker.specs.declared.opening.Listing.TheVariants as listings

-- a version that is not listed
unlisted : {X : Type 0} → false ≡ true → X
unlisted e = absurd cc

pub metadata-coherent : (listing : Listing) → lists listing METADATA 5 ≡ true → lists listing PRODUCE 4 ≡ true
unfolding is_served
metadata-coherent listings.Served e = unlisted e
metadata-coherent listings.StockClients e = refl

pub sessions-coherent : (listing : Listing) → lists listing FETCH 7 ≡ true → lists listing PRODUCE 5 ≡ true
unfolding is_served
sessions-coherent listings.Served e = unlisted e
sessions-coherent listings.StockClients e = refl

pub epochs-coherent : (listing : Listing) → lists listing FETCH 8 ≡ true → lists listing PRODUCE 6 ≡ true
unfolding is_served
epochs-coherent listings.Served e = unlisted e
epochs-coherent listings.StockClients e = refl

pub offsets-coherent : (listing : Listing) → lists listing LIST_OFFSETS 5 ≡ true → lists listing FETCH 10 ≡ true
unfolding is_served
offsets-coherent listings.Served e = unlisted e
offsets-coherent listings.StockClients e = unlisted e

pub without-zstd : (listing : Listing) → (lists listing PRODUCE 7 ≡ false) × (lists listing FETCH 10 ≡ false)
unfolding is_served
without-zstd listings.Served = (refl, refl)
without-zstd listings.StockClients = (refl, refl)
