-- A fetch that waits, as it is kept.
use Rattle.std.specs.Prelude.{◌≡◌, ℕ, ℤ, List, Option, Ok}
use Rattle.kb_api_data.specs.declared.fetch.FetchRequest.{FetchRequest}
use Rattle.kb_tenant.specs.Fetch.{asked_fetch, bounded}

-- its version, the body behind its header, and how many bytes of records its reply has at most; None is no limit
pub record FetchWait : Type 0 where
  pub version : ℤ
  pub body : List ℕ
  pub limit : Option ℕ

-- The body was read in its version, and this is the fetch that it asks within the limit.
abbrev pub AsksWithin : FetchWait → FetchRequest → Type 0
AsksWithin fetch request = (q : FetchRequest) × ((asked_fetch fetch.version fetch.body ≡ Ok q) × (request ≡ bounded fetch.limit q))
