-- A holder's share, and what it holds.
use Rattle.std.specs.Prelude.{ℕ, ◌-◌}
use Rattle.kb_shares.specs.declared.share.Share.{Share}
use Rattle.kb_shares.specs.declared.share.Holder.{Holder}

-- a holder that has nothing yet
abbrev pub idle : Share → Holder
idle share = record { share = share; used = 0 }

-- what it holds above its own part
abbrev pub above : Holder → ℕ
above h = h.used - h.share.own
