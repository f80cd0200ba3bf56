-- Networks that no definition tells apart.
use Rattle.std.specs.Prelude.{◌≡◌, ℕ, List}
use Rattle.delay_model.specs.declared.network.Network.{Network}
use Rattle.delay_model.specs.Changes.{change, is_stop, station}
use Rattle.delay_model.specs.Waits.{wait}
use Rattle.mt_io.specs.Lines.{Line}
use Rattle.information_service.specs.Answering.{LineOutput}
use Rattle.information_service.specs.ServiceState.{ServiceState}

-- the same options, change times, waits, stops and stations
pub record IsSame (a b : Network) : Type 0 where
  pub opts : b.opts ≡ a.opts
  pub change : (p q : ℕ) → change b.stops b.transfers b.opts.change p q
      ≡ change a.stops a.transfers a.opts.change p q
  pub wait : (r s p : ℕ) → wait b.stops b.rules r s p ≡ wait a.stops a.rules r s p
  pub stop : (p : ℕ) → is_stop b.stops p ≡ is_stop a.stops p
  pub station : (p : ℕ) → station b.stops p ≡ station a.stops p

-- a service over this network
abbrev pub over : Network → ServiceState → ServiceState
over nw t = record t { network = nw }

-- what a command writes is the same over networks that no definition tells apart, and no line
-- changes the network
pub record IsWrittenAlike {C : Type 0} (o : LineOutput C) : Type 0 where
  pub begins : (nw : Network) (t : ServiceState) (kept : C) → IsSame nw t.network
      → o.begins (over nw t) kept ≡ o.begins t kept
  pub answers : (nw : Network) (t : ServiceState) (kept : C) (number : ℕ) (x : Line)
      (text : List ℕ) (now : ServiceState) (kept_now : C) → IsSame nw t.network
      → o.answers t kept number x text now kept_now
      → o.answers (over nw t) kept number x text (over nw now) kept_now
  pub ends : (nw : Network) (t : ServiceState) (kept : C) → IsSame nw t.network
      → o.ends (over nw t) kept ≡ o.ends t kept
  pub keeps : (t : ServiceState) (kept : C) (number : ℕ) (x : Line) (text : List ℕ)
      (now : ServiceState) (kept_now : C) → o.answers t kept number x text now kept_now
      → now.network ≡ t.network
