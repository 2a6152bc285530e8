-- What a positive clear means: who acknowledged it.
use Rattle.std.specs.Prelude.{ℕ, ◌≡◌, ◌⊎◌, Bool, false, Option, Some, None}
use Rattle.parameter_group.specs.Group.{Group, Acknowledgment}
use Rattle.station_table.specs.StationValue.{StationValue}
use Rattle.live_station.specs.OpenOrders.{clearing_group}
use Rattle.live_station.specs.Working.{address_of_name}
use Rattle.live_station.specs.declared.order.Clearing.{Clearing}
use Rattle.live_station.specs.declared.order.Order.{Order}
use Rattle.live_station.specs.declared.order.Order.TheVariants.{Clear}
use Rattle.live_station.specs.declared.open.Asked.{Asked}
use Rattle.live_station.specs.declared.open.Stage.TheVariants as stage
use Rattle.live_station.specs.declared.open.Progress.{Progress}
use Rattle.live_station.specs.declared.open.Progress.TheVariants.{Goes, Ends}
use Rattle.live_station.specs.declared.verdict.Finding.TheVariants.{Positive}
use Rattle.live_station.specs.declared.verdict.Verdict.{Verdict}

-- a clear was found positive: what is kept of it while what is left is asked
abbrev pub IsFoundPositive : Option Verdict → Type 0
IsFoundPositive None = ⊥
IsFoundPositive (Some v) = v.finding ≡ Positive

-- or its verdict
abbrev pub IsPositive : Option Progress → Type 0
IsPositive None = ⊥
IsPositive (Some (Goes o)) = IsFoundPositive o.found
IsPositive (Some (Ends v)) = v.finding ≡ Positive

-- the NAME, at the address that was asked, which it holds still, acknowledges what was asked, to the address from which it was asked, which the
-- station holds still
pub record AcknowledgesClear (g : Group) (name : ℕ) (what : Clearing) (a : Asked) (s : StationValue) : Type 0 where
  pub requester : ℕ
  pub destination : ℕ
  pub says : g ≡ Acknowledgment 0 requester (clearing_group what) destination a.to
  pub to_station : (requester ≡ a.own) ⊎ (destination ≡ a.own)
  pub held : s.claimer.held ≡ Some a.own
  pub address : address_of_name s (Some name) ≡ Some a.to

-- a clear is out, as it was written from this address to that one at that time
abbrev pub IsClear : Order → Type 0
IsClear (Clear name what) = Unit {0}
IsClear _ = ⊥

abbrev pub IsOutAs : Asked → Progress → Type 0
IsOutAs a (Goes o) = IsClear o.order × (o.stage ≡ stage.Asked a)
IsOutAs a (Ends v) = ⊥

pub record IsSameRequest (a a' : Asked) : Type 0 where
  pub own : a'.own ≡ a.own
  pub to : a'.to ≡ a.to
  pub at : a'.at ≡ a.at

-- nothing puts it in doubt: the NAME and the station hold the addresses between which it was written, and nobody else claims the station's
pub record IsUndoubted (name : ℕ) (a : Asked) (contested : Bool) (s : StationValue) : Type 0 where
  pub held : s.claimer.held ≡ Some a.own
  pub address : address_of_name s (Some name) ≡ Some a.to
  pub uncontested : contested ≡ false
