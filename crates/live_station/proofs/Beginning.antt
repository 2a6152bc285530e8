-- A station of its parts is one that begins.
use Rattle.std.proofs.Common.{◌≡◌, ℕ, Bool, true, false, [], ◌∷◌, List, None, refl}
use Rattle.live_unit.specs.Echoes.{EchoValue}
use Rattle.live_unit.specs.Queue.{QueueValue, empty_queue, putting}
use Rattle.live_unit.specs.Times.{clock_at_start}
use Rattle.live_unit.specs.declared.clock.UnitClock.{UnitClock}
use Rattle.node_core.specs.Deed.{plain}
use Rattle.station_table.specs.Reactions.{own_claim}
use Rattle.station_table.specs.StationValue.{StationValue}
use Rattle.station_table.specs.Steps.{new_station}
use Rattle.live_station.specs.Working.{WorkingValue, begun_station}
use Rattle.live_station.specs.declared.loss.Watch.{Watch}
use Rattle.live_station.specs.declared.times.StationTimes.{StationTimes}

pub begun_of_parts : (name want grant : ℕ) (times : StationTimes) (s : StationValue) (q : QueueValue) (c : UnitClock) (e : EchoValue) (ws : List Watch)
    → s ≡ new_station name want grant → q ≡ putting false (plain (own_claim s.claimer) ∷ []) (empty_queue want) → c ≡ clock_at_start
    → e ≡ record { written = []; comes_back = false } → ws ≡ []
    → ◌≡◌ {A = WorkingValue} (record {
      station = s;
      queue = q;
      clock = c;
      settings = record { gap = times.gap; settle = times.settle; always = false };
      echo = e;
      asks_claims = true;
      claims_by = 0;
      clear_from = 0;
      losses = ws;
      order = None;
    }) (begun_station name want grant times)
begun_of_parts name want grant times s q c e ws es eq ec ee ew = rw (eq, ec, ee, ew, es) refl
