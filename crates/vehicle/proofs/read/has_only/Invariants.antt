use Rattle.std.proofs.Common.{◌≡◌, List, ◌++◌, map}
use Rattle.toml.specs.Data.{as_table}
use Rattle.toml.specs.View.{view, members_view}
use Rattle.std.specs.Prelude.{Some}
use Rattle.toml.proofs.Views.{Entry}
use Rattle.vehicle.specs.Holding.{AreAmong}
use Rattle.vehicle.proofs.read.has_only.Given as goal

abbrev pub invariant-loop-key : goal.invariant-loop-key
invariant-loop-key l =
    (done : List Entry) × (as_table (view l.value) ≡ Some (members_view (done ++ l.key-iterator))) × AreAmong (map (λ k. k.now) l.keys) (members_view done)
