-- A fleet may go to another thread where its units may. Each type is shown by itself: a `search` down through all of them runs out of steps.
use denote.RattleType.{RattleType}
use denote.Param.Object.{Ghosts, table_of}
use denote.Param.Send.{IsSend, sendable}
use denote.Param.Sent.{Sends}
use Rattle.std.proofs.Crossing.{crosses, dyn_box_send}
use Rattle.std.proofs.MapsCrossing as maps
use Rattle.live_unit.specs.contracts.echo.Echo as echo
use Rattle.live_unit.specs.contracts.node.LiveNode as live_node
use Rattle.live_unit.specs.contracts.unit.LiveUnit as live_unit
use Rattle.live_unit.specs.contracts.watch.AddressWatch as watch
use Rattle.vehicle.specs.contracts.fail_line.Deviation as deviation
use Rattle.vehicle.specs.contracts.moving_field.MovingField as moving_field
use Rattle.vehicle.specs.contracts.send_line.SendLine as send_line
use Rattle.live_lines.specs.contracts.answering.Answering as answering
use Rattle.live_lines.specs.contracts.cyclic.Cyclic as cyclic
use Rattle.live_lines.specs.contracts.failing.Failing as failing
use Rattle.live_lines.specs.contracts.faults.Faults as faults
use Rattle.live_lines.specs.contracts.faults.Later as later
use Rattle.live_lines.specs.contracts.fleet.Fleet as fleet
use Rattle.live_lines.specs.contracts.member.Member as member
use Rattle.live_lines.specs.contracts.on_bus.Units as units
use Rattle.live_lines.specs.contracts.own_broadcast.OwnBroadcast as own_broadcast
use Rattle.live_lines.specs.contracts.own_groups.OwnGroups as own_groups
use Rattle.live_lines.specs.contracts.own_session.OwnSession as own_session

moving_field-send : IsSend moving_field.the_row
moving_field-send = search (sendable, crosses) depth 20

send_line-send : IsSend (send_line.the_field).row
send_line-send = let field = moving_field-send in search (sendable, crosses) depth 20

cyclic-send : IsSend cyclic.the_row
cyclic-send = let line = send_line-send in search (sendable, crosses) depth 20

answering-send : IsSend answering.the_row
answering-send = search (sendable, crosses) depth 20

own_session-send : IsSend own_session.the_row
own_session-send = search (sendable, crosses) depth 20

own_broadcast-send : IsSend own_broadcast.the_row
own_broadcast-send = search (sendable, crosses) depth 20

own_groups-send : IsSend (own_groups.the_field).row
own_groups-send = let one = answering-send in let session = own_session-send in let broadcast = own_broadcast-send in search (sendable, crosses) depth 20

deviation-send : IsSend deviation.the_row
deviation-send = search (sendable, crosses) depth 20

failing-send : IsSend failing.the_row
failing-send = let kind = deviation-send in search (sendable, crosses) depth 60 fits 20000

later-send : IsSend later.the_row
later-send = search (sendable, crosses) depth 20

faults-send : IsSend (faults.the_field).row
faults-send = let one = failing-send in let waiting = later-send in search (sendable, crosses) depth 20

live_node-send : IsSend (live_node.the_field).row
live_node-send = search (sendable, crosses, maps.crosses) depth 40 fits 10000

echo-send : IsSend echo.the_row
echo-send = search (sendable, crosses) depth 20

watch-send : IsSend watch.the_row
watch-send = let written = echo-send in search (sendable, crosses) depth 20

module _ (T : RattleType) (g : Ghosts T.Denot) (entries : Sends (table_of T.Denot g)) (box : IsSend T) where
  live_unit-send : IsSend (live_unit.the_field T g).row
  live_unit-send = let live = live_node-send in let unit = dyn_box_send T g entries box in search (sendable, crosses) depth 20

  member-send : IsSend (member.the_row T g)
  member-send = let unit = live_unit-send in let sends = cyclic-send in let answers = own_groups-send in let fails = faults-send in let watches = watch-send in search (sendable, crosses) depth 20

  pub fleet-send : IsSend (fleet.the_field T g).row
  fleet-send = let members = member-send in search (sendable, crosses) depth 20

  pub units-send : IsSend (units.the_field T g).row
  units-send = let fleet = fleet-send in search (sendable, crosses) depth 20
