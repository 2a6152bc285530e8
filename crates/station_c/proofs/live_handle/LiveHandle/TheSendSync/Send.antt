-- A handle may go to another thread: it owns a boxed live station, which may, or nothing.
use base.Shift.{Keyless}
use denote.RawPtr.{Ptr, block_ptr, null_ptr}
use denote.Struct.Struct.{exits_of}
use denote.Struct.Owning.{shape, fields, to}
use denote.Param.Send.{IsSend, AllSend, owning_send, struct_send, sendable}
use Rattle.std.proofs.Crossing.{crosses, frees}
use Rattle.std.proofs.MapsCrossing as maps
use Rattle.std_alloc.proofs.SendSync.{lies, quiet}
use Rattle.station_c.specs.Held.{heap}
use Rattle.station_c.specs.HeldLives.{held_live}
use Rattle.station_c.specs.contracts.live_handle.LiveHandle as handle
use Rattle.station_c.specs.contracts.listed_live.ListedLive as listed
use Rattle.entry_lists.specs.contracts.newest.NewestEntries as newest
use Rattle.live_unit.specs.contracts.echo.Echo as echo
use Rattle.live_station.specs.contracts.loss.Losses as losses
use Rattle.live_station.specs.contracts.open.OpenOrder as order
use Rattle.live_station.specs.contracts.station.LiveStation as live
use Rattle.live_station.specs.contracts.verdict.Verdict as verdict
use Rattle.live_unit.specs.contracts.clock.UnitClock as clock
use Rattle.live_unit.specs.contracts.queue.Queue as queue
use Rattle.live_unit.specs.contracts.told.Told as told
use Rattle.shared_groups.specs.contracts.message.SharedMessage as message
use Rattle.shared_groups.specs.contracts.shared.SharedGroups as shared
use Rattle.station_table.specs.contracts.station.Station as station

newest_send : IsSend newest.the_row
newest_send = search (sendable, crosses, maps.crosses) depth 60 fits 20000

station_send : IsSend station.the_row
station_send = search (sendable, crosses, maps.crosses) depth 60 fits 20000

queue_send : IsSend queue.the_row
queue_send = search (sendable, crosses) depth 60 fits 20000

told_send : IsSend told.the_row
told_send = search (sendable, crosses) depth 60 fits 20000

clock_send : IsSend clock.the_row
clock_send = search (sendable, crosses, told_send) depth 60 fits 20000

verdict_send : IsSend verdict.the_row
verdict_send = search (sendable, crosses) depth 60 fits 20000

order_send : IsSend order.the_row
order_send = search (sendable, crosses, verdict_send) depth 60 fits 20000

echo_send : IsSend echo.the_row
echo_send = search (sendable, crosses) depth 60 fits 20000

losses_send : IsSend losses.the_row
losses_send = search (sendable, crosses) depth 60 fits 20000

live_send : IsSend live.the_row
live_send = search (sendable, crosses, maps.crosses, station_send, queue_send, clock_send, echo_send, losses_send, order_send) depth 60 fits 20000

message_send : IsSend message.the_row
message_send = search (sendable, crosses) depth 60 fits 20000

shared_send : IsSend shared.the_row
shared_send = search (sendable, crosses, maps.crosses, message_send) depth 60 fits 20000

listed_send : IsSend listed.the_row
listed_send = search (sendable, crosses, maps.crosses, newest_send, live_send, verdict_send, shared_send) depth 60 fits 20000

held-Keyless : (p : Ptr) (x : listed.the_row.Denot) → Keyless (held_live p x)
held-Keyless (block_ptr b o) x = (lies listed.the_row listed_send (block_ptr b o) x, frees.frees heap _ (block_ptr b o))
held-Keyless null_ptr x = tt

pub send : IsSend handle.the_row
send =
    let O = handle.the_type in let all : AllSend (fields O) = (search sendable, (search sendable, tt)) in
    owning_send O all (λ d. held-Keyless d.at d.value) (λ k. quiet (to O) (exits_of k (fields O)) ((struct_send (shape O) all).leaving k))
