-- A handle may go to another thread: it owns a boxed station, which may, or nothing.
use base.Shift.{Keyless}
use denote.RawPtr.{Ptr, block_ptr, null_ptr}
use denote.Struct.Struct.{exits_of}
use denote.Struct.Owning.{shape, fields, to}
use denote.Param.Send.{IsSend, AllSend, owning_send, struct_send, sendable}
use Rattle.std.proofs.Crossing.{crosses, frees}
use Rattle.std.proofs.MapsCrossing as maps
use Rattle.std_alloc.proofs.SendSync.{lies, quiet}
use Rattle.station_c.specs.Held.{heap, held}
use Rattle.station_c.specs.contracts.handle.StationHandle as handle
use Rattle.station_c.specs.contracts.listed_station.ListedStation as post
use Rattle.entry_lists.specs.contracts.newest.NewestEntries as newest
use Rattle.station_table.specs.contracts.station.Station as station

newest_send : IsSend newest.the_row
newest_send = search (sendable, crosses, maps.crosses) depth 60 fits 20000

station_send : IsSend station.the_row
station_send = search (sendable, crosses, maps.crosses) depth 60 fits 20000

post_send : IsSend post.the_row
post_send = search (sendable, crosses, maps.crosses, newest_send, station_send) depth 60 fits 20000

held-Keyless : (p : Ptr) (x : post.the_row.Denot) → Keyless (held p x)
held-Keyless (block_ptr b o) x = (lies post.the_row post_send (block_ptr b o) x, frees.frees heap _ (block_ptr b o))
held-Keyless null_ptr x = tt

pub send : IsSend handle.the_row
send =
    let O = handle.the_type in let all : AllSend (fields O) = (search sendable, (search sendable, tt)) in
    owning_send O all (λ d. held-Keyless d.at d.value) (λ k. quiet (to O) (exits_of k (fields O)) ((struct_send (shape O) all).leaving k))
