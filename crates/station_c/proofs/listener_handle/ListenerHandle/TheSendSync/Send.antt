-- A handle may go to another thread: it owns a boxed listener, which may, or nothing.
use base.Shift.{Keyless}
use denote.RawPtr.{Ptr, block_ptr, null_ptr}
use denote.Struct.Struct.{exits_of}
use denote.Struct.Owning.{shape, fields, to}
use denote.Param.Send.{IsSend, AllSend, owning_send, struct_send, sendable}
use Rattle.std.proofs.Crossing.{crosses, frees}
use Rattle.std.proofs.MapsCrossing as maps
use Rattle.std_alloc.proofs.SendSync.{lies, quiet}
use Rattle.station_c.specs.Held.{heap}
use Rattle.station_c.specs.HeldListeners.{held_listener}
use Rattle.station_c.specs.contracts.listener_handle.ListenerHandle as handle
use Rattle.station_c.specs.contracts.listed_listener.ListedListener as listed
use Rattle.listener.specs.contracts.listener.Listener as listener
use Rattle.listener.specs.contracts.broken.BrokenMessages as broken
use Rattle.listener.specs.contracts.newest.NewestSent as newest
use Rattle.listener.specs.contracts.paced.PacedListener as paced

newest_send : IsSend newest.the_row
newest_send = search (sendable, crosses, maps.crosses) depth 60 fits 20000

listener_send : IsSend listener.the_row
listener_send = search (sendable, crosses, maps.crosses) depth 60 fits 20000

paced_send : IsSend paced.the_row
paced_send = search (sendable, crosses, maps.crosses, listener_send) depth 60 fits 20000

broken_send : IsSend broken.the_row
broken_send = search (sendable, crosses, maps.crosses) depth 60 fits 20000

listed_send : IsSend listed.the_row
listed_send = search (sendable, crosses, maps.crosses, newest_send, paced_send, broken_send) depth 60 fits 20000

held-Keyless : (p : Ptr) (x : listed.the_row.Denot) → Keyless (held_listener p x)
held-Keyless (block_ptr b o) x = (lies listed.the_row listed_send (block_ptr b o) x, frees.frees heap _ (block_ptr b o))
held-Keyless null_ptr x = tt

pub send : IsSend handle.the_row
send =
    let O = handle.the_type in let all : AllSend (fields O) = (search sendable, (search sendable, tt)) in
    owning_send O all (λ d. held-Keyless d.at d.value) (λ k. quiet (to O) (exits_of k (fields O)) ((struct_send (shape O) all).leaving k))
