-- What is expected where nothing was missed.
use Rattle.std.specs.Prelude.{ℕ, Bool, false, ◌&&◌, ◌==◌, List, [], ◌∷◌, if◌then◌else◌}
use Rattle.dm_messages.specs.declared.kind.Kind.{Kind}
use Rattle.dm_messages.specs.declared.shown.Shown.{Shown}
use Rattle.dm_messages.specs.View.{view, same_kind}
use Rattle.bus_model.specs.Messages.{Message, last_part_of}
use Rattle.bus_model.specs.Heard.{StationSettings, address_heard}
use Rattle.bus_model.specs.Expected.{Reception, Own, Received, Missed, is_for, is_part, readings}

-- the message goes to all, or to the address that the station held when it received part 0
abbrev pub is_meant : StationSettings → Message → List Reception → Bool
is_meant r m [] = false
is_meant r m (Own e ∷ older) = is_meant r m older
is_meant r m (Missed es ∷ older) = is_meant r m older
is_meant r m (Received e ∷ older) = if is_part m 0 e.tag then is_for (address_heard r (readings older)) m else is_meant r m older

-- its last part was received
abbrev pub is_received : StationSettings → Message → List Reception → Bool
is_received r m [] = false
is_received r m (Own e ∷ older) = is_received r m older
is_received r m (Missed es ∷ older) = is_received r m older
is_received r m (Received e ∷ older) = if is_part m (last_part_of m) e.tag then is_meant r m (Received e ∷ older) else is_received r m older

-- the views of the memories of the NAME's messages of that kind, to all or to this station, whose last part was received, newest first
abbrev pub received_whole : StationSettings → ℕ → Kind → List Message → List Reception → List Shown
received_whole r n k [] path = []
received_whole r n k (m ∷ older) path =
    if (m.name == n && same_kind m.kind k) && is_received r m path then view m.kind m.memory ∷ received_whole r n k older path else received_whole r n k older path
