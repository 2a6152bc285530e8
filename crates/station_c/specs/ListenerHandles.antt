-- What the handle of a C program holds of its listener, before and after a call.
use Rattle.std.specs.Prelude.{◌≡◌, List, Bool, true}
use Rattle.can_frame.specs.declared.reading.Reading.{Reading}
use Rattle.station_c.specs.Held.{is_there}
use Rattle.station_c.specs.ListedListeners.{HasHeard}
use Rattle.station_c.specs.declared.listener_handle.ListenerHandle.{ListenerHandle}

-- it has a listener: its pointer is not null, whatever its flag says
abbrev pub has_listener : ListenerHandle → Bool
has_listener handle = is_there handle.at

-- it holds what it held: none, or the same listener with the same lists
abbrev pub HoldsSameListener : ListenerHandle → ListenerHandle → Type 0
HoldsSameListener before after = (has_listener after ≡ has_listener before) × (has_listener before ≡ true → after.value ≡ before.value)

-- it holds a listener that has what was overheard of these readings
abbrev pub HoldsHeard : ListenerHandle → List Reading → Type 0
HoldsHeard handle h = (has_listener handle ≡ true) × HasHeard handle.value h
