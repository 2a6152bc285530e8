-- What a listener is to list that missed nothing from the first frame on.
use Rattle.std.specs.Prelude.{ℕ, Bool, true, false, not, ◌&&◌, ◌==◌, List, [], ◌∷◌, if◌then◌else◌}
use Rattle.dm_messages.specs.View.{same_kind}
use Rattle.dm_messages.specs.declared.kind.Kind.{Kind}
use Rattle.bus_model.specs.Expected.{Reception, Own, Received, Missed, is_part}
use Rattle.bus_model.specs.Messages.{Message, last_part_of}
use Rattle.bus_model.specs.Overheard.{EntrySent}
use Rattle.bus_model.specs.OverheardExpected.{entries_of_messages, is_aborted}
use Rattle.bus_model.specs.Traffic.{says}

-- back to the message's first part its receiver did not abort it
abbrev pub is_unaborted : Message → List Reception → Bool
is_unaborted m [] = false
is_unaborted m (Own e ∷ older) = is_unaborted m older
is_unaborted m (Missed es ∷ older) = is_unaborted m older
is_unaborted m (Received e ∷ older) = if is_part m 0 e.tag then true else (not (is_aborted m (says e)) && is_unaborted m older)

-- its last part was read
abbrev pub is_read_whole : Message → List Reception → Bool
is_read_whole m [] = false
is_read_whole m (Own e ∷ older) = is_read_whole m older
is_read_whole m (Missed es ∷ older) = is_read_whole m older
is_read_whole m (Received e ∷ older) = if is_part m (last_part_of m) e.tag then is_unaborted m (Received e ∷ older) else is_read_whole m older

-- the entries of the NAME's messages of that kind whose last part was read, newest first
abbrev pub overheard_whole : ℕ → Kind → List Message → List Reception → List EntrySent
overheard_whole n k begun path = entries_of_messages (λ m. (m.name == n && same_kind m.kind k) && is_read_whole m path) begun
