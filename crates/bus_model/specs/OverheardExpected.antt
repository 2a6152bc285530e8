-- Which of the messages begun a listener is to list, who takes no part on the bus: those that it read whole on a clear path, whoever they went to.
use Rattle.std.specs.Prelude.{◌≡◌, ℕ, Bool, false, not, ◌&&◌, ◌==◌, List, [], ◌∷◌, ◌++◌, if◌then◌else◌}
use Rattle.can_frame.specs.declared.address.TheConstants.{GLOBAL_ADDRESS}
use Rattle.dm_messages.specs.View.{view, same_kind}
use Rattle.dm_messages.specs.declared.kind.Kind.{Kind}
use Rattle.parameter_group.specs.Group.{Group, ConnectionManagement}
use Rattle.transport.specs.declared.control.Control.TheVariants.{Abort}
use Rattle.bus_model.specs.Expected.{Reception, Own, Received, Missed, is_anchored, is_part, passed}
use Rattle.bus_model.specs.Messages.{IsAmong, Message, last_part_of}
use Rattle.bus_model.specs.Overheard.{EntrySent}
use Rattle.bus_model.specs.Traffic.{Item, says}

-- no frame is its own
abbrev pub NoneOwn : List Reception → Type 0
NoneOwn [] = Unit {0}
NoneOwn (Own e ∷ older) = ⊥
NoneOwn (Received e ∷ older) = NoneOwn older
NoneOwn (Missed es ∷ older) = NoneOwn older

-- what became of frames carried at a listener: it read or missed each of them, from some one on up to some later one, and sent none
pub record IsPathOfListener (wire : List Item) (path : List Reception) : Type 0 where
  pub later : List Item
  pub before : List Item
  pub along : wire ≡ later ++ (passed path ++ before)
  pub none_own : NoneOwn path

-- who is to receive the session ends it (SAE J1939-21)
abbrev pub is_aborted : Message → Group → Bool
is_aborted m (ConnectionManagement s d (Abort reason pgn)) = not (m.destination == GLOBAL_ADDRESS) && (s == m.destination && d == m.source)
is_aborted m _ = false

-- back to the message's first part nothing was missed, nor from there to the last claim of its source; and its receiver did not end it
abbrev pub is_read_back : Message → List Reception → Bool
is_read_back m [] = false
is_read_back m (Own e ∷ older) = is_read_back m older
is_read_back m (Missed es ∷ older) = false
is_read_back m (Received e ∷ older) =
    if is_part m 0 e.tag then is_anchored m.source older else (not (is_aborted m (says e)) && is_read_back m older)

-- the message came to the listener on a clear path
abbrev pub is_overheard : Message → List Reception → Bool
is_overheard m [] = false
is_overheard m (Own e ∷ older) = is_overheard m older
is_overheard m (Missed es ∷ older) = is_overheard m older
is_overheard m (Received e ∷ older) = if is_part m (last_part_of m) e.tag then is_read_back m (Received e ∷ older) else is_overheard m older

-- the entry of a message: where it went, and the view of the memory with which it began
abbrev pub entry_of : Message → EntrySent
entry_of m = record { to = m.destination; shown = view m.kind m.memory }

-- the entries of those messages that came, newest first
abbrev pub entries_of_messages : (Message → Bool) → List Message → List EntrySent
entries_of_messages came [] = []
entries_of_messages came (m ∷ older) = if came m then entry_of m ∷ entries_of_messages came older else entries_of_messages came older

-- a message of the NAME and of that kind that came on a clear path
abbrev pub is_to_list : ℕ → Kind → List Reception → Message → Bool
is_to_list n k path m = (m.name == n && same_kind m.kind k) && is_overheard m path

-- the entries of all of them, newest first
abbrev pub expected_overheard : ℕ → Kind → List Message → List Reception → List EntrySent
expected_overheard n k begun path = entries_of_messages (is_to_list n k path) begun

-- ---- what was sent

-- the entry is that of a message of the kind that was begun
abbrev pub IsSent : Kind → List Message → EntrySent → Type 0
IsSent k begun e = (m : Message) × IsAmong m begun × (m.kind ≡ k) × (e ≡ entry_of m)

-- each of these entries is
abbrev pub AreSent : Kind → List Message → List EntrySent → Type 0
AreSent k begun [] = Unit {0}
AreSent k begun (e ∷ entries) = IsSent k begun e × AreSent k begun entries
