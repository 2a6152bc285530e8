-- What a carry with this answer does.
use Rattle.std.specs.Prelude.{◌≡◌}
use Rattle.bus_ledger.specs.Carrying.{IsIdle, IsWaiting, IsChoice}
use Rattle.bus_ledger.specs.declared.traffic.Carried.{Carried}
use Rattle.bus_ledger.specs.declared.traffic.Carried.TheVariants.{Frame, Idle, Waiting}
use Rattle.journal.specs.declared.event.Event.TheVariants.{Carry}
use Rattle.journal.specs.Journal.{GarageValue, Adds, state_of}

-- a frame adds the event; where no queue has a frame, or no seat among them has heard the whole wire, nothing changes
abbrev pub AddsCarry : GarageValue → Carried → GarageValue → Type 0
AddsCarry old (Frame seat frame) new = IsChoice (state_of old).traffic (Frame seat frame) × Adds old (Carry seat) new
AddsCarry old Idle new = IsIdle (state_of old).traffic × (new ≡ old)
AddsCarry old Waiting new = IsWaiting (state_of old).traffic × (new ≡ old)
