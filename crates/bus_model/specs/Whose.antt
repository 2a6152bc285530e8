-- Whose a frame on the wire is.
use Rattle.std.specs.Prelude.{◌≡◌, ◌⊎◌, ℕ, slice_get, Some}
use Rattle.bus_model.specs.Traffic.{Item}
use Rattle.bus_model.specs.Machine.{IsAt, Seat, Station, World}

-- a station's, under its NAME, or that of the seat with this number, under the NAME of its unit, gone or not
abbrev pub IsFromItsSeat : World → Item → Type 0
IsFromItsSeat w e =
    ((y : ℕ) × (s : Station) × IsAt w y s × (e.seat ≡ y) × (e.name ≡ s.settings.name))
    ⊎ ((x : ℕ) × (s : Seat) × (slice_get w.seats x ≡ Some s) × (e.seat ≡ s.number) × (e.name ≡ s.name))
