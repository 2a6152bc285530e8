-- The places of a queue: each holds one frame, or some parts of one message.
use Rattle.std.specs.Prelude.{ℕ, Bool, ◌≡◌, ◌<◌, List, [], ◌∷◌, length}
use Rattle.std.specs.List.{flat_map}
use Rattle.bus_ledger.specs.declared.traffic.QueuedFrame.{QueuedFrame}
use Rattle.bus_ledger.specs.declared.queued.Queued.{Queued}
use Rattle.bus_ledger.specs.declared.queued.TheConstants.{NO_FRONT}
use Rattle.bus_ledger.specs.declared.queued.Queued.TheVariants.{One, Many}
use Rattle.bus_ledger.specs.Changes.{is_in_session, run_frames}

-- the frames that a place holds
abbrev pub frames_at : Queued → List QueuedFrame
frames_at (One q) = q ∷ []
frames_at (Many run message session) = run_frames message session run

-- the frames of a queue: those of its places, one after another
abbrev pub frames_in : List Queued → List QueuedFrame
frames_in places = flat_map frames_at places

-- a place holds at least one frame
abbrev pub IsFilled : Queued → Type 0
IsFilled place = 0 < length (frames_at place)

-- the number of the identifier of the first of these frames, or NO_FRONT where there is none
abbrev pub IsFront : ℕ → List QueuedFrame → Type 0
IsFront n [] = n ≡ NO_FRONT
IsFront n (q ∷ qs) = (n ≡ q.frame.id) × (n < NO_FRONT)

-- whether the frames of a place are tagged as part of a session
abbrev pub is_session_place : Queued → Bool
is_session_place (One q) = is_in_session q
is_session_place (Many run message session) = session
