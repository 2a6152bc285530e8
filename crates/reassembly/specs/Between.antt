-- What is half joined from one address to another, for one who listens, by what is read between the two (SAE J1939-21, 5.10). The end of
-- message acknowledgment and a clear to send take nothing away: the one may be early, and what the other asks for again was read.
use Rattle.std.specs.Prelude.{ℕ, Bool, not, ◌&&◌, ◌||◌, ◌==◌, List, Option, None, if◌then◌else◌}
use Rattle.can_frame.specs.declared.address.TheConstants.{GLOBAL_ADDRESS}
use Rattle.transport.specs.declared.control.Control.{Control}
use Rattle.transport.specs.declared.control.Control.TheVariants.{Rts, Bam, Abort}
use Rattle.reassembly.specs.Partials.{PartialValue, after_packet}

-- what goes from s to e goes from a to d
abbrev pub is_pair : ℕ → ℕ → ℕ → ℕ → Bool
is_pair a d s e = s == a && e == d

-- after a message of connection management from s to e, where an announcement of this size and group begins this: a Bam announces a message
-- to all, an Rts one to a single address, and each takes the place of what there was; an abort by either of the two ends a session
abbrev pub managed : {T : Type 0} → (ℕ → ℕ → Option (PartialValue T)) → (a d s e : ℕ) → Control → Option (PartialValue T) → Option (PartialValue T)
managed begin a d s e (Bam size packets pgn) before = if is_pair a d s e && d == GLOBAL_ADDRESS then begin size pgn else before
managed begin a d s e (Rts size packets most pgn) before = if is_pair a d s e && not (d == GLOBAL_ADDRESS) then begin size pgn else before
managed begin a d s e (Abort reason pgn) before = if (is_pair a d s e || is_pair d a s e) && not (d == GLOBAL_ADDRESS) then None else before
managed begin a d s e message before = before

-- after a packet from s to e: the next one adds its piece, and any other ends the message
abbrev pub packeted : {T : Type 0} → (a d s e : ℕ) → List ℕ → Option (PartialValue T) → Option (PartialValue T)
packeted a d s e bytes before = if is_pair a d s e then after_packet bytes before else before
