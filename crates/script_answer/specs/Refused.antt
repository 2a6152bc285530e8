-- The line that tells why a command was not carried out: the number and the name of the refusal.
use Rattle.std.specs.Prelude.{ℕ, List, [], ◌++◌, Option, Some, None, codes}
use Rattle.std.specs.Fmt.{decimal}
use Rattle.can_frame.specs.Refusals.{frame_error_number}
use Rattle.can_frame.specs.declared.frame.FrameError.{FrameError}
use Rattle.can_frame.specs.declared.frame.FrameError.TheVariants as frame
use Rattle.fault_memory.specs.FaultRefusals.{fault_error_number}
use Rattle.fault_memory.specs.declared.error.FaultError.{FaultError}
use Rattle.fault_memory.specs.declared.error.FaultError.TheVariants as fault
use Rattle.garage.specs.Refusals.{garage_error_number}
use Rattle.garage.specs.declared.error.GarageError.{GarageError}
use Rattle.garage.specs.declared.error.GarageError.TheVariants as garage
use Rattle.name_field.specs.NameError.{name_error_number}
use Rattle.name_field.specs.declared.error.NameError.{NameError}
use Rattle.name_field.specs.declared.error.NameError.TheVariants as name
use Rattle.script_answer.specs.declared.refusal.Refusal.{Refusal}
use Rattle.script_answer.specs.declared.refusal.Refusal.TheVariants.{BadLine, NoSeat, Name, Pgn, Frame, Fault, Garage}

abbrev pub name_word : NameError → List ℕ
name_word name.FieldTooLarge = codes "FieldTooLarge"
name_word name.BadName = codes "BadName"

abbrev pub frame_word : FrameError → List ℕ
frame_word frame.IdTooLarge = codes "IdTooLarge"
frame_word frame.TooLong = codes "TooLong"

abbrev pub fault_word : FaultError → List ℕ
fault_word fault.OutOfMemory = codes "OutOfMemory"
fault_word fault.SpnTooLarge = codes "SpnTooLarge"
fault_word fault.FmiTooLarge = codes "FmiTooLarge"
fault_word fault.Full = codes "Full"
fault_word fault.NotActive = codes "NotActive"
fault_word fault.NotPending = codes "NotPending"

abbrev pub garage_word : GarageError → List ℕ
garage_word garage.OutOfMemory = codes "OutOfMemory"
garage_word garage.NotAnAddress = codes "NotAnAddress"
garage_word garage.NoAddress = codes "NoAddress"
garage_word garage.NotHeld = codes "NotHeld"
garage_word garage.NameInUse = codes "NameInUse"
garage_word garage.TooManySeats = codes "TooManySeats"
garage_word garage.BookFull = codes "BookFull"
garage_word garage.BadSetting = codes "BadSetting"
garage_word garage.Stranger = codes "Stranger"
garage_word garage.Unclaimed = codes "Unclaimed"

-- a line that is no command, or whose seat has no unit, has no number
abbrev pub refusal_number : Refusal → Option ℕ
refusal_number BadLine = None
refusal_number NoSeat = None
refusal_number (Name e) = Some (name_error_number e)
refusal_number (Pgn e) = Some 28
refusal_number (Frame e) = Some (frame_error_number e)
refusal_number (Fault e) = Some (fault_error_number e)
refusal_number (Garage e) = Some (garage_error_number e)

abbrev pub refusal_word : Refusal → List ℕ
refusal_word BadLine = codes "bad line"
refusal_word NoSeat = codes "no seat"
refusal_word (Name e) = name_word e
refusal_word (Pgn e) = codes "PgnTooLarge"
refusal_word (Frame e) = frame_word e
refusal_word (Fault e) = fault_word e
refusal_word (Garage e) = garage_word e

abbrev pub numbered_text : Option ℕ → List ℕ
numbered_text None = []
numbered_text (Some n) = codes "refused " ++ decimal n ++ codes " "

abbrev pub refusal_text : Refusal → List ℕ
refusal_text r = numbered_text (refusal_number r) ++ refusal_word r ++ codes "\n"

-- the same without the line's end
abbrev pub refusal_words : Refusal → List ℕ
refusal_words r = numbered_text (refusal_number r) ++ refusal_word r
