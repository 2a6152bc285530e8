-- What some parts of a frame say in words.
use Rattle.std.specs.Prelude.{ℕ, ◌==◌, if◌then◌else◌, Option, None, Some, List, ◌++◌, codes}
use Rattle.std.specs.Fmt.{decimal}
use Rattle.candump_line.specs.declared.line.Foreign.{Foreign as AnyForeign}
use Rattle.candump_line.specs.declared.line.Foreign.TheVariants.{StandardId, Remote, Fd, Error}
use Rattle.name_field.specs.declared.NameFields.{NameFields}

-- the name of a message that is lamps and codes, by the number of its group (SAE J1939-73; those from DM12 on from memory)
abbrev pub list_text : ℕ → Option (List ℕ)
list_text pgn =
    if pgn == 65226 then Some (codes "DM1")
    else if pgn == 65227 then Some (codes "DM2")
    else if pgn == 65231 then Some (codes "DM6")
    else if pgn == 65236 then Some (codes "DM12")
    else if pgn == 64949 then Some (codes "DM23")
    else if pgn == 64896 then Some (codes "DM28")
    else None

-- what a frame is that is none of SAE J1939
abbrev pub foreign_text : AnyForeign → List ℕ
foreign_text StandardId = codes "11-bit identifier"
foreign_text Remote = codes "remote frame"
foreign_text Fd = codes "CAN FD frame"
foreign_text Error = codes "error frame"

-- why a session was aborted (SAE J1939-21, 5.10.3, from memory); of other numbers nothing is known
abbrev pub abort_text : ℕ → Option (List ℕ)
abort_text reason =
    if reason == 1 then Some (codes "already in another session")
    else if reason == 2 then Some (codes "resources needed elsewhere")
    else if reason == 3 then Some (codes "timeout")
    else if reason == 4 then Some (codes "CTS while sending")
    else if reason == 5 then Some (codes "too many retransmissions")
    else if reason == 6 then Some (codes "unexpected packet")
    else if reason == 7 then Some (codes "bad sequence number")
    else if reason == 8 then Some (codes "duplicate sequence number")
    else if reason == 9 then Some (codes "message too long")
    else None

-- the fields of a NAME that tell what the unit does (SAE J1939-81)
abbrev pub function_text : NameFields → List ℕ
function_text f = codes ", function " ++ decimal f.function ++ codes "." ++ decimal f.function_instance ++ codes ", ECU " ++ decimal f.ecu_instance
