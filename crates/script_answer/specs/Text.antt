-- The line that answers a command of a script.
use Rattle.std.specs.Prelude.{ℕ, List, [], ◌++◌, Option, Some, None, Result, Ok, Err, codes}
use Rattle.std.specs.Fmt.{decimal}
use Rattle.can_frame.specs.FrameText.{frame_text}
use Rattle.can_frame.specs.FrameValue.{FrameValue}
use Rattle.bus_ledger.specs.declared.traffic.Counts.{Counts}
use Rattle.entry_lists.specs.declared.row.AckSeen.{AckSeen}
use Rattle.entry_lists.specs.declared.row.Row.{Row}
use Rattle.script_answer.specs.Refused.{refusal_text}
use Rattle.script_answer.specs.declared.refusal.Refusal.{Refusal}
use Rattle.script_answer.specs.declared.answer.End.{End}
use Rattle.script_answer.specs.declared.answer.End.TheVariants.{Idle, Waiting}
use Rattle.script_answer.specs.declared.answer.LineAnswer.{LineAnswer}
use Rattle.script_answer.specs.declared.answer.LineAnswer.TheVariants as answer

-- a number between two texts
abbrev pub between_text : List ℕ → ℕ → List ℕ → List ℕ
between_text before n behind = before ++ decimal n ++ behind

-- why carrying ended, behind the number of frames
abbrev pub end_text : Option End → List ℕ
end_text None = codes "\n"
end_text (Some Idle) = codes " idle\n"
end_text (Some Waiting) = codes " waiting\n"

abbrev pub holder_text : Option ℕ → List ℕ
holder_text None = codes "none"
holder_text (Some a) = decimal a

-- the control byte and the group of an acknowledgment
abbrev pub ack_text : Option AckSeen → List ℕ
ack_text None = codes " ack none"
ack_text (Some a) = codes " ack " ++ decimal a.control ++ codes " " ++ decimal a.pgn

-- what the station knows of a NAME
abbrev pub known_text : Option Row → List ℕ
known_text None = codes "row unknown\n"
known_text (Some r) = codes "row " ++ holder_text r.address ++ ack_text r.ack ++ codes "\n"

abbrev pub counts_text : Counts → List ℕ
counts_text c = codes "counts " ++ decimal c.queued ++ codes " " ++ decimal c.carried
    ++ codes " " ++ decimal c.withdrawn ++ codes " " ++ decimal c.waiting ++ codes "\n"

abbrev pub wire_text : Option FrameValue → List ℕ
wire_text None = codes "no frame\n"
wire_text (Some f) = frame_text f ++ codes "\n"

-- what a command gave
abbrev pub given_text : LineAnswer → List ℕ
given_text answer.Done = codes "ok\n"
given_text (answer.Seat n) = between_text (codes "seat ") n (codes "\n")
given_text (answer.Heard n) = between_text (codes "heard ") n (codes "\n")
given_text answer.Begun = codes "begun\n"
given_text answer.Held = codes "held\n"
given_text (answer.Carried n end) = between_text (codes "carried ") n (end_text end)
given_text (answer.Read n) = between_text (codes "read ") n (codes "\n")
given_text (answer.Row row) = known_text row
given_text (answer.Counts c) = counts_text c
given_text (answer.Stats missed unread) = between_text (codes "missed ") missed (between_text (codes " unread ") unread (codes "\n"))
given_text (answer.Injected n) = between_text (codes "injected ") n (codes "\n")
given_text (answer.Frame f) = wire_text f

-- the line of a command, carried out or not
abbrev pub answer_text : Result LineAnswer Refusal → List ℕ
answer_text (Ok given) = given_text given
answer_text (Err refusal) = refusal_text refusal
