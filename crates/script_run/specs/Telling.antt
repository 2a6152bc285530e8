-- What `check` and `log` tell of the lines that are refused, and the wire that `log` writes.
use Rattle.std.specs.Prelude.{◌≡◌, ◌≢◌, ◌⊎◌, ℕ, ◌+◌, ◌*◌, ◌-◌, ◌^◌, nat_lt, if◌then◌else◌, Bool, true, false, List, [], ◌∷◌, ◌++◌, codes, map, take, Option, Some, None, is_some, MatchOption, option_and_then, ◌≤◌, Ok, Err, slice_get}
use Rattle.std.specs.Fmt.{decimal}
use Rattle.std.specs.Str.Parse.{digits_value, without_leading_plus}
use Rattle.bus_model.specs.Heard.{counted}
use Rattle.can_frame.specs.FrameValue.{FrameValue}
use Rattle.candump_line.specs.LineText.{line_text}
use Rattle.journal.specs.Journal.{GarageValue, state_of}
use Rattle.script_answer.specs.Refused.{refusal_words}
use Rattle.script_answer.specs.declared.answer.LineAnswer.TheVariants.{Seat}
use Rattle.script_answer.specs.declared.refusal.Refusal.{Refusal}
use Rattle.script_answer.specs.declared.refusal.Refusal.TheVariants.{BadLine, NoSeat}
use Rattle.script_line.specs.Grammar.{line_spelled}
use Rattle.script_line.specs.Line.{script_words}
use Rattle.script_line.specs.Reasons.{reason_text}
use Rattle.script_line.specs.Spelled.{number_below}
use Rattle.script_line.specs.declared.command.ScriptLine.{ScriptLine}
use Rattle.script_line.specs.declared.reasons.LineReason.{LineReason}
use Rattle.script_run.specs.Lines.{Answered, AnswersLine, LineTold, Showed, Silent}
use Rattle.script_run.specs.declared.line_reporter.LineForm.{LineForm}
use Rattle.script_run.specs.declared.line_reporter.LineForm.TheVariants as form
use Rattle.script_run.specs.declared.wire.Wire.{Wire}

-- ---- a line that is refused

-- why a line is refused
abbrev pub refusal_told : LineTold → Option Refusal
refusal_told Silent = None
refusal_told (Showed text) = None
refusal_told (Answered (Ok a)) = None
refusal_told (Answered (Err r)) = Some r

-- how many seats were given, with this line, counted as far as 64 bits go
abbrev pub seats_with : LineTold → ℕ → ℕ
seats_with (Answered (Ok (Seat k))) n = counted (n + 1)
seats_with _ n = n

-- a command that cannot be given where it stands: one before there is a garage, one of a station that is not there, or a second garage
abbrev pub misplaced_text : Bool → ℕ → List ℕ
misplaced_text false station = codes "no garage yet: it comes first"
misplaced_text true station = if nat_lt 0 station then codes "no station " ++ decimal station else codes "there is a garage already"

-- words that are no command, for one of the reasons that there are; or a command that cannot be given
abbrev pub bad_line_text : Option LineReason → Option ScriptLine → Bool → List ℕ
bad_line_text why (Some l) had = misplaced_text had l.station
bad_line_text (Some why) None had = reason_text why
bad_line_text None None had = codes "bad line"

-- the seat that a line names: its second word
abbrev pub seat_named : List ℕ → Option ℕ
seat_named line = option_and_then (number_below (2 ^ 32)) (slice_get (script_words line) 1)

abbrev pub no_seat_text : Option ℕ → ℕ → List ℕ
no_seat_text None seats = codes "no seat"
no_seat_text (Some k) seats = codes "no seat " ++ decimal k ++ codes "; seats given so far: " ++ decimal seats

-- why a line is refused, before which there was a garage or none, and so many seats were given
abbrev pub why_text : Option LineReason → List ℕ → Bool → ℕ → Refusal → List ℕ
why_text why line had seats BadLine = bad_line_text why (line_spelled line) had
why_text why line had seats NoSeat = no_seat_text (seat_named line) seats
why_text why line had seats r = refusal_words r

-- how a refused line is told: `log` tells its number and its answer, `check` its number and why it is refused
abbrev pub refused_text : LineForm → ℕ → ℕ → List ℕ → Bool → Option LineReason → Refusal → List ℕ
refused_text form.Answer number seats line had why r = codes "line " ++ decimal number ++ codes ": " ++ refusal_words r ++ codes "\n"
refused_text form.Reason number seats line had why r = decimal number ++ codes ": " ++ why_text why line had seats r ++ codes "\n"

-- of a line that is not refused nothing is told; where words are no command, the reason is one of those that there are
abbrev pub TellsOf : LineForm → ℕ → ℕ → List ℕ → Bool → Option Refusal → List ℕ → Type 0
TellsOf how number seats line had None text = text ≡ []
TellsOf how number seats line had (Some r) text = (why : Option LineReason) × (text ≡ refused_text how number seats line had why r)

-- whether lines were refused, with one more
abbrev pub refused_with : Option Refusal → Bool → Bool
refused_with None had = had
refused_with (Some r) had = true

-- ---- a script

-- lines were carried out one after another, each once, and of those that were refused this was told, in their order; so many lines
-- and so many seats were before
unfoldable pub TellsAll : LineForm → ℕ → ℕ → List (List ℕ) → Option GarageValue → List ℕ → Option GarageValue → Type 0
TellsAll how before seats [] s text s' = (text ≡ []) × (s' ≡ s)
TellsAll how before seats (line ∷ lines) s text s' = (told : LineTold) × (t : Option GarageValue) × (first : List ℕ) × (rest : List ℕ)
    × (text ≡ first ++ rest) × AnswersLine line s told t × TellsOf how (counted (before + 1)) (seats_with told seats) line (is_some s) (refusal_told told) first
    × TellsAll how (counted (before + 1)) (seats_with told seats) lines t rest s'

-- a whole script was carried out, and P holds of what was told and of the garage where its lines lead
abbrev pub IsCarriedOut : LineForm → List (List ℕ) → (List ℕ → Option GarageValue → Type 0) → Type 0
IsCarriedOut how lines P = (text : List ℕ) × (s : Option GarageValue) × TellsAll how 0 0 lines None text s × P text s

-- something was told, just where lines were refused
abbrev pub IsToldIf : Bool → List ℕ → Type 0
IsToldIf refused told = ((told ≡ []) × (refused ≡ false)) ⊎ ((told ≢ []) × (refused ≡ true))

-- ---- the wire

-- the bus and the period that the words behind `log` ask for: `can0` where they name no bus, 540 microseconds where they name no period
abbrev pub IsWire : Option (List ℕ) → Option (List ℕ) → List ℕ → ℕ → Type 0
IsWire asked spelled bus period = MatchOption asked (bus ≡ codes "can0") (λ b. bus ≡ b)
    × MatchOption spelled (period ≡ 540) (λ w. (period ≡ digits_value 10 (without_leading_plus w)) × (1 ≤ period) × (period ≤ 1000000))

-- frames as the lines of a log, the first of which has this number: frame I stands at I periods
unfoldable pub log_from : List ℕ → ℕ → ℕ → List FrameValue → List ℕ
log_from bus period i [] = []
log_from bus period i (f ∷ fs) = (line_text (i * period) bus f ++ 10 ∷ []) ++ log_from bus period (i + 1) fs

-- the frames of a garage's wire, at most 2^32 - 1
abbrev pub wire_frames : GarageValue → List FrameValue
wire_frames g = take (2 ^ 32 - 1) (map (λ c. c.frame) (state_of g).traffic.wire)

abbrev pub wire_log : List ℕ → ℕ → GarageValue → List ℕ
wire_log bus period g = log_from bus period 0 (wire_frames g)

-- the wire of the garage that a script leads to, where it leads to one
abbrev pub script_log : List ℕ → ℕ → Option GarageValue → List ℕ
script_log bus period None = []
script_log bus period (Some g) = wire_log bus period g

abbrev pub asked_log : Option Wire → Option GarageValue → List ℕ
asked_log None s = []
asked_log (Some w) s = script_log w.bus.now w.period s
