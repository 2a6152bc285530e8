-- What an open order does when.
use Rattle.std.specs.Prelude.{ℕ, ◌≡◌, ◌+◌, min, Bool, true, false, ◌&&◌, ◌==◌, nat_le, Option, Some, None, if◌then◌else◌}
use Rattle.can_frame.specs.declared.address.TheConstants.{GLOBAL_ADDRESS}
use Rattle.live_unit.specs.Waits.{later}
use Rattle.live_station.specs.declared.order.Order.{Order}
use Rattle.live_station.specs.declared.order.Order.TheVariants.{Ask, AskClaim, AskAll, AskAllClaims, Clear, Command}
use Rattle.live_station.specs.declared.verdict.Finding.TheVariants.{Answered, Obeyed, NoSuchUnit, Silent, LostAddress}
use Rattle.live_station.specs.declared.open.Asked.{Asked}
use Rattle.live_station.specs.declared.open.Stage.{Stage}
use Rattle.live_station.specs.declared.open.Stage.TheVariants as stage
use Rattle.live_station.specs.declared.open.OpenOrder.{OpenOrder}
use Rattle.live_station.specs.declared.open.Part.{Part}
use Rattle.live_station.specs.declared.open.Part.TheVariants.{Announcement, First, Second}
use Rattle.live_station.specs.declared.open.TheConstants.{ANSWER_WAIT, MOST_TRIES}
use Rattle.live_station.specs.declared.turn.Deed.{Deed}
use Rattle.live_station.specs.declared.turn.Deed.TheVariants as deed
use Rattle.live_station.specs.declared.turn.Outlook.{Outlook}

-- a time has come, if there is one
abbrev pub has_come : Option ℕ → ℕ → Bool
has_come None now = false
has_come (Some from) now = nat_le from now

-- to one unit: to its address; where it has none, and claims were asked for and waited for, there is no such unit
abbrev pub to_one : Option ℕ → Option ℕ → ℕ → ℕ → Deed
to_one (Some to) known_from known_by now = deed.Request to
to_one None known_from known_by now = if has_come known_from now && nat_le known_by now then deed.Ends NoSuchUnit else deed.Nothing

-- a command: it is at its end where the unit holds the address; it goes to all, once the unit is known, or claims were waited for
abbrev pub to_command : ℕ → ℕ → Option ℕ → Option ℕ → ℕ → Deed
to_command name address (Some at) known_from now = if at == address then deed.Ends Obeyed else deed.Command name address Announcement
to_command name address None known_from now = if has_come known_from now then deed.Command name address Announcement else deed.Nothing

-- by what is ordered; a clear waits for its time
abbrev pub to_go_by : Order → Outlook → ℕ → ℕ → Deed
to_go_by (Command name address) v known_by now = to_command name address v.address v.known_from now
to_go_by (AskAll kind) v known_by now = deed.Request GLOBAL_ADDRESS
to_go_by AskAllClaims v known_by now = deed.Request GLOBAL_ADDRESS
to_go_by (Clear name what) v known_by now = if nat_le v.clear_from now then to_one v.address v.known_from known_by now else deed.Nothing
to_go_by (Ask name kind) v known_by now = to_one v.address v.known_from known_by now
to_go_by (AskClaim name) v known_by now = to_one v.address v.known_from known_by now

-- it is to be written: where the station holds an address, and not a fourth time
abbrev pub to_go_from : Option ℕ → OpenOrder → Outlook → ℕ → ℕ → Deed
to_go_from None o v known_by now = deed.Ends LostAddress
to_go_from (Some own) o v known_by now = if nat_le MOST_TRIES o.tries then deed.Ends Silent else to_go_by o.order v known_by now

abbrev pub due_to_go : OpenOrder → Outlook → ℕ → ℕ → Deed
due_to_go o v known_by now = to_go_from v.held o v known_by now

-- nothing came in time: a clear and a command are silent then, anything else is written again
abbrev pub unanswered : Order → OpenOrder → Outlook → ℕ → ℕ → Deed
unanswered (Clear name what) o v until now = deed.Ends Silent
unanswered (Command name address) o v until now = deed.Ends Silent
unanswered order o v until now = due_to_go o v until now

-- the next frame of a command
abbrev pub part_due : Order → Part → Deed
part_due (Command name address) part = deed.Command name address part
part_due _ part = deed.Nothing

abbrev pub staged_due : Stage → OpenOrder → Outlook → ℕ → Deed
staged_due (stage.Waits from known_by) o v now = if nat_le from now then due_to_go o v known_by now else deed.Nothing
staged_due (stage.Commands own next) o v now = if nat_le v.packet_from now then part_due o.order next else deed.Nothing
staged_due (stage.Asked a) o v now =
    if nat_le a.until now then (if a.answered then deed.Ends Answered else unanswered o.order o v a.until now) else deed.Nothing

abbrev pub order_due : OpenOrder → Outlook → ℕ → Deed
order_due o v now = staged_due o.stage o v now

-- each time that a stage waits for has come at both times or at neither
abbrev pub StagesAlike : Stage → Outlook → ℕ → ℕ → Type 0
StagesAlike (stage.Waits from known_by) v t now = (nat_le from t ≡ nat_le from now) × (nat_le known_by t ≡ nat_le known_by now)
StagesAlike (stage.Commands own next) v t now = nat_le v.packet_from t ≡ nat_le v.packet_from now
StagesAlike (stage.Asked a) v t now = nat_le a.until t ≡ nat_le a.until now

-- ---- what was written

-- an answer is waited for
abbrev pub out_since : ℕ → ℕ → ℕ → Stage
out_since own to now =
    stage.Asked (record { own = own; to = to; at = now; until = later now ANSWER_WAIT; broadcast = false; session = false; answered = false })

abbrev pub with_request_written : ℕ → ℕ → ℕ → OpenOrder → OpenOrder
with_request_written own to now o = record o { tries = min (o.tries + 1) 255; stage = out_since own to now }

-- the next frame of a command is to be written, or its answer is waited for
abbrev pub behind_part : ℕ → Part → ℕ → Stage
behind_part own Announcement now = stage.Commands own First
behind_part own First now = stage.Commands own Second
behind_part own Second now = out_since own GLOBAL_ADDRESS now

abbrev pub with_part_written : ℕ → Part → ℕ → OpenOrder → OpenOrder
with_part_written own part now o = record o { tries = 1; stage = behind_part own part now }
