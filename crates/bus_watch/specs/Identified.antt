-- What units tell of themselves: vehicle, component, software and ECU identification (groups 65260, 65259, 65242 and 64965; SAE J1939-71 and -73,
-- from memory). It comes in one frame, or in packets between any two addresses, which are joined as those of diagnostic messages are
-- (SAE J1939-21, 5.10).
use Rattle.std.specs.Prelude.{ℕ, Bool, true, false, ◌==◌, ◌&&◌, ◌||◌, List, [], ◌∷◌, ◌++◌, Option, Some, None, if◌then◌else◌, length, nat_lt, slice_get, slice_set, take}
use Rattle.std.specs.List.{position}
use Rattle.bus_model.specs.Overheard.{same_who}
use Rattle.bus_model.specs.declared.who.Who.{Who}
use Rattle.can_frame.specs.Fields.{pgn_of, source_of}
use Rattle.can_frame.specs.FrameValue.{FrameValue}
use Rattle.can_frame.specs.declared.address.TheConstants.{GLOBAL_ADDRESS}
use Rattle.can_frame.specs.declared.reading.Reading.{Reading}
use Rattle.can_frame.specs.declared.reading.Reading.TheVariants as reading
use Rattle.candump_line.specs.declared.line.Line.{Line}
use Rattle.candump_line.specs.declared.line.Line.TheVariants as line
use Rattle.dm_words.specs.Identification.{identification_of, identification_text}
use Rattle.dm_words.specs.declared.identification.Identification.{Identification}
use Rattle.dm_words.specs.declared.identification.Identification.TheVariants.{Vehicle, Component, Software, Unit}
use Rattle.parameter_group.specs.Group.{AddressClaimed, ConnectionManagement, DataTransfer, Group, Other, group_of}
use Rattle.reassembly.specs.Pacing.{fate_of}
use Rattle.reassembly.specs.Pairs.{no_pairs, pair_at, with_pair}
use Rattle.reassembly.specs.Partials.{PartialValue, after_packet, begun, is_whole, took_by, with_packet}
use Rattle.reassembly.specs.Tables.{empty_table}
use Rattle.reassembly.specs.declared.paces.Fate.{Fate}
use Rattle.reassembly.specs.declared.paces.Fate.TheVariants as fates
use Rattle.reassembly.specs.declared.pacing.Pace.{Pace}
use Rattle.reassembly.specs.declared.pacing.Silence.{Silence}
use Rattle.transport.specs.Pieces.{joined}
use Rattle.transport.specs.declared.control.Control.{Control}
use Rattle.transport.specs.declared.control.Control.TheVariants.{Abort, Bam, Rts}
use Rattle.bus_watch.specs.Followed.{Followed, is_watched, may_be_watched}
use Rattle.bus_watch.specs.Runs.{is_of_name, is_of_unit, is_shown_at, is_shown_of, is_shown_to, time_after}
use Rattle.bus_watch.specs.declared.selection.Selection.{Selection}
use Rattle.bus_watch.specs.declared.teller.Teller.{Teller}
use Rattle.bus_watch.specs.declared.text_list.TheConstants.{MOST_TEXTS}
use Rattle.bus_watch.specs.declared.text_list.UnitText.{UnitText}
use Rattle.bus_watch.specs.declared.told_text.TheConstants.{MOST_TEXT}
use Rattle.bus_watch.specs.declared.watch.identified.AnnouncedText.{AnnouncedText}
use Rattle.bus_watch.specs.declared.watch.identified.TextPacket.{TextPacket}

-- ---- what is kept

-- a message of which some packets were read; its tag is whose it is, and which identification
abbrev pub HalfTold : Type 0
HalfTold = PartialValue Teller

-- what is half read from each source to each destination; and the text of each unit and identification, in the order of the first ones
pub record IdentifiedValue : Type 0 where
  pub half : List (List (Option HalfTold))
  pub kept : List UnitText

abbrev pub none_identified : IdentifiedValue
none_identified = record { half = no_pairs; kept = [] }

-- without a table nothing is half read
abbrev pub halves_of : Option (List (List (Option HalfTold))) → List (List (Option HalfTold))
halves_of None = no_pairs
halves_of (Some half) = half

-- what goes on when a watch starts over
abbrev pub identified_anew : IdentifiedValue → IdentifiedValue
identified_anew v = record { half = no_pairs; kept = v.kept }

-- the VIN that a payload has: what stands before the first `*`, or before the first byte that is not used
abbrev pub ends_vin : ℕ → Bool
ends_vin b = b == 42 || b == 255

abbrev pub front_length : Option ℕ → ℕ → ℕ
front_length None whole = whole
front_length (Some place) whole = place

abbrev pub vin_in : List ℕ → List ℕ
vin_in bytes = take (front_length (position ends_vin bytes) (length bytes)) bytes

-- the text that a payload has: a VIN, or fields with a `*` between; of more than 201 bytes the front
abbrev pub whole_text : Identification → List ℕ → List ℕ
whole_text Vehicle bytes = vin_in bytes
whole_text what bytes = identification_text what bytes

abbrev pub text_of : Identification → List ℕ → List ℕ
text_of what bytes = take MOST_TEXT (whole_text what bytes)

-- the same unit, and the same identification
abbrev pub same_what : Identification → Identification → Bool
same_what Vehicle Vehicle = true
same_what Component Component = true
same_what Software Software = true
same_what Unit Unit = true
same_what _ _ = false

abbrev pub same_teller : Teller → Teller → Bool
same_teller a b = same_who a.who b.who && same_what a.what b.what

-- a unit's text of an identification, in the place of the one before; of the first 1,024 that were told
abbrev pub is_text_of : Teller → UnitText → Bool
is_text_of t u = same_teller u.teller t

abbrev pub with_text_at : Option ℕ → Teller → List ℕ → List UnitText → List UnitText
with_text_at (Some place) t text units = slice_set units place (record { teller = t; text = text })
with_text_at None t text units = if nat_lt (length units) MOST_TEXTS then units ++ record { teller = t; text = text } ∷ [] else units

abbrev pub with_text : Teller → List ℕ → List UnitText → List UnitText
with_text t text units = with_text_at (position (is_text_of t) units) t text units

-- one without characters tells none
abbrev pub with_told : Teller → List ℕ → List UnitText → List UnitText
with_told t [] units = units
with_told t (b ∷ text) units = with_text t (b ∷ text) units

-- the text of a unit's identification, empty where it told none
abbrev pub text_there : Option UnitText → List ℕ
text_there None = []
text_there (Some u) = u.text

abbrev pub text_in_place : Option ℕ → List UnitText → List ℕ
text_in_place None units = []
text_in_place (Some place) units = text_there (slice_get units place)

abbrev pub text_under : Teller → List UnitText → List ℕ
text_under t units = text_in_place (position (is_text_of t) units) units

abbrev pub teller_there : Option UnitText → Option Teller
teller_there None = None
teller_there (Some u) = Some u.teller

-- the unit of the text at a place, where none before is of that unit
abbrev pub is_text_by : Who → UnitText → Bool
is_text_by who u = same_who u.teller.who who

abbrev pub is_place : Option ℕ → ℕ → Bool
is_place None place = false
is_place (Some first) place = first == place

abbrev pub first_unit : ℕ → Option UnitText → List UnitText → Option Who
first_unit place None units = None
first_unit place (Some u) units = if is_place (position (is_text_by u.teller.who) units) place then Some u.teller.who else None

-- ---- a frame

-- what is known where one comes: which messages are shown, its time, the time of the newest line up to it, how long a message may be silent,
-- how messages stand between any two addresses, and whose a message is that begins at its source
pub record Coming : Type 0 where
  pub selection : Selection
  pub now : Option ℕ
  pub newest : Option ℕ
  pub silence : Silence
  pub packets : List (List (Option Pace))
  pub who : Who

-- an identification is shown where an entry of codes of the same unit is, that went to the same address
abbrev pub is_text_shown : Selection → Option ℕ → Who → ℕ → ℕ → Bool
is_text_shown s newest who source to =
    ((is_shown_of s.unclaimed who && is_shown_to s.address to) && is_of_unit s.unit who source) && is_shown_at s.from s.to newest

-- a payload was read whole
abbrev pub payload_told : Coming → Teller → ℕ → ℕ → List ℕ → IdentifiedValue → IdentifiedValue
payload_told c t source to bytes v =
    (if is_text_shown c.selection c.newest t.who source to then record v { kept = with_told t (text_of t.what bytes) v.kept } else v)

-- in one frame
abbrev pub frame_identified : Option Identification → Coming → FrameValue → IdentifiedValue → IdentifiedValue
frame_identified None c f v = v
frame_identified (Some what) c f v = payload_told c (record { who = c.who; what = what }) (source_of f.id) GLOBAL_ADDRESS f.bytes v

-- an announcement begins a message of whoever owns its source, in the place of what was half read; an abort by either address ends one, but
-- none to all
abbrev pub newly_told : Option Identification → ℕ → Who → Option HalfTold
newly_told None size who = None
newly_told (Some what) size who = Some (begun (record { who = who; what = what }) size)

-- which one, and of which size, where one is announced to this address
abbrev pub announced_by : Option Identification → ℕ → ℕ → Option AnnouncedText
announced_by None size pgn = None
announced_by (Some what) size pgn = Some (record { size = size; pgn = pgn; what = what })

abbrev pub text_announced : ℕ → Control → Option AnnouncedText
text_announced d (Bam size packets pgn) = if d == GLOBAL_ADDRESS then announced_by (identification_of pgn) size pgn else None
text_announced d (Rts size packets most pgn) = if d == GLOBAL_ADDRESS then None else announced_by (identification_of pgn) size pgn
text_announced d message = None

abbrev pub without_text_between : ℕ → ℕ → List (List (Option HalfTold)) → List (List (Option HalfTold))
without_text_between s d half = if d == GLOBAL_ADDRESS then half else with_pair half s d None

abbrev pub halves_managed : Who → ℕ → ℕ → Control → List (List (Option HalfTold)) → List (List (Option HalfTold))
halves_managed who s d (Bam size packets pgn) half = if d == GLOBAL_ADDRESS then with_pair half s d (newly_told (identification_of pgn) size who) else half
halves_managed who s d (Rts size packets most pgn) half = if d == GLOBAL_ADDRESS then half else with_pair half s d (newly_told (identification_of pgn) size who)
halves_managed who s d (Abort reason pgn) half = without_text_between d s (without_text_between s d half)
halves_managed who s d message half = half

-- a claim of the source under another NAME than its owner's ends all from there
abbrev pub halves_claimed : Who → ℕ → ℕ → List (List (Option HalfTold)) → List (List (Option HalfTold))
halves_claimed who s name half = if is_of_name name who then half else slice_set half s empty_table

-- what a packet is to a message that is half read, where it is neither late nor comes again; and whose that is
abbrev pub packet_by : Fate → List ℕ → HalfTold → Option TextPacket
packet_by fates.Read bytes half = Some (record { who = half.tag.who; took = took_by (with_packet bytes (Some half)) })
packet_by its_fate bytes half = None

abbrev pub packet_to : Silence → Option ℕ → List ℕ → Option Pace → Option HalfTold → Option TextPacket
packet_to silence now bytes pace None = None
packet_to silence now bytes pace (Some half) = packet_by (fate_of silence now bytes pace (Some half)) bytes half

-- the last one ends it
abbrev pub read_to : Bool → Option HalfTold → IdentifiedValue → IdentifiedValue
read_to is_shown None v = v
read_to is_shown (Some p) v =
    if is_whole p && is_shown then record v { kept = with_told p.tag (text_of p.tag.what (joined p.size p.pieces)) v.kept } else v

abbrev pub packet_read : Coming → ℕ → ℕ → List ℕ → Option TextPacket → IdentifiedValue → IdentifiedValue
packet_read c s d bytes None v = v
packet_read c s d bytes (Some packet) v =
    read_to (is_text_shown c.selection c.newest packet.who s d) (with_packet bytes (pair_at v.half s d))
    (record v { half = with_pair v.half s d (after_packet bytes (pair_at v.half s d)) })

abbrev pub packet_told : Coming → ℕ → ℕ → List ℕ → Option HalfTold → IdentifiedValue → IdentifiedValue
packet_told c s d bytes half v = packet_read c s d bytes (packet_to c.silence c.now bytes (pair_at c.packets s d) half) v

-- after a frame that says this
abbrev pub identified_with : Coming → FrameValue → Group → IdentifiedValue → IdentifiedValue
identified_with c f Other v = frame_identified (identification_of (pgn_of f.id)) c f v
identified_with c f (ConnectionManagement s d message) v = record v { half = halves_managed c.who s d message v.half }
identified_with c f (DataTransfer s d bytes) v = packet_told c s d bytes (pair_at v.half s d) v
identified_with c f (AddressClaimed s name) v = record v { half = halves_claimed c.who s name v.half }
identified_with c f g v = v

-- ---- a line

-- missed frames end all that is half read
abbrev pub identified_missed : Reading → IdentifiedValue → IdentifiedValue
identified_missed (reading.Gap count) v = identified_anew v
identified_missed x v = v

abbrev pub coming : Selection → Option ℕ → Option ℕ → Followed → Who → Coming
coming s newest time f who = record { selection = s; now = time; newest = time_after time newest; silence = f.silence; packets = f.packets; who = who }

-- after a line, with this time before it, and whose a message is that begins at each address
abbrev pub identified_read : Selection → Option ℕ → Followed → (ℕ → Who) → Line → IdentifiedValue → IdentifiedValue
identified_read s newest f who (line.Frame time bus frame) v =
    if is_watched f.bus bus then identified_with (coming s newest time f (who (source_of frame.id))) frame (group_of frame) v else v
identified_read s newest f who (line.Dropped bus count) v = identified_missed (if may_be_watched f.bus bus then reading.Gap count else reading.Empty) v
identified_read s newest f who (line.Overflow time bus) v = identified_missed (if is_watched f.bus bus then reading.Gap 1 else reading.Empty) v
identified_read s newest f who (line.Foreign bus what) v = v
identified_read s newest f who (line.Bad reason) v = identified_missed (if f.skips_bad then reading.Empty else reading.Gap 1) v
identified_read s newest f who line.Note v = v
