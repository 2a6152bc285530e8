-- The bus, its units and its stations as a machine: what may happen next, and what it changes.
-- It leaves free whatever the law does not need, so the exact tables of units and station are special cases of it.
use Rattle.std.specs.Prelude.{◌≡◌, ◌≢◌, ℕ, zero, suc, ◌+◌, ◌^◌, ◌<◌, ◌≤◌, Bool, true, false, List, [], ◌∷◌, ◌++◌, length, set, slice_get, Option, Some, None, if◌then◌else◌}
use Rattle.can_frame.specs.FrameValue.{FrameValue}
use Rattle.can_frame.specs.declared.address.TheConstants.{GREATEST_ADDRESS, GLOBAL_ADDRESS}
use Rattle.address_claim.specs.Frames.{claim_frame_value}
use Rattle.dm_messages.specs.declared.kind.Kind.{Kind}
use Rattle.fault_memory.specs.Memory.{MemoryValue}
use Rattle.parameter_group.specs.Group.{Group, AddressClaimed, CannotClaim, Request, Acknowledgment, ConnectionManagement, DataTransfer, Diagnostic, Other, group_of}
use Rattle.transport.specs.declared.control.Control.TheVariants.{Rts, Cts, EndAck, Bam, Abort}
use Rattle.bus_model.specs.Messages.{Message, Way, One, Broadcast, Session, IsProper, frame_of_part, last_part_of, way_of, is_session}
use Rattle.bus_model.specs.Traffic.{Tag, Item, says, is_station}
use Rattle.parameter_group.specs.Calm.{is_contest, IsCalm}
use Rattle.bus_model.specs.Heard.{StationSettings, address_heard, kind_of}
use Rattle.bus_model.specs.Expected.{Reception, Own, Received, Missed, readings, passed}
use Rattle.address_claim.specs.Claiming.{CanHold}

-- a seat of a unit: its number, its NAME, the address it holds, what it wants carried, what it heard of the wire, and its
-- open session with the last part queued
pub record Seat : Type 0 where
  pub number : ℕ
  pub name : ℕ
  pub live : Bool
  pub held : Option ℕ
  pub queue : List Item
  pub heard : List Item
  pub session : Option Tag

-- a station: its NAME and first address, what it wants carried, and the wire as far as it has it
pub record Station : Type 0 where
  pub settings : StationSettings
  pub asked : List Item
  pub path : List Reception

-- the whole state; a station's place is the number of its seat, and units' seats come behind
pub record World : Type 0 where
  pub stations : List Station
  pub wire : List Item  -- the frames carried
  pub seats : List Seat
  pub begun : List Message  -- the messages begun

-- the stations' NAMEs
abbrev pub names_of : List Station → List ℕ
names_of [] = []
names_of (s ∷ ss) = s.settings.name ∷ names_of ss

-- what a unit does with a frame that it hears
pub data Answer : Type 0 where
  Nothing : Answer
  Replies : FrameValue → Answer
  Begins : (kind : Kind) (memory : MemoryValue) (source destination : ℕ) → Answer
  Sends : ℕ → Answer  -- queues that many further packets of its session
  EndsSession : Answer  -- ends its session and withdraws what is left of it
  Claims : Option ℕ → Answer  -- withdraws all, holds that address or none from now on, and says so

pub data Event : Type 0 where
  Join : (name address : ℕ) → Event
  Hear : (seat : ℕ) → Answer → Event
  Begin : (seat : ℕ) (kind : Kind) (memory : MemoryValue) (source : ℕ) → Event
  Turned : (seat : ℕ) → Event
  Carry : (seat : ℕ) → Event
  Carry_station : (station : ℕ) → Event
  Ask : (station : ℕ) → List FrameValue → Event  -- the station queues these frames, newest first
  Read : (station : ℕ) → List FrameValue → Event  -- the station receives a frame, and queues these in answer
  Miss : (station : ℕ) → ℕ → List FrameValue → Event  -- the station is told of so many missed frames, and queues these
  Leave : (seat : ℕ) → Event

-- a frame of the seat x under NAME n that is no part of a message
abbrev pub plain_item : ℕ → ℕ → FrameValue → Item
plain_item x n f = record { seat = x; name = n; frame = f; tag = None }

-- each of these frames so
abbrev pub all_plain : ℕ → ℕ → List FrameValue → List Item
all_plain x n [] = []
all_plain x n (f ∷ fs) = plain_item x n f ∷ all_plain x n fs

-- the frame of a part, queued by the seat x, with its tag
abbrev pub item_of_part : ℕ → Message → ℕ → Item
item_of_part x m j = record { seat = x; name = m.name; frame = frame_of_part m j; tag = Some (record { message = m; part = j }) }

-- the parts up to that one, newest first
abbrev pub parts_upto : ℕ → Message → ℕ → List Item
parts_upto x m zero = item_of_part x m 0 ∷ []
parts_upto x m (suc j) = item_of_part x m (suc j) ∷ parts_upto x m j

-- what is queued at the beginning: all parts, but of a session the first alone
abbrev pub last_part_at_first : Way → Message → ℕ
last_part_at_first One m = last_part_of m
last_part_at_first Broadcast m = last_part_of m
last_part_at_first (Session d) m = 0

-- the open session after a beginning
abbrev pub session_opened : Way → Message → Option Tag → Option Tag
session_opened One m before = before
session_opened Broadcast m before = before
session_opened (Session d) m before = Some (record { message = m; part = 0 })

-- the address of a session
abbrev pub way_address : Way → Option ℕ
way_address One = None
way_address Broadcast = None
way_address (Session d) = Some d

-- the address with which the open session is
abbrev pub session_address : Option Tag → Option ℕ
session_address None = None
session_address (Some t) = way_address (way_of t.message)

-- nothing in the group makes the unit yield or end its session
abbrev pub IsCalmAt : Seat → Group → Type 0
IsCalmAt s g = IsCalm s.name s.held (session_address s.session) g

-- a request to send, from that address
abbrev pub IsRtsFrom : ℕ → Group → Type 0
IsRtsFrom a (ConnectionManagement s d (Rts size packets most pgn)) = s ≡ a
IsRtsFrom a _ = ⊥

-- a request from that address
abbrev pub IsRequestFrom : ℕ → Group → Type 0
IsRequestFrom a (Request pgn d s) = s ≡ a
IsRequestFrom a _ = ⊥

-- what a unit that heard g may queue besides messages: its claim or cannot claim, an abort to the sender of an Rts,
-- and any group that neither starts, continues nor ends a message, as an acknowledgment
abbrev pub MayReply : Seat → Group → Group → Type 0
MayReply s g (AddressClaimed a m) = (s.held ≡ Some a) × (m ≡ s.name)
MayReply s g (CannotClaim m) = Unit {0}
MayReply s g (ConnectionManagement a d (Abort reason pgn)) = (s.held ≡ Some a) × IsRtsFrom d g
MayReply s g (ConnectionManagement a d (Cts granted next pgn)) = Unit {0}
MayReply s g (ConnectionManagement a d (EndAck size packets pgn)) = Unit {0}
MayReply s g (Acknowledgment control requester pgn d a) = Unit {0}
MayReply s g Other = Unit {0}
MayReply s g _ = ⊥

-- no session of that kind is open
abbrev pub IsNotOpen : Option Tag → Kind → Type 0
IsNotOpen None k = Unit {0}
IsNotOpen (Some t) k = t.message.kind ≢ k

-- a session opens with who asked for it, at another address than one's own, where none is open
abbrev pub MayOpen : Seat → Group → Way → ℕ → Type 0
MayOpen s g One a = Unit {0}
MayOpen s g Broadcast a = Unit {0}
MayOpen s g (Session d) a = IsRequestFrom d g × (d ≢ a) × (s.session ≡ None)

-- the message that the seat begins
abbrev pub message_at : World → Seat → Kind → MemoryValue → ℕ → ℕ → Message
message_at w s kind memory source destination =
    record { number = length w.begun; seat = s.number; name = s.name; kind = kind; memory = memory; source = source; destination = destination }

-- what a unit that heard g may do
abbrev pub MayAnswer : World → Seat → Group → Answer → Type 0
MayAnswer w s g Nothing = IsCalmAt s g
MayAnswer w s g (Replies f) = IsCalmAt s g × MayReply s g (group_of f)
MayAnswer w s g (Begins kind memory source destination) =
    IsCalmAt s g × (s.held ≡ Some source) × IsProper (message_at w s kind memory source destination) × IsNotOpen s.session kind
    × MayOpen s g (way_of (message_at w s kind memory source destination)) source
MayAnswer w s g (Sends n) = IsCalmAt s g × ((t : Tag) × (s.session ≡ Some t) × (n + t.part ≤ last_part_of t.message))
MayAnswer w s g EndsSession = is_contest s.name s.held g ≡ false
MayAnswer w s g (Claims to) = CanHold to

-- the world with that seat at x
abbrev pub world_with_seat : World → ℕ → Seat → World
world_with_seat w x s = record w { seats = set w.seats x s }

-- the seat has heard one frame more
abbrev pub with_heard : Seat → Item → Seat
with_heard s e = record s { heard = e ∷ s.heard }

-- the seat begins the message: its first parts are queued
abbrev pub with_message : Seat → Message → Seat
with_message s m =
    record s { queue = parts_upto s.number m (last_part_at_first (way_of m) m) ++ s.queue; session = session_opened (way_of m) m s.session }

-- the world after that
abbrev pub with_begun : World → ℕ → Seat → Message → World
with_begun w x s m = record w { seats = set w.seats x (with_message s m); begun = m ∷ w.begun }

-- a claim, or where there is no address a cannot claim, alone in the queue
abbrev pub claim_alone : ℕ → ℕ → Option ℕ → List Item
claim_alone x n held = plain_item x n (claim_frame_value n held) ∷ []

-- the seat gives up or takes an address: all is withdrawn but the claim of it
abbrev pub yielded : Seat → Option ℕ → Seat
yielded s to = record s { held = to; queue = claim_alone s.number s.name to; session = None }

-- one more packet of the open session
abbrev pub granted_one : Seat → Option Tag → Seat
granted_one s None = s
granted_one s (Some t) =
    record s { queue = item_of_part s.number t.message (suc t.part) ∷ s.queue; session = Some (record { message = t.message; part = suc t.part }) }

-- that many more packets
abbrev pub granted : Seat → ℕ → Seat
granted s zero = s
granted s (suc n) = granted (granted_one s s.session) n

-- a part of a session
abbrev pub is_of_session : Option Tag → Bool
is_of_session None = false
is_of_session (Some t) = is_session (way_of t.message)

-- the queue without the frames of the session
abbrev pub without_session : List Item → List Item
without_session [] = []
without_session (e ∷ es) = if is_of_session e.tag then without_session es else e ∷ without_session es

-- the seat ends its session
abbrev pub session_ended : Seat → Seat
session_ended s = record s { queue = without_session s.queue; session = None }

-- the world after a unit's answer
abbrev pub answered : World → ℕ → Seat → Answer → World
answered w x s Nothing = world_with_seat w x s
answered w x s (Replies f) = world_with_seat w x (record s { queue = plain_item s.number s.name f ∷ s.queue })
answered w x s (Begins kind memory source destination) = with_begun w x s (message_at w s kind memory source destination)
answered w x s (Sends n) = world_with_seat w x (granted s n)
answered w x s EndsSession = world_with_seat w x (session_ended s)
answered w x s (Claims to) = world_with_seat w x (yielded s to)

-- the seat is there and live
abbrev pub IsLiveSeat : World → ℕ → Seat → Type 0
IsLiveSeat w x s = (slice_get w.seats x ≡ Some s) × (s.live ≡ true)

-- neither a live seat nor the station has the NAME
abbrev pub IsFree : World → ℕ → Type 0
IsFree w n = (is_station (names_of w.stations) n ≡ false) × ((x : ℕ) (s : Seat) → IsLiveSeat w x s → s.name ≢ n)

-- a unit that joins gets the next number, counts the whole wire as heard, and claims its address; numbers are given in
-- order of joining, from 1 on, and none is used again, since seats stay in the list
abbrev pub joined_seat : World → ℕ → ℕ → Seat
joined_seat w n a =
    record { number = length w.stations + length w.seats; name = n; live = true; held = Some a; queue = claim_alone (length w.stations + length w.seats) n (Some a); heard = w.wire; session = None }

-- a station's own address
abbrev pub station_address : Station → Option ℕ
station_address s = address_heard s.settings (readings s.path)

-- a station claims, asks, aborts and announces from its own address alone (a request may bear address 254 where it holds none);
-- it starts no session and no diagnostic message, and sends packets to all alone; its other frames are free
abbrev pub MaySend : ℕ → Option ℕ → Group → Type 0
MaySend n held (AddressClaimed s m) = (held ≡ Some s) × (m ≡ n)
MaySend n held (Request pgn d s) = s ≤ GREATEST_ADDRESS → held ≡ Some s
MaySend n held (ConnectionManagement s d (Abort reason pgn)) = held ≡ Some s
MaySend n held (ConnectionManagement s d (Bam size packets pgn)) = (held ≡ Some s) × (kind_of pgn ≡ None)
MaySend n held (ConnectionManagement s d (Rts size packets most pgn)) = ⊥
MaySend n held (DataTransfer s d bytes) = (held ≡ Some s) × (d ≡ GLOBAL_ADDRESS)
MaySend n held (Diagnostic kind s bytes) = ⊥
MaySend n held _ = Unit {0}

-- each of these frames
abbrev pub AllMaySend : ℕ → Option ℕ → List FrameValue → Type 0
AllMaySend n held [] = Unit {0}
AllMaySend n held (f ∷ fs) = MaySend n held (group_of f) × AllMaySend n held fs

-- the queue of the station on seat y after a reading: its claim alone where its address was contested
abbrev pub asked_after : ℕ → Station → Group → Option ℕ → List Item
asked_after y s g held = if is_contest s.settings.name (station_address s) g then claim_alone y s.settings.name held else s.asked

-- it received the frame
abbrev pub received : ℕ → Station → Item → Station
received y s e =
    record s { path = Received e ∷ s.path; asked = asked_after y s (says e) (address_heard s.settings (readings (Received e ∷ s.path))) }

-- after a gap it withdraws its queue and claims again
abbrev pub missed : ℕ → Station → List Item → Station
missed y s es = record s { path = Missed es ∷ s.path; asked = claim_alone y s.settings.name (station_address s) }

-- it queues these frames
abbrev pub with_asked : ℕ → Station → List FrameValue → Station
with_asked y s frames = record s { asked = all_plain y s.settings.name frames ++ s.asked }

-- it may send these frames now
abbrev pub CanAsk : Station → List FrameValue → Type 0
CanAsk s frames = AllMaySend s.settings.name (station_address s) frames

-- the station on seat y
abbrev pub IsAt : World → ℕ → Station → Type 0
IsAt w y s = slice_get w.stations y ≡ Some s

abbrev pub world_with_station : World → ℕ → Station → World
world_with_station w y s = record w { stations = set w.stations y s }

-- the event leads from one world to the other
abbrev pub Step : World → Event → World → Type 0
Step old (Join n a) new = IsFree old n × (n < 2 ^ 64) × (a ≤ GREATEST_ADDRESS) × (new ≡ record old { seats = old.seats ++ joined_seat old n a ∷ [] })
Step old (Hear x answer) new =
    (s : Seat) × (e : Item) × (ahead : List Item) × IsLiveSeat old x s × (old.wire ≡ ahead ++ e ∷ s.heard)
    × MayAnswer old (with_heard s e) (says e) answer × (new ≡ answered old x (with_heard s e) answer)
Step old (Begin x kind memory source) new =
    (s : Seat) × IsLiveSeat old x s × (s.held ≡ Some source) × IsProper (message_at old s kind memory source GLOBAL_ADDRESS) × IsNotOpen s.session kind
    × (new ≡ with_begun old x s (message_at old s kind memory source GLOBAL_ADDRESS))
Step old (Turned x) new = new ≡ old
Step old (Carry x) new =
    (s : Seat) × (e : Item) × (rest : List Item) × IsLiveSeat old x s × (s.queue ≡ rest ++ e ∷ []) × (s.heard ≡ old.wire)
    × (new ≡ record old { wire = e ∷ old.wire; seats = set old.seats x (record s { queue = rest; heard = e ∷ old.wire }) })
Step old (Carry_station y) new =
    (s : Station) × (e : Item) × (rest : List Item) × IsAt old y s × (s.asked ≡ rest ++ e ∷ []) × (old.wire ≡ passed s.path)
    × (new ≡ record old { wire = e ∷ old.wire; stations = set old.stations y (record s { asked = rest; path = Own e ∷ s.path }) })
Step old (Ask y frames) new = (s : Station) × IsAt old y s × CanAsk s frames × (new ≡ world_with_station old y (with_asked y s frames))
Step old (Read y frames) new =
    (s : Station) × (e : Item) × (ahead : List Item) × IsAt old y s × (old.wire ≡ ahead ++ e ∷ passed s.path)
    × CanAsk (received y s e) frames × (new ≡ world_with_station old y (with_asked y (received y s e) frames))
Step old (Miss y n frames) new =
    (s : Station) × (es : List Item) × (ahead : List Item) × IsAt old y s × (length es ≡ n) × (old.wire ≡ ahead ++ (es ++ passed s.path))
    × CanAsk (missed y s es) frames × (new ≡ world_with_station old y (with_asked y (missed y s es) frames))
Step old (Leave x) new = (s : Seat) × IsLiveSeat old x s × (new ≡ world_with_seat old x (record s { live = false; queue = [] }))

-- a whole run
abbrev pub Run : World → List Event → World → Type 0
Run old [] new = new ≡ old
Run old (e ∷ es) new = (mid : World) × Step old e mid × Run mid es new

-- stations that have done nothing, from this seat on; the claim of each is queued
abbrev pub new_stations : ℕ → List StationSettings → List Station
new_stations y [] = []
new_stations y (r ∷ rs) = record { settings = r; asked = claim_alone y r.name (Some r.address); path = [] } ∷ new_stations (suc y) rs

-- nothing has happened yet
abbrev pub start : List StationSettings → World
start rs = record { stations = new_stations 0 rs; wire = []; seats = []; begun = [] }

-- settings with a NAME of 64 bits and an address that can be held
pub record IsFit (r : StationSettings) : Type 0 where
  pub name : r.name < 2 ^ 64
  pub address : r.address ≤ GREATEST_ADDRESS

-- none of these has the NAME
abbrev pub AreNot : ℕ → List StationSettings → Type 0
AreNot n [] = Unit {0}
AreNot n (r ∷ rs) = (r.name ≢ n) × AreNot n rs

-- each is fit, and no two have one NAME
abbrev pub AreFit : List StationSettings → Type 0
AreFit [] = Unit {0}
AreFit (r ∷ rs) = IsFit r × AreNot r.name rs × AreFit rs
