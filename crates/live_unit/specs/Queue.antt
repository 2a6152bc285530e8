-- What waits to be written. It stands in four lanes: claims, other single frames, the frames of a session, and messages to all. In
-- each lane the frames are in the order in which they were put.
use Rattle.std.specs.Prelude.{ℕ, ◌≡◌, ◌+◌, ◌<◌, ◌≤◌, ◌==◌, Bool, false, nat_lt, List, [], ◌∷◌, ◌++◌, drop, length, Option, Some, None, if◌then◌else◌}
use Rattle.std.specs.List.{All, flat_map}
use Rattle.can_frame.specs.Fields.{pgn_of, source_of}
use Rattle.can_frame.specs.FrameValue.{FrameValue}
use Rattle.can_frame.specs.declared.group_numbers.TheConstants.{ADDRESS_CLAIMED}
use Rattle.node_core.specs.Deed.{plain}
use Rattle.node_core.specs.Pieces.{outs_of}
use Rattle.node_core.specs.declared.heard.Withdraw.{Withdraw}
use Rattle.node_core.specs.declared.heard.Withdraw.TheVariants as withdraw
use Rattle.node_core.specs.declared.out.Out.{Out}
use Rattle.node_core.specs.declared.out.Part.{Part}
use Rattle.node_core.specs.declared.out.Part.TheVariants as part
use Rattle.node_core.specs.declared.out.Piece.{Piece}
use Rattle.node_core.specs.declared.out.Piece.TheVariants.{One, Many}
use Rattle.node_core.specs.declared.heard.Begun.{Begun}
use Rattle.node_core.specs.declared.heard.Heard.{Heard}
use Rattle.can_frame.specs.declared.address.TheConstants.{GLOBAL_ADDRESS}
use Rattle.live_unit.specs.declared.waiting.TheConstants.{ROOM}
use Rattle.live_unit.specs.declared.queue.Lane.{Lane}
use Rattle.live_unit.specs.declared.queue.Lane.TheVariants.{Claims, Singles, Session, Messages}

-- a lane: its frames, and in how many pieces they wait
pub record LaneValue : Type 0 where
  pub outs : List Out
  pub pieces : ℕ

-- the address from which all that waits is, the lanes, and what became of all frames
pub record QueueValue : Type 0 where
  pub source : ℕ
  pub claims : LaneValue
  pub singles : LaneValue
  pub session : LaneValue
  pub messages : LaneValue
  pub put : ℕ
  pub written : ℕ
  pub withdrawn : ℕ

-- the frames of some pieces, one after another
abbrev pub outs_waiting : List Piece → List Out
outs_waiting pieces = flat_map outs_of pieces

-- a piece has at least one frame
abbrev pub HoldsSome : Piece → Type 0
HoldsSome piece = 0 < length (outs_of piece)

abbrev pub empty_lane : LaneValue
empty_lane = record { outs = []; pieces = 0 }

-- nothing was put yet
abbrev pub empty_queue : ℕ → QueueValue
empty_queue source = record {
  source = source;
  claims = empty_lane;
  singles = empty_lane;
  session = empty_lane;
  messages = empty_lane;
  put = 0;
  written = 0;
  withdrawn = 0;
}

abbrev pub lane_of : Lane → QueueValue → LaneValue
lane_of Claims q = q.claims
lane_of Singles q = q.singles
lane_of Session q = q.session
lane_of Messages q = q.messages

abbrev pub with_lane : Lane → LaneValue → QueueValue → QueueValue
with_lane Claims l q = record q { claims = l }
with_lane Singles l q = record q { singles = l }
with_lane Session l q = record q { session = l }
with_lane Messages l q = record q { messages = l }

-- a frame waits in the lane
abbrev pub waits : LaneValue → Bool
waits l = nat_lt 0 (length l.outs)

-- how many frames wait
abbrev pub frames_waiting : QueueValue → ℕ
frames_waiting q = length q.claims.outs + length q.singles.outs + length q.session.outs + length q.messages.outs

-- every frame put was written, was withdrawn, or waits
abbrev pub BalancesOut : QueueValue → Type 0
BalancesOut q = q.put ≡ q.written + q.withdrawn + frames_waiting q

-- a frame has this source
abbrev pub IsSentFrom : ℕ → Out → Type 0
IsSentFrom source o = source_of o.frame.id ≡ source

-- all that waits has the source of the queue
pub record AllSentFrom (source : ℕ) (q : QueueValue) : Type 0 where
  pub claims : All (IsSentFrom source) q.claims.outs
  pub singles : All (IsSentFrom source) q.singles.outs
  pub session : All (IsSentFrom source) q.session.outs
  pub messages : All (IsSentFrom source) q.messages.outs

-- a claim of an address, or that none can be claimed
abbrev pub is_claim_frame : FrameValue → Bool
is_claim_frame f = pgn_of f.id == ADDRESS_CLAIMED

-- the lane of a frame, by the part of a message that it is, if any: a message that begins goes to all, or is a session
abbrev pub lane_by : Bool → Bool → Option Part → Lane
lane_by to_all claim None = if claim then Claims else Singles
lane_by to_all claim (Some (part.Begun j)) = if to_all then Messages else Session
lane_by to_all claim (Some (part.Session j)) = Session

abbrev pub lane_for : Bool → Out → Lane
lane_for to_all o = lane_by to_all (is_claim_frame o.frame) o.part

-- and of a piece: the frames of a run are parts of one message
abbrev pub lane_for_piece : Bool → Piece → Lane
lane_for_piece to_all (One o) = lane_for to_all o
lane_for_piece to_all (Many run mark) = lane_by to_all false (Some mark)

-- frames more at the end of a lane, in one piece
abbrev pub lengthened : List Out → LaneValue → LaneValue
lengthened outs l = record { outs = l.outs ++ outs; pieces = l.pieces + 1 }

-- and of the queue
abbrev pub put_into : Lane → List Out → QueueValue → QueueValue
put_into lane outs q = record (with_lane lane (lengthened outs (lane_of lane q)) q) { put = q.put + length outs }

-- what is put goes to the lane of its first frame
abbrev pub putting : Bool → List Out → QueueValue → QueueValue
putting to_all [] q = q
putting to_all (o ∷ outs) q = put_into (lane_for to_all o) (o ∷ outs) q

-- a message that begins goes to all
abbrev pub goes_to_all : Option Begun → Bool
goes_to_all (Some begun) = begun.dest == GLOBAL_ADDRESS
goes_to_all None = false

-- what is withdrawn: nothing; the frames of the session; or all, and what is put then has another source
abbrev pub after_withdrawing : Withdraw → ℕ → QueueValue → QueueValue
after_withdrawing withdraw.Keep source q = q
after_withdrawing withdraw.Session source q = record q { session = empty_lane; withdrawn = q.withdrawn + length q.session.outs }
after_withdrawing withdraw.All source q = record (empty_queue source) { put = q.put; written = q.written; withdrawn = q.withdrawn + frames_waiting q }

-- what a node withdraws is withdrawn, then what it puts is put
abbrev pub after_heard : Heard → ℕ → QueueValue → QueueValue
after_heard heard source q = putting (goes_to_all heard.begun) heard.put (after_withdrawing heard.withdraw source q)

-- a claim in the place of those that wait, which say the same; nothing else is withdrawn
abbrev pub claiming_anew : FrameValue → QueueValue → QueueValue
claiming_anew claim q = record q {
  claims = lengthened (plain claim ∷ []) empty_lane;
  put = q.put + 1;
  withdrawn = q.withdrawn + length q.claims.outs;
}

-- a piece more may wait in each lane
pub record HasFreeLanes (q : QueueValue) : Type 0 where
  pub claims : q.claims.pieces < ROOM
  pub singles : q.singles.pieces < ROOM
  pub session : q.session.pieces < ROOM
  pub messages : q.messages.pieces < ROOM

-- the first frame of a lane was taken, and counts as written
pub record TakesFirst (lane : Lane) (q q' : QueueValue) : Type 0 where
  pub left : LaneValue
  pub rest : left.outs ≡ drop 1 (lane_of lane q).outs
  pub fewer : left.pieces ≤ (lane_of lane q).pieces
  pub is : q' ≡ record (with_lane lane left q) { written = q.written + 1 }
