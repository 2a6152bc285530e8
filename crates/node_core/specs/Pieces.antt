-- What a unit puts: a frame, or parts of a message.
use Rattle.std.specs.Prelude.{ℕ, ◌≡◌, List, ◌∷◌, [], map, Option, None, Some, slice_get}
use Rattle.std.specs.Option.{option_map}
use Rattle.transport.specs.Runs.{NumberedFrame, part_in}
use Rattle.node_core.specs.declared.out.Out.{Out}
use Rattle.node_core.specs.declared.out.Part.{Part}
use Rattle.node_core.specs.declared.out.Part.TheVariants.{Begun, Session}
use Rattle.node_core.specs.declared.out.Piece.{Piece}
use Rattle.node_core.specs.declared.out.Piece.TheVariants.{One, Many}

-- part j of the message that a mark is of
abbrev pub part_at : Part → ℕ → Part
part_at (Begun i) j = Begun j
part_at (Session i) j = Session j

-- the number of a part
abbrev pub number_in : Part → ℕ
number_in (Begun j) = j
number_in (Session j) = j

-- a frame of a run, with the part that it is
abbrev pub run_out : Part → NumberedFrame → Out
run_out mark n = record { frame = n.frame; part = Some (part_at mark n.part) }

-- the frames of a piece
abbrev pub outs_of : Piece → List Out
outs_of (One out) = out ∷ []
outs_of (Many run mark) = map (run_out mark) run

-- the frames of the piece, if there is one
abbrev pub outs_in : Option Piece → List Out
outs_in None = []
outs_in (Some piece) = outs_of piece

-- the part of a run is that of its first frame
abbrev pub IsMarked : Piece → Type 0
IsMarked (One out) = Unit {0}
IsMarked (Many run mark) = option_map part_in (slice_get run 0) ≡ Some (number_in mark)
