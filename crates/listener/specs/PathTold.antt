-- Readings that tell what became of the frames carried, as a log or a live bus tells it to one who takes no part.
use Rattle.std.specs.Prelude.{◌≡◌, List, [], ◌∷◌}
use Rattle.can_frame.specs.declared.reading.Reading.{Reading}
use Rattle.can_frame.specs.declared.reading.Reading.TheVariants.{Frame, Gap, Empty}
use Rattle.bus_model.specs.Expected.{Reception, Received, Missed}

-- each frame that was read is told; of frames that were missed a gap tells, of however many; and between them may be told that nothing was read
abbrev pub TellsPath : List Reading → List Reception → Type 0
TellsPath [] [] = Unit {0}
TellsPath (Empty ∷ rs) path = TellsPath rs path
TellsPath (Gap n ∷ rs) (Missed es ∷ path) = TellsPath rs path
TellsPath (Frame f ∷ rs) (Received e ∷ path) = (f ≡ e.frame) × TellsPath rs path
TellsPath _ _ = ⊥
