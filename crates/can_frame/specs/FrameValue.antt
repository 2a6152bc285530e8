use Rattle.std.specs.Prelude.{ℕ, List}

-- a frame as contracts see it: the number of its identifier, and its bytes
pub record FrameValue : Type 0 where
  pub id : ℕ
  pub bytes : List ℕ

-- the frame with this identifier and these bytes
abbrev pub frame : ℕ → List ℕ → FrameValue
frame id bytes = record { id = id; bytes = bytes }
