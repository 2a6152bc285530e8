-- What a line is to those who take part in a bus.
use Rattle.std.specs.Prelude.{ℕ, ◌≡◌, ◌≢◌, ◌+◌, ◌-◌, ◌^◌, ◌<◌, List, ◌++◌, Some, None, min}
use Rattle.can_frame.specs.FrameValue.{FrameValue}
use Rattle.candump_line.specs.LineText.{line_text, IsBusName, IsDataFrame, IsLineEnd}
use Rattle.live_lines.specs.declared.ear.Heard.{Heard}

-- the number of the line behind so many
abbrev pub line_behind : ℕ → ℕ
line_behind number = min (number + 1) (2 ^ 64 - 1)

-- a frame as `candump -L` writes it: it is heard where it is of this bus, and else passed over
pub record IsReadSo (bus : List ℕ) (number : ℕ) (line : List ℕ) (h : Heard) : Type 0 where
  pub own : (time : ℕ) (f : FrameValue) (end : List ℕ) → time < 10 ^ 16 → IsBusName bus → IsDataFrame f → IsLineEnd end → line ≡ line_text time bus f ++ end
      → (h.missed ≡ 0) × (h.frame ≡ Some (record { frame = f; line = line_behind number; time = Some time }))
  pub other : (time : ℕ) (named : List ℕ) (f : FrameValue) (end : List ℕ) → time < 10 ^ 16 → IsBusName named → IsDataFrame f → IsLineEnd end
      → line ≡ line_text time named f ++ end → named ≢ bus → (h.missed ≡ 0) × (h.frame ≡ None)
