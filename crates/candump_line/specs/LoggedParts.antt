-- What stands in a line that is read as one of `candump -L`.
use Rattle.std.specs.Prelude.{◌≡◌, ◌≢◌, ℕ, ◌<◌, ◌^◌, List, ◌∷◌, ◌++◌, length, All}
use Rattle.can_frame.specs.FrameText.{id_text}

-- the parts of a line of `candump -L`
pub record IsLogged (line bus : List ℕ) : Type 0 where
  pub time : List ℕ
  pub frame : List ℕ
  pub laid : line ≡ 40 ∷ (time ++ 41 ∷ 32 ∷ (bus ++ 32 ∷ frame))
  pub timed : All (λ c. c ≢ 41) time
  pub name : (0 < length bus) × All (λ c. 32 < c) bus
  pub id : (n : ℕ) (rest : List ℕ) → n < 2 ^ 32 → frame ≡ id_text n ++ rest → n < 2 ^ 29
  pub seen : (0 < length frame) × All (λ c. 32 < c) frame
