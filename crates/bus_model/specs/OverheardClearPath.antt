-- A path clear to a listener, said by looking back over what became of the frames carried.
use Rattle.std.specs.Prelude.{◌≡◌, ℕ, ◌≤◌, true, false, List, [], ◌∷◌, ◌++◌}
use Rattle.bus_model.specs.ClearPath.{IsReceived, NoClaim, NoneMissed}
use Rattle.bus_model.specs.Expected.{Reception, Own, Received, Missed, is_claim, is_part}
use Rattle.bus_model.specs.Messages.{Message, last_part_of}
use Rattle.bus_model.specs.OverheardExpected.{is_aborted}
use Rattle.bus_model.specs.Traffic.{Item, says}

-- in none of the frames read does the receiver abort the session
abbrev pub NoneAborts : Message → List Reception → Type 0
NoneAborts m [] = Unit {0}
NoneAborts m (Own e ∷ path) = NoneAborts m path
NoneAborts m (Received e ∷ path) = (is_aborted m (says e) ≡ false) × NoneAborts m path
NoneAborts m (Missed es ∷ path) = NoneAborts m path

-- each part was read; so was the last claim of the source before part 0; from that claim to the last part nothing was missed; and the receiver
-- aborted nothing between part 0 and the last part
pub record IsOnListenersClearPath (m : Message) (path : List Reception) : Type 0 where
  pub parts : (j : ℕ) → j ≤ last_part_of m → IsReceived m j path
  pub after : List Reception  -- what came after the last part
  pub last : Item
  pub older : List Reception  -- what came before the last part
  pub split : path ≡ after ++ Received last ∷ older
  pub is_last : is_part m (last_part_of m) last.tag ≡ true
  pub upper : List Reception  -- from part 0 to the last part
  pub first : Item
  pub lower : List Reception  -- from the claim to part 0
  pub claim : Item
  pub before : List Reception
  pub stretch : ◌≡◌ {A = List Reception} (Received last ∷ older) (upper ++ Received first ∷ (lower ++ Received claim ∷ before))
  pub is_first : is_part m 0 first.tag ≡ true
  pub is_claim' : is_claim m.source (says claim) ≡ true
  pub upper_whole : NoneMissed upper
  pub lower_whole : NoneMissed lower
  pub latest : NoClaim m.source lower
  pub unaborted : NoneAborts m upper
