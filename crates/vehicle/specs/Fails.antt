-- Faults that a unit has on purpose, as a table tells of them.
use Rattle.std.specs.Prelude.{ℕ, ◌≡◌, ◌≤◌, ◌⊎◌, ◌∷◌, List, [], Option, Some, None, codes}
use Rattle.can_frame.specs.Fields.{pdu2_number, pdu_format_of_pgn}
use Rattle.can_frame.specs.FrameValue.{FrameValue, frame}
use Rattle.can_frame.specs.declared.address.TheConstants.{GREATEST_ADDRESS}
use Rattle.toml.specs.Data.{Data, get}
use Rattle.vehicle.specs.Holding.{EachHoldsAt, HasNumber, HasOnly, text_at}
use Rattle.vehicle.specs.Sending.{HasBytes, HoldsPriorityAt}
use Rattle.vehicle.specs.declared.fail_line.Deviation.{Deviation}
use Rattle.vehicle.specs.declared.fail_line.Deviation.TheVariants.{Babble, Delay, Drop, Number, Old, Short, Steal, Twice, Zeros}
use Rattle.vehicle.specs.declared.fail_line.FailLine.{FailLine}
use Rattle.vehicle.specs.declared.fails.TheConstants.{LONGEST, LONGEST_WAIT, MOST}
use Rattle.vehicle.specs.declared.send_line.TheConstants.{GREATEST_PGN}

-- the number at a key; the usual one where there is no such key
abbrev pub HoldsNumberOr : Data → List ℕ → ℕ → ℕ → ℕ → ℕ → Type 0
HoldsNumberOr d key least most usual n = ((get key d ≡ None) × (n ≡ usual)) ⊎ HasNumber d key n least most

-- the number from 1 on at a key, where there is such a key
abbrev pub HoldsNumberAt : Data → List ℕ → ℕ → Option ℕ → Type 0
HoldsNumberAt d key most None = get key d ≡ None
HoldsNumberAt d key most (Some n) = HasNumber d key n 1 most

-- a fault that is told neither how often nor how long happens once
abbrev pub count_of : Option ℕ → Option ℕ → Option ℕ
count_of None None = Some 1
count_of time count = count

-- a frame to all of any group, here from address 0
pub record HoldsBabble (d : Data) (f : FrameValue) : Type 0 where
  pub pgn : ℕ
  pub number : HasNumber d (codes "pgn") pgn 0 GREATEST_PGN
  pub to_all : 240 ≤ pdu_format_of_pgn pgn
  pub first : ℕ
  pub priority : HoldsPriorityAt d first
  pub bytes : List ℕ
  pub said : HasBytes d bytes
  pub frame_is : f ≡ frame (pdu2_number first pgn 0) bytes

-- the keys that stand beside those of a kind
abbrev pub keys_with : List (List ℕ) → List (List ℕ)
keys_with keys = codes "kind" ∷ codes "after" ∷ codes "count" ∷ codes "time" ∷ keys

abbrev pub keys_of_change : List (List ℕ) → List (List ℕ)
keys_of_change keys = keys_with (codes "group" ∷ codes "share" ∷ codes "seed" ∷ keys)

-- the word at the key "kind", and no key that its kind does not have
abbrev pub HasKindWord : Data → List ℕ → List (List ℕ) → Type 0
HasKindWord d word keys = (text_at (codes "kind") d ≡ Some word) × HasOnly keys d

abbrev pub HoldsDeviation : Data → Deviation → Type 0
HoldsDeviation d Drop = HasKindWord d (codes "drop") (keys_of_change [])
HoldsDeviation d (Delay wait) = HasKindWord d (codes "delay") (keys_of_change (codes "wait" ∷ [])) × HasNumber d (codes "wait") wait 1 LONGEST_WAIT
HoldsDeviation d Twice = HasKindWord d (codes "twice") (keys_of_change [])
HoldsDeviation d Number = HasKindWord d (codes "number") (keys_of_change [])
HoldsDeviation d Short = HasKindWord d (codes "short") (keys_of_change [])
HoldsDeviation d Zeros = HasKindWord d (codes "zeros") (keys_of_change [])
HoldsDeviation d Old = HasKindWord d (codes "old") (keys_of_change [])
HoldsDeviation d (Babble f period) =
    HasKindWord d (codes "babble") (keys_with (codes "pgn" ∷ codes "priority" ∷ codes "bytes" ∷ codes "period" ∷ []))
    × HoldsBabble d f × HasNumber d (codes "period") period 1 LONGEST_WAIT
HoldsDeviation d (Steal address period) =
    HasKindWord d (codes "steal") (keys_with (codes "address" ∷ codes "period" ∷ []))
    × HasNumber d (codes "address") address 0 GREATEST_ADDRESS × HasNumber d (codes "period") period 1 LONGEST_WAIT

-- what is done, when, how often, and to which frames; nothing else
pub record HoldsFail (d : Data) (f : FailLine) : Type 0 where
  pub deviation : HoldsDeviation d f.deviation
  pub after : HoldsNumberOr d (codes "after") 0 LONGEST 0 f.after
  pub told : Option ℕ
  pub often : HoldsNumberAt d (codes "count") MOST told
  pub count : f.count ≡ count_of f.time told
  pub time : HoldsNumberAt d (codes "time") LONGEST f.time
  pub group : HoldsNumberAt d (codes "group") GREATEST_PGN f.group
  pub share : HoldsNumberOr d (codes "share") 1 100 100 f.share
  pub seed : HoldsNumberOr d (codes "seed") 0 MOST 0 f.seed

-- one for each table, in order; none where there is no such key
abbrev pub HoldsFailsAt : Option Data → List FailLine → Type 0
HoldsFailsAt = EachHoldsAt HoldsFail
