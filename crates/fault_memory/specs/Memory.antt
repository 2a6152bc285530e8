use Rattle.std.specs.Prelude.{ℕ, ◌+◌, ◌≤◌, List, [], ◌++◌, length}
use Rattle.std.specs.List.{All, IsDistinct}
use Rattle.trouble_code.specs.Code.{Code, IsCode, same_fault}
use Rattle.trouble_code.specs.LampBytes.{LampsValue, IsLamps, lamps_off}

-- a fault memory: the lamps, the active codes, the previously active codes and the pending codes, each list in the order of entry
pub record MemoryValue : Type 0 where
  pub lamps : LampsValue
  pub active : List Code
  pub previous : List Code
  pub pending : List Code

-- the memory of a new unit: the lamps off, and no code
abbrev pub new_memory : MemoryValue
new_memory = record { lamps = lamps_off; active = []; previous = []; pending = [] }

-- every code of the memory, whichever list it stands in
abbrev pub all_codes : MemoryValue → List Code
all_codes m = m.active ++ (m.previous ++ m.pending)

-- how many codes the memory holds
abbrev pub codes_held : MemoryValue → ℕ
codes_held m = length m.active + length m.previous + length m.pending

-- a code that a memory may hold: one that has occurred 1 to 126 times
abbrev pub IsKeptCode : Code → Type 0
IsKeptCode c = IsCode c × (1 ≤ c.count) × (c.count ≤ 126)

-- no SPN and FMI twice over the three lists, every code a kept one, and at most 445 codes together
pub record IsLawfulMemory (m : MemoryValue) : Type 0 where
  pub lamps : IsLamps m.lamps
  pub active : All IsKeptCode m.active
  pub previous : All IsKeptCode m.previous
  pub pending : All IsKeptCode m.pending
  pub distinct : IsDistinct same_fault (all_codes m)
  pub room : codes_held m ≤ 445
