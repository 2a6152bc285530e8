-- What a frame of the bus is to a unit of a fleet.
use Rattle.std.specs.Prelude.{ℕ, ◌≡◌, ◌⊎◌, ◌+◌, ◌-◌, ◌^◌, ◌<◌, true, false, List, [], length, None, IfSome, get_or, min}
use Rattle.can_frame.specs.Fields.{source_of}
use Rattle.can_frame.specs.FrameValue.{FrameValue}
use Rattle.address_claim.specs.Frames.{claim_source}
use Rattle.fault_memory.specs.Memory.{MemoryValue}
use Rattle.node_core.specs.declared.heard.Answer.{Answer}
use Rattle.live_unit.specs.Steps.{HasHeardFrame, standing}
use Rattle.live_lines.specs.Playing.{BusCall, Echoes, Hears, Misses, Steps}
use Rattle.live_lines.specs.declared.member.Member.{Member}

-- all that it hears is for its node: it does not watch its address, has no groups of its own to answer, and no session of one is open
pub record IsForNode {X : Type 0} {P : X → Type 0} (m : Member X P) : Type 0 where
  pub unwatched : m.watch ≡ None
  pub closed : m.answers.session ≡ None
  pub unanswered : m.answers.all.items ≡ []

-- the unit heard it, and is counted so; or it could not, is as it was, and is counted so
abbrev pub HasTakenFrame : {X : Type 0} {P : X → Type 0} → FrameValue → Member X P → Member X P → (Member X P → MemoryValue) → Type 0
HasTakenFrame f m m' memory =
    ((answer : Answer) × HasHeardFrame f m.unit.live.clock.asked answer
    (standing m.unit.live.node (memory m) m.unit.live.queue) (standing m'.unit.live.node (memory m') m'.unit.live.queue)
    × (m'.heard ≡ min (m.heard + 1) (2 ^ 64 - 1)) × (m'.unheard ≡ m.unheard))
    ⊎ ((m'.unit.live.node ≡ m.unit.live.node) × (m'.unit.live.queue ≡ m.unit.live.queue) × (m'.unit.unit ≡ m.unit.unit)
    × (m'.heard ≡ m.heard) × (m'.unheard ≡ min (m.unheard + 1) (2 ^ 64 - 1)))

-- it did not pass over a frame: it is as it was, and is still to hear it
pub record IsStillToHear {X : Type 0} {P : X → Type 0} (m m' : Member X P) : Type 0 where
  pub node : m'.unit.live.node ≡ m.unit.live.node
  pub clock : m'.unit.live.clock ≡ m.unit.live.clock
  pub queue : m'.unit.live.queue ≡ m.unit.live.queue
  pub box : m'.unit.unit ≡ m.unit.unit
  pub answers : m'.answers ≡ m.answers
  pub watch : m'.watch ≡ m.watch
  pub counts : (m'.heard ≡ m.heard) × (m'.unheard ≡ m.unheard) × (m'.has_left ≡ m.has_left)

-- one that has left is as it was
pub record HasBeenTold {X : Type 0} {P : X → Type 0} (f : FrameValue) (m m' : Member X P) (memory : Member X P → MemoryValue) : Type 0 where
  pub left : m.has_left ≡ true → m' ≡ m
  pub stays : m'.has_left ≡ m.has_left
  pub taken : m.has_left ≡ false → IsForNode m → HasTakenFrame f m m' memory

-- each in its place
pub record HaveBeenTold {X : Type 0} {P : X → Type 0} (f : FrameValue) (old new : List (Member X P)) (memory : Member X P → MemoryValue) : Type 0 where
  pub many : length new ≡ length old
  pub each : (place : ℕ) (d : Member X P) → place < length old → HasBeenTold f (get_or old place d) (get_or new place d) memory

-- ---- what one of them sends

-- it goes from the address that the unit holds
abbrev pub IsFromIts : {X : Type 0} {P : X → Type 0} → FrameValue → Member X P → Type 0
IsFromIts f m = source_of f.id ≡ claim_source m.unit.live.node.claimer.held

-- none of them does anything wrong on purpose
abbrev pub AreFaultless : {X : Type 0} {P : X → Type 0} → List (Member X P) → Type 0
AreFaultless {X} {P} members = (place : ℕ) (d : Member X P) → place < length members → (get_or members place d).faults.all.items ≡ []

-- one of them sends it, from the address that it holds
abbrev pub IsFromOne : {X : Type 0} {P : X → Type 0} → FrameValue → List (Member X P) → Type 0
IsFromOne {X} {P} f members = (place : ℕ) × (place < length members) × ((d : Member X P) → IsFromIts f (get_or members place d))

-- ---- a call of all of them

-- each was told of a frame that was read, and of one that was written, with some memory of its unit; a frame that goes is from one of them
abbrev pub FleetDoes : {X : Type 0} {P : X → Type 0} → BusCall → List (Member X P) → List (Member X P) → Type 0
FleetDoes {X} {P} (Hears h) old new = (memory : Member X P → MemoryValue) × HaveBeenTold h.frame old new memory
FleetDoes {X} {P} (Echoes h) old new = (memory : Member X P → MemoryValue) × HaveBeenTold h.frame old new memory
FleetDoes (Misses count) old new = new ≡ old
FleetDoes (Steps f) old new = AreFaultless old → IfSome f (λ f. IsFromOne f new)
