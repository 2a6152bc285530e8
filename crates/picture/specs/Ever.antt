-- What messages showed at any time: how often something came, and from when to when it was shown. Lists of messages have the newest first.
use Rattle.std.specs.Prelude.{◌≡◌, ℕ, ◌+◌, ◌-◌, ◌^◌, ◌<◌, ◌≤◌, min, Bool, true, false, not, ◌&&◌, if◌then◌else◌, Option, None, All, List, [], ◌∷◌, ◌++◌, length, map}
use Rattle.std.specs.List.{list_any}
use Rattle.trouble_code.specs.Code.{Code, same_fault}
use Rattle.trouble_code.specs.LampBytes.{LampsValue}
use Rattle.trouble_code.specs.declared.lamps.LampName.{LampName}
use Rattle.picture.specs.Severities.{is_lit}
use Rattle.picture.specs.declared.appearance.Appearance.{Appearance}
use Rattle.trouble_code.specs.declared.lamps.LampName.TheVariants.{Malfunction, RedStop, Amber, Protect}
use Rattle.picture.specs.declared.ever.Ever.{Ever}
use Rattle.picture.specs.declared.ever.EverCode.{EverCode}
use Rattle.picture.specs.declared.ever.TheConstants.{EVER_CODES}
use Rattle.picture.specs.declared.ever_lamps.EverLamps.{EverLamps}

-- of a message: whether it shows something, and the time of its line
pub record Showing : Type 0 where
  pub shows : Bool
  pub time : Option ℕ

-- whether the newest shows it
abbrev pub shows_newest : List Showing → Bool
shows_newest [] = false
shows_newest (m ∷ older) = m.shows

-- how often it came: so many of them show it, and the one before does not, or there is none before
abbrev pub comings : List Showing → ℕ
comings [] = 0
comings (m ∷ older) = if m.shows && not (shows_newest older) then comings older + 1 else comings older

-- the times of those that show it
abbrev pub times_shown : List Showing → List (Option ℕ)
times_shown [] = []
times_shown (m ∷ older) = if m.shows then m.time ∷ times_shown older else times_shown older

abbrev pub last_of_times : List (Option ℕ) → Option ℕ
last_of_times [] = None
last_of_times (t ∷ older) = t

abbrev pub oldest_behind : Option ℕ → List (Option ℕ) → Option ℕ
oldest_behind t [] = t
oldest_behind t (u ∷ older) = oldest_behind u older

abbrev pub first_of_times : List (Option ℕ) → Option ℕ
first_of_times [] = None
first_of_times (t ∷ older) = oldest_behind t older

-- how something appears in messages: whether it is shown now, how often it came up to the greatest 64-bit number, and the first and the last time
pub record Appears (heard : List Showing) (a : Appearance) : Type 0 where
  pub now : a.on ≡ shows_newest heard
  pub often : a.times ≡ min (comings heard) (2 ^ 64 - 1)
  pub from_then : a.first ≡ first_of_times (times_shown heard)
  pub until_then : a.last ≡ last_of_times (times_shown heard)

-- a message as it was heard: its lamps, its codes, and the time of its line
pub record ToldMessage : Type 0 where
  pub lamps : LampsValue
  pub codes : List Code
  pub time : Option ℕ

-- it shows a lamp where that is on, and a code where it lists one of the same SPN and FMI
abbrev pub with_lamp : LampName → ToldMessage → Showing
with_lamp name m = record { shows = is_lit name m.lamps; time = m.time }

abbrev pub with_code : Code → ToldMessage → Showing
with_code code m = record { shows = list_any (same_fault code) m.codes; time = m.time }

-- each lamp, and each code that is kept, is told of as it appears in the messages
pub record LampsAppear (told : List ToldMessage) (lamps : EverLamps) : Type 0 where
  pub red : Appears (map (with_lamp RedStop) told) lamps.red
  pub amber : Appears (map (with_lamp Amber) told) lamps.amber
  pub malfunction : Appears (map (with_lamp Malfunction) told) lamps.malfunction
  pub protect : Appears (map (with_lamp Protect) told) lamps.protect

abbrev pub CodeAppears : List ToldMessage → EverCode → Type 0
CodeAppears told one = Appears (map (with_code one.code) told) one.seen

abbrev pub CodesAppear : List ToldMessage → List EverCode → Type 0
CodesAppear told kept = All (CodeAppears told) kept

-- whether a code of this SPN and FMI is kept
abbrev pub is_kept : List EverCode → Code → Bool
is_kept kept code = list_any (λ one. same_fault code one.code) kept

abbrev pub AreKept : List EverCode → List Code → Type 0
AreKept kept codes = All (λ code. is_kept kept code ≡ true) codes

abbrev pub ListsKept : List EverCode → List ToldMessage → Type 0
ListsKept kept told = All (λ m. AreKept kept m.codes) told

-- the codes that are kept appear as they are told of; each code that any message lists is kept, unless it is said that there are more, and then as many are kept
-- as may be
pub record KeepsCodes (told : List ToldMessage) (kept : List EverCode) (more : ℕ) : Type 0 where
  pub appear : CodesAppear told kept
  pub complete : more ≡ 0 → ListsKept kept told
  pub full : 1 ≤ more → EVER_CODES ≤ length kept

-- what is told of a unit: its lamps and codes, and the time of the newest message
pub record TellsEver (told : List ToldMessage) (ever : Ever) : Type 0 where
  pub lit : LampsAppear told ever.lamps
  pub listed : KeepsCodes told ever.codes.items ever.more
  pub heard : ever.last_heard ≡ last_of_times (map (λ m. m.time) told)

-- a message with these lamps and codes
abbrev pub told_at : LampsValue → List Code → Option ℕ → ToldMessage
told_at lamps codes time = record { lamps = lamps; codes = codes; time = time }

-- ---- what one message more makes of a code that is kept

pub record GoesOn (codes : List Code) (time : Option ℕ) (old new : EverCode) : Type 0 where
  pub same : new.code ≡ old.code
  pub later : (told : List ToldMessage) (lamps : LampsValue) → CodeAppears told old → CodeAppears (told_at lamps codes time ∷ told) new

-- the newest message came once more
pub record GoesOnAgain (time : Option ℕ) (old new : EverCode) : Type 0 where
  pub same : new.code ≡ old.code
  pub later : (heard : List Showing) → Appears heard old.seen → Appears (record { shows = old.seen.on; time = time } ∷ heard) new.seen

-- and of those that are kept, of a code that the message lists
pub record IsOneMore (code : Code) (time : Option ℕ) (old new : List EverCode) : Type 0 where
  pub one : EverCode
  pub more : new ≡ old ++ one ∷ []
  pub same : one.code ≡ code
  pub later : (heard : List Showing) → times_shown heard ≡ [] → Appears (record { shows = true; time = time } ∷ heard) one.seen

pub record KeepsCode (code : Code) (time : Option ℕ) (old new : List EverCode) (is : Bool) : Type 0 where
  pub held : is_kept old code ≡ true → (is ≡ true) × (new ≡ old)
  pub full : is_kept old code ≡ false → EVER_CODES ≤ length old → (is ≡ false) × (new ≡ old)
  pub begun : is_kept old code ≡ false → length old < EVER_CODES → (is ≡ true) × IsOneMore code time old new
