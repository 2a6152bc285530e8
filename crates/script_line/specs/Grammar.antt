-- Which command the words of a line spell.
use Rattle.std.specs.Prelude.{ℕ, ◌≡◌, ◌^◌, bytes_eq, if◌then◌else◌, List, [], ◌∷◌, codes, Result, Option, Some, None, option_map, option_and_then}
use Rattle.can_frame.specs.FrameValue.{FrameValue}
use Rattle.can_frame.specs.declared.frame.FrameError.{FrameError}
use Rattle.dm_messages.specs.declared.kind.Kind.{Kind}
use Rattle.name_field.specs.declared.error.NameError.{NameError}
use Rattle.script_line.specs.Line.{script_words}
use Rattle.script_line.specs.Spelled.{asked_spelled, chosen, frame_spelled, hex_number, kind_spelled, lamps_spelled, name_spelled, number_below, receiver_spelled}
use Rattle.script_line.specs.Station.{is_of_station}
use Rattle.script_line.specs.declared.command.Asked.{Asked}
use Rattle.script_line.specs.declared.command.CodeChange.{CodeChange}
use Rattle.script_line.specs.declared.command.CodeChange.TheVariants.{Set, Heal, Pend, Unpend}
use Rattle.script_line.specs.declared.command.Command.{Command}
use Rattle.script_line.specs.declared.command.Command.TheVariants as command
use Rattle.script_line.specs.declared.command.Receiver.{Receiver}
use Rattle.script_line.specs.declared.command.ScriptLine.{ScriptLine}
use Rattle.script_line.specs.declared.command.StationWords.{StationWords}
use Rattle.trouble_code.specs.LampBytes.{LampsValue}
use Rattle.unit_trait.specs.declared.kind.UnitKind.{UnitKind}
use Rattle.unit_trait.specs.declared.kind.UnitKind.TheVariants.{Plain, Guarded, Flicker}

-- ---- what words spell, read from the first one, and the words behind it

abbrev pub Form : Type 0 → Type 0
Form A = List (List ℕ) → Option (A × List (List ℕ))

-- this, and no word more
abbrev pub done : {A : Type 0} → A → Form A
done a ws = Some (a, ws)

-- no words spell it
abbrev pub never : {A : Type 0} → Form A
never ws = None

-- one behind the other
abbrev pub ◌>>=◌ : {A B : Type 0} → Form A → (A → Form B) → Form B
◌>>=◌ first next ws = option_and_then (λ read. next read.0 read.1) (first ws)

-- what a form says of the words of a text is what was read of them, and of which text the words are left
abbrev pub FormReads : {A : Type 0} → Form A → List ℕ → Option A → List ℕ → Type 0
FormReads form text result rest = form (script_words text) ≡ option_map (λ a. (a, script_words rest)) result

-- one word, as it is read
unfoldable pub read_as : {A : Type 0} → (List ℕ → Option A) → Form A
read_as read [] = None
read_as read (w ∷ ws) = option_map (λ a. (a, ws)) (read w)

abbrev pub word : Form (List ℕ)
word = read_as Some

abbrev pub number : Form ℕ
number = read_as (number_below (2 ^ 32))

abbrev pub small_number : Form ℕ
small_number = read_as (number_below 256)

-- a number that may be left out, and is then 1
unfoldable pub number_or_one : Form ℕ
number_or_one [] = Some (1, [])
number_or_one (w ∷ ws) = number (w ∷ ws)

abbrev pub name_place : Form (Result ℕ NameError)
name_place = read_as (λ w. Some (name_spelled w))

abbrev pub receiver_word : Form Receiver
receiver_word = read_as (λ w. Some (receiver_spelled w))

abbrev pub asked_word : Form Asked
asked_word = read_as asked_spelled

abbrev pub kind_word : Form Kind
kind_word = read_as kind_spelled

abbrev pub lamps_word : Form LampsValue
lamps_word = read_as lamps_spelled

-- the identifier of a frame
abbrev pub identifier : Form ℕ
identifier = read_as (hex_number 8)

-- the bytes of words of two hexadecimal digits each
unfoldable pub all_bytes : List (List ℕ) → Option (List ℕ)
all_bytes [] = Some []
all_bytes (w ∷ ws) = option_and_then (λ b. option_map (λ bs. b ∷ bs) (all_bytes ws)) (hex_number 2 w)

-- all words that are left
unfoldable pub byte_words : Form (List ℕ)
byte_words ws = option_map (λ bs. (bs, [])) (all_bytes ws)

-- ---- the commands

unfoldable pub station_words : Form StationWords
station_words = do
  n ← name_place
  address ← small_number
  window ← number
  grant ← small_number
  done (record { name = n; window = window; address = address; grant = grant })

abbrev pub garage_form : Form Command
garage_form = do
  s ← station_words
  limit ← number
  done (command.Garage s.name s.address s.window s.grant limit)

abbrev pub garage2_form : Form Command
garage2_form = do
  first ← station_words
  second ← station_words
  limit ← number
  done (command.Garage2 limit first second)

-- a unit that flickers has a code of its own
abbrev pub flicker_form : Form UnitKind
flicker_form = do
  spn ← number
  fmi ← small_number
  done (Flicker spn fmi)

abbrev pub unit_kind_of : List ℕ → Form UnitKind
unit_kind_of w = chosen w ((codes "plain", done Plain) ∷ (codes "guarded", done Guarded) ∷ (codes "flicker", flicker_form) ∷ []) never

unfoldable pub unit_kind_form : Form UnitKind
unit_kind_form = do
  w ← word
  unit_kind_of w

abbrev pub join_form : Form Command
join_form = do
  n ← name_place
  address ← small_number
  kind ← unit_kind_form
  done (command.Join n address kind)

abbrev pub ask_form : Form Command
ask_form = do
  receiver ← receiver_word
  asked ← asked_word
  done (command.Ask receiver asked)

abbrev pub commanded_form : Form Command
commanded_form = do
  n ← name_place
  address ← small_number
  done (command.Command n address)

abbrev pub shown_form : Form Command
shown_form = do
  n ← name_place
  kind ← kind_word
  done (command.Shown n kind)

abbrev pub row_form : Form Command
row_form = do
  n ← name_place
  done (command.Row n)

abbrev pub carried_form : Form Command
carried_form = do
  index ← number
  done (command.Frame index)

unfoldable pub frame_words : Form (Result FrameValue FrameError)
frame_words = do
  id ← identifier
  bs ← byte_words
  done (frame_spelled id bs)

abbrev pub inject_form : Form Command
inject_form = do
  frame ← frame_words
  done (command.Inject frame)

abbrev pub hear_form : Form Command
hear_form = do
  seat ← number
  most ← number_or_one
  done (command.Hear seat most)

abbrev pub dm1_form : Form Command
dm1_form = do
  seat ← number
  done (command.Dm1 seat)

abbrev pub round_form : Form Command
round_form = do
  rounds ← number
  done (command.Round rounds)

abbrev pub carry_form : Form Command
carry_form = do
  most ← number_or_one
  done (command.Carry most)

abbrev pub read_form : Form Command
read_form = do
  most ← number_or_one
  done (command.Read most)

abbrev pub change_form : ℕ → CodeChange → Form Command
change_form seat how = do
  spn ← number
  fmi ← small_number
  n ← number_or_one
  done (command.Change seat how spn fmi n)

abbrev pub lamps_form : ℕ → Form Command
lamps_form seat = do
  lamps ← lamps_word
  done (command.Lamps seat lamps)

-- ---- which command, by its first word

-- of the seat of this number
abbrev pub at_seat : List ℕ → ℕ → Form Command
at_seat first seat = chosen first
    ((codes "set", change_form seat Set)
    ∷ (codes "heal", change_form seat Heal)
    ∷ (codes "pend", change_form seat Pend)
    ∷ (codes "unpend", change_form seat Unpend)
    ∷ (codes "lamps", lamps_form seat)
    ∷ (codes "think", done (command.Think seat))
    ∷ (codes "turn", done (command.Turn seat))
    ∷ (codes "leave", done (command.Leave seat))
    ∷ (codes "counts", done (command.Counts seat))
    ∷ []) never

-- of the seat whose number is the next word
abbrev pub of_seat : List ℕ → Form Command
of_seat first = do
  seat ← number
  at_seat first seat

-- of the garage and its stations; any other is one of a seat
abbrev pub of_garage : List ℕ → Form Command
of_garage first = chosen first
    ((codes "garage", garage_form)
    ∷ (codes "garage2", garage2_form)
    ∷ (codes "join", join_form)
    ∷ (codes "ask", ask_form)
    ∷ (codes "shown", shown_form)
    ∷ (codes "command", commanded_form)
    ∷ (codes "row", row_form)
    ∷ (codes "stats", done command.Stats)
    ∷ (codes "report", done command.Report)
    ∷ (codes "injected", done command.Injected)
    ∷ (codes "frame", carried_form)
    ∷ []) (of_seat first)

-- of the bus; any other is one of those
abbrev pub bus_form : List ℕ → Form Command
bus_form first = chosen first ((codes "carry", carry_form) ∷ (codes "read", read_form) ∷ (codes "inject", inject_form) ∷ []) (of_garage first)

-- of those that scripts have most; or any other
abbrev pub command_form : List ℕ → Form Command
command_form first = chosen first ((codes "hear", hear_form) ∷ (codes "dm1", dm1_form) ∷ (codes "round", round_form) ∷ []) (bus_form first)

-- ---- a line

-- a command before which the line may name a station
abbrev pub station_form : Form ScriptLine
station_form = do
  s ← number
  first ← word
  c ← command_form first
  if is_of_station c then done (record { station = s; command = c }) else never

abbrev pub line_form : List ℕ → Form ScriptLine
line_form first = if bytes_eq first (codes "at") then station_form else (do
  c ← command_form first
  done (record { station = 0; command = c }))

-- what was read, where no word is left
abbrev pub only : {A : Type 0} → A → List (List ℕ) → Option A
only a [] = Some a
only a (w ∷ ws) = None

-- what all the words spell
abbrev pub whole : {A : Type 0} → Form A → List (List ℕ) → Option A
whole form ws = option_and_then (λ read. only read.0 read.1) (form ws)

-- the command that a line spells, if it spells any
unfoldable pub line_spelled : List ℕ → Option ScriptLine
line_spelled line = whole (do
  first ← word
  line_form first) (script_words line)
