-- What the lines of a script are answered, one after another.
use Rattle.std.specs.Prelude.{◌≡◌, ◌≢◌, ◌⊎◌, ℕ, ◌≤◌, ◌<◌, List, [], ◌∷◌, length, Option, Some, None, IfSome, IsNone, IsSomeAnd, MatchOption, Result, Ok, Err}
use Rattle.std.specs.Io.KnownBytes.{Appends}
use Rattle.std.specs.List.{flat_map}
use Rattle.std.specs.Option.{option_map}
use Rattle.name_field.specs.declared.error.NameError.{NameError}
use Rattle.journal.specs.Journal.{GarageValue}
use Rattle.journal.specs.State.{Settings}
use Rattle.garage.specs.Opening.{AreSettings, IsSetting, new_garage, setting_value, with_one, with_stations}
use Rattle.garage.specs.declared.error.GarageError.{GarageError}
use Rattle.garage.specs.declared.error.GarageError.TheVariants.{BadSetting, NameInUse, OutOfMemory}
use Rattle.garage.specs.declared.opening.Setting.{Setting}
use Rattle.report.specs.Text.{report_at}
use Rattle.script_answer.specs.Text.{answer_text}
use Rattle.script_answer.specs.declared.answer.LineAnswer.{LineAnswer}
use Rattle.script_answer.specs.declared.answer.LineAnswer.TheVariants.{Done}
use Rattle.script_answer.specs.declared.refusal.Refusal.{Refusal}
use Rattle.script_answer.specs.declared.refusal.Refusal.TheVariants.{BadLine, Garage, Name}
use Rattle.script_line.specs.Grammar.{line_spelled}
use Rattle.script_line.specs.Line.{IsSilent}
use Rattle.script_line.specs.declared.command.Command.{Command}
use Rattle.script_line.specs.declared.command.Command.TheVariants as command
use Rattle.script_line.specs.declared.command.ScriptLine.{ScriptLine}
use Rattle.script_line.specs.declared.command.StationWords.{StationWords}
use Rattle.script_run.specs.Moves.{Moves, MovesByJoining}
use Rattle.script_run.specs.Queries.{list_shown_at, query_answer}

-- ---- before there is a garage

-- how words want a station opened
abbrev pub setting_named : StationWords → Result ℕ NameError → Result Setting NameError
setting_named w (Ok n) = Ok (record { name = n; address = w.address; window = w.window; grant = w.grant })
setting_named w (Err e) = Err e

abbrev pub setting_meant : StationWords → Result Setting NameError
setting_meant w = setting_named w w.name

-- the settings of one station, and of two
abbrev pub one_meant : Result Setting NameError → ℕ → Result Settings Refusal
one_meant (Ok a) limit = Ok (with_one (setting_value a) limit)
one_meant (Err e) limit = Err (Name e)

abbrev pub two_meant : Result Setting NameError → Result Setting NameError → ℕ → Result Settings Refusal
two_meant (Ok a) (Ok b) limit = Ok (with_stations (a ∷ b ∷ []) limit)
two_meant (Ok a) (Err e) limit = Err (Name e)
two_meant (Err e) b limit = Err (Name e)

-- the settings of the garage that a command makes; any other command is refused before there is one
abbrev pub settings_meant : Command → Result Settings Refusal
settings_meant (command.Garage name address window grant limit) = one_meant (setting_meant (record { name = name; window = window; address = address; grant = grant })) limit
settings_meant (command.Garage2 limit first second) = two_meant (setting_meant first) (setting_meant second) limit
settings_meant _ = Err BadLine

-- why there is no garage with these settings: one of them is out of its range, two NAMEs are the same, or there is no memory
abbrev pub IsNotMade : Command → GarageError → Type 0
IsNotMade (command.Garage (Ok n) address window grant limit) e =
    ((e ≡ BadSetting) × (¬ IsSetting (record { name = n; address = address; window = window; grant = grant }) limit)) ⊎ (e ≡ OutOfMemory)
IsNotMade (command.Garage2 limit first second) e = (a : Setting) × (b : Setting) × (setting_meant first ≡ Ok a) × (setting_meant second ≡ Ok b)
    × (((e ≡ BadSetting) × (¬ AreSettings (a ∷ b ∷ []) limit)) ⊎ ((e ≡ NameInUse) × AreSettings (a ∷ b ∷ []) limit × (a.name ≡ b.name)) ⊎ (e ≡ OutOfMemory))
IsNotMade _ e = ⊥

-- the garage that a command makes, of which nothing has happened, or why it makes none
abbrev pub Makes : Command → Result GarageValue Refusal → Type 0
Makes c (Ok g) = (how : Settings) × (settings_meant c ≡ Ok how) × (g ≡ new_garage how)
Makes c (Err r) = (settings_meant c ≡ Err r) ⊎ ((e : GarageError) × (r ≡ Garage e) × IsNotMade c e)

abbrev pub made_answer : Result GarageValue Refusal → Result LineAnswer Refusal
made_answer (Ok g) = Ok Done
made_answer (Err r) = Err r

-- ---- a line

-- what is told of a line: nothing; what its command came to; or what a station shows
pub data LineTold : Type 0 where
  Silent : LineTold
  Answered : Result LineAnswer Refusal → LineTold
  Showed : List ℕ → LineTold

abbrev pub told_text : LineTold → List ℕ
told_text Silent = []
told_text (Answered r) = answer_text r
told_text (Showed text) = text

-- what a query is answered that asks for one thing, and the list that `shown` asks for; nothing of any other command
abbrev pub query_told : GarageValue → ℕ → Command → Option LineTold
query_told g y (command.Shown (Ok name) kind) = Some (Showed (list_shown_at g y name kind))
query_told g y c = option_map Answered (query_answer g y c)

-- where a script stands: at a garage, once there is one
abbrev pub made_stand : Result GarageValue Refusal → Option GarageValue
made_stand (Ok g) = Some g
made_stand (Err r) = None

-- a command of the station with this number was answered so: a query by what the garage shows, and nothing changed; `report` by the
-- report, or that there was no memory for it; any other by the answer of what it did
pub record StationDoes (y : ℕ) (c : Command) (g : GarageValue) (told : LineTold) (g' : GarageValue) : Type 0 where
  pub query : IfSome (query_told g y c) (λ t. (told ≡ t) × (g' ≡ g))
  pub report : c ≡ command.Report → ((told ≡ Showed (report_at g y)) ⊎ (told ≡ Answered (Err (Garage OutOfMemory)))) × (g' ≡ g)
  pub other : IsNone (query_told g y c) → c ≢ command.Report → (r : Result LineAnswer Refusal) × (told ≡ Answered r) × Moves y c r g g'

-- what is no command, and one of a station that is not there, is refused
abbrev pub BenchDoes : Option ScriptLine → GarageValue → LineTold → GarageValue → Type 0
BenchDoes None g told g' = (told ≡ Answered (Err BadLine)) × (g' ≡ g)
BenchDoes (Some l) g told g' =
    (length g.settings.stations ≤ l.station → (told ≡ Answered (Err BadLine)) × (g' ≡ g))
    × (l.station < length g.settings.stations → StationDoes l.station l.command g told g')

-- the NAME and the address of the unit that a line has join
abbrev pub unit_joining : Command → Option (ℕ × ℕ)
unit_joining (command.Join (Ok name) address kind) = Some (name, address)
unit_joining _ = None

abbrev pub unit_joined_by : Option ScriptLine → Option (ℕ × ℕ)
unit_joined_by None = None
unit_joined_by (Some l) = unit_joining l.command

-- a unit joined; or the command was carried out
abbrev pub LineDoes : Option ScriptLine → GarageValue → LineTold → GarageValue → Type 0
LineDoes read g told g' =
    MatchOption (unit_joined_by read) (BenchDoes read g told g') (λ j. (r : Result LineAnswer Refusal) × (told ≡ Answered r) × MovesByJoining j.0 j.1 r g g')

-- the first garage is made by a command, before which there is nothing
abbrev pub FirstDoes : Option ScriptLine → LineTold → Option GarageValue → Type 0
FirstDoes None told s = (told ≡ Answered (Err BadLine)) × (s ≡ None)
FirstDoes (Some l) told s = (made : Result GarageValue Refusal) × Makes l.command made × (told ≡ Answered (made_answer made)) × (s ≡ made_stand made)

abbrev pub StandDoes : Option ScriptLine → Option GarageValue → LineTold → Option GarageValue → Type 0
StandDoes read None told s = FirstDoes read told s
StandDoes read (Some g) told s = IsSomeAnd s (λ g'. LineDoes read g told g')

-- a line was answered so: one that is empty or a comment by nothing, any other by what the command does that it spells, if it spells one
abbrev pub AnswersLine : List ℕ → Option GarageValue → LineTold → Option GarageValue → Type 0
AnswersLine line s told s' = (IsSilent line × (told ≡ Silent) × (s' ≡ s)) ⊎ ((¬ IsSilent line) × StandDoes (line_spelled line) s told s')

-- lines were answered one after another, each once, by this
unfoldable pub AnswersAll : List (List ℕ) → Option GarageValue → List LineTold → Option GarageValue → Type 0
AnswersAll [] s told s' = (told ≡ []) × (s' ≡ s)
AnswersAll (line ∷ lines) s told s' = (one : LineTold) × (t : Option GarageValue) × (rest : List LineTold)
    × (told ≡ one ∷ rest) × AnswersLine line s one t × AnswersAll lines t rest s'

-- so a script was answered, and what was written stands behind what stood there
abbrev pub IsScriptAnswered : List (List ℕ) → Option (List ℕ) → Option (List ℕ) → Type 0
IsScriptAnswered lines old new = (told : List LineTold) × (s : Option GarageValue) × AnswersAll lines None told s × Appends old new (flat_map told_text told)
