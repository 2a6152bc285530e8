-- The words that the program takes, as `clap` reads them.
use Rattle.std.specs.Prelude.{ℕ, List, Some, true, codes, drop, slice_get, ◌≡◌, ◌≢◌, ◌≤◌, ◌⊎◌, ◌∷◌, []}
use Rattle.clap.specs.Simple.{App, Shape, new_app, new_rule, new_shape, with_subcommand, on_top}
use Rattle.clap.specs.Faults.{fault_of}
use Rattle.clap.specs.Kinds.{Kinds, IsAmong}
use Rattle.clap.specs.Walk.{Rule, Text}
use Rattle.clap.specs.declared.builder.action.ArgAction.TheVariants.{Append, Set, SetTrue}
use Rattle.clap.specs.declared.error.kind.ErrorKind.TheVariants.{DisplayHelp, DisplayVersion}
use Rattle.program_io.specs.declared.job.Job.{Job}
use Rattle.program_io.specs.declared.job.Job.TheVariants.{Threads}
use Rattle.command_line.specs.declared.fault.LineFault.{LineFault}
use Rattle.command_line.specs.declared.fault.LineFault.TheVariants.{Help, Refused}
use Rattle.command_line.specs.declared.options.CommandOption.{CommandOption}
use Rattle.command_line.specs.declared.options.Given.{Given}
use Rattle.command_line.specs.declared.options.Given.TheVariants.{Alone, Always, Flag, Often, Once, Rest}

-- `--NAME N`, which must be given
abbrev pub count_rule : Text → Rule
count_rule name = record (new_rule name) { long = Some name; action = Some Set; value_names = 1; required = true }

-- `--NAME`, which may be given
abbrev pub flag_rule : Text → Rule
flag_rule name = record (new_rule name) { long = Some name; action = Some SetTrue }

-- `--NAME VALUE`, which may be given
abbrev pub value_rule : Text → Rule
value_rule name = record (new_rule name) { long = Some name; action = Some Set; value_names = 1 }

-- `--NAME VALUE`, which may be given more than once
abbrev pub list_rule : Text → Rule
list_rule name = record (new_rule name) { long = Some name; action = Some Append; value_names = 1 }

-- `VALUE`, which may be given
abbrev pub place_rule : Text → Rule
place_rule name = record (new_rule name) { action = Some Set; value_names = 1 }

-- `VALUE`, which may be given more than once
abbrev pub rest_rule : Text → Rule
rest_rule name = record (new_rule name) { action = Some Append; value_names = 1 }

-- what an option of a subcommand is to `clap`
abbrev pub given_rule : Given → Text → Rule
given_rule Flag name = flag_rule name
given_rule Once name = value_rule name
given_rule Often name = list_rule name
given_rule Always name = count_rule name
given_rule Alone name = place_rule name
given_rule Rest name = rest_rule name

abbrev pub option_rule : CommandOption → Rule
option_rule option = given_rule option.given option.name.now

-- a subcommand of this name, with these options
abbrev pub subcommand_shape : Text → List Rule → Shape
subcommand_shape name rules = record (new_shape name) { rules = rules }

abbrev pub script_shape : Shape
script_shape = subcommand_shape (codes "script") []

abbrev pub threads_shape : Shape
threads_shape = subcommand_shape (codes "threads")
    (count_rule (codes "turns") ∷ count_rule (codes "reads") ∷ flag_rule (codes "report") ∷ [])

abbrev pub watch_shape : Shape
watch_shape = subcommand_shape (codes "watch")
    (value_rule (codes "bus") ∷ value_rule (codes "address") ∷ value_rule (codes "name")
    ∷ list_rule (codes "assume") ∷ list_rule (codes "conversion") ∷ value_rule (codes "bad") ∷ value_rule (codes "silence")
    ∷ value_rule (codes "unclaimed") ∷ value_rule (codes "most") ∷ value_rule (codes "keep") ∷ value_rule (codes "unit") ∷ value_rule (codes "from") ∷ value_rule (codes "to")
    ∷ value_rule (codes "format") ∷ value_rule (codes "units") ∷ value_rule (codes "texts")
    ∷ value_rule (codes "signals") ∷ value_rule (codes "since") ∷ value_rule (codes "clock") ∷ flag_rule (codes "strict") ∷ place_rule (codes "file") ∷ [])

abbrev pub log_shape : Shape
log_shape = subcommand_shape (codes "log") (value_rule (codes "bus") ∷ value_rule (codes "period") ∷ [])

abbrev pub decode_shape : Shape
decode_shape = subcommand_shape (codes "decode")
    (value_rule (codes "format") ∷ value_rule (codes "units") ∷ value_rule (codes "texts") ∷ value_rule (codes "signals") ∷ flag_rule (codes "join") ∷ place_rule (codes "file") ∷ [])

abbrev pub check_shape : Shape
check_shape = subcommand_shape (codes "check") []

abbrev pub live_shape : Shape
live_shape = subcommand_shape (codes "live")
    (value_rule (codes "bus") ∷ value_rule (codes "control") ∷ value_rule (codes "dm1") ∷ value_rule (codes "gap") ∷ value_rule (codes "settle")
    ∷ value_rule (codes "pace") ∷ value_rule (codes "times") ∷ flag_rule (codes "strict") ∷ place_rule (codes "file") ∷ [])

abbrev pub tester_shape : Shape
tester_shape = subcommand_shape (codes "tester")
    (value_rule (codes "name") ∷ value_rule (codes "address") ∷ value_rule (codes "grant") ∷ value_rule (codes "bus") ∷ value_rule (codes "control")
    ∷ value_rule (codes "gap") ∷ value_rule (codes "settle") ∷ value_rule (codes "pace") ∷ value_rule (codes "times") ∷ value_rule (codes "format")
    ∷ value_rule (codes "report") ∷ value_rule (codes "every") ∷ value_rule (codes "most") ∷ value_rule (codes "keep")
    ∷ flag_rule (codes "strict") ∷ flag_rule (codes "yes") ∷ rest_rule (codes "order") ∷ [])

-- the command `j1939bench`: it has a version, and wants one of its subcommands
abbrev pub named_app : App
named_app = on_top (λ s. record s { has_version = true; subcommand_required = true }) (new_app (codes "j1939bench"))

abbrev pub garage_app : App
garage_app = with_subcommand (with_subcommand named_app script_shape) threads_shape

abbrev pub wire_app : App
wire_app = with_subcommand (with_subcommand garage_app log_shape) check_shape

abbrev pub lines_app : App
lines_app = with_subcommand (with_subcommand wire_app watch_shape) decode_shape

abbrev pub bench_app : App
bench_app = with_subcommand (with_subcommand lines_app live_shape) tester_shape

-- what `clap` finds wrong with the words, where it finds anything
abbrev pub faults_in : List Text → Kinds
faults_in words = fault_of bench_app words

-- the words ask for help or for the version
abbrev pub AsksForHelp : List Text → Type 0
AsksForHelp words = IsAmong DisplayHelp (faults_in words) ⊎ IsAmong DisplayVersion (faults_in words)

-- after the program's name, `script` stands alone
abbrev pub AsksForScript : List Text → Type 0
AsksForScript words = drop 1 words ≡ codes "script" ∷ []

-- a number of turns or of readings that can be asked for
abbrev pub IsCount : ℕ → Type 0
IsCount n = (1 ≤ n) × (n ≤ 100000)

-- the numbers of a job are such numbers
abbrev pub HasCounts : Job → Type 0
HasCounts (Threads turns reads report) = IsCount turns × IsCount reads
HasCounts _ = Unit {0}

-- a run of threads, with such numbers
abbrev pub IsThreads : Job → Type 0
IsThreads (Threads turns reads report) = IsCount turns × IsCount reads
IsThreads _ = ⊥

-- the words ask for a page of help
abbrev pub IsHelp : LineFault → Type 0
IsHelp (Help page) = Unit {0}
IsHelp _ = ⊥

-- it is told what is wrong with the words, but behind the subcommands that programs drive
abbrev pub TellsWhy : List Text → Type 0
TellsWhy words = (slice_get words 1 ≢ Some (codes "script")) × (slice_get words 1 ≢ Some (codes "threads"))

-- something is told behind the fault's line
abbrev pub HasWords : LineFault → Type 0
HasWords (Refused (Some words)) = Unit {0}
HasWords _ = ⊥
