use Rattle.std.proofs.Common.{◌≡◌, false, map, take}
use Rattle.clap.specs.Simple.{shape_of}
use Rattle.clap.specs.declared.builder.command.Command.TheViews.{out-Command}
use Rattle.command_line.specs.CommandLine.{option_rule, subcommand_shape}
use Rattle.command_line.proofs.options.subcommand.Given as goal

-- the subcommand has the options so far
abbrev pub invariant-loop-option : goal.invariant-loop-option
invariant-loop-option l =
    (shape_of l.command ≡ subcommand_shape l.name (map option_rule (take l.option-index l.options)))
    × ((out-Command l.command).has_globals ≡ false)
