use Rattle.std.proofs.Common.{ℕ, ◌≡◌, ◌<◌, ◌||◌, ◌+◌, ◌∷◌, [], ◌++◌, List, false, length, map, take, get_or, ap, sym, ◌∙◌}
use Rattle.std.proofs.lemmas.List.{map-append, take_more}
use Rattle.clap.specs.Built.{AddsArg}
use Rattle.clap.specs.Simple.{Shape, shape_of}
use Rattle.clap.specs.Walk.{Text, rule_of}
use Rattle.clap.specs.declared.builder.arg.Arg.{Arg}
use Rattle.clap.specs.declared.builder.command.Command.{Command}
use Rattle.clap.specs.declared.builder.command.Command.TheViews.{out-Command}
use Rattle.command_line.specs.CommandLine.{option_rule, subcommand_shape}
use Rattle.command_line.specs.declared.options.CommandOption.{CommandOption}
use Rattle.command_line.proofs.options.subcommand.Goals as goal

-- the rules of one option more
more_rules : (options : List CommandOption) (i : ℕ) (d : CommandOption) → i < length options
    → map option_rule (take i options) ++ option_rule (get_or options i d) ∷ [] ≡ map option_rule (take (i + 1) options)
more_rules options i d h = sym (ap (map option_rule) (take_more options i d h) ∙ map-append option_rule (take i options) (get_or options i d ∷ []))

option_added : (old new : Command) (a : Arg) (name : Text) (options : List CommandOption) (i : ℕ) (d : CommandOption)
    → i < length options → rule_of a ≡ option_rule (get_or options i d) → a.global ≡ false → AddsArg old a new
    → shape_of old ≡ subcommand_shape name (map option_rule (take i options))
    → shape_of new ≡ subcommand_shape name (map option_rule (take (i + 1) options))
option_added old new a name options i d h rule local adds shape =
    ap (λ app. app.top) (adds.shape local)
    ∙ ap (λ (s : Shape). record s { rules = s.rules ++ rule_of a ∷ [] }) shape
    ∙ ap (λ r. subcommand_shape name (map option_rule (take i options) ++ r ∷ [])) rule
    ∙ ap (subcommand_shape name) (more_rules options i d h)

no_global : (old new : Command) (a : Arg) → a.global ≡ false → AddsArg old a new → (out-Command old).has_globals ≡ false
    → (out-Command new).has_globals ≡ false
no_global old new a local adds old_local = adds.globals ∙ ap (λ b. b || a.global) old_local ∙ local

pub loop-option-preserved : goal.loop-option-preserved
loop-option-preserved c = (
  option_added _ _ _ _ _ _ _ c.loop-option-test.true c.arg_of.ensures.rule c.arg_of.ensures.local c.in_ok-command.ensures c.loop-option.invariant.0,
  no_global _ _ _ c.arg_of.ensures.local c.in_ok-command.ensures c.loop-option.invariant.1,
)
