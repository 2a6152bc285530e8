use Rattle.std.proofs.Common.{ℕ, ◌<◌}
use Rattle.garage.specs.Opening.{IsSetting, setting_in, setting_value}
use Rattle.garage.proofs.opening.are_settings.Given as goal

abbrev pub invariant-loop-setting : goal.invariant-loop-setting
invariant-loop-setting l = (y : ℕ) → y < l.setting-index → IsSetting (setting_value (setting_in l.settings y)) l.limit
