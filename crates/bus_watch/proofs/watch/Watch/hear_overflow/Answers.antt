use Rattle.std.proofs.Common.{rules}
use Rattle.std.specs.Option.{option_map}
use Rattle.std.specs.Prelude.{string_bytes}
use Rattle.bus_watch.proofs.Naming.{named_takes, named_tells}
use Rattle.bus_watch.proofs.watch.Watch.hear_overflow.Goals as goal

pub returns-clause-hears : goal.returns-clause-hears
returns-clause-hears c =
    named_takes c.args.self.now c.take_reading.new.self c.name_bus.new.self _ _ (option_map string_bytes c.in_ok-named.named) c.args.bus (search rules) c.in_ok-named.ensures (search rules)

pub returns-clause-tells : goal.returns-clause-tells
returns-clause-tells c =
    named_tells c.args.self.now c.take_reading.new.self c.name_bus.new.self _ (option_map string_bytes c.in_ok-named.named) c.in_ok-changes.changes (search rules) (search rules)
