use Rattle.std.proofs.Common.{None, rules}
use Rattle.std.specs.Option.{option_map}
use Rattle.std.specs.Prelude.{string_bytes}
use Rattle.can_frame.specs.declared.reading.Reading.TheVariants.{Empty}
use Rattle.bus_watch.proofs.Naming.{named_takes}
use Rattle.bus_watch.proofs.watch.Watch.hear_foreign.Goals as goal

pub returns-clause-hears : goal.returns-clause-hears
returns-clause-hears c =
    named_takes c.args.self.now c.take_reading.new.self c.name_bus.new.self Empty None (option_map string_bytes c.in_ok-named.named) c.args.bus (search rules) c.in_ok-named.ensures (search rules)
