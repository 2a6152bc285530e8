use Rattle.std.proofs.Common.{rules}
use Rattle.std.specs.Option.{option_map}
use Rattle.std.specs.Prelude.{string_bytes}
use Rattle.parameter_group.specs.Group.{group_of}
use Rattle.bus_watch.proofs.Naming.{named_frame}
use Rattle.bus_watch.proofs.watch.Watch.read_frame.Goals as goal

pub returns-clause-takes : goal.returns-clause-takes
returns-clause-takes c =
    named_frame c.args.self.now c.take_frame.new.self c.name_bus.new.self _ c.args.time (group_of c.args.frame.now) (option_map string_bytes c.args.named)
    (search rules) (search rules)
