use Rattle.std.proofs.Common.{◌≡◌, rules}
use Rattle.std.specs.Option.{option_map}
use Rattle.bus_watch.proofs.Over.{none_yet_of}
use Rattle.bus_watch.proofs.watch.Watch.anew.Goals.{in-Some, in-None}
use Rattle.bus_watch.proofs.watch.Watch.anew.Goals as goal

pub returns : goal.returns
returns c =
    let named : option_map (λ name. name.now) c.match-self.bus ≡ c.args.self.now.followed.bus = elim c.match-self.branch [
      | in-Some w ↦ (search rules)
      | in-None w ↦ (search rules)
    ] in
    none_yet_of c.args.self.now c.in_ok-fresh.fresh _ c.gaps.result _ _ c.in_ok-fresh.ensures.heard c.in_ok-fresh.ensures.value
    (search rules) (search rules) (search rules) (search rules) named
    (search rules) (search rules) (search rules) (search rules) (search rules) (search rules) (search rules) (search rules)
