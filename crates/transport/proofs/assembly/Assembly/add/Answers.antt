use Rattle.std.proofs.Common.{◌≡◌, ◌++◌, length, drop, arith, refl, length-drop}
use Rattle.std.proofs.lemmas.Grind.{common_steps}
use Rattle.transport.proofs.Steps.{next_taken, with_next}
use Rattle.transport.proofs.assembly.Assembly.add.Goals as goal

pub unreachable-requires : goal.unreachable-requires
unreachable-requires c =
    let next = next_taken c.self.inside.size _ c.self.inside.broken c.self.inside.bytes.items c.args.part.now c.self.inside.bytes.ok.0 c.self.invariant.whole (rw (← c.self.view_is) at c.requires) in
    let number = next.1 in
    grind (arith, common_steps)

pub invariant_of-self : goal.invariant_of-self
invariant_of-self c =
    let next = next_taken c.self.inside.size _ c.self.inside.broken c.self.inside.bytes.items c.args.part.now c.self.inside.bytes.ok.0 c.self.invariant.whole (rw (← c.self.view_is) at c.requires) in
    let number = next.1 in
    let seven : length (drop 1 c.args.part.now) ≡ 7 = omega (arith, length-drop 1 c.args.part.now, number.len) in
    grind (arith, common_steps)

pub returns : goal.returns
returns c =
    let next = next_taken c.self.inside.size _ c.self.inside.broken c.self.inside.bytes.items c.args.part.now c.self.inside.bytes.ok.0 c.self.invariant.whole (rw (← c.self.view_is) at c.requires) in
    let items : c.extend_from_slice.new.self.items ≡ c.self.inside.bytes.items ++ drop 1 c.args.part.now = grind (arith, common_steps) in
    rw (← c.self.view_is, items, next.0, with_next c.self.inside.size _ c.self.inside.bytes.items c.args.part.now c.self.inside.bytes.ok.0 c.self.invariant.whole next.1) refl
