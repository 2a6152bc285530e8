use Rattle.std.proofs.Common.{◌≡◌, ◌/◌, ◌++◌, length, drop, arith, refl, rules, length-drop}
use Rattle.std.proofs.lemmas.Grind.{common_steps}
use Rattle.transport.specs.Pieces.{packet_count, IsNext}
use Rattle.transport.proofs.Steps.{with_next, with_other, took_next}
use Rattle.transport.proofs.assembly.Assembly.take.Goals as goal
use Rattle.transport.proofs.assembly.Assembly.take.Goals.{then-self-via-then-self, then-self-via-else-self+then-not-is_next}

pub returns-then-self-clause-after : goal.returns-then-self-clause-after
returns-then-self-clause-after c = rw (← c.self.view_is) (elim c.then-self.branch [
  | then-self-via-then-self w ↦ rw w.if-self.true refl
  | then-self-via-else-self+then-not-is_next w ↦
      let raw : ¬ IsNext c.args.part.now (c.len-len.result / 7) (packet_count c.self.inside.size) = search rules in
      let other : ¬ IsNext c.args.part.now (c.self.inside.bytes.len / 7) (packet_count c.self.inside.size) = rw c.len-len.ensures at raw in
      rw (w.if-self.false, with_other c.self.inside.size _ c.self.inside.bytes.items c.args.part.now c.self.inside.bytes.ok.0 c.self.invariant.whole other) refl
])

pub returns-clause-after : goal.returns-clause-after
returns-clause-after c =
    let items : c.extend_from_slice.new.self.items ≡ c.self.inside.bytes.items ++ drop 1 c.args.part.now = grind (arith, common_steps) in
    let raw : IsNext c.args.part.now (c.len-len.result / 7) (packet_count c.self.inside.size) = search rules in
    let next : IsNext c.args.part.now (c.self.inside.bytes.len / 7) (packet_count c.self.inside.size) = rw c.len-len.ensures at raw in
    rw (← c.self.view_is, items, c.if-self.false, with_next c.self.inside.size _ c.self.inside.bytes.items c.args.part.now c.self.inside.bytes.ok.0 c.self.invariant.whole next) refl

pub returns-clause-answer : goal.returns-clause-answer
returns-clause-answer c =
    let items : c.extend_from_slice.new.self.items ≡ c.self.inside.bytes.items ++ drop 1 c.args.part.now = grind (arith, common_steps) in
    let raw : IsNext c.args.part.now (c.len-len.result / 7) (packet_count c.self.inside.size) = search rules in
    let seven : length (drop 1 c.args.part.now) ≡ 7 = omega (arith, length-drop 1 c.args.part.now, raw.len) in
    rw (items, c.if-self.false, took_next c.self.inside.size _ c.self.inside.bytes.items c.self.inside.bytes.ok.0 c.self.invariant.whole (drop 1 c.args.part.now) seven, c.answered.ensures, c.len-len.ensures) refl
