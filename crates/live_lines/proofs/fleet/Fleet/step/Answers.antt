use Rattle.std.proofs.Common.{ap, drop, length, arith, subst, sym}
use Rattle.live_lines.specs.Hearing.{AreFaultless}
use Rattle.live_lines.proofs.OneMore.{put_back}
use Rattle.live_lines.proofs.fleet.Fleet.step.Goals as goal

pub returns : goal.returns
returns g c =
    let value = c.as_mut_slice-members.ensures.value in
    let whole =
    put_back c.step_from-stepped.new.members (drop (length c.step_from-stepped.new.members) c.args.self.now.members.items) c.args.self.now.members.len
    (omega (arith, c.step_from-stepped.ensures.many, c.as_mut_slice-members.ensures.len, ap (λ l. length l) value)) in
    record { source = λ none. rw (c.note_short.ensures, whole) (c.step_from-stepped.ensures.source (subst (λ l. AreFaultless l) (sym value) none)) }
