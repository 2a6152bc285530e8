use Rattle.std.proofs.Common.{ℕ, ◌≡◌, ◌≤◌, ◌<◌, ◌⊎◌, None, true, false, subst}
use Rattle.live_unit.specs.Beside.{is_withheld, tells_several}
use Rattle.live_unit.specs.Times.{is_dm1_due, is_left_alone, lane_due}
use Rattle.live_unit.proofs.boxed.next_beside_in.Goals as goal

pub returns-clause-idle : goal.returns-clause-idle
returns-clause-idle g c =
    let l = c.args.live.now in
    subst (λ s. (t : ℕ) → c.args.now ≤ t → t < c.next_beside.result → ((is_withheld l.queue ≡ true) ⊎ (lane_due l.clock t l.queue ≡ None)) × (is_left_alone l.clock t l.node l.queue ≡ false) × ((tells_several ((goal.Unit-dyn g s).memory_of s.1) ≡ true) ⊎ (is_dm1_due l.settings l.clock t ((goal.Unit-dyn g s).wants s.1) l.node ((goal.Unit-dyn g s).memory_of s.1) l.queue ≡ false)))
    c.deref_box-1.ensures.1 c.next_beside.ensures.idle
