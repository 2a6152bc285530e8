-- The tables after a claim are what each of them became; the answer is that to the step that was taken.
use Rattle.std.proofs.Common.{refl, ◌∙◌}
use Rattle.station_table.proofs.station.Station.hear_claim.Goals as goal

pub returns-clause-ok : goal.returns-clause-ok
returns-clause-ok c =
    rw (← c.self.view_is, c.in_ok-note_claim.ensures.claim, c.claim.ensures, c.in_ok-note_claim.ensures.row, c.put.ensures.kept, c.make.ensures.slots, c.keep_under.ensures, c.keep_sessions.ensures, c.answer-step.ensures.step) refl

pub returns-clause-reaction : goal.returns-clause-reaction
returns-clause-reaction c = c.in_ok-outcome.ensures ∙ (rw (c.answer-step.ensures.step, ← c.self.view_is) refl)
