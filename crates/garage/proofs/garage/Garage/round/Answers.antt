use Rattle.std.proofs.Common.{inr}
use Rattle.garage.proofs.Crew.{lists_come}
use Rattle.garage.proofs.Lent.{if_err_of, if_ok_of, on_ok_if}
use Rattle.garage.proofs.RoundLemmas.{done, no_stranger, round_want}
use Rattle.garage.proofs.garage.Garage.round.Goals as goal

pub returns-clause-stranger : goal.returns-clause-stranger
returns-clause-stranger g c =
    let want = if_err_of c.rounds.result (λ e w. round_want _ _ c.args.most e c.args.self.now c.rounds.new.self c.args.units.now c.rounds.new.units w) c.rounds.ensures.cut in
    (λ s. absurd (no_stranger c.rounds.result want s), λ n. absurd (n c.if-not-are_seated.ensures))

pub returns-clause-unchanged : goal.returns-clause-unchanged
returns-clause-unchanged g c =
    let want = if_err_of c.rounds.result (λ e w. round_want _ _ c.args.most e c.args.self.now c.rounds.new.self c.args.units.now c.rounds.new.units w) c.rounds.ensures.cut in
    λ s. absurd (no_stranger c.rounds.result want s)

pub returns-clause-seated : goal.returns-clause-seated
returns-clause-seated g c = λ s. c.rounds.ensures.seated

pub returns-clause-all_heard : goal.returns-clause-all_heard
returns-clause-all_heard g c =
    on_ok_if c.rounds.result (λ r d. (done _ _ r.carried c.args.self.now c.rounds.new.self c.args.units.now c.rounds.new.units c.if-not-are_seated.ensures d).heard) c.rounds.ensures.done

pub returns-clause-all_read : goal.returns-clause-all_read
returns-clause-all_read g c =
    on_ok_if c.rounds.result (λ r d. (done _ _ r.carried c.args.self.now c.rounds.new.self c.args.units.now c.rounds.new.units c.if-not-are_seated.ensures d).read) c.rounds.ensures.done

pub returns-clause-carried : goal.returns-clause-carried
returns-clause-carried g c =
    if_ok_of c.rounds.result (λ r d. (done _ _ r.carried c.args.self.now c.rounds.new.self c.args.units.now c.rounds.new.units c.if-not-are_seated.ensures d).wire) c.rounds.ensures.done

pub returns-clause-only : goal.returns-clause-only
returns-clause-only g c =
    if_err_of c.rounds.result (λ e w. inr (round_want _ _ c.args.most e c.args.self.now c.rounds.new.self c.args.units.now c.rounds.new.units w)) c.rounds.ensures.cut

pub returns-clause-cut : goal.returns-clause-cut
returns-clause-cut g c = if_err_of c.rounds.result (λ e w. inr w) c.rounds.ensures.cut

pub returns-clause-lists : goal.returns-clause-lists
returns-clause-lists g c = lists_come c.args.self.now c.rounds.new.self c.rounds.ensures.comes
