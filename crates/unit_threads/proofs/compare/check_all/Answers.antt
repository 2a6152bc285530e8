use Rattle.std.proofs.Common.{rules, arith, ◌≢◌, subst}
use Rattle.std.proofs.lemmas.List.{get_or-take}
use Rattle.std.proofs.lemmas.List.Elements.{All-from_get_or}
use Rattle.unit_threads.specs.declared.ended.Ended.{Ended}
use Rattle.unit_threads.specs.Ends.{Agrees, nothing}
use Rattle.unit_threads.proofs.Comparing.{agree_more, apart_more, seatless_more}
use Rattle.unit_threads.proofs.compare.check_all.Goals as goal

pub loop-i-preserved : goal.loop-i-preserved
loop-i-preserved c = record {
  agree = agree_more c.args.turns c.args.garage.now c.loop-i.ended c.loop-i.i c.checked_behind.result (search rules) c.loop-i.invariant.agree c.checked_behind.ensures.agrees;
  apart = apart_more c.loop-i.ended c.loop-i.i c.checked_behind.result (search rules) c.loop-i.invariant.apart (λ n j d. subst (λ (x : Ended). x.seat ≢ c.checked_behind.result.seat) (get_or-take c.loop-i.i c.loop-i.ended j nothing d) (c.checked_behind.ensures.apart n j nothing (search rules)));
  seatless = seatless_more c.args.ended.now c.loop-i.ended c.loop-i.i c.checked_behind.result (search rules) c.loop-i.invariant.seatless (search rules);
  rest = search rules;
}

pub returns-clause-agree : goal.returns-clause-agree
returns-clause-agree c = All-from_get_or (Agrees c.args.turns c.args.garage.now) c.loop-i.ended nothing (λ k b. c.loop-i.invariant.agree k (omega arith))
