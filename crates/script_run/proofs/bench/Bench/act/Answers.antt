use Rattle.std.proofs.Common.{◌≡◌, ◌≢◌, Err, refl, rules}
use Rattle.garage.specs.declared.error.GarageError.TheVariants.{Stranger}
use Rattle.script_answer.specs.declared.refusal.Refusal.TheVariants.{Garage}
use Rattle.script_run.proofs.AtBench.{acted, let_go, stands}
use Rattle.script_run.proofs.bench.Bench.act.Goals as goal

pub returns-in-Err-Garage-Stranger : goal.returns-in-Err-Garage-Stranger
returns-in-Err-Garage-Stranger g c =
    let stranger : c.carry_out-answer.result ≡ Err (Garage Stranger) = search rules in
    let at = stands _ c.args.self.now.units.items c.as_slice.result.now c.in-Some.place c.args.seat c.index_mut.result.now c.as_slice.ensures.value c.in-Some.ensures.within c.in-Some.ensures.its c.index_mut.ensures.value in
    let_go _ _ _ _ c.in-Some.place c.args.seat _ _ _ c.index_mut.result.now _ at c.remove-stranger.ensures.items stranger (c.carry_out-answer.ensures.unchanged stranger)

pub returns-in-Some : goal.returns-in-Some
returns-in-Some g c =
    let known : c.carry_out-answer.result ≢ Err (Garage Stranger) = search rules in
    let at = stands _ c.args.self.now.units.items c.as_slice.result.now c.in-Some.place c.args.seat c.index_mut.result.now c.as_slice.ensures.value c.in-Some.ensures.within c.in-Some.ensures.its c.index_mut.ensures.value in
    acted _ _ _ _ c.in-Some.place c.args.seat _ _ _ c.index_mut.result.now c.carry_out-answer.new.parked at refl known c.carry_out-answer.ensures.did

pub returns-in-Some-2 : goal.returns-in-Some-2
returns-in-Some-2 g c =
    let known : c.carry_out-answer.result ≢ Err (Garage Stranger) = search rules in
    let at = stands _ c.args.self.now.units.items c.as_slice.result.now c.in-Some.place c.args.seat c.index_mut.result.now c.as_slice.ensures.value c.in-Some.ensures.within c.in-Some.ensures.its c.index_mut.ensures.value in
    acted _ _ _ _ c.in-Some.place c.args.seat _ _ _ c.index_mut.result.now c.carry_out-answer.new.parked at refl known c.carry_out-answer.ensures.did

pub returns-in-Some-3 : goal.returns-in-Some-3
returns-in-Some-3 g c =
    let known : c.carry_out-answer.result ≢ Err (Garage Stranger) = search rules in
    let at = stands _ c.args.self.now.units.items c.as_slice.result.now c.in-Some.place c.args.seat c.index_mut.result.now c.as_slice.ensures.value c.in-Some.ensures.within c.in-Some.ensures.its c.index_mut.ensures.value in
    acted _ _ _ _ c.in-Some.place c.args.seat _ _ _ c.index_mut.result.now c.carry_out-answer.new.parked at refl known c.carry_out-answer.ensures.did
