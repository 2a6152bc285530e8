use Rattle.std.proofs.Common.{◌≡◌, ◌≢◌, option_map, ap, rules, refl}
use Rattle.script_line.specs.declared.command.Command.TheVariants.{Report}
use Rattle.script_run.specs.Lines.{Answered, query_told}
use Rattle.script_run.specs.Queries.{query_answer}
use Rattle.script_run.proofs.AtBench.{told_and}
use Rattle.script_run.proofs.Answering.{if_answered}
use Rattle.script_run.proofs.Moving.{moves}
use Rattle.script_run.proofs.bench.Bench.answer_at.Goals as goal

pub returns-in_default : goal.returns-in_default
returns-in_default g c =
    let told : query_told c.args.self.now.garage c.args.station c.args.command.now ≡ option_map Answered (query_answer c.args.self.now.garage c.args.station c.args.command.now) = search rules in
    let other : c.args.command.now ≢ Report = search rules in
    record {
      does = told_and c.answer.result c.answer.ensures.takes (λ a. (
        Answered c.carry_out.result,
        record {
          query = rw told (if_answered _ c.carry_out.result _ _ c.carry_out.ensures.query (λ is. ap (λ b. b.garage) (c.carry_out.ensures.same is)));
          report = λ is. absurd (other is);
          other = λ none is. (c.carry_out.result, refl, moves _ _ _ _ _ _ _ _ _ c.carry_out.ensures.did);
        },
        a,
      ));
    }
