use Rattle.std.proofs.Common.{rules, arith, ◌≡◌, ◌∷◌, List, inl, inr, subst, sym}
use Rattle.std.specs.List.{All}
use Rattle.live_unit.specs.Telling.{EndsBy}
use Rattle.live_unit.specs.declared.told.ToldChange.{ToldChange}
use Rattle.live_unit.proofs.Telling.{passed}
use Rattle.live_unit.proofs.told.first_over.Goals as goal

pub loop-change-preserved-then-change-now : goal.loop-change-preserved-then-change-now
loop-change-preserved-then-change-now c = λ r below all.
    let rest : c.loop-change.rest.now ≡ c.in-Some.change.now ∷ c.in-Some.others.now = search rules in
    c.loop-change.invariant r (omega arith)
    (subst (λ (l : List ToldChange). All (EndsBy c.args.now r) l) (sym rest) (passed c.args.now r c.in-Some.change.now c.in-Some.others.now (inr (omega arith)) all))

pub loop-change-preserved : goal.loop-change-preserved
loop-change-preserved c = λ r below all.
    let rest : c.loop-change.rest.now ≡ c.in-Some.change.now ∷ c.in-Some.others.now = search rules in
    c.loop-change.invariant r below
    (subst (λ (l : List ToldChange). All (EndsBy c.args.now r) l) (sym rest) (passed c.args.now r c.in-Some.change.now c.in-Some.others.now (inl (omega arith)) all))
