use Rattle.std.proofs.Common.{◌≡◌, [], ◌∷◌, ◌++◌, Some, map, sym, ap, subst, ◌∙◌, append_assoc}
use Rattle.std.specs.List.{IsAmong}
use Rattle.toml.specs.Data.{as_table}
use Rattle.toml.specs.View.{view, members_view}
use Rattle.toml.proofs.Views.{Entry}
use Rattle.vehicle.proofs.KeyLemmas.{among_more}
use Rattle.vehicle.proofs.read.has_only.Goals as goal

pub loop-key-preserved : goal.loop-key-preserved
loop-key-preserved c =
    let keys = map (λ k. k.now) c.args.keys.now in
    let done = c.loop-key.invariant.0 in
    let e : Entry = (c.in-Some-2.key.now, c.in-Some-2.field-0-1.now) in
    let left = c.next.new.self in
    let among = subst (λ key. IsAmong keys key) c.as_str.ensures.value (c.is_among.ensures c.if-not-is_among.false) in (
      done ++ e ∷ [],
      subst (λ es. as_table (view c.args.value.now) ≡ Some (members_view es))
          (ap (λ es. done ++ es) c.in-Some-2.ensures.steps ∙ sym (append_assoc done (e ∷ []) left)) c.loop-key.invariant.1,
      among_more keys done e c.loop-key.invariant.2 among,
    )
