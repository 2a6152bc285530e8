use Rattle.std.proofs.Common.{ℕ, List, [], ◌∷◌, ◌++◌, Some, length, subst, ap, ◌∙◌}
use Rattle.std.specs.HashMap.{Updates}
use Rattle.shop_texts.specs.Index.{is_same, key_of_row}
use Rattle.shop_texts.specs.declared.unit_key.UnitKey.{UnitKey}
use Rattle.shop_texts.specs.declared.unit_row.UnitRow.{UnitRow}
use Rattle.shop_texts.proofs.Index.{indexed_more}
use Rattle.shop_texts.proofs.unit_texts.UnitTexts.add.Goals as goal

pub invariant_of-self-2 : goal.invariant_of-self-2
invariant_of-self-2 c =
    let rows = c.self.inside.rows in
    let items = c.push_reserved.ensures.items ∙ ap (λ (l : List UnitRow). l ++ c.args.row ∷ []) c.in_ok-reserve.ensures.items in
    let updates : Updates is_same c.self.inside.index c.insert.new.self (key_of_row c.args.row) (Some (length rows.items)) =
    subst (λ (k : UnitKey). Updates is_same c.self.inside.index c.insert.new.self k (Some (length rows.items))) c.of-key.ensures
    (subst (λ (place : ℕ). Updates is_same c.self.inside.index c.insert.new.self c.of-key.result (Some place)) (c.len-place.ensures ∙ rows.ok.0) c.in_ok-insert.ensures.updates) in
    rw (items) (indexed_more rows.items c.args.row c.self.inside.index c.insert.new.self c.self.invariant updates)
