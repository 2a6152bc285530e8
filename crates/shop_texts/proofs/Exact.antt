-- The text that stands at a place.
use Rattle.std.proofs.Common.{◌≡◌, ℕ, List, ap, ◌∙◌, sym, get_or, string_bytes}
use Rattle.std.proofs.lemmas.List.{get_or_at}
use Rattle.shop_texts.specs.Exact.{IsTextOf, IsPlaceOf}
use Rattle.shop_texts.specs.declared.unit_row.UnitRow.{UnitRow}

-- the row at the place has the text
pub text_found : (rows items : List UnitRow) (name place : ℕ) (row : UnitRow) (text : List ℕ) → rows ≡ items → IsPlaceOf rows name place → row ≡ get_or items place row
    → text ≡ string_bytes row.text → IsTextOf rows name text
text_found rows items name place row text same h is e =
    let at : get_or items place row ≡ h.1 = ap (λ l. get_or l place row) (sym same ∙ h.3.parts) ∙ get_or_at h.0 h.1 h.2 row place h.4 in
    (h.0, h.1, h.2, h.3, e ∙ ap (λ r. string_bytes r.text) (is ∙ at))
