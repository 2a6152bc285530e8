-- The frames of a reply are those of the reaction.
use Rattle.std.proofs.Common.{◌≡◌, ◌≤◌, List, [], ◌∷◌, Some, take, map, length, slice_get, refl, ap, ◌∙◌, arith}
use Rattle.can_frame.specs.FrameValue.{FrameValue}
use Rattle.station_c.specs.declared.records.FrameRecord.{FrameRecord}
use Rattle.station_c.specs.Records.{frame_recorded}

pub three_at_most : (put : List FrameValue) (a b c : FrameRecord) → length put ≤ 3
    → ((f : FrameValue) → slice_get put 0 ≡ Some f → frame_recorded a ≡ f)
    → ((f : FrameValue) → slice_get put 1 ≡ Some f → frame_recorded b ≡ f)
    → ((f : FrameValue) → slice_get put 2 ≡ Some f → frame_recorded c ≡ f)
    → map frame_recorded (take (length put) (a ∷ b ∷ c ∷ [])) ≡ put
three_at_most [] a b c few first second third = refl
three_at_most (x ∷ []) a b c few first second third = ap (λ f. f ∷ []) (first x refl)
three_at_most (x ∷ y ∷ []) a b c few first second third = ap (λ f. f ∷ frame_recorded b ∷ []) (first x refl) ∙ ap (λ f. x ∷ f ∷ []) (second y refl)
three_at_most (x ∷ y ∷ z ∷ []) a b c few first second third =
    ap (λ f. f ∷ frame_recorded b ∷ frame_recorded c ∷ []) (first x refl) ∙ (ap (λ f. x ∷ f ∷ frame_recorded c ∷ []) (second y refl) ∙ ap (λ f. x ∷ y ∷ f ∷ []) (third z refl))
three_at_most (x ∷ y ∷ z ∷ v ∷ rest) a b c few first second third = absurd (omega arith)
