use Rattle.std.proofs.Common.{◌≡◌, ◌∙◌, ◌<◌, ℕ, List, [], ◌∷◌, ◌++◌, Bor, map, length, get_or, string_bytes, sym}
use Rattle.std.proofs.lemmas.List.{length-map, get_or-map}
use Rattle.std.specs.List.{IsAmong}
use Rattle.toml.specs.View.{members_view}
use Rattle.toml.proofs.Views.{Entry}
use Rattle.vehicle.specs.Holding.{AreAmong}

-- the key at an index is among them
pub among_at : (keys : List (Bor (List ℕ))) (i : ℕ) (d : Bor (List ℕ)) (key : List ℕ) → i < length keys → (get_or keys i d).now ≡ key
    → IsAmong (map (λ k. k.now) keys) key
among_at keys i d key below same =
    (i, (rw (length-map keys (λ (k : Bor (List ℕ)). k.now)) below, sym (get_or-map (λ (k : Bor (List ℕ)). k.now) keys i d key below ∙ same)))

-- one more key that is among them
pub among_more : (keys : List (List ℕ)) (done : List Entry) (e : Entry) → AreAmong keys (members_view done) → IsAmong keys (string_bytes e.0)
    → AreAmong keys (members_view (done ++ e ∷ []))
among_more keys [] e h k = (k, tt)
among_more keys (first ∷ done) e h k = (h.0, among_more keys done e h.1 k)
